-- What is read inside a value's own region, or of the value where it has none, by the kind of its type (DDS-XTypes 1.3, 7.4.1 and 7.4.3).
use Rattle.std.specs.Prelude.{ℕ, Bool, List, Some, None, true, false, cond}
use Rattle.xt_shapes.specs.declared.leaves.Ext.{Ext}
use Rattle.xt_shapes.specs.declared.leaves.Ext.TheVariants.{Final, Appendable, Mutable}
use Rattle.xt_shapes.specs.declared.leaves.Order.{Order}
use Rattle.xt_shapes.specs.Shape.{Shape, prim, str, enumeration, bitmask, sequence, array, map_of, structure, union, Members, Cases, product}
use Rattle.xcdr_model.specs.declared.malformed.Why.TheVariants.{Short}
use Rattle.xcdr_model.specs.Reading.{Spot, Reading, fault_at, ◌>>=◌}
use Rattle.xcdr_model.specs.Projection.{Part, whole_structure}
use Rattle.xcdr_model.specs.Xcdr1Reading.{read_members1}
use Rattle.xcdr_model.specs.Xcdr2Reading.{done, read_members}
use Rattle.xcdr_reader.specs.declared.modes.Mode.{Mode}
use Rattle.xcdr_reader.specs.declared.modes.Mode.TheVariants.{Two, Inner, Tail}
use Rattle.xcdr_reader.specs.Modes.{read_in, inner, may_end, to_end}
use Rattle.xcdr_reader.specs.Parts.{items_read, entries_read, union_read}
use Rattle.xcdr_reader.specs.Members.{mutable_read}

abbrev pub members_in : Mode → Order → Bool → Members → Spot → Reading (List (ℕ × Part))
members_in Two o cut ms s = read_members o cut ms s
members_in Inner o cut ms s = read_members1 o cut ms s
members_in Tail o cut ms s = read_members1 o cut ms s

-- the members in declared order; where a region is `cut` it may end before the last
abbrev pub members_read : Mode → Bool → Members → Order → Spot → Reading Part
members_read m cut ms o s = done (λ ps. whole_structure ms ps false) (members_in m o cut ms s)

-- the members of a region that may end before the last, and what is left of it
abbrev pub cut_read : Mode → Members → Order → Spot → Reading Part
cut_read m ms o s = members_read m true ms o s >>= λ x. to_end m x.0 x.1

abbrev pub appended_read : Mode → Members → Order → Spot → Reading Part
appended_read m ms o s = cond (may_end m) (cut_read m ms o s) (members_read m false ms o s)

abbrev pub structure_inside : Mode → Ext → Members → Order → Spot → Reading Part
structure_inside m Final ms o s = members_read m false ms o s
structure_inside m Appendable ms o s = appended_read m ms o s
structure_inside m Mutable ms o s = mutable_read m ms o s

-- no valid union is mutable
abbrev pub union_inside : Mode → Ext → Shape → Cases → Order → Spot → Reading Part
union_inside m Final disc cs o s = union_read m false disc cs o s
union_inside m Appendable disc cs o s = union_read m (may_end m) disc cs o s
union_inside m Mutable disc cs o s = fault_at s.at Short

abbrev pub inside : Mode → Shape → Order → Spot → Reading Part
inside m (prim p) o s = read_in m o (prim p) s
inside m (str bound) o s = read_in m o (str bound) s
inside m (enumeration e bits ls) o s = read_in m o (enumeration e bits ls) s
inside m (bitmask bits fs) o s = read_in m o (bitmask bits fs) s
inside m (sequence bound tc t) o s = items_read (inner m) bound tc t None o s
inside m (array dims tc t) o s = items_read (inner m) 0 tc t (Some (product dims)) o s
inside m (map_of bound kc k vc t) o s = entries_read (inner m) bound kc k vc t o s
inside m (structure e ms) o s = structure_inside m e ms o s
inside m (union e key disc cs) o s = union_inside m e disc cs o s
