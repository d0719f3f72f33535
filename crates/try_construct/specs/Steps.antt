-- The wholes that a projection builds, by the parts of both types (DDS-XTypes 1.3, 7.2.4.1).
use Rattle.std.specs.Prelude.{ℕ, ℤ, Bool, ◌&&◌, List, [], ◌∷◌, Option, map}
use Rattle.std.specs.Option.{option_map}
use Rattle.xt_shapes.specs.declared.leaves.Ext.{Ext}
use Rattle.xt_shapes.specs.declared.leaves.Try.{Try}
use Rattle.xt_shapes.specs.Defaults.{default_of}
use Rattle.xt_shapes.specs.Select.{select, case_at}
use Rattle.xt_shapes.specs.Shape.{CaseHead, Shape, Members, no_members, member, Cases}
use Rattle.xt_shapes.specs.Vals.{Val, Slots, Slot, disc_in, body_in}
use Rattle.xcdr_model.specs.Projection.{Part, Body, is_mutable, lacks_must, part_at, projected, projected_members, projected_case, whole_items, whole_entries, whole_structure, whole_union, by_sides, disc_across, settled_case}

abbrev pub items_built : ℕ → Try → Shape → Shape → List Val → Part
items_built bound tc t t2 vs = whole_items bound tc (default_of t) (map (λ w. projected t t2 w) vs)

abbrev pub entries_built : ℕ × Try × Shape × Try × Shape → ℕ × Try × Shape × Try × Shape → List (Val × Val) → Part
entries_built m m2 es = whole_entries m.0 m.1 (default_of m.2) m.3 (default_of m.4) (map (λ e. (projected m.2 m2.2 e.0, projected m.4 m2.4 e.1)) es)

-- what is built of a member of that type, where the writer's is present
abbrev pub member_built : Shape → Option (Shape × Val) → Option Part
member_built t x = option_map (λ y. projected t y.0 y.1) x

-- what is built of each member, where the writer's member of that id is present
abbrev pub parts_built : Members → Members → Slots → List (Option Part)
parts_built no_members ms2 ss = []
parts_built (member h t ms) ms2 ss = member_built t (part_at ms2 ss h.id) ∷ parts_built ms ms2 ss

abbrev pub structure_built : Ext × Members → Ext × Members → Slots → Part
structure_built m m2 ss = whole_structure m.1 (projected_members m.1 m2.1 ss) (is_mutable m2.0 && lacks_must m.1 m2.1 ss)

-- a case of that type, settled
abbrev pub one_case_built : CaseHead → Shape → Shape → Val → Body × Bool
one_case_built h t t2 w = settled_case h t (projected t t2 w)

abbrev pub case_built : Cases → Cases → ℤ → Slot → Body × Bool
case_built cs cs2 d s = by_sides (select cs d) (select cs2 d) (λ i j. projected_case cs i (case_at cs2 j) s)

abbrev pub union_built : Ext × Bool × Shape × Cases → Ext × Bool × Shape × Cases → Val → Part
union_built u u2 v = whole_union (disc_across u.2 u2.2 (disc_in v)) (disc_in v) (case_built u.3 u2.3 (disc_in v) (body_in v))
