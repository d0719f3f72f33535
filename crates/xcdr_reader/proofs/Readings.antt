-- What is read of a value is what is read inside its own region, where it has one, in each mode.
use Rattle.std.proofs.Common.{◌≡◌, refl, sym, ◌∙◌, ℕ, Bool, true, false, ◌&&◌, Some, None, Ok, Err}
use Rattle.xt_shapes.specs.declared.leaves.Ext.{Ext}
use Rattle.xt_shapes.specs.declared.leaves.Ext.TheVariants.{Final, Appendable, Mutable}
use Rattle.xt_shapes.specs.declared.leaves.Order.{Order}
use Rattle.xt_shapes.specs.declared.leaves.Try.{Try}
use Rattle.xt_shapes.specs.Defaults.{default_of}
use Rattle.xt_shapes.specs.Shape.{Shape, prim, str, enumeration, bitmask, sequence, array, map_of, structure, union, product, Members, Cases}
use Rattle.xcdr_model.specs.Premises.{sound}
use Rattle.xcdr_model.specs.Reading.{Spot, Reading, ◌>>=◌, number_at, each_at, dheader, passing, filling, front}
use Rattle.xcdr_model.specs.Projection.{Part, whole_items, whole_entries}
use Rattle.xcdr_model.specs.Xcdr1Reading.{read1}
use Rattle.xcdr_model.specs.Xcdr2Reading.{read, done, is_primitive, collection_at, counted_at}
use Rattle.xt_wire.specs.cursor.Frames.{framed}
use Rattle.xcdr_reader.specs.Parts.{items_read, entries_read, entry_at}
use Rattle.xcdr_steps.specs.two.Bounds.{framing, collection_framing}
use Rattle.xcdr_reader.specs.Members.{mutable_read}
use Rattle.xcdr_reader.specs.declared.modes.Mode.{Mode}
use Rattle.xcdr_reader.specs.declared.modes.Mode.TheVariants.{Two, Inner, Tail}
use Rattle.xcdr_reader.specs.Modes.{read_in, inner, framing_in}
use Rattle.xcdr_reader.specs.Insides.{inside, members_read, cut_read}
use Rattle.xcdr_reader.proofs.Gathering.{bind_ok, each_bind}
use Rattle.xcdr_reader.proofs.Regions.{done_bind, done_filling, same_filling, same_passing}
use Rattle.xcdr_reader.proofs.Pieces.{mutable_is}
use Rattle.xcdr_reader.proofs.Parameters.{inner_own, tail_own, parameters_are}

-- a collection, put together from its parts
framed_collection : {A : Type 0} (plain : Bool) (g : A → Part) (f : Order → Spot → Reading A) (h : Order → Spot → Reading Part) (o : Order) (s : Spot) → ((s1 : Spot) → done g (f o s1) ≡ h o s1) → done g (collection_at plain o (f o) s) ≡ framed (collection_framing plain) h o s
unfolding collection_at
framed_collection true g f h o s same = same s
framed_collection false g f h o s same =
    done_bind g (dheader o s) (λ n. filling n.0 (f o) n.1)
    ∙ each_bind (dheader o s) (λ n. done g (filling n.0 (f o) n.1)) (λ n. filling n.0 (h o) n.1) (λ n. done_filling g n.0 (f o) n.1 ∙ same_filling n.0 (λ s1. done g (f o s1)) (h o) n.1 (same (front n.0 n.1)))

items_inside : (m : Mode) (bound : ℕ) (tc : Try) (t : Shape) (o : Order) (s : Spot) → done (whole_items bound tc (default_of t)) (counted_at o (λ s1. read_in m o t s1) s) ≡ items_read m bound tc t None o s
unfolding counted_at
items_inside m bound tc t o s = done_bind (whole_items bound tc (default_of t)) (number_at 4 o 4 s) (λ n. each_at n.0 (λ s1. read_in m o t s1) n.1)

array_inside : (m : Mode) (n : ℕ) (tc : Try) (t : Shape) (o : Order) (s : Spot) → done (whole_items 0 tc (default_of t)) (each_at n (λ s1. read_in m o t s1) s) ≡ items_read m 0 tc t (Some n) o s
array_inside m n tc t o s = sym (bind_ok (n, s) (λ k. done (whole_items 0 tc (default_of t)) (each_at k.0 (λ s1. read_in m o t s1) k.1)))

entries_inside : (m : Mode) (bound : ℕ) (kc : Try) (k : Shape) (vc : Try) (t : Shape) (o : Order) (s : Spot) → done (whole_entries bound kc (default_of k) vc (default_of t)) (counted_at o (λ s1. entry_at m k t o s1) s) ≡ entries_read m bound kc k vc t o s
unfolding counted_at
entries_inside m bound kc k vc t o s = done_bind (whole_entries bound kc (default_of k) vc (default_of t)) (number_at 4 o 4 s) (λ n. each_at n.0 (λ s1. entry_at m k t o s1) n.1)

-- ---- in XCDR2

all_bind : {A : Type 0} (r : Reading A) → r ≡ (r >>= λ x. Ok (x.0, x.1))
unfolding ◌>>=◌
all_bind (Ok x) = refl
all_bind (Err f) = refl

structure_two : (e : Ext) (ms : Members) (o : Order) (s : Spot) → read o (structure e ms) s ≡ framed (framing (structure e ms)) (inside Two (structure e ms)) o s
unfolding read
structure_two Final ms o s = refl
structure_two Appendable ms o s = each_bind (dheader o s) _ (λ n. passing n.0 (cut_read Two ms o) n.1) (λ n. same_passing n.0 (members_read Two true ms o) (cut_read Two ms o) n.1 (all_bind (members_read Two true ms o (front n.0 n.1))))
structure_two Mutable ms o s = each_bind (dheader o s) _ (λ n. passing n.0 (mutable_read Two ms o) n.1) (λ n. mutable_is ms o n.0 n.1)

union_two : (e : Ext) (key : Bool) (disc : Shape) (cs : Cases) (o : Order) (s : Spot) → read o (union e key disc cs) s ≡ framed (framing (union e key disc cs)) (inside Two (union e key disc cs)) o s
unfolding read
union_two Final key disc cs o s = refl
union_two Appendable key disc cs o s = refl
union_two Mutable key disc cs o s = refl

read_two : (t : Shape) (o : Order) (s : Spot) → read o t s ≡ framed (framing t) (inside Two t) o s
unfolding read
read_two (prim p) o s = refl
read_two (str bound) o s = refl
read_two (enumeration e bits ls) o s = refl
read_two (bitmask bits fs) o s = refl
read_two (sequence bound tc t) o s = framed_collection (is_primitive t) (whole_items bound tc (default_of t)) (λ o1. counted_at o1 (λ s1. read o1 t s1)) (items_read Two bound tc t None) o s (items_inside Two bound tc t o)
read_two (array dims tc t) o s = framed_collection (is_primitive t) (whole_items 0 tc (default_of t)) (λ o1. each_at (product dims) (λ s1. read o1 t s1)) (items_read Two 0 tc t (Some (product dims))) o s (array_inside Two (product dims) tc t o)
read_two (map_of bound kc k vc t) o s = framed_collection (is_primitive k && is_primitive t) (whole_entries bound kc (default_of k) vc (default_of t)) (λ o1. counted_at o1 (λ s1. entry_at Two k t o1 s1)) (entries_read Two bound kc k vc t) o s (entries_inside Two bound kc k vc t o)
read_two (structure e ms) o s = structure_two e ms o s
read_two (union e key disc cs) o s = union_two e key disc cs o s

-- ---- in XCDR1, of a tail or not

abbrev own_mode : Bool → Mode
own_mode true = Tail
own_mode false = Inner

structure_one : (tail : Bool) (e : Ext) (ms : Members) (o : Order) (s : Spot) → read1 tail o (structure e ms) s ≡ inside (own_mode tail) (structure e ms) o s
unfolding read1
structure_one true Final ms o s = refl
structure_one false Final ms o s = refl
structure_one true Appendable ms o s = refl
structure_one false Appendable ms o s = sym (all_bind (members_read Inner false ms o s))
structure_one true Mutable ms o s = parameters_are Tail ms o s tail_own
structure_one false Mutable ms o s = parameters_are Inner ms o s inner_own

-- no sound union is mutable
union_one : (tail : Bool) (e : Ext) (key : Bool) (disc : Shape) (cs : Cases) (o : Order) (s : Spot) → sound (union e key disc cs) ≡ true → read1 tail o (union e key disc cs) s ≡ inside (own_mode tail) (union e key disc cs) o s
unfolding read1
union_one true Final key disc cs o s ok = refl
union_one false Final key disc cs o s ok = refl
union_one true Appendable key disc cs o s ok = refl
union_one false Appendable key disc cs o s ok = refl
union_one tail Mutable key disc cs o s ok = absurd cc

items_one : (tail : Bool) (bound : ℕ) (tc : Try) (t : Shape) (o : Order) (s : Spot) → done (whole_items bound tc (default_of t)) (counted_at o (λ s1. read1 false o t s1) s) ≡ items_read (inner (own_mode tail)) bound tc t None o s
items_one true bound tc t o s = items_inside Inner bound tc t o s
items_one false bound tc t o s = items_inside Inner bound tc t o s

array_one : (tail : Bool) (n : ℕ) (tc : Try) (t : Shape) (o : Order) (s : Spot) → done (whole_items 0 tc (default_of t)) (each_at n (λ s1. read1 false o t s1) s) ≡ items_read (inner (own_mode tail)) 0 tc t (Some n) o s
array_one true n tc t o s = array_inside Inner n tc t o s
array_one false n tc t o s = array_inside Inner n tc t o s

entries_one : (tail : Bool) (bound : ℕ) (kc : Try) (k : Shape) (vc : Try) (t : Shape) (o : Order) (s : Spot) → done (whole_entries bound kc (default_of k) vc (default_of t)) (counted_at o (λ s1. entry_at Inner k t o s1) s) ≡ entries_read (inner (own_mode tail)) bound kc k vc t o s
entries_one true bound kc k vc t o s = entries_inside Inner bound kc k vc t o s
entries_one false bound kc k vc t o s = entries_inside Inner bound kc k vc t o s

leaf_one : (tail : Bool) (t : Shape) (o : Order) (s : Spot) → read1 tail o t s ≡ read_in (own_mode tail) o t s
leaf_one true t o s = refl
leaf_one false t o s = refl

read_one : (tail : Bool) (t : Shape) (o : Order) (s : Spot) → sound t ≡ true → read1 tail o t s ≡ inside (own_mode tail) t o s
unfolding read1
read_one tail (prim p) o s ok = leaf_one tail (prim p) o s
read_one tail (str bound) o s ok = leaf_one tail (str bound) o s
read_one tail (enumeration e bits ls) o s ok = leaf_one tail (enumeration e bits ls) o s
read_one tail (bitmask bits fs) o s ok = leaf_one tail (bitmask bits fs) o s
read_one tail (sequence bound tc t) o s ok = items_one tail bound tc t o s
read_one tail (array dims tc t) o s ok = array_one tail (product dims) tc t o s
read_one tail (map_of bound kc k vc t) o s ok = entries_one tail bound kc k vc t o s
read_one tail (structure e ms) o s ok = structure_one tail e ms o s
read_one tail (union e key disc cs) o s ok = union_one tail e key disc cs o s ok

-- ---- in each mode

pub read_is : (m : Mode) (t : Shape) (o : Order) (s : Spot) → sound t ≡ true → read_in m o t s ≡ framed (framing_in m t) (inside m t) o s
read_is Two t o s ok = read_two t o s
read_is Inner t o s ok = read_one false t o s ok
read_is Tail t o s ok = read_one true t o s ok
