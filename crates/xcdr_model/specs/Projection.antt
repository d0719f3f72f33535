-- What a reader's type makes of a value of a writer's type (DDS-XTypes 1.3, 7.2.4.1: constructing an object of one type from an object
-- of another). It speaks of values and ids, and of no octet.
use Rattle.std.specs.Prelude.{ℕ, ◌||◌, ◌&&◌, not, ℤ, List, [], ◌∷◌, Bool, true, false, Option, Some, None, cond, map, length, take, ◌==◌}
use Rattle.std.specs.Option.{option_map}
use Rattle.xt_shapes.specs.declared.leaves.Ext.{Ext}
use Rattle.xt_shapes.specs.declared.leaves.Ext.TheVariants.{Final, Appendable, Mutable}
use Rattle.xt_shapes.specs.declared.leaves.Try.{Try}
use Rattle.xt_shapes.specs.declared.leaves.Try.TheVariants.{Discard, UseDefault, Trim}
use Rattle.xt_shapes.specs.Defaults.{default_of}
use Rattle.xt_shapes.specs.Kinds.{same_kind, as_sequence, as_array, as_map, as_structure, as_union}
use Rattle.xt_shapes.specs.Lists.{has}
use Rattle.xt_shapes.specs.Select.{is_literal, select, case_at, has_member, is_must}
use Rattle.xt_shapes.specs.Shape.{Head, CaseHead, Shape, prim, str, enumeration, bitmask, sequence, array, map_of, structure, union, Members, no_members, member, Cases, no_cases, one_case}
use Rattle.xt_shapes.specs.Typing.{is_past, repeats}
use Rattle.xt_shapes.specs.Vals.{Val, int, text, listed, mapped, struct_of, union_of, Slots, no_slots, one_slot, Slot, absent, present, vals_of, pairs_of, number_in, octets_in, items_in, entries_in, slots_in, disc_in, body_in, first, others}

pub data Built : Type 0 where
  got : Val → Built
  over : Val → Built
  failed : Built

-- what is built, and whether a member that the reader lacks came with its must_understand mark
abbrev pub Part : Type 0
Part = Built × Bool

-- ---- settling (7.2.2.7, TryConstruct): what is got stays. What is over its bound is shortened under TRIM, becomes the default under
-- USE_DEFAULT, and fails under DISCARD. What failed becomes the default under USE_DEFAULT, and else stays.

abbrev pub settled : {X : Type 0} → Try → X → (Val → X) → Built → Option X
settled tc d f (got v) = Some (f v)
settled Trim d f (over v) = Some (f v)
settled UseDefault d f (over v) = Some d
settled Discard d f (over v) = None
settled UseDefault d f failed = Some d
settled Trim d f failed = None
settled Discard d f failed = None

abbrev pub both : {X Y Z : Type 0} → (X → Y → Z) → Option X → Option Y → Option Z
both f None y = None
both f (Some x) None = None
both f (Some x) (Some y) = Some (f x y)

abbrev pub all_some : {X : Type 0} → List (Option X) → Option (List X)
all_some [] = Some []
all_some (x ∷ xs) = both (λ y ys. y ∷ ys) x (all_some xs)

-- ---- gathering: parts that were settled make a whole, or one failure makes it fail. A bound of 0 is none

abbrev pub kept : {X : Type 0} → ℕ → List X → List X
kept bound xs = cond (bound == 0) xs (take bound xs)

abbrev pub within : Bool → Option Val → Built
within past None = failed
within true (Some v) = over v
within false (Some v) = got v

-- a text past its bound is over, with its first octets
abbrev pub gather_text : ℕ → List ℕ → Built
gather_text bound t = within (is_past bound (length t)) (Some (text (kept bound t)))

-- the first elements up to the bound; with more it is over
abbrev pub gather_items : ℕ → Try → Val → List Built → Built
gather_items bound tc d xs = within (is_past bound (length xs)) (option_map (λ vs. listed (vals_of vs)) (all_some (map (settled tc d (λ v. v)) (kept bound xs))))

-- keys that become equal make a map fail (this profile's own)
abbrev pub unless_repeats : List (Val × Val) → Option Val
unless_repeats xs = cond (repeats xs) None (Some (mapped (pairs_of xs)))

abbrev pub then_entries : Option (List (Val × Val)) → Option Val
then_entries None = None
then_entries (Some xs) = unless_repeats xs

abbrev pub gather_entries : ℕ → Try → Val → Try → Val → List (Built × Built) → Built
gather_entries bound kc kd vc vd xs = within (is_past bound (length xs)) (then_entries (all_some (map (λ x. both (λ k v. (k, v)) (settled kc kd (λ v. v) x.0) (settled vc vd (λ v. v) x.1)) (kept bound xs))))

-- the default of an optional member is that it is absent
abbrev pub slot_default : Head → Shape → Slot
slot_default h t = cond h.optional absent (present (default_of t))

abbrev pub slot_from : Head → Shape → Option Built → Option Slot
slot_from h t None = Some (slot_default h t)
slot_from h t (Some b) = settled h.tc (slot_default h t) present b

abbrev pub gather_slots : Members → (ℕ → Option Built) → Option Slots
gather_slots no_members parts = Some no_slots
gather_slots (member h t ms) parts = both one_slot (slot_from h t (parts h.id)) (gather_slots ms parts)

abbrev pub gather_members : Members → (ℕ → Option Built) → Built
gather_members ms parts = within false (option_map struct_of (gather_slots ms parts))

-- ---- parts by id

abbrev pub built_at : List (ℕ × Part) → ℕ → Option Built
built_at [] id = None
built_at (x ∷ xs) id = cond (x.0 == id) (Some x.1.0) (built_at xs id)

abbrev pub any_unseen : List (ℕ × Part) → Bool
any_unseen [] = false
any_unseen (x ∷ xs) = x.1.1 || any_unseen xs

abbrev pub whole_structure : Members → List (ℕ × Part) → Bool → Part
whole_structure ms parts u = (gather_members ms (built_at parts), any_unseen parts || u)

abbrev pub with_shape : Shape → Slot → Option (Shape × Val)
with_shape t absent = None
with_shape t (present w) = Some (t, w)

-- the writer's member of an id and its value, where that is present
abbrev pub part_at : Members → Slots → ℕ → Option (Shape × Val)
part_at no_members ss id = None
part_at (member h t ms) ss id = cond (h.id == id) (with_shape t (first ss)) (part_at ms (others ss) id)

abbrev pub is_present : Slot → Bool
is_present absent = false
is_present (present w) = true

-- a present member that must be understood and that the reader lacks (7.2.2.4.4: must_understand; a key member counts as one)
abbrev pub lacks_must : Members → Members → Slots → Bool
lacks_must ms no_members ss = false
lacks_must ms (member h t ns) ss = (is_present (first ss) && (is_must h && not (has_member ms h.id))) || lacks_must ms ns (others ss)

-- ---- unions: the body is the case that both sides select. Where one side alone selects one, it fails (this profile's own)

-- a body: none, one that only one side selects, or what it was settled to
pub data Body : Type 0 where
  no_body : Body
  one_sided : Body
  settled_body : Option Val → Body

abbrev pub body_built : ℤ → Body → Built
body_built d no_body = got (union_of d absent)
body_built d one_sided = failed
body_built d (settled_body None) = failed
body_built d (settled_body (Some w)) = got (union_of d (present w))

abbrev pub union_built : Built → ℤ → Body → Built
union_built failed d b = failed
union_built (got v) d b = body_built d b
union_built (over v) d b = failed

abbrev pub whole_union : Built → ℤ → Body × Bool → Part
whole_union disc d b = (union_built disc d b.0, b.1)

abbrev pub is_mutable : Ext → Bool
is_mutable Mutable = true
is_mutable Final = false
is_mutable Appendable = false

abbrev pub built_list : List Part → List Built
built_list xs = map (λ x. x.0) xs

abbrev pub unseen_list : List Part → Bool
unseen_list xs = has (λ x. x.1) xs

abbrev pub whole_items : ℕ → Try → Val → List Part → Part
whole_items bound tc d xs = (gather_items bound tc d (built_list xs), unseen_list xs)

abbrev pub whole_entries : ℕ → Try → Val → Try → Val → List (Part × Part) → Part
whole_entries bound kc kd vc vd xs = (gather_entries bound kc kd vc vd (map (λ x. (x.0.0, x.1.0)) xs), has (λ x. x.0.1 || x.1.1) xs)

abbrev pub disc_built : Shape → ℤ → Built
disc_built (enumeration e bits ls) d = cond (is_literal ls d) (got (int d)) failed
disc_built _ d = got (int d)

-- a discriminator of another kind fails
abbrev pub disc_across : Shape → Shape → ℤ → Built
disc_across t t2 d = cond (same_kind t t2) (disc_built t d) failed

-- ---- parts put together

abbrev pub of_kind : {A : Type 0} → Option A → (A → Part) → Part
of_kind None f = (failed, false)
of_kind (Some x) f = f x

abbrev pub with_part : ℕ → (Shape → Val → Part) → Option (Shape × Val) → List (ℕ × Part) → List (ℕ × Part)
with_part id f None parts = parts
with_part id f (Some x) parts = (id, f x.0 x.1) ∷ parts

-- which sides select a case
abbrev pub by_sides : Option ℕ → Option ℕ → (ℕ → ℕ → Body × Bool) → Body × Bool
by_sides None None f = (no_body, false)
by_sides None (Some j) f = (one_sided, false)
by_sides (Some i) None f = (one_sided, false)
by_sides (Some i) (Some j) f = f i j

abbrev pub settled_case : CaseHead → Shape → Part → Body × Bool
settled_case h t x = (settled_body (settled h.tc (default_of t) (λ y. y) x.0), x.1)

abbrev pub of_case : (Shape → Val → Body × Bool) → Option Shape → Slot → Body × Bool
of_case f None s = (one_sided, false)
of_case f (Some x) absent = (one_sided, false)
of_case f (Some x) (present w) = f x w

-- ---- what a reader of the first type makes of a value of the second; different kinds fail

unfoldable mutual
  pub projected : Shape → Shape → Val → Part
  projected (prim p) t2 v = (cond (same_kind (prim p) t2) (got (int (number_in v))) failed, false)
  projected (str bound) t2 v = (cond (same_kind (str bound) t2) (gather_text bound (octets_in v)) failed, false)
  projected (enumeration e bits ls) t2 v = (cond (same_kind (enumeration e bits ls) t2 && is_literal ls (number_in v)) (got (int (number_in v))) failed, false)
  projected (bitmask bits fs) t2 v = (cond (same_kind (bitmask bits fs) t2) (got (int (number_in v))) failed, false)
  projected (sequence bound tc t) t2 v = of_kind (as_sequence t2) (λ e2. whole_items bound tc (default_of t) (map (λ w. projected t e2.2 w) (items_in v)))
  projected (array dims tc t) t2 v = of_kind (as_array t2) (λ e2. whole_items 0 tc (default_of t) (map (λ w. projected t e2.2 w) (items_in v)))
  projected (map_of bound kc k vc t) t2 v = of_kind (as_map t2) (λ e2. whole_entries bound kc (default_of k) vc (default_of t) (map (λ w. (projected k e2.2 w.0, projected t e2.4 w.1)) (entries_in v)))
  projected (structure e ms) t2 v = of_kind (as_structure t2) (λ m2. whole_structure ms (projected_members ms m2.1 (slots_in v)) (is_mutable m2.0 && lacks_must ms m2.1 (slots_in v)))
  projected (union e key disc cs) t2 v = of_kind (as_union t2) (λ c2. whole_union (disc_across disc c2.2 (disc_in v)) (disc_in v) (by_sides (select cs (disc_in v)) (select c2.3 (disc_in v)) (λ i j. projected_case cs i (case_at c2.3 j) (body_in v))))

  pub projected_members : Members → Members → Slots → List (ℕ × Part)
  projected_members no_members ms2 ss = []
  projected_members (member h t ms) ms2 ss = with_part h.id (λ t2 w. projected t t2 w) (part_at ms2 ss h.id) (projected_members ms ms2 ss)

  pub projected_case : Cases → ℕ → Option Shape → Slot → Body × Bool
  projected_case no_cases i t2 s = (one_sided, false)
  projected_case (one_case h t cs) i t2 s = cond (h.id == i) (of_case (λ x w. settled_case h t (projected t x w)) t2 s) (projected_case cs i t2 s)
