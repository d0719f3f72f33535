-- What the parts of a structure take, by any measure of a part under its id.
use Rattle.std.proofs.Common.{◌≡◌, ℕ, ◌+◌, ◌*◌, ◌≤◌, Bool, true, false, cond, not, List, [], ◌∷◌, ◌++◌, Option, Some, None, refl, sym, ap, ap₂, ◌∙◌, inl, inr, arith, ◌==◌}
use Rattle.std.proofs.lemmas.Bool.{cases_Bool, and_parts, eqb-true, eq-eqb, not-true, or_parts, or_left, or_right, ne_eqb, both_ways}
use Rattle.xt_shapes.specs.Select.{has_member}
use Rattle.xt_shapes.specs.Shape.{Head, Shape, Members, no_members, member}
use Rattle.xcdr_model.specs.Premises.{distinct_members}
use Rattle.xcdr_model.specs.Projection.{built_at, Built, Part}

abbrev pub Measure : Type 0
Measure = ℕ → Built → ℕ

abbrev pub total_parts : Measure → List (ℕ × Part) → ℕ
total_parts E [] = 0
total_parts E (x ∷ xs) = E x.0 x.1.0 + total_parts E xs

pub total_append : (E : Measure) (xs ys : List (ℕ × Part)) → total_parts E (xs ++ ys) ≡ total_parts E xs + total_parts E ys
total_append E [] ys = omega arith
total_append E (x ∷ xs) ys = omega (arith, total_append E xs ys)

-- an inner part takes an octet at least, and pays for its measure and 128 more
abbrev pub Paid : Measure → ℕ → Part → ℕ → Type 0
Paid E id x u = (1 ≤ u) × (E id x.0 + 128 ≤ 128 * u)

-- a part that has the rest of its region pays for its measure
abbrev pub Afforded : Measure → ℕ → Part → ℕ → Type 0
Afforded E id x u = E id x.0 ≤ 128 * u

-- ---- a measure by the member that a part belongs to

abbrev pub ByMember : Type 0
ByMember = Head → Shape → Built → ℕ

abbrev pub member_at : Members → ℕ → Option (Head × Shape)
member_at no_members id = None
member_at (member h t ms) id = cond (h.id == id) (Some (h, t)) (member_at ms id)

abbrev pub of_member : ByMember → Option (Head × Shape) → Built → ℕ
of_member m None b = 0
of_member m (Some x) b = m x.0 x.1 b

abbrev pub measure_at : ByMember → Members → Measure
measure_at m ms id b = of_member m (member_at ms id) b

abbrev pub part_measure : (Built → ℕ) → Option Built → ℕ
part_measure f None = 0
part_measure f (Some b) = f b

abbrev pub sum_of : ByMember → Members → (ℕ → Option Built) → ℕ
sum_of m no_members f = 0
sum_of m (member h t ms) f = part_measure (m h t) (f h.id) + sum_of m ms f

-- a part with an id that no member has adds nothing
none_more : (m : ByMember) (ms : Members) (x : ℕ × Part) (xs : List (ℕ × Part)) → has_member ms x.0 ≡ false → sum_of m ms (built_at (x ∷ xs)) ≡ sum_of m ms (built_at xs)
none_more m no_members x xs n = refl
none_more m (member h t ms) x xs n =
    let p = or_parts (h.id == x.0) (has_member ms x.0) n in
    let other : (x.0 == h.id) ≡ false = ne_eqb x.0 h.id (λ z. both_ways (h.id == x.0) p.0 (eq-eqb h.id x.0 (sym z))) in
    ap₂ (λ (a b : ℕ). a + b) (ap (λ (c : Bool). part_measure (m h t) (cond c (Some x.1.0) (built_at xs h.id))) other) (none_more m ms x xs p.1)

one_more : (m : ByMember) (ms : Members) (x : ℕ × Part) (xs : List (ℕ × Part)) → distinct_members ms ≡ true → sum_of m ms (built_at (x ∷ xs)) ≤ measure_at m ms x.0 x.1.0 + sum_of m ms (built_at xs)
one_more m no_members x xs d = omega arith
one_more m (member h t ms) x xs d =
    let p = and_parts (not (has_member ms h.id)) (distinct_members ms) d in
    elim (cases_Bool (h.id == x.0)) [
      | inl y ↦ (let same = eqb-true h.id x.0 y in
          let none : has_member ms x.0 ≡ false = ap (has_member ms) (sym same) ∙ not-true (has_member ms h.id) p.0 in
          omega (arith, ap (λ (c : Bool). of_member m (cond c (Some (h, t)) (member_at ms x.0)) x.1.0) y, ap (λ (c : Bool). part_measure (m h t) (cond c (Some x.1.0) (built_at xs h.id))) (eq-eqb x.0 h.id (sym same)), none_more m ms x xs none))
      | inr n ↦ (let other : (x.0 == h.id) ≡ false = ne_eqb x.0 h.id (λ z. both_ways (h.id == x.0) n (eq-eqb h.id x.0 (sym z))) in
          omega (arith, ap (λ (c : Bool). of_member m (cond c (Some (h, t)) (member_at ms x.0)) x.1.0) n, ap (λ (c : Bool). part_measure (m h t) (cond c (Some x.1.0) (built_at xs h.id))) other, one_more m ms x xs p.1))
    ]

no_parts : (m : ByMember) (ms : Members) → sum_of m ms (built_at []) ≡ 0
no_parts m no_members = refl
no_parts m (member h t ms) = omega (arith, no_parts m ms)

-- each part is counted once, where ids are distinct
pub sum_parts : (m : ByMember) (ms : Members) (xs : List (ℕ × Part)) → distinct_members ms ≡ true → sum_of m ms (built_at xs) ≤ total_parts (measure_at m ms) xs
sum_parts m ms [] d = omega (arith, no_parts m ms)
sum_parts m ms (x ∷ xs) d = omega (arith, one_more m ms x xs d, sum_parts m ms xs d)

-- ---- members among those of a whole structure

abbrev pub Inside : Members → Members → Type 0
Inside ms whole = (id : ℕ) (h : Head) (t : Shape) → member_at ms id ≡ Some (h, t) → member_at whole id ≡ Some (h, t)

pub first_inside : (h : Head) (t : Shape) (ms whole : Members) → Inside (member h t ms) whole → member_at whole h.id ≡ Some (h, t)
first_inside h t ms whole a = a h.id h t (ap (λ (c : Bool). cond c (Some (h, t)) (member_at ms h.id)) (eq-eqb h.id h.id refl))

member_there : (ms : Members) (id : ℕ) (x : Head × Shape) → member_at ms id ≡ Some x → has_member ms id ≡ true
member_there no_members id x e = absurd cc
member_there (member h t ms) id x e = elim (cases_Bool (h.id == id)) [
  | inl y ↦ or_left (h.id == id) (has_member ms id) y
  | inr n ↦ or_right (h.id == id) (has_member ms id) (member_there ms id x (sym (ap (λ (c : Bool). cond c (Some (h, t)) (member_at ms id)) n) ∙ e))
]

pub rest_inside : (h : Head) (t : Shape) (ms whole : Members) → has_member ms h.id ≡ false → Inside (member h t ms) whole → Inside ms whole
rest_inside h t ms whole d a id k u e = a id k u (elim (cases_Bool (h.id == id)) [
  | inl y ↦ absurd (both_ways (has_member ms h.id) d (ap (has_member ms) (eqb-true h.id id y) ∙ member_there ms id (k, u) e))
  | inr n ↦ ap (λ (c : Bool). cond c (Some (h, t)) (member_at ms id)) n ∙ e
])
