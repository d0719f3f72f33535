-- The steps of the bound on nodes.
use Rattle.std.proofs.Common.{◌≡◌, ℕ, ◌+◌, ◌*◌, ◌≤◌, ℤ, Bool, true, false, cond, List, [], ◌∷◌, ◌++◌, map, length, max, Option, Some, None, Ok, refl, ap, ◌∙◌, arith, ◌==◌}
use Rattle.std.proofs.lemmas.Bool.{eq-eqb}
use Rattle.xt_shapes.specs.declared.leaves.Order.{Order}
use Rattle.xt_shapes.specs.Nodes.{nodes}
use Rattle.xt_shapes.specs.Select.{has_member, shape_at}
use Rattle.xt_shapes.specs.Shape.{Head, Shape, Members, no_members, member}
use Rattle.xt_shapes.specs.Typing.{is_past}
use Rattle.xt_shapes.specs.Vals.{text, int}
use Rattle.xt_shapes.specs.Weight.{weight}
use Rattle.xcdr_model.specs.Premises.{some_member}
use Rattle.xcdr_model.specs.Projection.{Built, got, failed, Part, within, gather_text, kept, built_list, Body, no_body, one_sided, whole_union, disc_built}
use Rattle.xcdr_model.specs.Reading.{Spot, Reading, ◌>>=◌, step, number_at, front, passing, filling, dheader}
use Rattle.xcdr_model.specs.Xcdr2Reading.{done, scalar_at, one_part, optional_at, present_at, selected_at, rest_selected}
use Rattle.shape_laws.proofs.Costs.{reading, Costs, bind_ok, ok_parts, number_costs, scalar_costs, done_costs, total, dheader_costs, passing_costs, filling_costs, step_length}
use Rattle.shape_laws.proofs.KeyKept.{later_shape}
use Rattle.shape_laws.proofs.NodesBuilt.{nodes_built, weigh}
use Rattle.shape_laws.proofs.NodesParts.{weigh2, excess, nodes_body, union_nodes, excess_at}
use Rattle.shape_laws.proofs.PartCosts.{Measure, Paid, total_append, total_parts, member_at, of_member}

abbrev pub Within : ℕ → Part → ℕ → Type 0
Within w x u = (1 ≤ u) × (nodes_built x.0 + 128 ≤ w + 128 * u)

pub weaker : {A : Type 0} (f : Spot → Reading A) (R R2 : A → ℕ → Type 0) → Costs f R → ((x : A) (u : ℕ) → R x u → R2 x u) → Costs f R2
weaker f R R2 c h s s2 x e = let k = c s s2 x e in (k.0, k.1, h x k.0 k.2)

-- ---- collections

abbrev pub one : ℕ → Part → ℕ
one w x = max (nodes_built x.0) w

abbrev pub two : ℕ → ℕ → Part × Part → ℕ
two k w x = one k x.0 + one w x.1

abbrev pub pair_built : Part × Part → Built × Built
pair_built x = (x.0.0, x.1.0)

pub total_one : (w : ℕ) (xs : List Part) → total (one w) xs ≡ weigh nodes w (built_list xs)
total_one w [] = refl
total_one w (x ∷ xs) = omega (arith, total_one w xs)

pub total_two : (k w : ℕ) (xs : List (Part × Part)) → total (two k w) xs ≡ weigh2 k w (map (λ x. (x.0.0, x.1.0)) xs)
total_two k w [] = refl
total_two k w (x ∷ xs) = omega (arith, total_two k w xs)

pub element_costs : (f : Spot → Reading Part) (w : ℕ) → w ≤ 128 → Costs f (λ x u. Within w x u) → Costs f (λ x u. (1 ≤ u) × (one w x + 128 ≤ 128 + 128 * u))
element_costs f w le c = weaker f (λ x u. Within w x u) (λ x u. (1 ≤ u) × (one w x + 128 ≤ 128 + 128 * u)) c (λ x u h. (h.0, omega (arith, h.1, h.0, le)))

pub part_costs : (f : Spot → Reading Part) (w : ℕ) → Costs f (λ x u. Within w x u) → Costs f (λ x u. (1 ≤ u) × (one w x + 128 ≤ w + 128 * u))
part_costs f w c = weaker f (λ x u. Within w x u) (λ x u. (1 ≤ u) × (one w x + 128 ≤ w + 128 * u)) c (λ x u h. (h.0, omega (arith, h.1, h.0)))

abbrev pub pair_reading : (Spot → Reading Part) → (Spot → Reading Part) → Spot → Reading (Part × Part)
pair_reading f g s = f s >>= λ x. g x.1 >>= λ y. Ok ((x.0, y.0), y.1)

abbrev Two : Type 0
Two = Part × Part

pub entry_costs : (f g : Spot → Reading Part) (k w : ℕ) → k ≤ 128 → w ≤ 128 → Costs f (λ x u. Within k x u) → Costs g (λ x u. Within w x u) → Costs (pair_reading f g) (λ x u. (1 ≤ u) × (two k w x + 128 ≤ 128 + 128 * u))
entry_costs f g k w le le2 c d s s2 x e =
    let a = bind_ok (f s) (λ y. g y.1 >>= λ z. reading {A = Two} (y.0, z.0) z.1) (x, s2) e in
    let b = bind_ok (g a.0.1) (λ z. reading {A = Two} (a.0.0, z.0) z.1) (x, s2) a.2 in
    let m = c s a.0.1 a.0.0 a.1 in
    let n = d a.0.1 b.0.1 b.0.0 b.1 in
    let p = ok_parts {A = Two} (a.0.0, b.0.0) x b.0.1 s2 b.2 in
    (m.0 + n.0, omega (arith, m.1, n.1, ap (λ (z : Spot). length z.rest) p.1), (omega (arith, m.2.0), omega (arith, m.2.0, m.2.1, n.2.0, n.2.1, le, le2, ap (two k w) p.0)))

abbrev pub ListIn : {A : Type 0} → (A → ℕ) → List A → ℕ → Type 0
ListIn m xs u = (1 ≤ u) × (total m xs + 128 ≤ 128 * u)

-- ---- members in order

abbrev pub count : Members → ℕ
count no_members = 0
count (member h t ms) = 1 + count ms

pub some_count : (ms : Members) → some_member ms ≡ true → 1 ≤ count ms
some_count no_members e = absurd cc
some_count (member h t ms) e = omega arith

-- the members are among the whole structure's
abbrev pub Among : Members → Members → Type 0
Among ms whole = (id : ℕ) (t : Shape) → shape_at ms id ≡ Some t → shape_at whole id ≡ Some t

pub first_among : (h : Head) (t : Shape) (ms whole : Members) → Among (member h t ms) whole → shape_at whole h.id ≡ Some t
first_among h t ms whole a = a h.id t (ap (λ (c : Bool). cond c (Some t) (shape_at ms h.id)) (eq-eqb h.id h.id refl))

pub rest_among : (h : Head) (t : Shape) (ms whole : Members) → has_member ms h.id ≡ false → Among (member h t ms) whole → Among ms whole
rest_among h t ms whole d a id u e = a id u (later_shape h t ms id u d e)

abbrev pub OnePart : Measure → List (ℕ × Part) → ℕ → Type 0
OnePart E ps u = (1 ≤ u) × (total_parts E ps + 128 ≤ 128 * u)

pub single : (E : Measure) (id : ℕ) (f : Spot → Reading Part) → Costs f (Paid E id) → Costs (λ s. one_part id (f s)) (OnePart E)
single E id f c = done_costs (λ x. (id, x) ∷ []) f (Paid E id) (OnePart E) c (λ x u h. (h.0, omega (arith, h.1)))

-- a member's nodes beyond its type's weight
pub paid_nodes : (whole : Members) (h : Head) (t : Shape) (f : Spot → Reading Part) → member_at whole h.id ≡ Some (h, t) → Costs f (λ x u. Within (weight t) x u) → Costs f (Paid (excess_at whole) h.id)
paid_nodes whole h t f a c = weaker f (λ x u. Within (weight t) x u) (Paid (excess_at whole) h.id) c (λ x u k. (k.0, omega (arith, k.0, k.1, ap (λ (z : Option (Head × Shape)). of_member excess z x.0) a)))

pub optional_costs : (opt : Bool) (o : Order) (E : Measure) (id : ℕ) (f : Spot → Reading Part) → Costs f (Paid E id) → Costs (λ s. optional_at opt o id f s) (OnePart E)
unfolding optional_at
optional_costs false o E id f c s s2 x e = single E id f c s s2 x e
optional_costs true o E id f c s s2 x e =
    let b = bind_ok (present_at o s) (λ z. cond z.0 (one_part id (f z.1)) (reading [] z.1)) (x, s2) e in
    let k = presence o s b.0.1 b.0.0 b.1 in
    by_presence b.0.0 b.0.1 k b.2
  where
    presence : (o : Order) → Costs (present_at o) (λ b u. 1 ≤ u)
    presence o s s2 b e =
        let n = bind_ok (number_at 4 o 1 s) _ _ e in
        let m = bind_ok _ _ _ n.2 in
        let k = number_costs 4 o 1 s n.0.1 n.0.0 n.1 in
        let p = ok_parts (m.0 == 1) b n.0.1 s2 m.2 in
        (k.0, k.1 ∙ ap (λ (z : Spot). k.0 + length z.rest) p.1, k.2)

    by_presence : (b : Bool) (z : Spot) → (u : ℕ) × (length s.rest ≡ u + length z.rest) × (1 ≤ u) → cond b (one_part id (f z)) (reading [] z) ≡ reading x s2 → (u : ℕ) × (length s.rest ≡ u + length s2.rest) × OnePart E x u
    by_presence true z k e = let m = single E id f c z s2 x e in (k.0 + m.0, omega (arith, k.1, m.1), (omega (arith, k.2), omega (arith, m.2.1)))
    by_presence false z k e = let p = ok_parts [] x z s2 e in (k.0, k.1 ∙ ap (λ (y : Spot). k.0 + length y.rest) p.1, (k.2, omega (arith, k.2, ap (total_parts E) p.0)))

abbrev pub InOrder : Bool → Measure → ℕ → List (ℕ × Part) → ℕ → Type 0
InOrder cut E n ps u = (total_parts E ps ≤ 128 * u) × (cut ≡ false → total_parts E ps + 128 * n ≤ 128 * u)

-- a member and the further ones
pub joined : (cut : Bool) (E : Measure) (n : ℕ) (f g : Spot → Reading (List (ℕ × Part))) → Costs f (OnePart E) → Costs g (InOrder cut E n) → Costs (λ s. f s >>= λ x. g x.1 >>= λ xs. reading (x.0 ++ xs.0) xs.1) (InOrder cut E (1 + n))
joined cut E n f g c d s s2 ps e =
    let a = bind_ok (f s) (λ x. g x.1 >>= λ xs. reading (x.0 ++ xs.0) xs.1) (ps, s2) e in
    let b = bind_ok (g a.0.1) (λ xs. reading (a.0.0 ++ xs.0) xs.1) (ps, s2) a.2 in
    let k = c s a.0.1 a.0.0 a.1 in
    let m = d a.0.1 b.0.1 b.0.0 b.1 in
    let p = ok_parts (a.0.0 ++ b.0.0) ps b.0.1 s2 b.2 in
    let all = total_append E a.0.0 b.0.0 ∙ refl in
    (k.0 + m.0, omega (arith, k.1, m.1, ap (λ (z : Spot). length z.rest) p.1), (omega (arith, k.2.1, m.2.0, all, ap (total_parts E) p.0), (λ z. omega (arith, k.2.1, m.2.1 z, all, ap (total_parts E) p.0))))

pub some_same : {A : Type 0} {x y : A} → Some x ≡ Some y → x ≡ y
some_same {A = A} {x = x} e = ap (λ o. or_x o) e
  where
    or_x : Option A → A
    or_x None = x
    or_x (Some z) = z

-- ---- regions

-- a region behind its count
pub region_costs : {A : Type 0} (o : Order) (f : Spot → Reading A) (R : A → ℕ → Type 0) → Costs f R → Costs (λ s. dheader o s >>= λ n. passing n.0 f n.1) (λ x u. (k : ℕ) × R x k × (k + 4 ≤ u))
region_costs o f R c s s2 x e =
    let b = bind_ok (dheader o s) (λ n. passing n.0 f n.1) (x, s2) e in
    let d = dheader_costs o s b.0.1 b.0.0 b.1 in
    let k = passing_costs b.0.0 f R c b.0.1 s2 x d.3 b.2 in
    (d.0 + b.0.0, omega (arith, d.1, k.3), (k.0, k.2, omega (arith, d.2, k.1)))

pub any_passing : {A : Type 0} (n : ℕ) (f : Spot → Reading A) (s s2 : Spot) (x : A) → n ≤ length s.rest → passing n f s ≡ reading x s2 → (s3 : Spot) × (f (front n s) ≡ reading x s3) × (length s.rest ≡ n + length s2.rest)
unfolding passing
any_passing n f s s2 x le e =
    let b = bind_ok (f (front n s)) (λ z. reading z.0 (step n s)) (x, s2) e in
    let p = ok_parts b.0.0 x (step n s) s2 b.2 in
    (b.0.1, b.1 ∙ ap (λ z. reading z b.0.1) p.0, step_length n s le ∙ ap (λ (z : Spot). n + length z.rest) p.1)

-- ---- unions

abbrev pub CaseIn : ℕ → Body × Bool → ℕ → Type 0
CaseIn g b u = nodes_body b.0 ≤ g + 128 * u

pub selected_costs : (g : ℕ) (i : Option ℕ) (f : ℕ → Spot → Reading (Body × Bool)) → ((j : ℕ) → Costs (f j) (CaseIn g)) → Costs (selected_at i f) (CaseIn g)
selected_costs g None f c s s2 x e = let p = ok_parts {A = Body × Bool} (no_body, false) x s s2 e in (0, omega (arith, ap (λ (z : Spot). length z.rest) p.1), omega (arith, ap (λ (z : Body × Bool). nodes_body z.0) p.0))
selected_costs g (Some i) f c s s2 x e = c i s s2 x e

pub rest_costs : (g : ℕ) (i : Option ℕ) (f : ℕ → Spot → Reading (Body × Bool)) → ((j : ℕ) → Costs (f j) (CaseIn g)) → Costs (rest_selected i f) (CaseIn g)
rest_costs g None f c s s2 x e = let p = ok_parts {A = Body × Bool} (cond (length s.rest == 0) no_body one_sided, false) x s s2 e in (0, omega (arith, ap (λ (z : Spot). length z.rest) p.1), omega (arith, ap (λ (z : Body × Bool). nodes_body z.0) p.0, none_in (length s.rest == 0)))
  where
    none_in : (c : Bool) → nodes_body (cond c no_body one_sided) ≡ 0
    none_in true = refl
    none_in false = refl
rest_costs g (Some i) f c s s2 x e = by_end (length s.rest == 0) e
  where
    by_end : (b : Bool) → cond b (reading {A = Body × Bool} (one_sided, false) s) (filling (length s.rest) (λ z. f i z) s) ≡ reading x s2 → (u : ℕ) × (length s.rest ≡ u + length s2.rest) × CaseIn g x u
    by_end true e = let p = ok_parts {A = Body × Bool} (one_sided, false) x s s2 e in (0, omega (arith, ap (λ (z : Spot). length z.rest) p.1), omega (arith, ap (λ (z : Body × Bool). nodes_body z.0) p.0))
    by_end false e = let k = filling_costs (length s.rest) (f i) (CaseIn g) (c i) s s2 x (omega arith) e in (length s.rest, k.1, k.0)

pub union_costs : (o : Order) (disc : Shape) (g : ℕ) (f : ℤ → Spot → Reading (Body × Bool)) → ((d : ℤ) → Costs (f d) (CaseIn g)) → Costs (λ s. scalar_at 4 o disc s >>= λ d. done (λ b. whole_union (disc_built disc d.0) d.0 b) (f d.0 d.1)) (λ x u. Within (2 + g) x u)
union_costs o disc g f c s s2 x e =
    let b = bind_ok (scalar_at 4 o disc s) (λ d. done (λ b. whole_union (disc_built disc d.0) d.0 b) (f d.0 d.1)) (x, s2) e in
    let k = scalar_costs 4 o disc s b.0.1 b.0.0 b.1 in
    let m = done_costs (λ y. whole_union (disc_built disc b.0.0) b.0.0 y) (f b.0.0) (CaseIn g) (λ y u. nodes_built y.0 ≤ 2 + g + 128 * u) (c b.0.0) (λ y u h. omega (arith, h, union_nodes (disc_built disc b.0.0) b.0.0 y.0)) b.0.1 s2 x b.2 in
    (k.0 + m.0, omega (arith, k.1, m.1), (omega (arith, k.2), omega (arith, k.2, m.2)))

pub number_nodes : (c : Bool) (i : ℤ) → nodes_built (cond c (got (int i)) failed) ≤ 1
number_nodes true i = omega arith
number_nodes false i = omega arith

pub text_nodes : (bound : ℕ) (t : List ℕ) → nodes_built (gather_text bound t) ≤ 1
text_nodes bound t = by_past (is_past bound (length t))
  where
    by_past : (c : Bool) → nodes_built (within c (Some (text (kept bound t)))) ≤ 1
    by_past true = omega arith
    by_past false = omega arith
