-- What XCDR1's parameters take.
use Rattle.std.proofs.Common.{subst, ◌≡◌, ℕ, zero, suc, ◌+◌, ◌-◌, ◌*◌, ◌%◌, ◌^◌, ◌≤◌, Bool, true, false, cond, List, [], ◌∷◌, length, take, drop, min, Option, Result, Ok, Err, refl, ap, ◌∙◌, arith, nat_lt, nat_le, ◌==◌}
use Rattle.std.proofs.lemmas.Bool.{ltb-false}
use Rattle.xt_shapes.specs.declared.leaves.Order.{Order}
use Rattle.xcdr_model.specs.declared.malformed.Fault.{Fault}
use Rattle.xcdr_model.specs.declared.malformed.Why.TheVariants.{Short, MemberSize, LengthRest, Parameter}
use Rattle.xcdr_model.specs.Numbers.{number, padding}
use Rattle.xcdr_model.specs.Projection.{Part}
use Rattle.xcdr_model.specs.Reading.{Spot, Reading, fault_at, ◌>>=◌, step, front}
use Rattle.xcdr_model.specs.Xcdr1Reading.{Mark, block_at, first_octets, short_mark, long_mark, mark_at, is_end, is_ignored, sized_at, shifted, closed_by, content_read, checked_id, Params, pass_on, and_one, one_param, params_at, fault_of, params_read, named, optional1_at}
use Rattle.xcdr_model.specs.Xcdr2Reading.{Piece, contents}
use Rattle.shape_laws.proofs.Costs.{reading, Costs, bind_ok, guard_ok, ok_parts, step_length, front_length}
use Rattle.shape_laws.proofs.NodesBuilt.{nodes_built}
use Rattle.shape_laws.proofs.NodesMembers.{lengths, Known, contents_costs}
use Rattle.shape_laws.proofs.NodesSteps.{OnePart, single}
use Rattle.shape_laws.proofs.PartCosts.{Measure, Paid, total_parts, Afforded}

-- a value that has the rest of its region
abbrev pub TailIn : ℕ → Part → ℕ → Type 0
TailIn w x u = nodes_built x.0 ≤ w + 128 * u

block_costs : (n : ℕ) → Costs (block_at n) (λ h u. n ≤ u)
unfolding block_at
block_costs n s s2 h e =
    let pad = padding 4 s.at in
    let g = guard_ok (nat_lt (length s.rest) (pad + n)) (record { at = s.at + min pad (length s.rest); why = Short }) (reading (take n (drop pad s.rest)) (step (pad + n) s)) (h, s2) e in
    let p = ok_parts (take n (drop pad s.rest)) h (step (pad + n) s) s2 g.1 in
    (pad + n, step_length (pad + n) s (ltb-false (length s.rest) (pad + n) g.0) ∙ ap (λ (z : Spot). pad + n + length z.rest) p.1, omega arith)

pub mark_costs : (o : Order) → Costs (mark_at o) (λ m u. 4 ≤ u)
unfolding mark_at
mark_costs o s s2 m e =
    let long = λ (x : List ℕ × Spot). cond (number o (take 2 (drop 2 x.0)) == 8) (reading (long_mark o x.0) x.1) (fault_at (s.at + padding 4 s.at) Parameter) in
    let b = bind_ok (block_at 4 s) (λ h. cond (first_octets o h.0 % 2 ^ 14 == 0x3F01) (block_at 12 s >>= λ x. long x) (reading (short_mark o h.0) h.1)) (m, s2) e in
    by_form (first_octets o b.0.0 % 2 ^ 14 == 0x3F01) b.0 b.1 b.2
  where
    by_size : (c : Bool) (x : List ℕ × Spot) → block_at 12 s ≡ Ok x → cond c (reading (long_mark o x.0) x.1) (fault_at (s.at + padding 4 s.at) Parameter) ≡ reading m s2 → (u : ℕ) × (length s.rest ≡ u + length s2.rest) × (4 ≤ u)
    by_size true x z e = let k = block_costs 12 s x.1 x.0 z in let p = ok_parts (long_mark o x.0) m x.1 s2 e in (k.0, k.1 ∙ ap (λ (y : Spot). k.0 + length y.rest) p.1, omega (arith, k.2))
    by_size false x z e = absurd cc

    by_form : (c : Bool) (h : List ℕ × Spot) → block_at 4 s ≡ Ok h → cond c (block_at 12 s >>= λ x. cond (number o (take 2 (drop 2 x.0)) == 8) (reading (long_mark o x.0) x.1) (fault_at (s.at + padding 4 s.at) Parameter)) (reading (short_mark o h.0) h.1) ≡ reading m s2 → (u : ℕ) × (length s.rest ≡ u + length s2.rest) × (4 ≤ u)
    by_form true h z e =
        let b = bind_ok (block_at 12 s) (λ x. cond (number o (take 2 (drop 2 x.0)) == 8) (reading (long_mark o x.0) x.1) (fault_at (s.at + padding 4 s.at) Parameter)) (m, s2) e in
        by_size (number o (take 2 (drop 2 b.0.0)) == 8) b.0 b.1 b.2
    by_form false h z e = let k = block_costs 4 s h.1 h.0 z in let p = ok_parts (short_mark o h.0) m h.1 s2 e in (k.0, k.1 ∙ ap (λ (y : Spot). k.0 + length y.rest) p.1, k.2)

abbrev sized : ℕ → Mark → Spot → Piece
sized header m s = record { header = header; id = m.id; must = m.must; content = front m.length s }

pub sized_costs : (header : ℕ) (m : Mark) (s s2 : Spot) (q : Piece) → sized_at header m s ≡ reading q s2 → length q.content.rest + length s2.rest ≡ length s.rest
unfolding sized_at
sized_costs header m s s2 q e =
    let g = guard_ok (nat_lt (length s.rest) m.length) (record { at = header; why = MemberSize }) (reading (sized header m s) (step m.length s)) (q, s2) e in
    let p = ok_parts (sized header m s) q (step m.length s) s2 g.1 in
    let le = ltb-false (length s.rest) m.length g.0 in
    omega (arith, step_length m.length s le, front_length m.length s le, ap (λ (z : Spot). length z.rest) p.1, ap (λ (z : Piece). length z.content.rest) p.0)

pub shifted_ok : {A : Type 0} (k : ℕ) (r : Result A Fault) (y : A) → shifted k r ≡ Ok y → r ≡ Ok y
shifted_ok k (Ok x) y e = e
shifted_ok k (Err f) y e = absurd cc

pub content_costs : (closed : Bool) (f : Spot → Reading Part) (R : Part → ℕ → Type 0) → Costs f R → (c s3 : Spot) (x : Part) → content_read closed f c ≡ reading x s3 → (u : ℕ) × (u ≤ length c.rest) × R x u
unfolding content_read
content_costs closed f R k c s3 x e =
    let b = bind_ok (f (record { at = 0; rest = c.rest })) (λ z. closed_by closed z) (x, s3) (shifted_ok c.at (f (record { at = 0; rest = c.rest }) >>= λ z. closed_by closed z) (x, s3) e) in
    let m = k (record { at = 0; rest = c.rest }) b.0.1 b.0.0 b.1 in
    by_left (nat_le (length b.0.1.rest) (cond closed 3 0)) b.0 m b.2
  where
    by_left : (t : Bool) (y : Part × Spot) → (u : ℕ) × (length c.rest ≡ u + length y.1.rest) × R y.0 u → cond t (reading y.0 (record { at = y.1.at; rest = [] })) (fault_at y.1.at LengthRest) ≡ reading x s3 → (u : ℕ) × (u ≤ length c.rest) × R x u
    by_left true y m e = let p = ok_parts y.0 x (record { at = y.1.at; rest = [] }) s3 e in (m.0, omega (arith, m.1), subst (λ (z : Part). R z m.0) p.0 m.2)
    by_left false y m e = absurd cc

pub optional1_costs : (opt : Bool) (o : Order) (E : Measure) (id : ℕ) (closed : Bool) (f g : Spot → Reading Part) → Costs f (Paid E id) → Costs g (Afforded E id) → Costs (λ s. optional1_at opt o id f (content_read closed g) s) (OnePart E)
unfolding optional1_at
optional1_costs false o E id closed f g c d s s2 x e = single E id f c s s2 x e
optional1_costs true o E id closed f g c d s s2 x e =
    let header = s.at + padding 4 s.at in
    let last = λ (q : Piece × Spot). cond (length q.0.content.rest == 0) (reading [] q.1) (content_read closed g q.0.content >>= λ y. reading ((id, y.0) ∷ []) q.1) in
    let b = bind_ok (mark_at o s) (λ m. named header id m.0 >>= λ n. checked_id header n >>= λ k. sized_at header k m.1 >>= λ q. last q) (x, s2) e in
    let n = bind_ok (named header id b.0.0) (λ n. checked_id header n >>= λ k. sized_at header k b.0.1 >>= λ q. last q) (x, s2) b.2 in
    let k = bind_ok (checked_id header n.0) (λ k. sized_at header k b.0.1 >>= λ q. last q) (x, s2) n.2 in
    let q = bind_ok (sized_at header k.0 b.0.1) last (x, s2) k.2 in
    let m = mark_costs o s b.0.1 b.0.0 b.1 in
    let z = sized_costs header k.0 b.0.1 q.0.1 q.0.0 q.1 in
    by_size (length q.0.0.content.rest == 0) q.0 b.0.1 m z q.2
  where
    by_size : (t : Bool) (q : Piece × Spot) (s1 : Spot) → (u : ℕ) × (length s.rest ≡ u + length s1.rest) × (4 ≤ u) → length q.0.content.rest + length q.1.rest ≡ length s1.rest
        → cond t (reading [] q.1) (content_read closed g q.0.content >>= λ y. reading ((id, y.0) ∷ []) q.1) ≡ reading x s2 → (u : ℕ) × (length s.rest ≡ u + length s2.rest) × OnePart E x u
    by_size true q s1 m z e = let p = ok_parts [] x q.1 s2 e in (m.0 + length q.0.content.rest, omega (arith, m.1, z, ap (λ (y : Spot). length y.rest) p.1), (omega (arith, m.2), omega (arith, m.2, ap (total_parts E) p.0)))
    by_size false q s1 m z e =
        let y = bind_ok (content_read closed g q.0.content) (λ y. reading ((id, y.0) ∷ []) q.1) (x, s2) e in
        let p = ok_parts ((id, y.0.0) ∷ []) x q.1 s2 y.2 in
        let v = content_costs closed g (Afforded E id) d q.0.content y.0.1 y.0.0 y.1 in
        (m.0 + length q.0.content.rest, omega (arith, m.1, z, ap (λ (y : Spot). length y.rest) p.1), (omega (arith, m.2), omega (arith, m.2, v.1, v.2, ap (total_parts E) p.0)))

-- ---- parameters up to the list's end

abbrev Within4 : Spot → Params → Type 0
Within4 s ps = (s1 : Spot) → ps.1 ≡ Ok s1 → lengths ps.0 + 4 + length s1.rest ≤ length s.rest

abbrev spot_of : Spot → Result Spot Fault → ℕ
spot_of d (Ok s) = length s.rest
spot_of d (Err f) = length d.rest

passed_on : (s s1 : Spot) (r : Reading Piece) (go : Spot → Params) → ((q : Piece) (s2 : Spot) → r ≡ reading q s2 → length q.content.rest + length s2.rest ≡ length s1.rest) → length s1.rest ≤ length s.rest → ((s2 : Spot) → Within4 s2 (go s2)) → Within4 s (pass_on r go)
passed_on s s1 (Err f) go k le g s3 e = absurd cc
passed_on s s1 (Ok q) go k le g s3 e = omega (arith, k q.0 q.1 refl, le, g q.1 s3 e)

taken_one : (s s1 : Spot) (r : Reading Piece) (go : Spot → Params) → ((q : Piece) (s2 : Spot) → r ≡ reading q s2 → length q.content.rest + length s2.rest ≡ length s1.rest) → length s1.rest ≤ length s.rest → ((s2 : Spot) → Within4 s2 (go s2)) → Within4 s (and_one r go)
taken_one s s1 (Err f) go k le g s3 e = absurd cc
taken_one s s1 (Ok q) go k le g s3 e = omega (arith, k q.0 q.1 refl, le, g q.1 s3 e)

one_costs : (o : Order) (s : Spot) (header : ℕ) (r : Reading Mark) (go : Spot → Params) → mark_at o s ≡ r → ((s2 : Spot) → Within4 s2 (go s2)) → Within4 s (one_param header r go)
one_costs o s header (Err f) go m g s3 e = absurd cc
one_costs o s header (Ok m) go z g s3 e = by_kind (is_end m.0) (is_ignored m.0) e
  where
    k : (u : ℕ) × (length s.rest ≡ u + length m.1.rest) × (4 ≤ u)
    k = mark_costs o s m.1 m.0 z

    checked : (q : Piece) (s2 : Spot) → (checked_id header m.0 >>= λ n. sized_at header n m.1) ≡ reading q s2 → length q.content.rest + length s2.rest ≡ length m.1.rest
    checked q s2 e = let b = bind_ok (checked_id header m.0) (λ n. sized_at header n m.1) (q, s2) e in sized_costs header b.0 m.1 s2 q b.2

    by_kind : (a b : Bool) → (cond a ([], Ok m.1) (cond b (pass_on (sized_at header m.0 m.1) go) (and_one (checked_id header m.0 >>= λ n. sized_at header n m.1) go))).1 ≡ Ok s3
        → lengths (cond a ([], Ok m.1) (cond b (pass_on (sized_at header m.0 m.1) go) (and_one (checked_id header m.0 >>= λ n. sized_at header n m.1) go))).0 + 4 + length s3.rest ≤ length s.rest
    by_kind true b e = omega (arith, k.1, k.2, ap (spot_of s) e)
    by_kind false true e = passed_on s m.1 (sized_at header m.0 m.1) go (λ q s2 y. sized_costs header m.0 m.1 s2 q y) (omega (arith, k.1)) g s3 e
    by_kind false false e = taken_one s m.1 (checked_id header m.0 >>= λ n. sized_at header n m.1) go checked (omega (arith, k.1)) g s3 e

params_costs : (o : Order) (n : ℕ) (s : Spot) → Within4 s (params_at o n s)
unfolding params_at
params_costs o zero s s3 e = absurd cc
params_costs o (suc n) s s3 e = one_costs o s (s.at + padding 4 s.at) (mark_at o s) (λ s1. params_at o n s1) refl (λ s2. params_costs o n s2) s3 e

abbrev Parts : Type 0
Parts = List (ℕ × Part) × Bool

pub params_read_costs : (o : Order) (E : Measure) (known : ℕ → Option (Spot → Reading Part)) → Known E known → Costs (params_read o known) (λ r u. (1 ≤ u) × (total_parts E r.0 + 128 ≤ 128 * u))
params_read_costs o E known K s s2 r e =
    let ps = params_at o (suc (length s.rest)) s in
    let b = bind_ok (contents known [] ps.0 (fault_of ps.1)) (λ r. ps.1 >>= λ s1. reading r s1) (r, s2) e in
    let c = bind_ok ps.1 (λ s1. reading b.0 s1) (r, s2) b.2 in
    let p = ok_parts b.0 r c.0 s2 c.2 in
    let k = params_costs o (suc (length s.rest)) s c.0 c.1 in
    let m = contents_costs E known K [] ps.0 (fault_of ps.1) b.0 b.1 in
    (length s.rest - length s2.rest, omega (arith, k, ap (λ (z : Spot). length z.rest) p.1), (omega (arith, k, ap (λ (z : Spot). length z.rest) p.1), omega (arith, k, m, ap (λ (z : Spot). length z.rest) p.1, ap (λ (z : Parts). total_parts E z.0) p.0)))
