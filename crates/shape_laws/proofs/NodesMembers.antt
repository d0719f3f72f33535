-- What the members of a MUTABLE structure measure is paid for by their contents.
use Rattle.std.proofs.Common.{◌≡◌, ℕ, zero, suc, ◌+◌, ◌-◌, ◌*◌, ◌/◌, ◌%◌, ◌^◌, ◌≤◌, Bool, true, false, cond, ◌||◌, List, [], ◌∷◌, length, Option, Some, None, Result, Ok, Err, refl, ap, arith, nat_lt, ◌==◌}
use Rattle.std.proofs.lemmas.Bool.{ltb-false}
use Rattle.xt_shapes.specs.declared.leaves.Order.{Order}
use Rattle.xt_shapes.specs.Lists.{has}
use Rattle.xcdr_model.specs.declared.malformed.Fault.{Fault}
use Rattle.xcdr_model.specs.declared.malformed.Why.TheVariants.{MemberSize, MemberId, Twice}
use Rattle.xcdr_model.specs.Projection.{Part}
use Rattle.xcdr_model.specs.Reading.{Spot, Reading, fault_at, ◌>>=◌, step, number_at, front, is_used_up}
use Rattle.xcdr_model.specs.Xcdr2Reading.{holder, Piece, content_at, piece_at, ends, and_more, pieces_at, content_of, contents, members_at}
use Rattle.shape_laws.proofs.Costs.{reading, bind_ok, guard_ok, ok_parts, number_costs, step_length, front_length, used_up_ok}
use Rattle.shape_laws.proofs.PartCosts.{Measure, total_parts}

abbrev pub lengths : List Piece → ℕ
lengths [] = 0
lengths (q ∷ qs) = length q.content.rest + lengths qs

count_costs : (o : Order) (code : ℕ) (s s2 : Spot) (n : ℕ) → content_at o code s ≡ reading n s2 → length s2.rest ≤ length s.rest
count_costs o code s s2 n e = by_code (nat_lt code 4) (code == 4) e
  where
    by_code : (c d : Bool) → cond c (Ok (2 ^ code, s)) (number_at 4 o 4 s >>= λ m. cond d (Ok m) (Ok (4 + m.0 * cond (code == 5) 1 (cond (code == 6) 4 8), s))) ≡ reading n s2 → length s2.rest ≤ length s.rest
    by_code true d e = (let p = ok_parts (2 ^ code) n s s2 e in omega (arith, ap (λ (z : Spot). length z.rest) p.1))
    by_code false true e =
        let b = bind_ok (number_at 4 o 4 s) (λ m. Ok m) (n, s2) e in
        let k = number_costs 4 o 4 s b.0.1 b.0.0 b.1 in
        let p = ok_parts b.0.0 n b.0.1 s2 b.2 in omega (arith, k.1, ap (λ (z : Spot). length z.rest) p.1)
    by_code false false e =
        let b = bind_ok (number_at 4 o 4 s) (λ m. reading (4 + m.0 * cond (code == 5) 1 (cond (code == 6) 4 8)) s) (n, s2) e in
        let p = ok_parts (4 + b.0.0 * cond (code == 5) 1 (cond (code == 6) 4 8)) n s s2 b.2 in omega (arith, ap (λ (z : Spot). length z.rest) p.1)

abbrev made : Order → Spot → ℕ → ℕ × Spot → Piece
made o s h n = record { header = holder 4 4 s; id = h % 2 ^ 28; must = h / 2 ^ 31 == 1; content = front n.0 n.1 }

piece_costs : (o : Order) (s s2 : Spot) (q : Piece) → piece_at o s ≡ reading q s2 → length q.content.rest + length s2.rest ≤ length s.rest
unfolding piece_at
piece_costs o s s2 q e =
    let last = λ (h : ℕ) (n : ℕ × Spot). cond (h % 2 ^ 28 == 2 ^ 28 - 1) (fault_at (holder 4 4 s) MemberId) (cond (nat_lt (length n.1.rest) n.0) (fault_at (holder 4 4 s) MemberSize) (reading (made o s h n) (step n.0 n.1))) in
    let b = bind_ok (number_at 4 o 4 s) (λ h. content_at o (h.0 / 2 ^ 28 % 8) h.1 >>= λ n. last h.0 n) (q, s2) e in
    let c = bind_ok (content_at o (b.0.0 / 2 ^ 28 % 8) b.0.1) (λ n. last b.0.0 n) (q, s2) b.2 in
    let g = guard_ok (b.0.0 % 2 ^ 28 == 2 ^ 28 - 1) (record { at = holder 4 4 s; why = MemberId }) (cond (nat_lt (length c.0.1.rest) c.0.0) (fault_at (holder 4 4 s) MemberSize) (reading (made o s b.0.0 c.0) (step c.0.0 c.0.1))) (q, s2) c.2 in
    let d = guard_ok (nat_lt (length c.0.1.rest) c.0.0) (record { at = holder 4 4 s; why = MemberSize }) (reading (made o s b.0.0 c.0) (step c.0.0 c.0.1)) (q, s2) g.1 in
    let p = ok_parts (made o s b.0.0 c.0) q (step c.0.0 c.0.1) s2 d.1 in
    let le = ltb-false (length c.0.1.rest) c.0.0 d.0 in
    let k = number_costs 4 o 4 s b.0.1 b.0.0 b.1 in
    omega (arith, k.1, count_costs o (b.0.0 / 2 ^ 28 % 8) b.0.1 c.0.1 c.0.0 c.1, step_length c.0.0 c.0.1 le, front_length c.0.0 c.0.1 le, ap (λ (z : Spot). length z.rest) p.1, ap (λ (z : Piece). length z.content.rest) p.0)

pieces_costs : (o : Order) (n : ℕ) (s : Spot) → lengths (pieces_at o n s).0 ≤ length s.rest
unfolding pieces_at
pieces_costs o zero s = omega arith
pieces_costs o (suc n) s = by_end (ends s) (λ s2. pieces_costs o n s2)
  where
    more : (r : Reading Piece) → piece_at o s ≡ r → ((s2 : Spot) → lengths (pieces_at o n s2).0 ≤ length s2.rest) → lengths (and_more r (λ s1. pieces_at o n s1)).0 ≤ length s.rest
    more (Err f) e go = omega arith
    more (Ok q) e go = omega (arith, piece_costs o s q.1 q.0 e, go q.1)

    by_end : (c : Bool) → ((s2 : Spot) → lengths (pieces_at o n s2).0 ≤ length s2.rest) → lengths (cond c ([], None) (and_more (piece_at o s) (λ s1. pieces_at o n s1))).0 ≤ length s.rest
    by_end true go = omega arith
    by_end false go = more (piece_at o s) refl go

-- what a member's reading may build
abbrev pub Known : Measure → (ℕ → Option (Spot → Reading Part)) → Type 0
Known E known = (id : ℕ) (f : Spot → Reading Part) → known id ≡ Some f → (s s2 : Spot) (x : Part) → f s ≡ reading x s2 → E id x.0 ≤ 128 * length s.rest

abbrev Parts : Type 0
Parts = List (ℕ × Part) × Bool

pub contents_costs : (E : Measure) (known : ℕ → Option (Spot → Reading Part)) → Known E known → (seen : List ℕ) (qs : List Piece) (end : Option Fault) (r : Parts) → contents known seen qs end ≡ Ok r → total_parts E r.0 ≤ 128 * lengths qs
unfolding contents
contents_costs E known K seen [] None r e = omega (arith, ap parts_of e)
  where
    parts_of : Result Parts Fault → ℕ
    parts_of (Ok x) = total_parts E x.0
    parts_of (Err f) = 0
contents_costs E known K seen [] (Some f) r e = absurd cc
contents_costs E known K seen (q ∷ qs) end r e = by_known (known q.id) refl (λ seen2 r2 e2. contents_costs E known K seen2 qs end r2 e2) e
  where
    parts_of : Result Parts Fault → ℕ
    parts_of (Ok x) = total_parts E x.0
    parts_of (Err f) = 0

    by_known : (k : Option (Spot → Reading Part)) → known q.id ≡ k → ((seen2 : List ℕ) (r2 : Parts) → contents known seen2 qs end ≡ Ok r2 → total_parts E r2.0 ≤ 128 * lengths qs)
        → content_of k seen q (λ seen2. contents known seen2 qs end) ≡ Ok r → total_parts E r.0 ≤ 128 * lengths (q ∷ qs)
    by_known None k go e =
        let b = bind_ok (contents known seen qs end) (λ z. Ok (z.0, q.must || z.1)) r e in
        omega (arith, go seen b.0 b.1, ap parts_of b.2)
    by_known (Some f) k go e =
        let seen2 = q.id ∷ seen in
        let tail = λ (y : Part). contents known seen2 qs end >>= λ z. Ok ((q.id, y) ∷ z.0, z.1) in
        let g = guard_ok (has (λ i. i == q.id) seen) (record { at = q.header; why = Twice }) (f q.content >>= λ x. is_used_up x >>= λ y. tail y) r e in
        let a = bind_ok (f q.content) (λ x. is_used_up x >>= λ y. tail y) r g.1 in
        let b = bind_ok (is_used_up a.0) tail r a.2 in
        let c = bind_ok (contents known seen2 qs end) (λ z. Ok ((q.id, b.0) ∷ z.0, z.1)) r b.2 in
        let u = used_up_ok a.0 b.0 b.1 in
        omega (arith, go seen2 c.0 c.1, K q.id f k q.content a.0.1 a.0.0 a.1, ap (λ (y : Part). E q.id y.0) u.1, ap parts_of c.2)

pub members_costs : (o : Order) (E : Measure) (known : ℕ → Option (Spot → Reading Part)) → Known E known → (s s2 : Spot) (r : Parts) → members_at o known s ≡ reading r s2 → total_parts E r.0 ≤ 128 * length s.rest
members_costs o E known K s s2 r e =
    let ps = pieces_at o (length s.rest) s in
    let b = bind_ok (contents known [] ps.0 ps.1) (λ z. reading z s) (r, s2) e in
    let p = ok_parts b.0 r s s2 b.2 in
    omega (arith, contents_costs E known K [] ps.0 ps.1 b.0 b.1, pieces_costs o (length s.rest) s, ap (λ (z : Parts). total_parts E z.0) p.0)
