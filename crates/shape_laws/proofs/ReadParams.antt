-- What XCDR1's parameters give.
use Rattle.std.proofs.Common.{◌≡◌, ℕ, zero, suc, ◌+◌, ◌%◌, ◌^◌, Bool, true, false, cond, List, [], ◌∷◌, length, take, drop, min, Option, Some, Result, Ok, Err, refl, sym, ap, ◌∙◌, nat_lt, nat_le, ◌==◌}
use Rattle.std.proofs.lemmas.Bool.{and_from}
use Rattle.xt_shapes.specs.declared.leaves.Order.{Order}
use Rattle.xt_shapes.specs.Select.{shape_at}
use Rattle.xt_shapes.specs.Shape.{Shape, Members}
use Rattle.xcdr_model.specs.declared.malformed.Fault.{Fault}
use Rattle.xcdr_model.specs.declared.malformed.Why.TheVariants.{Short, MemberSize, LengthRest, Parameter}
use Rattle.xcdr_model.specs.Numbers.{number, padding}
use Rattle.xcdr_model.specs.Projection.{Part}
use Rattle.xcdr_model.specs.Reading.{Spot, Reading, fault_at, ◌>>=◌, step, front}
use Rattle.xcdr_model.specs.Xcdr1Reading.{Mark, block_at, first_octets, short_mark, long_mark, mark_at, is_end, is_ignored, sized_at, closed_by, content_read, checked_id, Params, pass_on, and_one, one_param, params_at, fault_of, params_read, named, optional1_at}
use Rattle.xcdr_model.specs.Xcdr2Reading.{Piece, contents}
use Rattle.shape_laws.proofs.Costs.{reading, bind_ok, guard_ok, ok_parts}
use Rattle.shape_laws.proofs.GatherTyped.{ok}
use Rattle.shape_laws.proofs.Gives.{small, Gives, small_take, small_step}
use Rattle.shape_laws.proofs.NodesParams.{shifted_ok}
use Rattle.shape_laws.proofs.ReadParts.{ok_at, parts_ok, single_gives, small_pieces, KnownOk, Parts, contents_gives}

block_gives : (n : ℕ) (s s2 : Spot) (h : List ℕ) → small s.rest ≡ true → block_at n s ≡ reading h s2 → small s2.rest ≡ true
unfolding block_at
block_gives n s s2 h k e =
    let pad = padding 4 s.at in
    let g = guard_ok (nat_lt (length s.rest) (pad + n)) (record { at = s.at + min pad (length s.rest); why = Short }) (reading (take n (drop pad s.rest)) (step (pad + n) s)) (h, s2) e in
    let p = ok_parts (take n (drop pad s.rest)) h (step (pad + n) s) s2 g.1 in
    ap (λ (z : Spot). small z.rest) (sym p.1) ∙ small_step (pad + n) s k

mark_gives : (o : Order) (s s2 : Spot) (m : Mark) → small s.rest ≡ true → mark_at o s ≡ reading m s2 → small s2.rest ≡ true
unfolding mark_at
mark_gives o s s2 m w e =
    let long = λ (x : List ℕ × Spot). cond (number o (take 2 (drop 2 x.0)) == 8) (reading (long_mark o x.0) x.1) (fault_at (s.at + padding 4 s.at) Parameter) in
    let b = bind_ok (block_at 4 s) (λ h. cond (first_octets o h.0 % 2 ^ 14 == 0x3F01) (block_at 12 s >>= λ x. long x) (reading (short_mark o h.0) h.1)) (m, s2) e in
    by_form (first_octets o b.0.0 % 2 ^ 14 == 0x3F01) b.0 b.1 b.2
  where
    by_size : (c : Bool) (x : List ℕ × Spot) → block_at 12 s ≡ Ok x → cond c (reading (long_mark o x.0) x.1) (fault_at (s.at + padding 4 s.at) Parameter) ≡ reading m s2 → small s2.rest ≡ true
    by_size true x z e = let p = ok_parts (long_mark o x.0) m x.1 s2 e in ap (λ (y : Spot). small y.rest) (sym p.1) ∙ block_gives 12 s x.1 x.0 w z
    by_size false x z e = absurd cc

    by_form : (c : Bool) (h : List ℕ × Spot) → block_at 4 s ≡ Ok h → cond c (block_at 12 s >>= λ x. cond (number o (take 2 (drop 2 x.0)) == 8) (reading (long_mark o x.0) x.1) (fault_at (s.at + padding 4 s.at) Parameter)) (reading (short_mark o h.0) h.1) ≡ reading m s2 → small s2.rest ≡ true
    by_form true h z e =
        let b = bind_ok (block_at 12 s) (λ x. cond (number o (take 2 (drop 2 x.0)) == 8) (reading (long_mark o x.0) x.1) (fault_at (s.at + padding 4 s.at) Parameter)) (m, s2) e in
        by_size (number o (take 2 (drop 2 b.0.0)) == 8) b.0 b.1 b.2
    by_form false h z e = let p = ok_parts (short_mark o h.0) m h.1 s2 e in ap (λ (y : Spot). small y.rest) (sym p.1) ∙ block_gives 4 s h.1 h.0 w z

abbrev sized : ℕ → Mark → Spot → Piece
sized header m s = record { header = header; id = m.id; must = m.must; content = front m.length s }

sized_gives : (header : ℕ) (m : Mark) (s s2 : Spot) (q : Piece) → small s.rest ≡ true → sized_at header m s ≡ reading q s2 → (small q.content.rest ≡ true) × (small s2.rest ≡ true)
unfolding sized_at
sized_gives header m s s2 q h e =
    let g = guard_ok (nat_lt (length s.rest) m.length) (record { at = header; why = MemberSize }) (reading (sized header m s) (step m.length s)) (q, s2) e in
    let p = ok_parts (sized header m s) q (step m.length s) s2 g.1 in
    (ap (λ (z : Piece). small z.content.rest) (sym p.0) ∙ small_take m.length s.rest h, ap (λ (z : Spot). small z.rest) (sym p.1) ∙ small_step m.length s h)

pub content_gives : (closed : Bool) (t : Shape) (f : Spot → Reading Part) → Gives f (λ x. ok t x.0 ≡ true) → (c s3 : Spot) (x : Part) → small c.rest ≡ true → content_read closed f c ≡ reading x s3 → ok t x.0 ≡ true
unfolding content_read
content_gives closed t f k c s3 x h e =
    let b = bind_ok (f (record { at = 0; rest = c.rest })) (λ z. closed_by closed z) (x, s3) (shifted_ok c.at (f (record { at = 0; rest = c.rest }) >>= λ z. closed_by closed z) (x, s3) e) in
    by_left (nat_le (length b.0.1.rest) (cond closed 3 0)) b.0 (k (record { at = 0; rest = c.rest }) b.0.1 b.0.0 h b.1).1 b.2
  where
    by_left : (w : Bool) (y : Part × Spot) → ok t y.0.0 ≡ true → cond w (reading y.0 (record { at = y.1.at; rest = [] })) (fault_at y.1.at LengthRest) ≡ reading x s3 → ok t x.0 ≡ true
    by_left true y m e = let p = ok_parts y.0 x (record { at = y.1.at; rest = [] }) s3 e in ap (λ (z : Part). ok t z.0) (sym p.0) ∙ m
    by_left false y m e = absurd cc

pub optional1_gives : (opt : Bool) (o : Order) (whole : Members) (id : ℕ) (t : Shape) (closed : Bool) (f g : Spot → Reading Part) → shape_at whole id ≡ Some t → Gives f (λ x. ok t x.0 ≡ true) → Gives g (λ x. ok t x.0 ≡ true) → Gives (λ s. optional1_at opt o id f (content_read closed g) s) (λ ps. parts_ok whole ps ≡ true)
unfolding optional1_at
optional1_gives false o whole id t closed f g a c d s s2 x h e = single_gives whole id t f a c s s2 x h e
optional1_gives true o whole id t closed f g a c d s s2 x h e =
    let header = s.at + padding 4 s.at in
    let last = λ (q : Piece × Spot). cond (length q.0.content.rest == 0) (reading [] q.1) (content_read closed g q.0.content >>= λ y. reading ((id, y.0) ∷ []) q.1) in
    let b = bind_ok (mark_at o s) (λ m. named header id m.0 >>= λ n. checked_id header n >>= λ k. sized_at header k m.1 >>= λ q. last q) (x, s2) e in
    let n = bind_ok (named header id b.0.0) (λ n. checked_id header n >>= λ k. sized_at header k b.0.1 >>= λ q. last q) (x, s2) b.2 in
    let k = bind_ok (checked_id header n.0) (λ k. sized_at header k b.0.1 >>= λ q. last q) (x, s2) n.2 in
    let q = bind_ok (sized_at header k.0 b.0.1) last (x, s2) k.2 in
    let z = sized_gives header k.0 b.0.1 q.0.1 q.0.0 (mark_gives o s b.0.1 b.0.0 h b.1) q.1 in
    by_size (length q.0.0.content.rest == 0) q.0 z.0 z.1 q.2
  where
    by_size : (w : Bool) (q : Piece × Spot) → small q.0.content.rest ≡ true → small q.1.rest ≡ true → cond w (reading [] q.1) (content_read closed g q.0.content >>= λ y. reading ((id, y.0) ∷ []) q.1) ≡ reading x s2 → (small s2.rest ≡ true) × (parts_ok whole x ≡ true)
    by_size true q m z e = let p = ok_parts [] x q.1 s2 e in (ap (λ (y : Spot). small y.rest) (sym p.1) ∙ z, ap (parts_ok whole) (sym p.0))
    by_size false q m z e =
        let y = bind_ok (content_read closed g q.0.content) (λ y. reading ((id, y.0) ∷ []) q.1) (x, s2) e in
        let p = ok_parts ((id, y.0.0) ∷ []) x q.1 s2 y.2 in
        (ap (λ (y : Spot). small y.rest) (sym p.1) ∙ z, ap (parts_ok whole) (sym p.0) ∙ and_from (ok_at (shape_at whole id) y.0.0.0) true (ap (λ (r : Option Shape). ok_at r y.0.0.0) a ∙ content_gives closed t g d q.0.content y.0.1 y.0.0 m y.1) refl)

-- ---- parameters up to the list's end

abbrev GivesParams : Params → Type 0
GivesParams ps = (s1 : Spot) → ps.1 ≡ Ok s1 → (small_pieces ps.0 ≡ true) × (small s1.rest ≡ true)

abbrev small_spot : Result Spot Fault → Bool
small_spot (Ok s) = small s.rest
small_spot (Err f) = true

passed_on : (r : Reading Piece) (go : Spot → Params) → ((q : Piece) (s2 : Spot) → r ≡ reading q s2 → (small q.content.rest ≡ true) × (small s2.rest ≡ true)) → ((s2 : Spot) → small s2.rest ≡ true → GivesParams (go s2)) → GivesParams (pass_on r go)
passed_on (Err f) go k g s3 e = absurd cc
passed_on (Ok q) go k g s3 e = g q.1 (k q.0 q.1 refl).1 s3 e

taken_one : (r : Reading Piece) (go : Spot → Params) → ((q : Piece) (s2 : Spot) → r ≡ reading q s2 → (small q.content.rest ≡ true) × (small s2.rest ≡ true)) → ((s2 : Spot) → small s2.rest ≡ true → GivesParams (go s2)) → GivesParams (and_one r go)
taken_one (Err f) go k g s3 e = absurd cc
taken_one (Ok q) go k g s3 e = let m = k q.0 q.1 refl in let n = g q.1 m.1 s3 e in (and_from (small q.0.content.rest) (small_pieces (go q.1).0) m.0 n.0, n.1)

one_gives : (o : Order) (s : Spot) (header : ℕ) (r : Reading Mark) (go : Spot → Params) → small s.rest ≡ true → mark_at o s ≡ r → ((s2 : Spot) → small s2.rest ≡ true → GivesParams (go s2)) → GivesParams (one_param header r go)
one_gives o s header (Err f) go h m g s3 e = absurd cc
one_gives o s header (Ok m) go h z g s3 e = by_kind (is_end m.0) (is_ignored m.0) e
  where
    k : small m.1.rest ≡ true
    k = mark_gives o s m.1 m.0 h z

    checked : (q : Piece) (s2 : Spot) → (checked_id header m.0 >>= λ n. sized_at header n m.1) ≡ reading q s2 → (small q.content.rest ≡ true) × (small s2.rest ≡ true)
    checked q s2 e = let b = bind_ok (checked_id header m.0) (λ n. sized_at header n m.1) (q, s2) e in sized_gives header b.0 m.1 s2 q k b.2

    by_kind : (a b : Bool) → (cond a ([], Ok m.1) (cond b (pass_on (sized_at header m.0 m.1) go) (and_one (checked_id header m.0 >>= λ n. sized_at header n m.1) go))).1 ≡ Ok s3
        → (small_pieces (cond a ([], Ok m.1) (cond b (pass_on (sized_at header m.0 m.1) go) (and_one (checked_id header m.0 >>= λ n. sized_at header n m.1) go))).0 ≡ true) × (small s3.rest ≡ true)
    by_kind true b e = (refl, ap small_spot (sym e) ∙ k)
    by_kind false true e = passed_on (sized_at header m.0 m.1) go (λ q s2 y. sized_gives header m.0 m.1 s2 q k y) g s3 e
    by_kind false false e = taken_one (checked_id header m.0 >>= λ n. sized_at header n m.1) go checked g s3 e

params_give : (o : Order) (n : ℕ) (s : Spot) → small s.rest ≡ true → GivesParams (params_at o n s)
unfolding params_at
params_give o zero s h s3 e = absurd cc
params_give o (suc n) s h s3 e = one_gives o s (s.at + padding 4 s.at) (mark_at o s) (λ s1. params_at o n s1) h refl (λ s2 k. params_give o n s2 k) s3 e

pub params_read_gives : (o : Order) (whole : Members) (known : ℕ → Option (Spot → Reading Part)) → KnownOk whole known → Gives (params_read o known) (λ r. parts_ok whole r.0 ≡ true)
params_read_gives o whole known K s s2 r h e =
    let ps = params_at o (suc (length s.rest)) s in
    let b = bind_ok (contents known [] ps.0 (fault_of ps.1)) (λ r. ps.1 >>= λ s1. reading r s1) (r, s2) e in
    let c = bind_ok ps.1 (λ s1. reading b.0 s1) (r, s2) b.2 in
    let p = ok_parts b.0 r c.0 s2 c.2 in
    let k = params_give o (suc (length s.rest)) s h c.0 c.1 in
    (ap (λ (z : Spot). small z.rest) (sym p.1) ∙ k.1, ap (λ (z : Parts). parts_ok whole z.0) (sym p.0) ∙ contents_gives whole known K [] ps.0 (fault_of ps.1) b.0 k.0 b.1)
