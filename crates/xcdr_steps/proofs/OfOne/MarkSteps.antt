-- The headers of parameters, part by part.
use Rattle.std.proofs.Common.{◌≡◌, refl, sym, ap, subst, ◌∙◌, ℕ, ◌+◌, ◌-◌, ◌%◌, ◌^◌, ◌≤◌, ◌<◌, Bool, true, false, cond, ◌==◌, nat_lt, List, ◌++◌, length, take, drop, Result, Ok, Err, arith, inl, inr, add_assoc, length-take, length-drop}
use Rattle.std.proofs.Math.Seq.{take-add, drop-append_seam}
use Rattle.std.proofs.lemmas.List.{drop-drop, drop-take, take-append-le}
use Rattle.std.proofs.lemmas.Bool.{cases_Bool, le-ltb, lt-ltb, ltb-true, ltb-false}
use Rattle.xt_shapes.specs.declared.leaves.Order.{Order}
use Rattle.xcdr_model.specs.declared.malformed.Why.TheVariants as why
use Rattle.xcdr_model.specs.Numbers.{number, padding}
use Rattle.xcdr_model.specs.Reading.{Spot, Reading, fault_at, ◌>>=◌, step, octets_at}
use Rattle.xcdr_model.specs.Xcdr1Reading.{Mark, block_at, mark_at, first_octets, short_mark, long_mark}
use Rattle.xt_wire.specs.cursor.Steps.{align_at}
use Rattle.xt_wire.specs.cursor.Standing.{Standing, Stands, room}
use Rattle.xt_wire.proofs.OfCursor.Ahead.{Ahead, begins, rephrased, room_is}
use Rattle.xcdr_steps.specs.one.Marks.{mark_view, opening_view, opening_at, long_at, behind_opening, told_long, placed_mark, marked_at}
use Rattle.xcdr_steps.specs.declared.one.marks.Mark as program
use Rattle.xcdr_steps.specs.declared.one.marks.Opening.{Opening}
use Rattle.xt_wire.specs.declared.cursor.faults.DecodeFault.{DecodeFault}
use Rattle.xt_wire.specs.cursor.Decoding.{Decodes}

-- ---- steps

step_step : (n m : ℕ) (s : Spot) → step m (step n s) ≡ step (n + m) s
unfolding step
step_step n m s = rw (add_assoc s.at n m, drop-drop m n s.rest) (ap (λ (k : ℕ). record { at = s.at + (n + m); rest = drop k s.rest }) (omega arith))

step_at : (n : ℕ) (s : Spot) → (step n s).at ≡ s.at + n
unfolding step
step_at n s = refl

step_rest : (n : ℕ) (s : Spot) → (step n s).rest ≡ drop n s.rest
unfolding step
step_rest n s = refl

step_left : (n : ℕ) (s : Spot) → length (step n s).rest ≡ length s.rest - n
unfolding step
step_left n s = length-drop n s.rest

-- ---- octets behind their padding

pub block_parts : (n : ℕ) (o : Order) (s : Spot) → block_at n s ≡ (align_at 4 o s >>= λ x. octets_at n x.1)
unfolding block_at octets_at ◌>>=◌
block_parts n o s =
    let pad = padding 4 s.at in
    elim (cases_Bool (nat_lt (length s.rest) pad)) [
      | inl few ↦ (
          let lt : length s.rest < pad = ltb-true _ _ few in
          let also : nat_lt (length s.rest) (pad + n) ≡ true = lt-ltb _ _ (omega arith) in
          rw (few, also) (ap (λ (k : ℕ). Err (record { at = s.at + k; why = why.Short })) (omega arith)))
      | inr enough ↦ (
          let le : pad ≤ length s.rest = ltb-false _ _ enough in
          let left : length (step pad s).rest ≡ length s.rest - pad = step_left pad s in
          elim (cases_Bool (nat_lt (length s.rest) (pad + n))) [
            | inl few ↦ (
                let lt : length s.rest < pad + n = ltb-true _ _ few in
                let also : nat_lt (length (step pad s).rest) n ≡ true = lt-ltb _ _ (omega arith) in
                rw (enough, few, also, step_at pad s) (ap (λ (k : ℕ). Err (record { at = s.at + k; why = why.Short })) (omega arith)))
            | inr many ↦ (
                let ge : pad + n ≤ length s.rest = ltb-false _ _ many in
                let also : nat_lt (length (step pad s).rest) n ≡ false = le-ltb _ _ (omega arith) in
                rw (enough, many, also, ← step_step pad n s, step_rest pad s) refl)
          ])
    ]

-- ---- with the place of the first

abbrev pub at_block : ℕ → List ℕ × Spot → Reading (ℕ × List ℕ)
at_block p h = Ok ((p, h.0), h.1)

block_step : (p : ℕ) (r : Reading (Unit {0})) → ((x : Unit {0} × Spot) → r ≡ Ok x → x.1.at ≡ p) → ((r >>= λ x. octets_at 4 x.1) >>= at_block p) ≡ (r >>= λ x. octets_at 4 x.1 >>= at_block x.1.at)
unfolding ◌>>=◌
block_step p (Ok x) at = ap (λ (n : ℕ). octets_at 4 x.1 >>= at_block n) (sym (at x refl))
block_step p (Err f) at = refl

abbrev place_in : Reading (Unit {0}) → ℕ
place_in (Ok x) = x.1.at
place_in (Err f) = 0

going_case : (t : Bool) (n at : ℕ) (s : Spot) (x : Unit {0} × Spot) → cond t (fault_at at why.Short) (Ok (tt, step n s)) ≡ Ok x → x.1.at ≡ s.at + n
going_case true n at s x e = absurd cc
going_case false n at s x e = ap (λ (r : Reading (Unit {0})). place_in r) (sym e) ∙ step_at n s

pub opening_parts : (o : Order) (s : Spot) → opening_at o s ≡ (align_at 4 o s >>= λ x. octets_at 4 x.1 >>= at_block x.1.at)
opening_parts o s =
    ap (λ (r : Reading (List ℕ)). r >>= at_block (s.at + padding 4 s.at)) (block_parts 4 o s)
    ∙ block_step (s.at + padding 4 s.at) (align_at 4 o s) (λ x e. going_case (nat_lt (length s.rest) (padding 4 s.at)) (padding 4 s.at) (s.at + length s.rest) s x e)

-- ---- the extended form

second : (h x : List ℕ) → length h ≡ 4 → take 2 (drop 2 (h ++ x)) ≡ take 2 (drop 2 h)
second h x four =
    sym (drop-take 2 2 (h ++ x)) ∙ ap (drop 2) (take-append-le 4 h x (omega (arith, four))) ∙ drop-take 2 2 h

-- four octets were read, and eight are still to read
long_parts : (o : Order) (s : Spot) → nat_lt (length s.rest) (padding 4 s.at + 4) ≡ false
    → (block_at 12 s >>= λ x. cond (number o (take 2 (drop 2 x.0)) == 8) (Ok (long_mark o x.0, x.1)) (fault_at (s.at + padding 4 s.at) why.Parameter)) ≡ long_at (s.at + padding 4 s.at, take 4 (drop (padding 4 s.at) s.rest)) o (step (padding 4 s.at + 4) s)
unfolding block_at octets_at ◌>>=◌
long_parts o s enough =
    let pad = padding 4 s.at in
    let h = take 4 (drop pad s.rest) in
    let t = step (pad + 4) s in
    let ge : pad + 4 ≤ length s.rest = ltb-false _ _ enough in
    let left : length t.rest ≡ length s.rest - (pad + 4) = step_left (pad + 4) s in
    let four : length h ≡ 4 = omega (arith, length-take 4 (drop pad s.rest), length-drop pad s.rest, ge) in
    elim (cases_Bool (nat_lt (length s.rest) (pad + 12))) [
      | inl few ↦ (
          let lt : length s.rest < pad + 12 = ltb-true _ _ few in
          let also : nat_lt (length t.rest) 8 ≡ true = lt-ltb _ _ (omega arith) in
          rw (few, also) (ap (λ (k : ℕ). Err (record { at = s.at + k; why = why.Short })) (omega arith)))
      | inr many ↦ (
          let le : pad + 12 ≤ length s.rest = ltb-false _ _ many in
          let also : nat_lt (length t.rest) 8 ≡ false = le-ltb _ _ (omega arith) in
          let all : take 12 (drop pad s.rest) ≡ h ++ take 8 t.rest = take-add 4 8 (drop pad s.rest) ∙ ap (λ (l : List ℕ). h ++ take 8 l) (drop-drop 4 pad s.rest ∙ ap (λ (k : ℕ). drop k s.rest) (omega arith) ∙ sym (step_rest (pad + 4) s)) in
          let there : step (pad + 12) s ≡ step 8 t = ap (λ (k : ℕ). step k s) (omega arith) ∙ sym (step_step (pad + 4) 8 s) in
          rw (many, also, all, there, second h (take 8 t.rest) four) refl)
    ]

abbrev longer : Order → Spot → Reading Mark
longer o s = block_at 12 s >>= λ x. cond (number o (take 2 (drop 2 x.0)) == 8) (Ok (long_mark o x.0, x.1)) (fault_at (s.at + padding 4 s.at) why.Parameter)

by_form : (o : Order) (s : Spot) (c : Bool) → nat_lt (length s.rest) (padding 4 s.at + 4) ≡ false → let h = take 4 (drop (padding 4 s.at) s.rest) in
    let t = step (padding 4 s.at + 4) s in
    cond c (longer o s) (Ok (short_mark o h, t)) ≡ cond c (long_at (s.at + padding 4 s.at, h) o t) (Ok (short_mark o h, t))
by_form o s true enough = long_parts o s enough
by_form o s false enough = refl

pub mark_parts : (o : Order) (s : Spot) → mark_at o s ≡ (opening_at o s >>= λ x. behind_opening x.0 o x.1)
unfolding mark_at block_at ◌>>=◌
mark_parts o s = elim (cases_Bool (nat_lt (length s.rest) (padding 4 s.at + 4))) [
  | inl few ↦ rw few refl
  | inr enough ↦ rw enough (by_form o s (first_octets o (take 4 (drop (padding 4 s.at) s.rest)) % 2 ^ 14 == 0x3F01) enough)
]

-- ---- the extended form behind the first four octets

abbrev pub long_checked : ℕ × List ℕ → List ℕ → Order → Spot → Reading Mark
long_checked v x o s = cond (number o (take 2 (drop 2 v.1)) == 8) (Ok (long_mark o (v.1 ++ x), s)) (fault_at v.0 why.Parameter)

pub long_starts : (v : ℕ × List ℕ) (n : ℕ) (a : Standing) → n ≡ 8 → Stands a → 8 ≤ room a → Ahead (long_at v) (λ o s. octets_at n s >>= λ x. long_checked v x.0 o x.1) a a
long_starts v n a is st fits = rephrased (long_at v) (λ o s. octets_at n s >>= λ x. long_checked v x.0 o x.1) (begins (long_at v) (long_at v) a (λ s. refl))
    (λ xs e. let enough : nat_lt (length (take (room a) xs)) 8 ≡ false = le-ltb _ _ (omega (arith, room_is xs st e, fits)) in rw (enough, is) refl)

-- the header's last eight octets alone tell what it says
pub long_told : (o : Order) (h x : List ℕ) → length h ≡ 4 → long_mark o (h ++ x) ≡ told_long o x
long_told o h x four =
    let first : drop 4 (h ++ x) ≡ x = ap (λ (n : ℕ). drop n (h ++ x)) (sym four) ∙ drop-append_seam h x in
    let later : drop 8 (h ++ x) ≡ drop 4 x = sym (drop-drop 4 4 (h ++ x)) ∙ ap (drop 4) first in
    rw (first, later) refl

-- ---- a header with its place

marked_step : (p : ℕ) (o : Order) (r : Reading (List ℕ)) → (((r >>= at_block p) >>= λ x. behind_opening x.0 o x.1) >>= placed_mark p) ≡ ((r >>= at_block p) >>= λ x. behind_opening x.0 o x.1 >>= placed_mark x.0.0)
unfolding ◌>>=◌
marked_step p o (Ok h) = refl
marked_step p o (Err f) = refl

marked_parts : (o : Order) (s : Spot) → marked_at o s ≡ (opening_at o s >>= λ x. behind_opening x.0 o x.1 >>= placed_mark x.0.0)
marked_parts o s = ap (λ (r : Reading Mark). r >>= placed_mark (s.at + padding 4 s.at)) (mark_parts o s) ∙ marked_step (s.at + padding 4 s.at) o (block_at 4 s)

abbrev pub placed_form : ℕ × List ℕ → Order → Spot → Reading (ℕ × Mark)
placed_form v o s = behind_opening v o s >>= placed_mark v.0

abbrev pub with_place : ℕ → Mark → Order → Spot → Reading (ℕ × Mark)
with_place p m o s = placed_mark p (m, s)

pub marked_starts : (a : Standing) → Ahead marked_at (λ o s. opening_at o s >>= λ x. placed_form x.0 o x.1) a a
marked_starts a = begins marked_at _ a (λ s. marked_parts a.order s)

pub same_place : (a b c : Standing) (x : Opening) (r : Result program.Mark DecodeFault) → b.origin ≡ a.origin → Decodes mark_view (behind_opening (opening_view b x)) b c r → Decodes mark_view (behind_opening (opening_view a x)) b c r
same_place a b c x r e d = subst (λ (k : ℕ). Decodes mark_view (behind_opening (x.at - k, x.octets)) b c r) e d
