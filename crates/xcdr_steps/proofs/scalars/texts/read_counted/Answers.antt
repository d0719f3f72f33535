use Rattle.std.proofs.Common.{rules, arith, refl, ap, ◌∙◌, ◌≡◌, ℕ, Bool, List, Ok, ◌-◌, true, false, not, ◌||◌, ◌++◌, ◌==◌, nat_lt, length, take}
use Rattle.std.proofs.lemmas.Bool.{lt-ltb}
use Rattle.std.proofs.Math.Seq.{take-append_seam}
use Rattle.std.proofs.lemmas.Result.{err_from_is_err_and}
use Rattle.xt_shapes.specs.Lists.{has}
use Rattle.xcdr_model.specs.declared.malformed.Why.TheVariants.{Short, Str}
use Rattle.xcdr_model.specs.Reading.{fault_at, octets_at, ◌>>=◌}
use Rattle.xt_wire.specs.cursor.Standing.{room}
use Rattle.xt_wire.specs.cursor.Placing.{placed_view}
use Rattle.xt_wire.proofs.OfCursor.Ahead.{begins, goes_on, fails, ends, rephrased, malformed, room_is}
use Rattle.xcdr_steps.specs.scalars.Texts.{counted_text}
use Rattle.xcdr_steps.proofs.OfScalars.TextSteps.{text_octets, text_checked}
use Rattle.xcdr_steps.proofs.scalars.texts.read_counted.Goals as goal

-- a list that was written whole
written : (n : ℕ) (xs ys : List ℕ) → n ≡ length xs → take n (xs ++ ys) ≡ xs
written n xs ys e = rw e (take-append_seam xs ys)

no_text : (b r : Bool) → r ≡ not b → r ≡ false → b ≡ true
no_text true r e z = refl
no_text false r e z = absurd cc

a_text : (b r : Bool) → r ≡ not b → r ≡ true → b ≡ false
a_text true r e z = absurd cc
a_text false r e z = refl

pub returns-then-region_end-at : goal.returns-then-region_end-at
unfolding octets_at ◌>>=◌
returns-then-region_end-at g c =
    let a = g.C.Cursor.state c.args.cursor.now in
    let st = g.met.C.Cursor.stands c.args.cursor.now in
    let v = placed_view a c.args.count in
    let w = rephrased (counted_text v) (λ o s. fault_at s.at Short) (begins (counted_text v) (counted_text v) a (λ s. refl))
    (λ xs e. let few : nat_lt (length (take (room a) xs)) c.args.count.number ≡ true = lt-ltb _ _ (omega (arith, room_is xs st e, c.if-region_end-at.true, c.place-at.ensures, c.region_end.ensures)) in rw few refl) in
    malformed (λ v. v.items) (λ s. s.at) Short w (λ xs. omega (arith, c.place-at.ensures, st.from_origin))

pub returns-in_err-read_octets : goal.returns-in_err-read_octets
returns-in_err-read_octets g c =
    let a = g.C.Cursor.state c.args.cursor.now in
    let v = placed_view a c.args.count in
    let into = c.read_octets.new.into in
    let full : length into ≡ c.args.count.number = omega (arith, c.read_octets.auto.into, c.deref_mut.ensures.len, c.in_ok-octets.ensures.len) in
    let p = err_from_is_err_and c.from_residual-in_err-read_octets.result c.from_residual-in_err-read_octets.ensures.1 in
    rw (p.1, p.2) (fails (λ u. into) (λ v. v.items) (λ o s. octets_at (length into) s) (text_checked v) (text_octets v (length into) a full) c.in_err-read_octets.ensures)

abbrev has_nul : List ℕ → Bool
has_nul t = has (λ b. b == 0) t

pub returns-then-not-is_text : goal.returns-then-not-is_text
unfolding ◌>>=◌
returns-then-not-is_text g c =
    let a = g.C.Cursor.state c.args.cursor.now in
    let v = placed_view a c.args.count in
    let into = c.read_octets.new.into in
    let full : length into ≡ c.args.count.number = omega (arith, c.read_octets.auto.into, c.deref_mut.ensures.len, c.in_ok-octets.ensures.len) in
    let read : c.deref.result.now ≡ into = c.deref.ensures.value ∙ written c.in_ok-octets.octets.len into _ (omega (arith, full, c.in_ok-octets.ensures.len)) in
    let u = goes_on (λ u. into) (λ o s. octets_at (length into) s) (text_checked v) (text_octets v (length into) a full) c.in_ok-read_octets.ensures in
    let bad : (has_nul (take (c.args.count.number - 1) into) || not (has_nul into)) ≡ true = rw read at (no_text (has_nul (take (c.args.count.number - 1) c.deref.result.now) || not (has_nul c.deref.result.now)) c.is_text.result c.is_text.ensures (search rules)) in
    let w = rephrased (text_checked v into) (λ o s. fault_at v.0 Str) u (λ xs e. rw bad refl) in
    malformed (λ v. v.items) (λ s. v.0) Str w (λ xs. omega (arith, c.requires.at, c.in_ok-read_octets.ensures.within.origin))

pub returns : goal.returns
unfolding ◌>>=◌
returns g c =
    let a = g.C.Cursor.state c.args.cursor.now in
    let v = placed_view a c.args.count in
    let into = c.read_octets.new.into in
    let full : length into ≡ c.args.count.number = omega (arith, c.read_octets.auto.into, c.deref_mut.ensures.len, c.in_ok-octets.ensures.len) in
    let read : c.deref.result.now ≡ into = c.deref.ensures.value ∙ written c.in_ok-octets.octets.len into _ (omega (arith, full, c.in_ok-octets.ensures.len)) in
    let u = goes_on (λ u. into) (λ o s. octets_at (length into) s) (text_checked v) (text_octets v (length into) a full) c.in_ok-read_octets.ensures in
    let fine : (has_nul (take (c.args.count.number - 1) into) || not (has_nul into)) ≡ false = rw read at (a_text (has_nul (take (c.args.count.number - 1) c.deref.result.now) || not (has_nul c.deref.result.now)) c.is_text.result c.is_text.ensures (search rules)) in
    let w = rephrased (text_checked v into) (λ o s. Ok (take (c.args.count.number - 1) into, s)) u (λ xs e. rw fine refl) in
    ends (λ v. v.items) (λ o. take (c.args.count.number - 1) into) w (c.truncate.ensures.items ∙ ap (take (c.args.count.number - 1)) (written c.in_ok-octets.octets.len into _ (omega (arith, full, c.in_ok-octets.ensures.len))))
