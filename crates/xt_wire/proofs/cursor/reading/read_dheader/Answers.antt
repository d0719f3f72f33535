use Rattle.std.proofs.Common.{arith, Ok, refl, ◌≡◌, ◌-◌, length, take, true, false, nat_lt}
use Rattle.std.proofs.lemmas.Bool.{le-ltb, lt-ltb}
use Rattle.std.proofs.lemmas.Result.{err_from_is_err_and}
use Rattle.xcdr_model.specs.declared.malformed.Why.TheVariants as why
use Rattle.xcdr_model.specs.Reading.{dheader, fault_at, ◌>>=◌}
use Rattle.xt_wire.specs.cursor.Steps.{placed_at}
use Rattle.xt_wire.specs.cursor.Standing.{Standing, room}
use Rattle.xt_wire.specs.cursor.Placing.{placed_view}
use Rattle.xt_wire.proofs.OfCursor.Ahead.{Ahead, begins, goes_on, fails, ends, rephrased, malformed, room_is, region_count, dheader_parts}
use Rattle.xt_wire.proofs.cursor.reading.read_dheader.Goals as goal

starts : (a : Standing) → Ahead dheader (λ o s. placed_at 4 4 o s >>= λ x. region_count x.0 o x.1) a a
starts a = begins dheader _ a (λ s. dheader_parts a.order s)

pub returns-in_err-header-clause-value : goal.returns-in_err-header-clause-value
returns-in_err-header-clause-value g c =
    let a = g.C.Cursor.state c.args.cursor.now in
    let p = err_from_is_err_and c.from_residual.result c.from_residual.ensures.1 in
    rw (p.1, p.2) (fails (placed_view a) (λ n. n) (placed_at 4 4) region_count (starts a) c.in_err-header.ensures.value)

pub returns-then-region_end-place-clause-value : goal.returns-then-region_end-place-clause-value
returns-then-region_end-place-clause-value g c =
    let a = g.C.Cursor.state c.args.cursor.now in
    let b = g.C.Cursor.state c.read_placed.new.cursor in
    let h = c.in_ok-header.header in
    let d = c.in_ok-header.ensures in
    let st = g.met.C.Cursor.stands c.read_placed.new.cursor in
    let u = goes_on (placed_view a) (placed_at 4 4) region_count (starts a) d.value in
    let w = rephrased (region_count (placed_view a h)) (λ o s. fault_at (h.at - a.origin) why.Dheader) u
    (λ xs e. let short : nat_lt (length (take (room b) xs)) h.number ≡ true = lt-ltb _ _ (omega (arith, room_is xs st e, c.if-region_end-place.true, c.place.ensures, c.region_end.ensures)) in rw short refl) in
    malformed (λ n. n) (λ s. h.at - a.origin) why.Dheader w (λ xs. omega (arith, d.at, d.value.within.origin))

pub returns-clause-value : goal.returns-clause-value
returns-clause-value g c =
    let a = g.C.Cursor.state c.args.cursor.now in
    let b = g.C.Cursor.state c.read_placed.new.cursor in
    let h = c.in_ok-header.header in
    let d = c.in_ok-header.ensures in
    let st = g.met.C.Cursor.stands c.read_placed.new.cursor in
    let u = goes_on (placed_view a) (placed_at 4 4) region_count (starts a) d.value in
    let w = rephrased (region_count (placed_view a h)) (λ o s. Ok (h.number, s)) u
    (λ xs e. let long : nat_lt (length (take (room b) xs)) h.number ≡ false = le-ltb _ _ (omega (arith, room_is xs st e, c.if-region_end-place.false, c.place.ensures, c.region_end.ensures)) in rw long refl) in
    ends (λ n. n) (λ o. h.number) w refl
