use Rattle.std.proofs.Common.{◌/◌, ◌%◌, ◌^◌, max}
use Rattle.std.proofs.lemmas.Result.{err_from_is_err_and}
use Rattle.xt_wire.specs.cursor.Steps.{placed_at}
use Rattle.xt_wire.specs.cursor.Placing.{placed_view}
use Rattle.xt_wire.proofs.OfCursor.Ahead.{goes_on, fails, last}
use Rattle.xcdr_steps.specs.reading.Headings.{header_view}
use Rattle.xcdr_steps.specs.two.Headers.{length_at, checked_header}
use Rattle.xcdr_steps.proofs.OfAgain.Unheld.{settled, ahead_settled, settled_here}
use Rattle.xcdr_steps.proofs.OfTwo.HeaderSteps.{behind_word, header_starts, same_origin}
use Rattle.xcdr_steps.proofs.two.headers.read_header.Goals as goal

pub returns-in_err-word-clause-value : goal.returns-in_err-word-clause-value
returns-in_err-word-clause-value g c =
    let a = g.C.Cursor.state c.args.cursor.now in
    let b = g.C.Cursor.state c.read_placed.new.cursor in
    let p = err_from_is_err_and c.from_residual.result c.from_residual.ensures.1 in
    rw (p.1, p.2) (settled b.reach b (fails (placed_view a) (header_view a) (placed_at 4 4) behind_word (header_starts a) c.in_err-word.ensures.value))

pub returns-in_err-length-clause-value : goal.returns-in_err-length-clause-value
returns-in_err-length-clause-value g c =
    let a = g.C.Cursor.state c.args.cursor.now in
    let b = g.C.Cursor.state c.read_placed.new.cursor in
    let l = g.C.Cursor.state c.read_length.new.cursor in
    let v = placed_view a c.in_ok-word.word in
    let u = goes_on (placed_view a) (placed_at 4 4) behind_word (header_starts a) c.in_ok-word.ensures.value in
    let p = err_from_is_err_and c.from_residual-in_err-length.result c.from_residual-in_err-length.ensures.1 in
    rw (p.1, p.2) (settled (max b.reach l.place) l (fails (λ n. n) (header_view a) (length_at (c.in_ok-word.word.number / 2 ^ 28 % 8)) (checked_header v) u c.in_err-length.ensures.value))

pub returns-clause-value : goal.returns-clause-value
returns-clause-value g c =
    let a = g.C.Cursor.state c.args.cursor.now in
    let b = g.C.Cursor.state c.read_placed.new.cursor in
    let l = g.C.Cursor.state c.read_length.new.cursor in
    let v = placed_view a c.in_ok-word.word in
    let u = goes_on (placed_view a) (placed_at 4 4) behind_word (header_starts a) c.in_ok-word.ensures.value in
    let w = goes_on (λ n. n) (length_at (c.in_ok-word.word.number / 2 ^ 28 % 8)) (checked_header v) u c.in_ok-length.ensures.value in
    let here = settled_here (max a.reach l.place) l (same_origin a l c.in_ok-word.word c.in_ok-length.length _ (w.within.origin) c.checked.ensures.value) in
    last (header_view a) (checked_header v c.in_ok-length.length) (ahead_settled (max b.reach l.place) l w) here
