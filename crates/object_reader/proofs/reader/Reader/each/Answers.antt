use Rattle.std.proofs.Common.{sym, ap, ◌∙◌, arith}
use Rattle.std.proofs.lemmas.Result.{err_from_is_err_and}
use Rattle.object_reader.proofs.Loops.{stops, goes_on, starts, front_done}
use Rattle.object_reader.proofs.reader.Reader.each.Goals as goal

pub loop-init : goal.loop-init
loop-init g c = starts (g.P.Part.format c.args.form) (g.P.Part.all_seen c.new-row.result) _ _ (ap g.P.Part.all_seen c.new-row.ensures ∙ g.P.Part.none_seen)

pub returns-in_err-part : goal.returns-in_err-part
returns-in_err-part g c =
    let p = err_from_is_err_and c.from_residual.result c.from_residual.ensures.1 in
    rw (p.1, p.2) (stops (g.P.Part.format c.args.form) (g.P.Part.all_seen c.loop.row) _ _ _ _ (omega (arith, c.loop-test.true)) c.in_err-part.ensures c.loop.invariant)

pub loop-preserved : goal.loop-preserved
loop-preserved g c = goes_on (g.P.Part.format c.args.form) (g.P.Part.all_seen c.loop.row) _ (g.P.Part.seen c.in_ok-part.part) _ _ _ _ _ c.loop-test.true (ap g.P.Part.all_seen c.in_ok-push.ensures ∙ g.P.Part.one_more c.loop.row c.in_ok-part.part) c.in_ok-part.ensures c.loop.invariant

pub returns : goal.returns
returns g c = sym c.loop.invariant ∙ front_done (g.P.Part.format c.args.form) (g.P.Part.all_seen c.loop.row) _ _ (omega (arith, c.loop-test.false))
