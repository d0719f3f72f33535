use Rattle.std.proofs.Common.{◌++◌, ◌∷◌, [], ap, ◌∙◌, arith, take, sym}
use Rattle.std.proofs.lemmas.List.{take_more}
use Rattle.object_writer.proofs.Writes.{none_yet, one_more}
use Rattle.object_writer.proofs.writer.Writer.each.Goals as goal

pub loop-part-init : goal.loop-part-init
loop-part-init g c = none_yet (g.P.Part.format c.args.form) _ _ _ g.P.Part.none_seen

pub loop-part-preserved : goal.loop-part-preserved
loop-part-preserved g c =
    let xs = c.args.parts.now in
    let i = c.loop-part.part-index in
    one_more (g.P.Part.format c.args.form) (g.P.Part.all_seen (take i xs)) _ (g.P.Part.seen c.part-item.result) _ _ _ c.loop-part.invariant c.in_ok-write.ensures
    (ap g.P.Part.all_seen (take_more xs i c.part-item.result (omega (arith, c.loop-part-test.true)) ∙ ap (λ x. take i xs ++ x ∷ []) (sym c.part-item.is)) ∙ g.P.Part.one_more (take i xs) c.part-item.result)
