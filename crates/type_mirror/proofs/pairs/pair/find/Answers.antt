use Rattle.std.proofs.Common.{◌+◌, sym, ap, arith, ◌∙◌, Some, List, ℕ}
use Rattle.type_mirror.proofs.OfPairs.Sides.{item_next, same_here, same_later}
use Rattle.type_mirror.proofs.pairs.pair.find.Goals as goal

pub returns-then-eq : goal.returns-then-eq
returns-then-eq c = ap (λ (o : List ℕ). Some o) c.octets.ensures ∙ sym (c.loop-object.invariant ∙ same_here c.args.id.now c.object-item.result _ _ (sym c.if-eq.ensures) (item_next c.args.objects.now c.loop-object.object-index (c.loop-object.object-index + 1) _ c.object-item.result c.object-item.is c.loop-object-test.true (omega arith)))

pub loop-object-preserved : goal.loop-object-preserved
loop-object-preserved c = c.loop-object.invariant ∙ same_later c.args.id.now c.object-item.result _ _ (sym c.if-eq.ensures) (item_next c.args.objects.now c.loop-object.object-index (c.loop-object.object-index + 1) _ c.object-item.result c.object-item.is c.loop-object-test.true (omega arith))
