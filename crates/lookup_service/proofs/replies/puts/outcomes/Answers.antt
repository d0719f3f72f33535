use Rattle.std.proofs.Common.{◌∙◌, ◌≤◌, sym, ap, subst, arith, ℕ, length, length-append}
use Rattle.std.specs.List.{All}
use Rattle.std.proofs.lemmas.List.Elements.{All-push}
use Rattle.lookup_service.proofs.OfReplies.Putting.{grows_then, outcomes_next}
use Rattle.lookup_service.proofs.replies.puts.outcomes.Goals as goal

pub objects-preserved : goal.objects-preserved
objects-preserved g c = let i = c.objects.invariant in let p = c.in_ok-put.ensures in record {
  registry = p.grows.registry ∙ i.registry;
  outcomes = outcomes_next g.N.Naming.name c.args.pass.now c.objects.pass c.put.new.pass c.args.objects.now c.objects.object-index _ c.object-item.result _ c.objects.outcomes c.push.new.self _ c.objects-test.true c.object-item.is (omega arith) i.grows p.grows i.outcomes p.outcome c.in_ok-push.ensures.ok;
  each = subst (All (λ outcome. outcome ≤ 4)) (sym c.in_ok-push.ensures.ok) (All-push (λ outcome. outcome ≤ 4) c.objects.outcomes _ i.each p.outcome.range);
  count = omega (arith, i.count, ap length c.in_ok-push.ensures.ok, length-append {A = ℕ});
  grows = grows_then _ _ _ i.grows p.grows;
}
