use Rattle.std.proofs.Common.{◌≡◌}
use Rattle.std.proofs.lemmas.List.Elements.{All-push, All-same}
use Rattle.type_registry.specs.Found.{Found}
use Rattle.library_tests.proofs.registries.register_all.Goals as goal

pub loop-i-preserved : goal.loop-i-preserved
loop-i-preserved g c = let P : Found → Type 0 = λ f. f.registry ≡ c.args.registry.now in
    (c.finding_of.ensures.pass, All-same P _ _ c.in_ok-push.ensures.items (All-push P c.loop-i.found.items c.in_ok-finding.finding c.loop-i.invariant.1 c.in_ok-finding.ensures.finding))
