use Rattle.std.proofs.Common.{◌≡◌, ◌≤◌, length, take}
use Rattle.std.specs.List.{All}
use Rattle.type_registry.specs.Passed.{known, Grows}
use Rattle.lookup_service.specs.replies.Replies.{AreOutcomes}
use Rattle.lookup_service.proofs.replies.puts.outcomes.Given as goal

abbrev pub invariant-objects : goal.invariant-objects
invariant-objects g l = record {
  registry : l.pass.registry ≡ l.initial.pass.registry;
  outcomes : AreOutcomes g.N.Naming.name (known l.initial.pass) l.pass (take l.object-index l.objects) l.outcomes;
  each : All (λ outcome. outcome ≤ 4) l.outcomes;
  count : length l.outcomes ≡ l.object-index;
  grows : Grows l.initial.pass l.pass;
}
