use Rattle.std.proofs.Common.{◌≡◌, take}
use Rattle.std.specs.List.{All}
use Rattle.tool_nets.proofs.OfServing.Entered.{HasFound}
use Rattle.tool_nets.proofs.serving.doors.pass_of.Given as goal

-- The pass knows so many.
abbrev pub invariant-loop-finding : goal.invariant-loop-finding
invariant-loop-finding l = record {
  registry : l.pass.registry ≡ l.registry;
  found : All (HasFound l.pass) (take l.finding-index l.findings);
}
