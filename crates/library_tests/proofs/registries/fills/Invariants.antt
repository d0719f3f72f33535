use Rattle.std.proofs.Common.{◌≡◌}
use Rattle.library_tests.proofs.registries.fills.Given as goal

abbrev pub invariant-loop-last : goal.invariant-loop-last
invariant-loop-last l = l.pass.registry ≡ l.registry
