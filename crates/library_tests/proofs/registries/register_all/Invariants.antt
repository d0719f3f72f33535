use Rattle.std.proofs.Common.{◌≡◌}
use Rattle.std.specs.Prelude.{All}
use Rattle.type_registry.specs.Found.{Found}
use Rattle.library_tests.proofs.registries.register_all.Given as goal

abbrev pub invariant-loop-i : goal.invariant-loop-i
invariant-loop-i g l = (l.pass.registry ≡ l.registry) × All (λ (f : Found). f.registry ≡ l.registry) l.found.items
