use Rattle.std.proofs.Common.{◌≡◌}
use Rattle.xt_vectors.specs.Types.{literals_before}
use Rattle.xt_vectors.proofs.types.literals.Given as goal

abbrev pub invariant-loop-number : goal.invariant-loop-number
invariant-loop-number l = l.literals ≡ literals_before l.number
