use Rattle.try_construct.specs.Found.{LacksBetween}
use Rattle.try_construct.proofs.found.index_between.Given as goal

abbrev pub invariant-loop-at : goal.invariant-loop-at
invariant-loop-at l = LacksBetween l.members l.id l.start l.at
