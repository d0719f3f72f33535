use Rattle.std.proofs.Common.{◌≡◌, take, map}
use Rattle.object_walks.specs.Resolving.{literal_of}
use Rattle.object_walks.proofs.leaves.literals_of.Given as goal

abbrev pub invariant-loop-literal : goal.invariant-loop-literal
invariant-loop-literal l = l.row ≡ map literal_of (take l.literal-index l.literals)
