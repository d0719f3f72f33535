use Rattle.std.proofs.Common.{◌≡◌, drop}
use Rattle.type_mirror.specs.pairs.Pairs.{object_at}
use Rattle.type_mirror.proofs.pairs.pair.find.Given as goal

-- It is none of those so far.
abbrev pub invariant-loop-object : goal.invariant-loop-object
invariant-loop-object l = object_at l.id l.objects ≡ object_at l.id (drop l.object-index l.objects)
