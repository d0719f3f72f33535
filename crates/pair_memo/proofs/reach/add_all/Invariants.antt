use Rattle.std.proofs.Common.{◌≡◌, drop}
use Rattle.type_object.specs.References.{noted}
use Rattle.pair_memo.proofs.reach.add_all.Given as goal

abbrev pub invariant-loop-id : goal.invariant-loop-id
invariant-loop-id l = noted l.ids.keys (drop l.id-index l.more) ≡ noted l.fn.ids.keys l.more
