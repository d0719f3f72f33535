use Rattle.std.proofs.Common.{◌≡◌, ◌≤◌, ◌+◌, ◌*◌, [], length}
use Rattle.std.specs.List.{All}
use Rattle.type_mirror.specs.told.Rounds.{start}
use Rattle.type_mirror.specs.told.Pushes.{IsOwn}
use Rattle.type_mirror.specs.Steps.{GoingOver}
use Rattle.type_mirror.proofs.pushes.push.Given as goal

-- The rounds so far, over the link as it was and as it is.
abbrev pub invariant-batches : goal.invariant-batches
invariant-batches g l = record {
  going : GoingOver g.N.Naming.name 1 (start l.objects) l.tag (record { told = l.told; asking = []; rest = l.rest }) (g.L.Link.got l.initial.link) (g.L.Link.got l.link) (g.L.Link.left l.initial.link) (g.L.Link.left l.link) (g.L.Link.taken l.initial.link) (g.L.Link.taken l.link);
  own : All (IsOwn g.N.Naming.name) l.rest;
  most : l.tag + 2 * length l.rest ≤ 1 + 2 * length l.objects;
  later : g.L.Link.faults l.initial.link ≤ g.L.Link.faults l.link;
  same : g.L.Link.name l.link ≡ g.L.Link.name l.initial.link;
}

abbrev pub decreases-batches : goal.decreases-batches
decreases-batches g l = length l.rest
