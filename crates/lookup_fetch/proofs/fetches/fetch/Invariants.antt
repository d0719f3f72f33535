use Rattle.std.proofs.Common.{◌≡◌, ◌≤◌}
use Rattle.lookup_fetch.specs.Steps.{GoingOver}
use Rattle.lookup_fetch.proofs.fetches.fetch.Given as goal

-- The rounds so far, over the link as it was and as it is.
abbrev pub invariant-rounds : goal.invariant-rounds
invariant-rounds g l = record {
  going : GoingOver l.ids l.tag l.held (g.L.Link.got l.initial.link) (g.L.Link.got l.link) (g.L.Link.left l.initial.link) (g.L.Link.left l.link) (g.L.Link.taken l.initial.link) (g.L.Link.taken l.link);
  later : g.L.Link.faults l.initial.link ≤ g.L.Link.faults l.link;
  same : g.L.Link.name l.link ≡ g.L.Link.name l.initial.link;
}
