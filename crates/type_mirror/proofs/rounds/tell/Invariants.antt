use Rattle.std.proofs.Common.{◌≡◌, ◌≤◌, ◌+◌, List, drop}
use Rattle.type_lookup.specs.declared.messages.messages.Fetched.{Fetched}
use Rattle.type_mirror.specs.told.Rounds.{settled, paired}
use Rattle.type_mirror.specs.Steps.{GoingOver}
use Rattle.type_mirror.proofs.rounds.tell.Given as goal

-- Those so far were told, and the rounds go on with the outcomes that are left.
abbrev pub invariant-objects : goal.invariant-objects
invariant-objects g l = record {
  going : (rest : List Fetched) → GoingOver g.N.Naming.name l.initial.tag (settled l.initial.told (paired l.objects l.outcomes) rest) l.tag (settled l.told (paired (drop l.index l.objects) (drop l.index l.outcomes)) rest) (g.L.Link.got l.initial.link) (g.L.Link.got l.link) (g.L.Link.left l.initial.link) (g.L.Link.left l.link) (g.L.Link.taken l.initial.link) (g.L.Link.taken l.link);
  most : l.tag ≤ l.initial.tag + l.index;
  later : g.L.Link.faults l.initial.link ≤ g.L.Link.faults l.link;
  same : g.L.Link.name l.link ≡ g.L.Link.name l.initial.link;
}
