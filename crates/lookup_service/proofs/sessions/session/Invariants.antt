use Rattle.std.proofs.Common.{◌≡◌, ◌≤◌, ◌*◌}
use Rattle.type_registry.specs.Passed.{Grows}
use Rattle.lookup_service.specs.Sessions.{AreAsked}
use Rattle.lookup_service.proofs.Going.{Going}
use Rattle.lookup_service.proofs.sessions.session.Given as goal

abbrev pub invariant-requests : goal.invariant-requests
invariant-requests g l = record {
  going : Going g.N.Naming.name l.initial.pass l.pass (g.L.Link.got l.initial.link) (g.L.Link.got l.link) (g.L.Link.left l.initial.link) (g.L.Link.left l.link) (g.L.Link.taken l.initial.link) (g.L.Link.taken l.link) l.number l.at;
  asked : AreAsked (g.G.Gate.asked l.gate) l.number;
  registry : l.pass.registry ≡ l.initial.pass.registry;
  grows : Grows l.initial.pass l.pass;
  later : g.L.Link.faults l.initial.link ≤ g.L.Link.faults l.link;
  same : g.L.Link.name l.link ≡ g.L.Link.name l.initial.link;
  small : l.at ≤ l.number * 262148;
}
