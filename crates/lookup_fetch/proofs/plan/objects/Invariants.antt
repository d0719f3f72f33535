use Rattle.std.proofs.Common.{drop}
use Rattle.std.specs.List.{All}
use Rattle.lookup_fetch.specs.Plans.{IsOwn}
use Rattle.lookup_fetch.specs.Rounds.{found_in}
use Rattle.lookup_fetch.proofs.Reaching.{Gathers}
use Rattle.lookup_fetch.proofs.plan.objects.Given as goal

abbrev pub invariant-met : goal.invariant-met
invariant-met l = record {
  gathers : Gathers (found_in l.held) l.met l.objects (drop l.id-index l.met);
  own : All IsOwn l.objects;
}
