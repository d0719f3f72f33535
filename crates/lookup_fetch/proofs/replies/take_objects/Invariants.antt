use Rattle.std.proofs.Common.{◌≡◌, ◌++◌, [], map, take, drop}
use Rattle.lookup_fetch.specs.Rounds.{fault_in, text_of}
use Rattle.lookup_fetch.specs.Taking.{AreNew}
use Rattle.lookup_fetch.proofs.replies.take_objects.Given as goal

abbrev pub invariant-objects : goal.invariant-objects
invariant-objects l = record {
  held : l.held ≡ l.initial.held ++ map text_of (take l.object-index l.objects);
  new : AreNew l.held l.asked l.before;
  faults : fault_in l.asked [] l.objects ≡ fault_in l.asked l.before (drop l.object-index l.objects);
}
