use Rattle.std.proofs.Common.{◌≡◌, ◌≤◌, ◌+◌, None, length}
use Rattle.tool_runs.specs.front.Fronts.{most_octets}
use Rattle.tool_runs.specs.front.Reading.{AreWithin}
use Rattle.tool_runs.proofs.OfFront.Fronting.{Progress}
use Rattle.tool_runs.proofs.front.front.read_front.Given as goal

abbrev pub invariant-records : goal.invariant-records
invariant-records g l = record {
  sized : AreWithin l.records;
  good : l.reader.fault ≡ None;
  front : Progress l.initial.reader.ahead l.records l.total l.reader.ahead;
  few : length l.records + l.reader.may_follow ≤ l.initial.reader.may_follow;
  within : l.total ≤ most_octets;
  later : l.initial.reader.faults ≤ l.reader.faults;
  same : l.reader.name ≡ l.initial.reader.name;
}

abbrev pub decreases-records : goal.decreases-records
decreases-records g l = l.reader.may_follow
