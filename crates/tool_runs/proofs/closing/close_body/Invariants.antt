use Rattle.std.proofs.Common.{◌≡◌, ◌≤◌}
use Rattle.tool_runs.specs.output.Runs.{coming, turns_left, MayGo}
use Rattle.tool_runs.proofs.Ended.{EndAlike}
use Rattle.tool_runs.proofs.closing.close_body.Given as goal

abbrev pub invariant-records : goal.invariant-records
invariant-records g l = record {
  ready : MayGo l.next l.reader;
  alike : EndAlike (coming l.initial.next l.initial.reader) (coming l.next l.reader);
  later : l.initial.reader.faults ≤ l.reader.faults;
  same : l.reader.name ≡ l.initial.reader.name;
}

abbrev pub decreases-records : goal.decreases-records
decreases-records g l = turns_left l.next l.reader.may_follow
