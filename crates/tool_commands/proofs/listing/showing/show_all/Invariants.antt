use Rattle.std.proofs.Common.{◌≡◌, ◌≤◌, Some, map, drop}
use Rattle.tool_runs.specs.output.Runs.{Leads}
use Rattle.tool_runs.specs.Commands.{only}
use Rattle.tool_types.specs.Declaring.{AllGood, declared_view}
use Rattle.tool_commands.specs.listing.Listing.{all_shown}
use Rattle.tool_commands.proofs.listing.showing.show_all.Given as goal

-- What was written leads to the records that are left.
abbrev pub invariant-loop-declared : goal.invariant-loop-declared
invariant-loop-declared g l = record {
  good : AllGood (drop l.declared-index l.records);
  lines : Leads (Some (only (all_shown (map declared_view l.records)))) (Some (only (all_shown (map declared_view (drop l.declared-index l.records))))) (g.K.Sink.taken l.initial.sink) (g.K.Sink.taken l.sink);
  later : g.K.Sink.faults l.initial.sink ≤ g.K.Sink.faults l.sink;
  same : g.K.Sink.name l.sink ≡ g.K.Sink.name l.initial.sink;
}
