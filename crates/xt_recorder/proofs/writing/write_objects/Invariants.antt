use Rattle.std.proofs.Common.{◌≡◌, ◌≤◌, ◌++◌, ℕ, List, drop}
use Rattle.xt_outside.specs.Outside.{AppendsAll}
use Rattle.xt_recorder.specs.Recordings.{object_records}
use Rattle.xt_recorder.proofs.writing.write_objects.Given as goal

-- What was written is what stands before the records that are still to write.
abbrev pub invariant-loop-id : goal.invariant-loop-id
invariant-loop-id g l = record {
  written : (octets : List ℕ) × (object_records l.pool l.ids ≡ octets ++ object_records l.pool (drop l.id-index l.ids)) × AppendsAll (g.K.Sink.taken l.fn.sink) (g.K.Sink.taken l.sink) octets;
  same : g.K.Sink.name l.sink ≡ g.K.Sink.name l.fn.sink;
  later : g.K.Sink.faults l.fn.sink ≤ g.K.Sink.faults l.sink;
}
