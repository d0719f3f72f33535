-- What the sources and sinks in memory hold (this profile's own).
use Rattle.std.specs.Prelude.{ℕ, List}
use Rattle.xt_outside.specs.declared.memory.SureSource.{SureSource}
use Rattle.xt_outside.specs.declared.memory.MemSource.{MemSource}
use Rattle.xt_outside.specs.declared.memory.MemSink.{MemSink}

abbrev pub sure_left : SureSource → List ℕ
sure_left source = source.left.now

abbrev pub source_left : MemSource → List ℕ
source_left source = source.left.now

abbrev pub source_most : MemSource → ℕ
source_most source = source.most

abbrev pub source_fails : MemSource → List ℕ
source_fails source = source.fails.now

abbrev pub source_faults : MemSource → ℕ
source_faults source = source.tally.faults

abbrev pub sink_text : MemSink → List ℕ
sink_text sink = sink.text

abbrev pub sink_most : MemSink → ℕ
sink_most sink = sink.most

abbrev pub sink_fails : MemSink → List ℕ
sink_fails sink = sink.fails.now

abbrev pub sink_faults : MemSink → ℕ
sink_faults sink = sink.tally.faults
