use Rattle.std.proofs.Common.{ap, ◌∙◌, subst, Ok, Err}
use Rattle.type_trees.specs.Bridge.{type_shape}
use Rattle.settled_parts.specs.Settling.{outcome_val}
use Rattle.xt_wire.specs.declared.cursor.faults.DecodeFault.{DecodeFault}
use Rattle.xt_wire.specs.cursor.Decoding.{Decodes}
use Rattle.xt_wire.specs.cursor.Slices.{at_start, slice_state}
use Rattle.xt_wire.specs.cursor.Standing.{Standing}
use Rattle.xcdr_samples.specs.Samples.{sample_outcome}
use Rattle.xt_vectors.specs.Findings.{of_outcome}
use Rattle.xt_vectors.proofs.Readings.{value_found, no_fault_found}
use Rattle.xt_vectors.proofs.findings.read.Goals as goal

pub returns-in-Ok : goal.returns-in-Ok
returns-in-Ok c =
    let t = type_shape c.args.pair.now.reader in
    let read = subst (λ (a : Standing). Decodes outcome_val (sample_outcome c.args.pair.now.rep t) a (slice_state c.read_sample.new.cursor) (Ok c.in-Ok.outcome)) c.new-cursor.ensures c.in-Ok.ensures.value in
    c.finding_of.ensures ∙ ap of_outcome (value_found c.args.pair.now.rep t c.args.sample.now _ c.in-Ok.outcome _ c.requires.told read)

pub unreachable-requires : goal.unreachable-requires
unreachable-requires c =
    let t = type_shape c.args.pair.now.reader in
    let read = subst (λ (a : Standing). Decodes outcome_val (sample_outcome c.args.pair.now.rep t) a (slice_state c.read_sample.new.cursor) (Err c.in-Err-Malformed.field-0)) c.new-cursor.ensures c.in-Err-Malformed.ensures.value in
    let fault = subst (λ (d : DecodeFault). Decodes outcome_val (sample_outcome c.args.pair.now.rep t) (at_start c.args.sample.now) (slice_state c.read_sample.new.cursor) (Err d)) c.in-Err-Malformed.field-0-is read in
    no_fault_found c.args.pair.now.rep t c.args.sample.now _ _ _ _ c.requires.told fault
