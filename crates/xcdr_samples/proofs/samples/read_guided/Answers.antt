use Rattle.std.proofs.lemmas.Result.{err_from_is_err_and}
use Rattle.type_trees.specs.Bridge.{type_shape}
use Rattle.settled_parts.specs.Settling.{outcome_val}
use Rattle.xcdr_samples.proofs.OfFrames.Samples.{sample_unbegun, sample_fails, sample_ends, sample_unended, sample_end, may_end}
use Rattle.xcdr_reader.specs.Bodies.{value_outcome}
use Rattle.xcdr_samples.proofs.Bodies.{by_parts}
use Rattle.xcdr_samples.proofs.Outcomes.{sample_typed, sample_light}
use Rattle.xcdr_samples.proofs.samples.read_guided.Goals as goal

pub returns-in_err-sample-clause-value : goal.returns-in_err-sample-clause-value
returns-in_err-sample-clause-value g c =
    let t = type_shape c.args.reader.now in
    let p = err_from_is_err_and c.from_residual.result c.from_residual.ensures.1 in
    rw (p.1, p.2) (by_parts outcome_val c.args.rep t c.top_of.result c.body_is_value.ensures c.top_of.ensures (sample_unbegun outcome_val c.args.rep c.top_of.result (value_outcome c.args.rep t) c.in_err-sample.ensures.fault))

pub returns-in_err-outcome-clause-value : goal.returns-in_err-outcome-clause-value
returns-in_err-outcome-clause-value g c =
    let t = type_shape c.args.reader.now in
    let p = err_from_is_err_and c.from_residual-in_err-outcome.result c.from_residual-in_err-outcome.ensures.1 in
    rw (p.1, p.2) (by_parts outcome_val c.args.rep t c.top_of.result c.body_is_value.ensures c.top_of.ensures (sample_fails outcome_val outcome_val c.args.rep c.top_of.result (value_outcome c.args.rep t) c.in_ok-sample.ensures.begun c.in_err-outcome.ensures.value))

pub close_sample-requires : goal.close_sample-requires
close_sample-requires g c = may_end (g.met.C.Cursor.stands c.open_sample.new.cursor) c.in_ok-sample.ensures.begun c.in_ok-outcome.ensures.value.within c.in_ok-outcome.ensures.value.later

pub returns-in_err-close_sample-clause-value : goal.returns-in_err-close_sample-clause-value
returns-in_err-close_sample-clause-value g c =
    let t = type_shape c.args.reader.now in
    let p = err_from_is_err_and c.from_residual-in_err-close_sample.result c.from_residual-in_err-close_sample.ensures.1 in
    rw (p.1, p.2) (by_parts outcome_val c.args.rep t c.top_of.result c.body_is_value.ensures c.top_of.ensures (sample_unended outcome_val c.args.rep c.top_of.result (value_outcome c.args.rep t) (g.met.C.Cursor.stands c.decode_guided.new.cursor) c.in_ok-sample.ensures.begun c.in_ok-outcome.ensures.value c.in_err-close_sample.ensures))

pub returns-clause-whole : goal.returns-clause-whole
returns-clause-whole g c = sample_end c.in_ok-sample.ensures.begun c.in_ok-close_sample.ensures

pub returns-clause-value : goal.returns-clause-value
returns-clause-value g c =
    let t = type_shape c.args.reader.now in
    by_parts outcome_val c.args.rep t c.top_of.result c.body_is_value.ensures c.top_of.ensures (sample_ends outcome_val c.args.rep c.top_of.result (value_outcome c.args.rep t) (g.met.C.Cursor.stands c.decode_guided.new.cursor) c.in_ok-sample.ensures.begun c.in_ok-outcome.ensures.value c.in_ok-close_sample.ensures)

pub returns-clause-typed : goal.returns-clause-typed
returns-clause-typed g c =
    let t = type_shape c.args.reader.now in
    let kept = c.shape_keeps_rules.ensures _ c.requires.valid in
    sample_typed outcome_val c.args.rep t (λ s v small is. c.sample_typed.ensures c.args.rep t s v kept small is)
    (by_parts outcome_val c.args.rep t c.top_of.result c.body_is_value.ensures c.top_of.ensures (sample_ends outcome_val c.args.rep c.top_of.result (value_outcome c.args.rep t) (g.met.C.Cursor.stands c.decode_guided.new.cursor) c.in_ok-sample.ensures.begun c.in_ok-outcome.ensures.value c.in_ok-close_sample.ensures))

pub returns-clause-light : goal.returns-clause-light
returns-clause-light g c =
    let t = type_shape c.args.reader.now in
    let kept = c.shape_keeps_rules.ensures _ c.requires.valid in
    sample_light outcome_val c.args.rep t (g.met.C.Cursor.stands c.args.cursor.now) (sample_end c.in_ok-sample.ensures.begun c.in_ok-close_sample.ensures) (λ s v is. c.sample_nodes_bound.ensures c.args.rep t s v kept is)
    (by_parts outcome_val c.args.rep t c.top_of.result c.body_is_value.ensures c.top_of.ensures (sample_ends outcome_val c.args.rep c.top_of.result (value_outcome c.args.rep t) (g.met.C.Cursor.stands c.decode_guided.new.cursor) c.in_ok-sample.ensures.begun c.in_ok-outcome.ensures.value c.in_ok-close_sample.ensures))
