use Rattle.std.proofs.Common.{Result, sym, subst}
use Rattle.type_trees.specs.View.{tree}
use Rattle.type_trees.specs.Bridge.{type_shape}
use Rattle.type_values.proofs.ListTests.{octets_are}
use Rattle.settled_parts.specs.Settling.{outcome_val}
use Rattle.tool_samples.specs.instances.Holding.{held_val, shown_as}
use Rattle.xcdr_model.specs.declared.malformed.Fault.{Fault}
use Rattle.xcdr_model.specs.Samples.{Outcome}
use Rattle.tool_samples.specs.instances.Instancing.{outcome_turn}
use Rattle.tool_samples.specs.instances.Keeping.{Keeps}
use Rattle.tool_samples.proofs.OfInstances.Turned.{was_read, passed_over, has_key}
use Rattle.tool_samples.proofs.instances.putting.put_general.Goals as goal

pub put_outcome-requires-clause-key : goal.put_outcome-requires-clause-key
put_outcome-requires-clause-key c =
    let t = tree c.args.ty.now in
    has_key outcome_val c.args.rep (type_shape c.args.ty.now) c.args.payload.now c.in-Ok.outcome c.sample_typed.ensures c.key_octets_bound.ensures (c.shape_keeps_rules.ensures t c.requires.valid) (c.is_within_limits.ensures t c.requires.valid).2
    (octets_are c.args.payload.now c.type_inv.payload) c.requires.size c.new-cursor.ensures c.in-Ok.ensures.value

pub returns-in-Ok-clause-put : goal.returns-in-Ok-clause-put
returns-in-Ok-clause-put c =
    let t = tree c.args.ty.now in
    let read = was_read outcome_val c.args.rep (type_shape c.args.ty.now) c.args.payload.now c.in-Ok.outcome c.new-cursor.ensures c.in-Ok.ensures.value in
    subst (λ (q : Result Outcome Fault). Keeps (outcome_turn c.args.cache.now.depth t (shown_as (held_val c.args.rep t) c.args.cache.now) q) (shown_as (held_val c.args.rep t) c.put_outcome.new.cache) c.put_outcome.result) (sym read) (c.put_outcome.ensures.put c.args.rep)

pub returns-in-Err-Malformed-clause-put : goal.returns-in-Err-Malformed-clause-put
returns-in-Err-Malformed-clause-put c = passed_over outcome_val c.args.cache.now.depth c.args.rep (tree c.args.ty.now) (shown_as (held_val c.args.rep (tree c.args.ty.now)) c.args.cache.now) c.args.payload.now c.in-Err-Malformed.field-0-0 c.in-Err-Malformed.field-0-1 c.new-cursor.ensures (rw c.in-Err-Malformed.field-0-is at c.in-Err-Malformed.ensures.value)
