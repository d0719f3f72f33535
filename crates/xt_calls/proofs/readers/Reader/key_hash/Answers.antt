use Rattle.std.proofs.Common.{arith}
use Rattle.type_trees.specs.View.{tree}
use Rattle.type_trees.specs.Bridge.{type_shape}
use Rattle.settled_parts.specs.Settling.{outcome_val}
use Rattle.type_values.proofs.ListTests.{octets_are}
use Rattle.xt_calls.proofs.Keyed.{has_key}
use Rattle.xt_calls.proofs.readers.Reader.key_hash.Goals as goal

pub as_hash-requires-clause-key : goal.as_hash-requires-clause-key
as_hash-requires-clause-key c =
    let self = c.args.self.now in
    let limits = c.is_within_limits.ensures (tree self.ty) self.valid in
    has_key self.rep (type_shape self.ty) c.args.sample.now (outcome_val c.in-Ok.outcome) c.sample_typed.ensures c.key_octets_bound.ensures (c.shape_keeps_rules.ensures (tree self.ty) self.valid) limits.2 (octets_are c.args.sample.now c.type_inv.sample) (omega (arith, c.if-sample-gt1048576.false)) c.in-Ok.ensures
