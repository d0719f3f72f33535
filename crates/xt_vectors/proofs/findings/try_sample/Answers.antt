use Rattle.std.proofs.Common.{ap, ◌∙◌}
use Rattle.type_trees.specs.Bridge.{type_shape}
use Rattle.xcdr_model.specs.Samples.{read_sample}
use Rattle.xt_vectors.specs.Pairs.{posed}
use Rattle.xt_vectors.proofs.findings.try_sample.Goals as goal

pub read-requires-clause-told : goal.read-requires-clause-told
read-requires-clause-told c =
    ap (read_sample c.args.pair.now.rep (type_shape c.args.pair.now.reader)) (c.octets-2.ensures ∙ c.in_ok-sink.ensures.text) ∙ c.read_is_projected.ensures (posed c.args.pair.now) c.requires.sound c.requires.yes c.in_ok-sink.ensures.short
