use Rattle.settled_parts.specs.Parts.{part_of}
use Rattle.type_trees.specs.Bridge.{type_shape}
use Rattle.type_trees.specs.View.{val}
use Rattle.try_construct.proofs.WholeSteps.{typed_outcome}
use Rattle.try_construct.proofs.projection.project.Goals as goal

pub returns-clause-typed : goal.returns-clause-typed
returns-clause-typed c =
    let kept = c.shape_keeps_rules.ensures in
    λ policy rep yes.
    typed_outcome (type_shape c.args.t1.now) (type_shape c.args.t2.now) (val c.args.value.now) c.outcome.result (part_of c.in_ok-part.part) c.outcome.ensures c.in_ok-part.ensures
    (λ w is. c.projection_typed.ensures policy rep _ _ _ w (kept _ c.requires.reader) (kept _ c.requires.writer) yes c.requires.typed is)
