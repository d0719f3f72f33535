use Rattle.std.proofs.Common.{◌∙◌, ap, ◌||◌}
use Rattle.xcdr_model.specs.Projection as model
use Rattle.xcdr_reader.proofs.PieceSteps.{kept_whole}
use Rattle.type_trees.specs.Bridge.{members_shape}
use Rattle.xcdr_reader.proofs.known.Known.part.Goals as goal

pub returns : goal.returns
returns c = λ ps h. c.with_unseen.ensures ∙ ap (λ (y : model.Part). (y.0, y.1 || c.args.self.unseen)) c.in_ok-part.ensures ∙ kept_whole (members_shape c.args.members.now) c.args.self ps h
