use Rattle.std.proofs.Common.{◌∙◌, ap, sym, subst, List, [], ◌++◌, ◌∷◌}
use Rattle.type_trees.specs.declared.types.HashId.{HashId}
use Rattle.type_lookup.specs.declared.messages.messages.Message.TheVariants.{GetTypes}
use Rattle.type_lookup.specs.messages.Spelling.{HasFrame, IsKnownId}
use Rattle.type_mirror.proofs.Requesting.{get_frame}
use Rattle.type_mirror.proofs.requests.get_request.Goals as goal

pub returns-clause-frame : goal.returns-clause-frame
returns-clause-frame c =
    let one = c.in_ok-push.ensures.ok ∙ ap (λ (o : List HashId). o ++ c.copy_of-id.result ∷ []) c.new-ids.ensures in
    subst (λ (o : List HashId). HasFrame (GetTypes c.args.tag o)) (sym one) (get_frame c.args.tag c.copy_of-id.result (subst IsKnownId (sym c.copy_of-id.ensures.same) c.requires) c.copy_of-id.ensures.hash)
