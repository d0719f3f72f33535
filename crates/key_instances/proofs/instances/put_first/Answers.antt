use Rattle.std.proofs.Common.{◌++◌, ◌∷◌, [], map, ap, ◌∙◌}
use Rattle.key_instances.specs.Held.{held}
use Rattle.key_instances.proofs.Places.{put_last}
use Rattle.key_instances.proofs.instances.put_first.Goals as goal

pub returns-in-Ok-insert-clause-ok : goal.returns-in-Ok-insert-clause-ok
returns-in-Ok-insert-clause-ok g c =
    ap (map held) c.in-Ok-insert.ensures.entries ∙ put_last c.args.key c.args.entries.now c.in-Ok.entry c.requires ∙ ap (λ vs. map held c.args.entries.now.entries ++ (c.args.key, vs) ∷ []) c.in-Ok.ensures
