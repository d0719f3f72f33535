use Rattle.projection_laws.proofs.cross_key.Goals as goal

pub returns : goal.returns
returns c =
    let kept = c.shape_keeps_rules.ensures in
    λ w is. c.cross_key.ensures _ _ _ _ _ w (kept _ c.requires.reader) (kept _ c.requires.writer) c.requires.yes c.requires.typed is
