use Rattle.projection_laws.proofs.cross.Goals as goal

pub returns : goal.returns
returns c =
    let kept = c.shape_keeps_rules.ensures in
    λ o spelled. c.cross.ensures _ _ o _ _ _ _ (kept _ c.requires.reader) (kept _ c.requires.writer) c.requires.yes spelled
