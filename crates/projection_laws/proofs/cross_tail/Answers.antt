use Rattle.projection_laws.proofs.cross_tail.Goals as goal

pub returns : goal.returns
returns c =
    let kept = c.shape_keeps_rules.ensures in
    λ o p spelled. c.cross_tail.ensures _ _ o _ _ _ p _ (kept _ c.requires.reader) (kept _ c.requires.writer) c.requires.fits spelled
