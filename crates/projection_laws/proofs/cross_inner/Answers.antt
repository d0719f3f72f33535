use Rattle.projection_laws.proofs.cross_inner.Goals as goal

pub returns : goal.returns
returns c =
    let kept = c.shape_keeps_rules.ensures in
    λ o p rest spelled. c.cross_inner.ensures _ _ o _ _ _ p _ rest (kept _ c.requires.reader) (kept _ c.requires.writer) c.requires.strong spelled
