use Rattle.projection_laws.proofs.keys_cross.Goals as goal

pub returns-clause-octets : goal.returns-clause-octets
returns-clause-octets c =
    let kept = c.shape_keeps_rules.ensures in
    λ w is. (c.keys_cross.ensures _ _ _ _ _ w (kept _ c.requires.reader) (kept _ c.requires.writer) c.requires.yes c.requires.typed is).0

pub returns-clause-hash : goal.returns-clause-hash
returns-clause-hash c =
    let kept = c.shape_keeps_rules.ensures in
    λ w is. (c.keys_cross.ensures _ _ _ _ _ w (kept _ c.requires.reader) (kept _ c.requires.writer) c.requires.yes c.requires.typed is).1
