use Rattle.type_registry.specs.Passed.{occupied_of}
use Rattle.type_registry.proofs.Consistency.{agree_told, same_trails, trails_views}
use Rattle.type_registry.proofs.trail.Strangers.agrees.Goals as goal

pub returns : goal.returns
returns g c =
    let a = c.self.inside.path in let b = c.other.inside.path in
    trails_views (occupied_of a) (occupied_of b) c.args.self.now c.args.other.now c.self.view_is c.other.view_is
    (same_trails g.N.Naming.name a b c.levels.ensures.path c.levels-2.ensures.path c.self.invariant c.other.invariant
    (agree_told _ _ c.levels.ensures.facts c.levels-2.ensures.facts c.agrees.ensures)
    (agree_told _ _ c.cells.ensures c.cells-2.ensures c.agrees-2.ensures))
