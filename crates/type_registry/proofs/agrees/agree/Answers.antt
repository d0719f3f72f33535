use Rattle.std.proofs.Common.{◌≡◌, ◌++◌, ap, sym, ◌∙◌}
use Rattle.type_registry.specs.notes.Facts.{AgreeOn}
use Rattle.type_registry.specs.Found.{Consistent, found_of}
use Rattle.type_registry.proofs.Consistency.{all_consistent, finding_is, same_octets, put_together, agree_told, consistent_views, octets_views}
use Rattle.type_registry.proofs.agrees.agree.Goals as goal

pub returns-clause-octets : goal.returns-clause-octets
returns-clause-octets g c =
    let ia = c.a.inside in let ib = c.b.inside in
    let registry : ia.path.registry ≡ ib.path.registry = ap (λ f. f.registry) c.a.view_is ∙ c.requires ∙ sym (ap (λ f. f.registry) c.b.view_is) in
    let levels : AgreeOn (ia.path.levels ++ ia.level.facts) (ib.path.levels ++ ib.level.facts) = agree_told _ _ (put_together _ _ _ c.and-levels.ensures c.levels.ensures.facts c.again.ensures) (put_together _ _ _ c.and-other_levels.ensures c.levels-2.ensures.facts c.again-2.ensures) c.agrees.ensures in
    let cells : AgreeOn (ia.path.cells ++ ia.cell.facts) (ib.path.cells ++ ib.cell.facts) = agree_told _ _ (put_together _ _ _ c.and-cells.ensures c.cells.ensures c.again-3.ensures) (put_together _ _ _ c.and-other_cells.ensures c.cells-2.ensures c.again-4.ensures) c.agrees-2.ensures in
    let all : Consistent (found_of ia.path ia.entry.now) (found_of ib.path ib.entry.now) = all_consistent g.N.Naming.name ia.path ib.path ia.entry.now ib.entry.now _ _ _ _ c.a.invariant.1 c.b.invariant.1 c.levels.ensures.path c.levels-2.ensures.path c.a.invariant.2 c.b.invariant.2 registry levels cells in
    octets_views (found_of ia.path ia.entry.now) (found_of ib.path ib.entry.now) c.args.a.now c.args.b.now c.a.view_is c.b.view_is
    (same_octets g.N.Naming.name (found_of ia.path ia.entry.now) (found_of ib.path ib.entry.now) all
    (finding_is g.N.Naming.name ia.path ia.entry.now _ _ c.a.invariant.0 c.a.invariant.1 c.a.invariant.2 c.levels.ensures.path)
    (finding_is g.N.Naming.name ib.path ib.entry.now _ _ c.b.invariant.0 c.b.invariant.1 c.b.invariant.2 c.levels-2.ensures.path))

pub returns-clause-consistent : goal.returns-clause-consistent
returns-clause-consistent g c =
    let ia = c.a.inside in let ib = c.b.inside in
    let registry : ia.path.registry ≡ ib.path.registry = ap (λ f. f.registry) c.a.view_is ∙ c.requires ∙ sym (ap (λ f. f.registry) c.b.view_is) in
    let levels : AgreeOn (ia.path.levels ++ ia.level.facts) (ib.path.levels ++ ib.level.facts) = agree_told _ _ (put_together _ _ _ c.and-levels.ensures c.levels.ensures.facts c.again.ensures) (put_together _ _ _ c.and-other_levels.ensures c.levels-2.ensures.facts c.again-2.ensures) c.agrees.ensures in
    let cells : AgreeOn (ia.path.cells ++ ia.cell.facts) (ib.path.cells ++ ib.cell.facts) = agree_told _ _ (put_together _ _ _ c.and-cells.ensures c.cells.ensures c.again-3.ensures) (put_together _ _ _ c.and-other_cells.ensures c.cells-2.ensures c.again-4.ensures) c.agrees-2.ensures in
    consistent_views (found_of ia.path ia.entry.now) (found_of ib.path ib.entry.now) c.args.a.now c.args.b.now c.a.view_is c.b.view_is
    (all_consistent g.N.Naming.name ia.path ib.path ia.entry.now ib.entry.now _ _ _ _ c.a.invariant.1 c.b.invariant.1 c.levels.ensures.path c.levels-2.ensures.path c.a.invariant.2 c.b.invariant.2 registry levels cells)
