use Rattle.std.proofs.Common.{◌≡◌, ◌++◌, List, [], map, sym, ap, subst, ◌∙◌, arith}
use Rattle.std.proofs.lemmas.List.{append-nil}
use Rattle.std.specs.Prelude.{IfOk}
use Rattle.object_formats.specs.View as view
use Rattle.object_formats.proofs.Views.{of_hash, of_none}
use Rattle.pair_memo.specs.nodes.Seen as seen
use Rattle.pair_memo.specs.nodes.Seen.{inherited}
use Rattle.pair_memo.specs.nodes.Views.{part_view}
use Rattle.pair_memo.proofs.OfNodes.Levels.{inherited_hash, inherited_none}
use Rattle.pair_memo.proofs.nodes.nodes.+bases.Goals as goal

pub push_inherited-returns-in-Some : goal.push_inherited-returns-in-Some
push_inherited-returns-in-Some t c =
    let base = ap (inherited c.args.room c.args.pool.now) (ap view.identifier c.in-Hash.is ∙ of_hash c.in-Hash.id) ∙ inherited_hash c.args.pool.now c.args.room c.in-Hash.id (view.object c.in-Some.object.now) (omega (arith, c.if-room-eq0.false)) c.in-Some.ensures.found in
    subst (λ (l : List seen.Part). IfOk c.push_base.result (λ u. map part_view c.push_base.new.row ≡ map part_view c.args.row.now ++ l)) (sym base) c.push_base.ensures

pub push_inherited-returns-in-None : goal.push_inherited-returns-in-None
push_inherited-returns-in-None t c =
    let none = ap (inherited c.args.room c.args.pool.now) (ap view.identifier c.in-None.is ∙ of_none) ∙ inherited_none c.args.pool.now c.args.room in
    sym (ap (λ (l : List seen.Part). map part_view c.args.row.now ++ l) none ∙ append-nil (map part_view c.args.row.now))
