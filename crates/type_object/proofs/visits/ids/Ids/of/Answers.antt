use Rattle.std.proofs.Common.{◌∙◌, sym, arith, refl, drop}
use Rattle.std.proofs.Math.Seq.{drop-length}
use Rattle.type_object.proofs.OfVisits.Among.{holds_none, holds_more, holds_past, holds_all}
use Rattle.type_object.proofs.OfVisits.Left.{next_item}
use Rattle.type_object.proofs.visits.ids.Ids.of.Goals as goal

pub ids-init : goal.ids-init
ids-init c = holds_none c.new-set.result c.args.ids.now c.new-set.ensures

pub ids-preserved-then-contains : goal.ids-preserved-then-contains
ids-preserved-then-contains c = holds_past c.ids.set c.args.ids.now _ _ _ (next_item c.args.ids.now c.ids.id-index _ _ c.ids-test.true (omega arith)) (sym c.contains.ensures ∙ c.if-contains.true) c.ids.invariant

pub ids-preserved : goal.ids-preserved
ids-preserved c = holds_more c.ids.set c.add.new.self c.args.ids.now _ _ _ c.in_ok-add.ensures.ok (next_item c.args.ids.now c.ids.id-index _ _ c.ids-test.true (omega arith)) c.ids.invariant
