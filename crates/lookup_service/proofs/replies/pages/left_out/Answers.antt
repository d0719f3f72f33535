use Rattle.std.proofs.Common.{◌∙◌, sym, ap, arith, drop, not, length, length-append}
use Rattle.type_trees.specs.declared.types.HashId.{HashId}
use Rattle.type_object.specs.References.{is_among}
use Rattle.type_object.proofs.OfVisits.Left.{left_past, left_more, left_full, left_all, next_item, past_end}
use Rattle.lookup_service.proofs.replies.pages.left_out.Goals as goal

pub ids-preserved-then-contains : goal.ids-preserved-then-contains
ids-preserved-then-contains c = record {
  left = left_past (λ id. not (is_among id c.args.set.now)) c.args.ids.now c.ids.left _ _ _ (next_item c.args.ids.now c.ids.id-index _ _ c.ids-test.true (omega arith)) (ap not (sym c.contains.ensures ∙ c.if-contains.true)) c.ids.invariant.left;
  few = c.ids.invariant.few;
}

pub ids-preserved : goal.ids-preserved
ids-preserved c = record {
  left = left_more (λ id. not (is_among id c.args.set.now)) c.args.ids.now c.ids.left _ _ _ c.push.new.self c.in_ok-push.ensures.ok (next_item c.args.ids.now c.ids.id-index _ _ c.ids-test.true (omega arith)) (ap not (sym c.contains.ensures ∙ c.if-contains.false)) c.ids.invariant.left;
  few = let l = c.len.ensures in omega (arith, l, ap length c.in_ok-push.ensures.ok, length-append {A = HashId});
}

pub returns-then-len-ge-MOST_NEEDED-clause-left : goal.returns-then-len-ge-MOST_NEEDED-clause-left
returns-then-len-ge-MOST_NEEDED-clause-left c = left_full (λ id. not (is_among id c.args.set.now)) c.args.ids.now c.ids.left _ 4096 (let l = c.len.ensures in let f = c.ids.invariant.few in omega (arith, l, f)) c.ids.invariant.left

pub returns-clause-left : goal.returns-clause-left
returns-clause-left c = left_all (λ id. not (is_among id c.args.set.now)) c.args.ids.now c.ids.left (drop c.ids.id-index c.args.ids.now) 4096 (past_end c.args.ids.now c.ids.id-index (let e = c.ids.auto.id-index-end in omega (arith, e, c.ids-test.false))) c.ids.invariant.few c.ids.invariant.left
