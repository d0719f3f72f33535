use Rattle.std.proofs.Common.{◌∙◌, sym, ap, arith, rules, drop, not, length, length-append}
use Rattle.type_trees.specs.declared.types.HashId.{HashId}
use Rattle.type_object.specs.visits.Visits.{is_known}
use Rattle.type_object.proofs.OfVisits.Left.{left_past, left_more, left_full, left_all, next_item, past_end}
use Rattle.lookup_fetch.specs.Rounds.{found_in}
use Rattle.lookup_fetch.proofs.plan.lacking.Goals as goal

pub met-preserved-then-has : goal.met-preserved-then-has
met-preserved-then-has c = record {
  left = left_past (λ id. not (is_known (found_in c.args.held.now) id)) c.args.met.now c.met.lacking _ _ _ (next_item c.args.met.now c.met.id-index _ _ c.met-test.true (omega arith)) (ap not (sym c.has.ensures ∙ c.if-has.true)) c.met.invariant.left;
  few = c.met.invariant.few;
}

pub met-preserved : goal.met-preserved
met-preserved c = record {
  left = left_more (λ id. not (is_known (found_in c.args.held.now) id)) c.args.met.now c.met.lacking _ _ _ c.push.new.self c.in_ok-push.ensures.ok (next_item c.args.met.now c.met.id-index _ _ c.met-test.true (omega arith)) (ap not (sym c.has.ensures ∙ c.if-has.false)) c.met.invariant.left;
  few = let l = c.len.ensures in omega (arith, l, ap length c.in_ok-push.ensures.ok, length-append {A = HashId});
}

pub returns-then-len-ge-MOST_ASKED-clause-lacking : goal.returns-then-len-ge-MOST_ASKED-clause-lacking
returns-then-len-ge-MOST_ASKED-clause-lacking c = left_full (λ id. not (is_known (found_in c.args.held.now) id)) c.args.met.now c.met.lacking _ 64 (let l = c.len.ensures in let f = c.met.invariant.few in omega (arith, l, f)) c.met.invariant.left

pub returns-clause-lacking : goal.returns-clause-lacking
returns-clause-lacking c = left_all (λ id. not (is_known (found_in c.args.held.now) id)) c.args.met.now c.met.lacking (drop c.met.id-index c.args.met.now) 64 (past_end c.args.met.now c.met.id-index (let e = c.met.auto.id-index-end in omega (arith, e, c.met-test.false))) c.met.invariant.few c.met.invariant.left
