use Rattle.std.proofs.Common.{rules, ◌≡◌, map, Ok, Err, IfOk, IfErr, sym, ap, subst, ◌∙◌}
use Rattle.serde_json.specs.View.{view, members_view}
use Rattle.json_values.specs.declared.faults.ValueFault.TheVariants.{OutOfMemory}
use Rattle.std.proofs.lemmas.List.{map-append}
use Rattle.std.proofs.lemmas.Result.{err_from_is_err_and}
use Rattle.type_trees.specs.View.{tree, val, pair_val}
use Rattle.type_trees.proofs.Views.{pair_val_is}
use Rattle.json_values.specs.Read.{value_of}
use Rattle.json_values.proofs.Parts.{parts_read}
use Rattle.json_values.proofs.Pairs.{both_read, no_key, entries_step}
use Rattle.json_values.proofs.read.+read_value.Goals as goal

pub read_both-returns-clause-ok : goal.read_both-returns-clause-ok
read_both-returns-clause-ok t c =
    both_read (value_of (tree c.args.kind.now.key.ty)) (value_of (tree c.args.kind.now.value.ty)) c.args.items.now _ _ _ _ c.requires.two c.index-items-0.is c.index-items-1.is c.in_ok-key.ensures.ok c.in_ok-value.ensures.ok
    ∙ ap Ok (sym (pair_val_is _))

pub read_both-returns-in_err-key-clause-err : goal.read_both-returns-in_err-key-clause-err
read_both-returns-in_err-key-clause-err t c =
    let p = err_from_is_err_and c.from_residual.result c.from_residual.ensures.1 in
    rw (p.1, p.2)
    (λ memory. no_key (value_of (tree c.args.kind.now.key.ty)) (value_of (tree c.args.kind.now.value.ty)) c.args.items.now _ _ c.requires.two c.index-items-0.is (c.in_err-key.ensures.err memory))

pub read_pairs-loop-item-preserved : goal.read_pairs-loop-item-preserved
read_pairs-loop-item-preserved t c =
    let kind = c.args.kind.now in
    let step = entries_step (value_of (tree kind.key.ty)) (value_of (tree kind.value.ty)) c.args.items.now c.loop-item.item-index c.item-item.result (map pair_val c.loop-item.pairs) (pair_val c.in_ok-pair.pair) c.loop-item-test.true c.item-item.is c.in_ok-pair.ensures.ok in
    rw (c.in_ok-push.ensures.ok, map-append) (sym step ∙ c.loop-item.invariant)

pub read_parts-returns-in_ok-disc-in-Some-clause-ok : goal.read_parts-returns-in_ok-disc-in-Some-clause-ok
read_parts-returns-in_ok-disc-in-Some-clause-ok t c =
    let others = sym c.has_other_than_union.ensures ∙ c.if-has_other_than_union.false in
    let found = parts_read c.args.kind.now (members_view c.args.found.now.entries) (view c.in-Some.part.now) (val c.in_ok-disc-in-Some.disc) c.number_in.result _ others (sym c.in-Some.ensures) c.in_ok-disc-in-Some.ensures.ok c.number_in.ensures (sym c.part_at-in-Some.ensures) in
    subst (λ r. IfOk c.read_body.result (λ v. r ≡ Ok (val v))) (sym found) (search rules)

pub read_parts-returns-in_ok-disc-in-Some-clause-err : goal.read_parts-returns-in_ok-disc-in-Some-clause-err
read_parts-returns-in_ok-disc-in-Some-clause-err t c =
    let others = sym c.has_other_than_union.ensures ∙ c.if-has_other_than_union.false in
    let found = parts_read c.args.kind.now (members_view c.args.found.now.entries) (view c.in-Some.part.now) (val c.in_ok-disc-in-Some.disc) c.number_in.result _ others (sym c.in-Some.ensures) c.in_ok-disc-in-Some.ensures.ok c.number_in.ensures (sym c.part_at-in-Some.ensures) in
    subst (λ r. IfErr c.read_body.result (λ e. (e ≡ OutOfMemory → ⊥) → r ≡ Err e)) (sym found) (search rules)
