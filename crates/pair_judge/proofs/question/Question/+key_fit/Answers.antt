use Rattle.std.proofs.Common.{◌∙◌, ap, map, sym, ◌&&◌, rules}
use Rattle.xt_shapes.specs.Keyable.{any_key}
use Rattle.xcdr_model.specs.Keys.{keys_fit}
use Rattle.pair_memo.specs.nodes.Seen.{shape_in}
use Rattle.pair_memo.specs.nodes.Views.{part_view, parts_in}
use Rattle.pair_memo.proofs.OfNodes.Among.{part_seen}
use Rattle.pair_memo.proofs.OfNodes.Heads.{counted_keys}
use Rattle.pair_judge.proofs.Fitting.{members_say, structures_fit, nodes_fit}
use Rattle.pair_judge.proofs.question.Question.+key_fit.Goals as goal

pub keys_fit-counted_fits-requires : goal.keys_fit-counted_fits-requires
keys_fit-counted_fits-requires t c =
    let part = part_seen c.args.self.now.pool.now c.args.left.now c.loop-part.part-index c.part-item.result c.loop-part-test.true c.part-item.is c.requires.left in
    search rules

pub members_fit-returns-then-not-even : goal.members_fit-returns-then-not-even
members_fit-returns-then-not-even t c =
    let ms = parts_in (λ t. shape_in c.args.self.now.pool.now t) c.args.left.now in
    let ns = parts_in (λ t. shape_in c.args.self.now.pool.now t) c.args.right.now in
    sym (ap (λ b. b && keys_fit (any_key ms) ms ns) (sym (counted_keys (λ t. shape_in c.args.self.now.pool.now t) c.args.left.now c.args.right.now) ∙ sym c.same_keys-even.ensures ∙ c.if-not-even.true))

pub members_fit-returns : goal.members_fit-returns
members_fit-returns t c = members_say c.keys_fit.result (λ t. shape_in c.args.self.now.pool.now t) c.args.left.now c.args.right.now c.any_key-keyed.result c.any_key-keyed.ensures (sym (counted_keys (λ t. shape_in c.args.self.now.pool.now t) c.args.left.now c.args.right.now) ∙ sym c.same_keys-even.ensures ∙ c.if-not-even.false) c.keys_fit.ensures

pub structure_fit-returns : goal.structure_fit-returns
structure_fit-returns t c =
    structures_fit c.members_fit.result (λ t. shape_in c.args.self.now.pool.now t) c.args.ext c.args.other_ext c.as_slice-left.result.now c.as_slice-right.result.now _ _ (sym c.same_ext-even.ensures ∙ c.if-not-even.false)
    (ap (map part_view) c.as_slice-left.ensures ∙ c.in_ok-one.ensures) (ap (map part_view) c.as_slice-right.ensures ∙ c.in_ok-two.ensures) c.members_fit.ensures

pub key_kinds-returns-in-Struct-right : goal.key_kinds-returns-in-Struct-right
key_kinds-returns-in-Struct-right t c = nodes_fit c.structure_fit.result c.args.self.now.pool.now _ _ _ _ c.in-Struct.is c.in-Struct-right.is c.structure_fit.ensures
