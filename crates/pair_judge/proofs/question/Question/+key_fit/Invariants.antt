use Rattle.std.proofs.Common.{◌≡◌, ◌+◌, ◌*◌, drop}
use Rattle.xcdr_model.specs.Keys.{keys_fit}
use Rattle.pair_memo.specs.nodes.Seen.{shape_in}
use Rattle.pair_memo.specs.nodes.Views.{parts_in}
use Rattle.pair_judge.proofs.question.Question.+key_fit.Given as goal

abbrev pub decreases-key_fit : goal.decreases-key_fit
decreases-key_fit l = 10 * l.levels

abbrev pub decreases-key_kinds : goal.decreases-key_kinds
decreases-key_kinds l = 10 * l.levels + 9

abbrev pub decreases-members_fit : goal.decreases-members_fit
decreases-members_fit l = 10 * l.levels + 5

abbrev pub decreases-keys_fit : goal.decreases-keys_fit
decreases-keys_fit l = 10 * l.levels + 4

abbrev pub decreases-counted_fits : goal.decreases-counted_fits
decreases-counted_fits l = 10 * l.levels + 3

abbrev pub decreases-has_key_fit : goal.decreases-has_key_fit
decreases-has_key_fit l = 10 * l.levels + 2

abbrev pub invariant-keys_fit-loop-part : goal.invariant-keys_fit-loop-part
invariant-keys_fit-loop-part l = keys_fit l.keyed (parts_in (λ t. shape_in l.self.pool.now t) (drop l.part-index l.left)) (parts_in (λ t. shape_in l.self.pool.now t) l.right) ≡ keys_fit l.keyed (parts_in (λ t. shape_in l.self.pool.now t) l.left) (parts_in (λ t. shape_in l.self.pool.now t) l.right)

abbrev pub decreases-structure_fit : goal.decreases-structure_fit
decreases-structure_fit l = 10 * l.levels + 6
