-- An examination begins with an empty memo, and makes few steps.
use Rattle.std.proofs.Common.{◌≡◌, ℕ, ◌+◌, List, [], length, ap, arith}
use Rattle.std.specs.Prelude.{All}
use Rattle.xt_shapes.specs.declared.leaves.Rep.{Rep}
use Rattle.xcdr_model.specs.declared.verdict.Policy.{Policy}
use Rattle.type_trees.specs.declared.types.HashId.{HashId}
use Rattle.type_object.specs.Pools.{Texts}
use Rattle.object_walks.specs.Laws.{IsReached}
use Rattle.pair_memo.specs.Entries.{Entry}
use Rattle.pair_memo.specs.Memos.{IsMemo}
use Rattle.pair_memo.proofs.Bound.{few}
use Rattle.pair_memo.proofs.Kept.{empty, kept}
use Rattle.pair_judge.specs.Judged.{IsFew}

module _ (q : Policy) (r : Rep) (pool : Texts) (lefts rights : List HashId) where
  pub begun : (es : List Entry) → es ≡ [] → IsMemo q r pool lefts rights es
  begun es e = kept q r pool lefts rights [] es e (empty q r pool lefts rights)

  pub few_steps : (reader writer : HashId) (old es : List Entry) (before after : ℕ) → old ≡ [] → IsMemo q r pool lefts rights es → All (λ id. IsReached pool reader id) lefts → All (λ id. IsReached pool writer id) rights
      → after + length old ≡ before + length es → IsFew pool reader writer before after
  few_steps reader writer old es before after e memo left right count = λ xs ys h k.
      let bound = few q r pool lefts rights es reader writer xs ys memo left right h k in
      let none : length old ≡ 0 = ap length e in
      omega (arith, bound, none, count)
