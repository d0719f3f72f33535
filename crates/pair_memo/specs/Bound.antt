-- How many examinations there may be (this profile's own).
use Rattle.std.specs.Prelude.{ℕ, ◌*◌, ◌≤◌, List, All, length}
use Rattle.xt_shapes.specs.declared.leaves.Rep.{Rep}
use Rattle.xcdr_model.specs.declared.verdict.Policy.{Policy}
use Rattle.type_trees.specs.declared.types.HashId.{HashId}
use Rattle.type_object.specs.Pools.{Texts}
use Rattle.object_walks.specs.Laws.{HasReached, IsReached}
use Rattle.pair_memo.specs.Entries.{Entry}
use Rattle.pair_memo.specs.Memos.{IsMemo}

-- Lists that have all that is reached from each side, itself included, have as many identifiers as are reached where they have each once and
-- no others: 4ab, where a and b are their lengths.
abbrev pub four_of_each : List HashId → List HashId → ℕ
four_of_each xs ys = 4 * (length xs * length ys)

abbrev pub NotesAreFew : Type 0
NotesAreFew = (q : Policy) (r : Rep) (pool : Texts) (lefts rights : List HashId) (es : List Entry) (reader writer : HashId) (xs ys : List HashId)
    → IsMemo q r pool lefts rights es → All (λ id. IsReached pool reader id) lefts → All (λ id. IsReached pool writer id) rights → HasReached pool reader xs → HasReached pool writer ys → length es ≤ four_of_each xs ys
