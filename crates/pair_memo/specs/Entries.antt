-- The entries of a memo: what was found of each pair of identifiers under a kind of examination (this profile's own).
use Rattle.std.specs.Prelude.{ℕ, Bool, ◌&&◌, ◌==◌}
use Rattle.type_trees.specs.Ids.{same_id}
use Rattle.pair_memo.specs.declared.memo.Kind.{Kind}
use Rattle.pair_memo.specs.declared.memo.Kind.TheVariants as k
use Rattle.pair_memo.specs.declared.memo.Pair.{Pair}
use Rattle.pair_memo.specs.declared.memo.State.{State}

abbrev pub Entry : Type 0
Entry = Pair × State

abbrev pub kind_code : Kind → ℕ
kind_code k.Top = 0
kind_code k.Plain = 1
kind_code k.Strong = 2
kind_code k.Equivalent = 3

abbrev pub same_kind : Kind → Kind → Bool
same_kind a b = kind_code a == kind_code b

abbrev pub same_pair : Pair → Pair → Bool
same_pair p q = same_kind p.kind q.kind && (same_id p.left q.left && same_id p.right q.right)
