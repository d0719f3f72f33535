-- What a memo may say (this profile's own).
use Rattle.std.specs.Prelude.{◌≡◌, List, Bool, true, false, None}
use Rattle.std.specs.List.{IsDistinct, AllByRecursion}
use Rattle.std.specs.Map.{keys_of}
use Rattle.xt_shapes.specs.declared.leaves.Rep.{Rep}
use Rattle.xt_shapes.specs.Shape.{Shape}
use Rattle.xcdr_model.specs.declared.verdict.Policy.{Policy}
use Rattle.xcdr_model.specs.Equivalence.{same_shape}
use Rattle.xcdr_model.specs.Failure.{failure, strong}
use Rattle.type_trees.specs.declared.types.HashId.{HashId}
use Rattle.object_formats.specs.Objects.{hash}
use Rattle.type_object.specs.Pools.{Texts}
use Rattle.type_object.specs.References.{is_among}
use Rattle.pair_memo.specs.nodes.Seen.{shape_in}
use Rattle.pair_memo.specs.declared.memo.Kind.{Kind}
use Rattle.pair_memo.specs.declared.memo.Kind.TheVariants as k
use Rattle.pair_memo.specs.declared.memo.Pair.{Pair}
use Rattle.pair_memo.specs.declared.memo.State.{State}
use Rattle.pair_memo.specs.declared.memo.State.TheVariants as s
use Rattle.pair_memo.specs.Entries.{Entry, same_pair}

-- nothing fails in an examination of that kind
abbrev pub Found : Policy → Rep → Kind → Shape → Shape → Type 0
Found q r k.Top t u = failure q r true t u ≡ None
Found q r k.Plain t u = failure q r false t u ≡ None
Found q r k.Strong t u = strong r t u (failure q r false t u) ≡ None
Found q r k.Equivalent t u = same_shape t u ≡ true

-- What a memo says of two types is so. Of an examination that is open it says nothing.
abbrev pub IsSo : Policy → Rep → Kind → State → Shape → Shape → Type 0
IsSo q r kind s.Open t u = Unit {0}
IsSo q r kind s.Holds t u = Found q r kind t u
IsSo q r kind s.Differs t u = same_shape t u ≡ false

abbrev pub EntryIsSo : Policy → Rep → Texts → Pair → State → Type 0
EntryIsSo q r pool p state = IsSo q r p.kind state (shape_in pool (hash p.left)) (shape_in pool (hash p.right))

-- each side of a pair is one of its side's identifiers
abbrev pub IsOf : List HashId → List HashId → Pair → Type 0
IsOf lefts rights p = (is_among p.left lefts ≡ true) × (is_among p.right rights ≡ true)

-- What is noted is so, each pair is of the identifiers that the sides reach, and none is noted twice under a kind of examination.
pub record IsMemo (q : Policy) (r : Rep) (pool : Texts) (lefts rights : List HashId) (es : List Entry) : Type 0 where
  pub so : AllByRecursion (λ (e : Entry). EntryIsSo q r pool e.0 e.1) es
  pub reached : AllByRecursion (λ (e : Entry). IsOf lefts rights e.0) es
  pub apart : IsDistinct same_pair (keys_of es)

abbrev pub state_for : Bool → State
state_for true = s.Holds
state_for false = s.Differs
