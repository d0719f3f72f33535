-- The members of two structures or the cases of two unions, side by side (this profile's own).
use Rattle.std.specs.Prelude.{List, map, length, Bool, cond, ◌==◌, ◌&&◌, Option, Some, None}
use Rattle.std.specs.List.{zip}
use Rattle.xt_shapes.specs.Lists.{all}
use Rattle.xcdr_model.specs.Equivalence.{same_shape, same_head, same_case_head}
use Rattle.object_formats.specs.Objects.{Identifier}
use Rattle.pair_memo.specs.nodes.Seen.{See, Test}
use Rattle.pair_memo.specs.nodes.Views.{part_view, arm_view}
use Rattle.pair_judge.specs.declared.branches.Branches.{Branches}
use Rattle.pair_judge.specs.declared.branches.Branches.TheVariants.{Members, Cases}

-- whether two are alike in all but their types, and these
abbrev pub Pair : Type 0
Pair = Bool × Identifier × Identifier

abbrev pub pair : {A H : Type 0} → (H → H → Bool) → (A → H × Identifier) → A × A → Pair
pair alike view p = (alike (view p.0).0 (view p.1).0, (view p.0).1, (view p.1).1)

abbrev pub pairs : Branches → List Pair
pairs (Members ps qs) = map (pair same_head part_view) (zip ps.now qs.now)
pairs (Cases cs ds) = map (pair same_case_head arm_view) (zip cs.now ds.now)

-- neither side has more
abbrev pub is_even : Branches → Bool
is_even (Members ps qs) = length ps.now == length qs.now
is_even (Cases cs ds) = length cs.now == length ds.now

abbrev pub same_pair : See → Pair → Bool
same_pair see p = p.0 && same_shape (see p.1) (see p.2)

-- they are equal one by one
abbrev pub same_branches : See → Branches → Bool
same_branches see b = is_even b && all (same_pair see) (pairs b)

abbrev pub both_pass : Test → Pair → Bool
both_pass test p = test p.1 && test p.2

-- the types of a pair whose two are alike
abbrev pub types_of : Option Pair → Option (Identifier × Identifier)
types_of None = None
types_of (Some p) = cond p.0 (Some (p.1, p.2)) None
