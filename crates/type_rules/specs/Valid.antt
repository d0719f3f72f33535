-- The first rule that a type breaks, and where (DDS-XTypes 1.3, 7.2.2; which comes first is this profile's own).
use Rattle.std.specs.Prelude.{ℕ, suc, Bool, ◌&&◌, cond, List, [], ◌∷◌, ◌++◌, nat_le, ◌==◌, Option, Some, None}
use Rattle.std.specs.Option.{option_map}
use Rattle.xt_shapes.specs.declared.leaves.Step.{Step}
use Rattle.xt_shapes.specs.Lists.{or_else}
use Rattle.xt_shapes.specs.Weight.{weight}
use Rattle.type_trees.specs.Trees.{Tree, Members, Cases}
use Rattle.type_trees.specs.Bridge.{shape}
use Rattle.type_trees.specs.sizes.TypeNodes.{nodes}
use Rattle.node_rules.specs.Table.{failing}
use Rattle.type_rules.specs.Places.{Place, places, inside, member_places, case_places}

-- the first place where a rule fails, with that rule
abbrev pub first_failing : List Place → Option (ℕ × List Step)
first_failing [] = None
first_failing (p ∷ ps) = or_else (option_map (λ r. (r, p.path)) (failing p.node)) (first_failing ps)

abbrev pub fault_beneath : List Step → ℕ × List Step → ℕ × List Step
fault_beneath steps f = (f.0, steps ++ f.1)

-- the first rule that fails in a type, and where
unfoldable pub first_fault : Tree → Option (ℕ × List Step)
first_fault t = first_failing (places t)

unfoldable pub fault_inside : Tree → Option (ℕ × List Step)
fault_inside t = first_failing (inside t)

unfoldable pub members_fault : Members → Option (ℕ × List Step)
members_fault ms = first_failing (member_places ms)

unfoldable pub cases_fault : Cases → Option (ℕ × List Step)
cases_fault cs = first_failing (case_places cs)

-- the first place with that many nodes above it
abbrev pub first_with_above : ℕ → List Place → Option (List Step)
first_with_above n [] = None
first_with_above n (p ∷ ps) = cond (p.above == n) (Some p.path) (first_with_above n ps)

-- the first node in declared order that has n nodes above it
unfoldable pub first_deep : ℕ → Tree → Option (List Step)
first_deep n t = first_with_above n (places t)

unfoldable pub deep_inside : ℕ → Tree → Option (List Step)
deep_inside n t = first_with_above (suc n) (inside t)

unfoldable pub deep_members : ℕ → Members → Option (List Step)
deep_members n ms = first_with_above (suc n) (member_places ms)

unfoldable pub deep_cases : ℕ → Cases → Option (List Step)
deep_cases n cs = first_with_above (suc n) (case_places cs)

abbrev pub is_small : Tree → Bool
is_small t = nat_le (nodes t) 65536 && nat_le (weight (shape t)) 65536

-- The depth is at most 16, then the size is within its limits, then the rules hold at each node.
unfoldable pub type_fault : Tree → Option (ℕ × List Step)
type_fault t =
    or_else
    (option_map (λ p. (15, p)) (first_deep 16 t))
    (or_else (cond (is_small t) None (Some (16, []))) (first_fault t))
