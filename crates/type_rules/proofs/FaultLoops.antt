-- The first fault of members and cases, one on.
use Rattle.std.proofs.Common.{◌≡◌, refl, ℕ, ◌+◌, ◌<◌, ◌≤◌, max, List, [], ◌∷◌, length, get_or, drop, None}
use Rattle.std.specs.Option.{option_map}
use Rattle.std.proofs.lemmas.List.{drop_more, drop_all}
use Rattle.xt_shapes.specs.declared.leaves.Step.{Step}
use Rattle.type_trees.specs.declared.types.Member.{Member}
use Rattle.type_trees.specs.declared.types.Case.{Case}
use Rattle.xt_shapes.specs.Lists.{or_else}
use Rattle.type_rules.specs.Places.{depth, members_depth, cases_depth}
use Rattle.type_rules.specs.Valid.{fault_beneath, first_fault, members_fault, cases_fault}
use Rattle.type_trees.specs.View.{tree, members_tree, cases_tree}
use Rattle.type_trees.proofs.Views.{member_tree_is, case_tree_is}
use Rattle.type_rules.proofs.FaultSteps.{members_fault_none, members_fault_step, cases_fault_none, cases_fault_step}

pub members_end : (ms : List Member) (i : ℕ) → length ms ≤ i → members_fault (members_tree (drop i ms)) ≡ None
members_end ms i past = rw (drop_all i ms past) members_fault_none

pub members_next : (ms : List Member) (i : ℕ) (m : Member) → i < length ms → m ≡ get_or ms i m
    → members_fault (members_tree (drop i ms)) ≡ or_else (option_map (fault_beneath (Step.Member m.id ∷ [])) (first_fault (tree m.ty))) (members_fault (members_tree (drop (i + 1) ms)))
members_next ms i m within is = rw (drop_more ms i m within, ← is, member_tree_is m) (members_fault_step _ _ _)

pub members_deeper : (ms : List Member) (i : ℕ) (m : Member) → i < length ms → m ≡ get_or ms i m
    → members_depth (members_tree (drop i ms)) ≡ max (depth (tree m.ty)) (members_depth (members_tree (drop (i + 1) ms)))
members_deeper ms i m within is = rw (drop_more ms i m within, ← is, member_tree_is m) refl

pub cases_end : (cs : List Case) (i : ℕ) → length cs ≤ i → cases_fault (cases_tree (drop i cs)) ≡ None
cases_end cs i past = rw (drop_all i cs past) cases_fault_none

pub cases_next : (cs : List Case) (i : ℕ) (c : Case) → i < length cs → c ≡ get_or cs i c
    → cases_fault (cases_tree (drop i cs)) ≡ or_else (option_map (fault_beneath (Step.Member c.id ∷ [])) (first_fault (tree c.ty))) (cases_fault (cases_tree (drop (i + 1) cs)))
cases_next cs i c within is = rw (drop_more cs i c within, ← is, case_tree_is c) (cases_fault_step _ _ _)

pub cases_deeper : (cs : List Case) (i : ℕ) (c : Case) → i < length cs → c ≡ get_or cs i c
    → cases_depth (cases_tree (drop i cs)) ≡ max (depth (tree c.ty)) (cases_depth (cases_tree (drop (i + 1) cs)))
cases_deeper cs i c within is = rw (drop_more cs i c within, ← is, case_tree_is c) refl
