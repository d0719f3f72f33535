-- The members behind the first ones, as lists and as members.
use Rattle.std.proofs.Common.{◌≡◌, ℕ, zero, suc, ◌≤◌, List, [], ◌∷◌, length, drop, refl, arith}
use Rattle.type_trees.specs.declared.types.Member.{Member}
use Rattle.type_trees.specs.Trees.{no_members}
use Rattle.type_trees.specs.View.{members_tree}
use Rattle.idl_printer.specs.Parts.{members_behind}

pub behind_some : (n : ℕ) (ms : List Member) → members_tree (drop n ms) ≡ members_behind n (members_tree ms)
behind_some zero ms = refl
behind_some (suc n) [] = refl
behind_some (suc n) (m ∷ ms) = behind_some n ms

pub behind_all : (n : ℕ) (ms : List Member) → length ms ≤ n → members_behind n (members_tree ms) ≡ no_members
behind_all zero [] h = refl
behind_all zero (m ∷ ms) h = absurd (omega (arith, h))
behind_all (suc n) [] h = refl
behind_all (suc n) (m ∷ ms) h = behind_all n ms (omega (arith, h))
