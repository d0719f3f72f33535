-- The laws that each rule holds at the node of a type without a fault, and that the types below it have none (this profile's own).
use Rattle.std.specs.Prelude.{◌≡◌, ℕ, Bool, true, List, [], ◌∷◌, None}
use Rattle.type_trees.specs.Trees.{Tree}
use Rattle.node_rules.specs.Table.{rules_at}
use Rattle.type_rules.specs.Valid.{type_fault}
use Rattle.type_rules.specs.faultless.Parts.{parts}

-- each of the rules holds
abbrev pub Hold : List (ℕ × Bool) → Type 0
Hold [] = Unit {0}
Hold (r ∷ rs) = (r.1 ≡ true) × Hold rs

-- Each rule holds at the node of a type without a fault.
abbrev pub EachRuleHolds : Type 0
EachRuleHolds = (t : Tree) → type_fault t ≡ None → Hold (rules_at t)

-- each of the types is without a fault
abbrev pub AreValid : List Tree → Type 0
AreValid [] = Unit {0}
AreValid (t ∷ ts) = (type_fault t ≡ None) × AreValid ts

-- Each type right below the node of a type without a fault is without a fault itself.
abbrev pub EachPartIsValid : Type 0
EachPartIsValid = (t : Tree) → type_fault t ≡ None → AreValid (parts t)
