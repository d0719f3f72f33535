-- Where no rule is broken at a node, each rule holds there.
use Rattle.std.proofs.Common.{◌≡◌, refl, sym, ◌∙◌, ℕ, Bool, true, false, cond, List, [], ◌∷◌, Some, None}
use Rattle.type_trees.specs.Trees.{Tree}
use Rattle.node_rules.specs.Table.{failing, rules_at, first_broken}
use Rattle.type_rules.specs.Valid.{first_fault, fault_inside, type_fault}
use Rattle.type_rules.proofs.DeepSteps.{first_none, unmapped, some_is}
use Rattle.type_rules.proofs.FaultSteps.{fault_is}
use Rattle.type_rules.specs.faultless.Laws.{Hold, EachRuleHolds}

held : (b : Bool) (k : ℕ) (rs : List (ℕ × Bool)) → cond b (first_broken rs) (Some k) ≡ None → (first_broken rs ≡ None → Hold rs) → (b ≡ true) × Hold rs
held true k rs e more = (refl, more e)
held false k rs e more = absurd (some_is k e)

all_hold : (rs : List (ℕ × Bool)) → first_broken rs ≡ None → Hold rs
all_hold [] e = tt
all_hold (r ∷ rs) e = held r.1 r.0 rs e (all_hold rs)

pub rules_hold : (t : Tree) → failing t ≡ None → Hold (rules_at t)
unfolding failing
rules_hold t e = all_hold (rules_at t) e

-- the rules at the node, and none broken below it
pub at_and_below : (t : Tree) → first_fault t ≡ None → Hold (rules_at t) × (fault_inside t ≡ None)
at_and_below t e =
    let both = first_none _ _ (sym (fault_is t) ∙ e) in
    (rules_hold t (unmapped _ _ both.0), both.1)

pub no_fault : (t : Tree) → type_fault t ≡ None → first_fault t ≡ None
unfolding type_fault
no_fault t e = (first_none _ _ (first_none _ _ e).1).1

pub each_rule_holds : EachRuleHolds
each_rule_holds t e = (at_and_below t (no_fault t e)).0
