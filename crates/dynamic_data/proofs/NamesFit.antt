-- The names of a valid type fit at every node.
use Rattle.std.proofs.Common.{◌≡◌, refl, ℕ, Bool, true, false, cond, ◌&&◌, List, [], ◌∷◌, Option, Some, None, sym, ◌∙◌}
use Rattle.std.proofs.lemmas.Bool.{and_parts}
use Rattle.xt_shapes.specs.Lists.{all}
use Rattle.type_trees.specs.Trees.{Tree, prim, str, enumeration, bitmask, sequence, array, map_of, structure, union, alias, Members, no_members, member, Cases, no_cases, one_case}
use Rattle.node_rules.specs.Names.{name_fits}
use Rattle.node_rules.specs.Table.{failing, first_broken, rules_at}
use Rattle.node_rules.specs.Table as table
use Rattle.type_rules.specs.Valid.{first_fault, fault_inside, members_fault, cases_fault, type_fault}
use Rattle.type_rules.proofs.DeepSteps.{first_none, unmapped, some_is}
use Rattle.type_rules.proofs.FaultSteps.{fault_is, inside_sequence, inside_array, inside_map, inside_structure, inside_union, inside_alias, members_fault_step, cases_fault_step}

abbrev mutual
  pub names_fit : Tree → Bool
  names_fit (prim p) = true
  names_fit (str bound) = true
  names_fit (enumeration name ext bits literals) = all (λ l. name_fits l.name) literals
  names_fit (bitmask name bits flags) = true
  names_fit (sequence bound tc t) = names_fit t
  names_fit (array dims tc t) = names_fit t
  names_fit (map_of bound kc k vc v) = names_fit k && names_fit v
  names_fit (structure head ms) = all name_fits (table.member_names ms) && members_fit ms
  names_fit (union head disc cs) = names_fit disc && cases_fit cs
  names_fit (alias name t) = names_fit t

  pub members_fit : Members → Bool
  members_fit no_members = true
  members_fit (member head t ms) = names_fit t && members_fit ms

  pub cases_fit : Cases → Bool
  cases_fit no_cases = true
  cases_fit (one_case head t cs) = names_fit t && cases_fit cs

-- the first rule of a node holds where none is broken

abbrev first_of : List (ℕ × Bool) → Bool
first_of [] = true
first_of (r ∷ rs) = r.1

first_rule : (b : Bool) (r : ℕ) (o : Option ℕ) → cond b o (Some r) ≡ None → b ≡ true
first_rule true r o e = refl
first_rule false r o e = absurd (some_is r e)

first_holds : (rs : List (ℕ × Bool)) → first_broken rs ≡ None → first_of rs ≡ true
first_holds [] e = refl
first_holds (r ∷ rs) e = first_rule r.1 r.0 (first_broken rs) e

broken_none : (t : Tree) → failing t ≡ None → first_broken (rules_at t) ≡ None
unfolding failing
broken_none t e = e

from_node : (t : Tree) → (failing t ≡ None → fault_inside t ≡ None → names_fit t ≡ true) → first_fault t ≡ None → names_fit t ≡ true
from_node t here e =
    let both = first_none _ _ (sym (fault_is t) ∙ e) in
    here (unmapped _ _ both.0) both.1

pub both_true : (a b : Bool) → a ≡ true → b ≡ true → (a && b) ≡ true
both_true a b ha hb = rw ha hb

mutual
  node_fit : (t : Tree) → failing t ≡ None → fault_inside t ≡ None → names_fit t ≡ true
  node_fit (prim p) own below = refl
  node_fit (str bound) own below = refl
  node_fit (enumeration name ext bits literals) own below =
      let named = first_holds (rules_at (enumeration name ext bits literals)) (broken_none (enumeration name ext bits literals) own) in
      (and_parts _ (all (λ l. name_fits l.name) literals) named).1
  node_fit (bitmask name bits flags) own below = refl
  node_fit (sequence bound tc t) own below = from_node t (node_fit t) (unmapped _ _ (sym (inside_sequence bound tc t) ∙ below))
  node_fit (array dims tc t) own below = from_node t (node_fit t) (unmapped _ _ (sym (inside_array dims tc t) ∙ below))
  node_fit (map_of bound kc k vc v) own below =
      let both = first_none _ _ (sym (inside_map bound kc k vc v) ∙ below) in
      both_true _ _ (from_node k (node_fit k) (unmapped _ _ both.0)) (from_node v (node_fit v) (unmapped _ _ both.1))
  node_fit (structure head ms) own below =
      let named = first_holds (rules_at (structure head ms)) (broken_none (structure head ms) own) in
      both_true _ _ (and_parts _ (all name_fits (table.member_names ms)) named).1 (members_all_fit ms (sym (inside_structure head ms) ∙ below))
  node_fit (union head disc cs) own below =
      let both = first_none _ _ (sym (inside_union head disc cs) ∙ below) in
      both_true _ _ (from_node disc (node_fit disc) (unmapped _ _ both.0)) (cases_all_fit cs both.1)
  node_fit (alias name t) own below = from_node t (node_fit t) (sym (inside_alias name t) ∙ below)

  members_all_fit : (ms : Members) → members_fault ms ≡ None → members_fit ms ≡ true
  members_all_fit no_members e = refl
  members_all_fit (member head t ms) e =
      let both = first_none _ _ (sym (members_fault_step head t ms) ∙ e) in
      both_true _ _ (from_node t (node_fit t) (unmapped _ _ both.0)) (members_all_fit ms both.1)

  cases_all_fit : (cs : Cases) → cases_fault cs ≡ None → cases_fit cs ≡ true
  cases_all_fit no_cases e = refl
  cases_all_fit (one_case head t cs) e =
      let both = first_none _ _ (sym (cases_fault_step head t cs) ∙ e) in
      both_true _ _ (from_node t (node_fit t) (unmapped _ _ both.0)) (cases_all_fit cs both.1)

pub type_fits : (t : Tree) → type_fault t ≡ None → names_fit t ≡ true
unfolding type_fault
type_fits t e =
    let deep = first_none _ _ e in
    from_node t (node_fit t) (first_none _ _ deep.1).1
