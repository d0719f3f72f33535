-- A type without a fault keeps the rules on names and ids (V1 and V3) at each node.
use Rattle.std.proofs.Common.{◌≡◌, ℕ, List, map, sym, ◌∙◌}
use Rattle.std.proofs.lemmas.Bool.{and_parts}
use Rattle.std.specs.Prelude.{true, nat_eq, None}
use Rattle.xt_shapes.specs.Lists.{all}
use Rattle.xt_shapes.specs.Shape.{heads, case_heads}
use Rattle.xt_shapes.specs.NodeRules.{is_low, ids_fit, distinct}
use Rattle.type_trees.specs.Trees.{Tree, prim, str, enumeration, bitmask, sequence, array, map_of, structure, union, alias, Members, no_members, member, Cases, no_cases, one_case}
use Rattle.type_trees.specs.Bridge.{member_shapes, case_shapes}
use Rattle.node_rules.specs.Names.{scope_fits}
use Rattle.node_rules.specs.Table.{failing, enum_names, mask_names, struct_names, union_names}
use Rattle.type_rules.proofs.OfFaultless.Nodes.{rules_hold}
use Rattle.type_rules.specs.Valid.{first_fault, fault_inside, members_fault, cases_fault, type_fault}
use Rattle.type_rules.proofs.DeepSteps.{first_none, unmapped}
use Rattle.type_rules.proofs.FaultSteps.{fault_is, inside_sequence, inside_array, inside_map, inside_structure, inside_union, inside_alias, members_fault_step, cases_fault_step}

-- the ids of members and of cases
abbrev pub member_ids : Members → List ℕ
member_ids ms = map (λ h. h.id) (heads (member_shapes ms))

abbrev pub case_ids : Cases → List ℕ
case_ids cs = map (λ h. h.id) (case_heads (case_shapes cs))

abbrev mutual
  -- each name at a node is an identifier, and each id is low
  pub KeepsNames : Tree → Type 0
  KeepsNames (prim p) = Unit {0}
  KeepsNames (str bound) = Unit {0}
  KeepsNames (enumeration name ext bits literals) = enum_names name literals ≡ true
  KeepsNames (bitmask name bits flags) = mask_names name flags ≡ true
  KeepsNames (sequence bound tc t) = KeepsNames t
  KeepsNames (array dims tc t) = KeepsNames t
  KeepsNames (map_of bound kc k vc v) = KeepsNames k × KeepsNames v
  KeepsNames (structure h ms) = MembersKeepNames ms × (struct_names h ms ≡ true) × (all is_low (member_ids ms) ≡ true)
  KeepsNames (union h disc cs) = KeepsNames disc × CasesKeepNames cs × (union_names h cs ≡ true) × (all is_low (case_ids cs) ≡ true)
  KeepsNames (alias name t) = KeepsNames t × (scope_fits name ≡ true)

  pub MembersKeepNames : Members → Type 0
  MembersKeepNames no_members = Unit {0}
  MembersKeepNames (member h t ms) = KeepsNames t × MembersKeepNames ms

  pub CasesKeepNames : Cases → Type 0
  CasesKeepNames no_cases = Unit {0}
  CasesKeepNames (one_case h t cs) = KeepsNames t × CasesKeepNames cs

low_ids : (ids : List ℕ) → ids_fit ids ≡ true → all is_low ids ≡ true
low_ids ids e = (and_parts (all is_low ids) (distinct nat_eq ids) e).0

from_node : (t : Tree) → (failing t ≡ None → fault_inside t ≡ None → KeepsNames t) → first_fault t ≡ None → KeepsNames t
from_node t here e =
    let both = first_none _ _ (sym (fault_is t) ∙ e) in
    here (unmapped _ _ both.0) both.1

mutual
  node_keeps : (t : Tree) → failing t ≡ None → fault_inside t ≡ None → KeepsNames t
  node_keeps (prim p) own below = tt
  node_keeps (str bound) own below = tt
  node_keeps (enumeration name ext bits literals) own below = (rules_hold (enumeration name ext bits literals) own).0
  node_keeps (bitmask name bits flags) own below = (rules_hold (bitmask name bits flags) own).0
  node_keeps (sequence bound tc t) own below = from_node t (node_keeps t) (unmapped _ _ (sym (inside_sequence bound tc t) ∙ below))
  node_keeps (array dims tc t) own below = from_node t (node_keeps t) (unmapped _ _ (sym (inside_array dims tc t) ∙ below))
  node_keeps (map_of bound kc k vc v) own below =
      let both = first_none _ _ (sym (inside_map bound kc k vc v) ∙ below) in
      (from_node k (node_keeps k) (unmapped _ _ both.0), from_node v (node_keeps v) (unmapped _ _ both.1))
  node_keeps (structure h ms) own below =
      let kept = rules_hold (structure h ms) own in
      (members_keep ms (sym (inside_structure h ms) ∙ below), kept.0, low_ids (member_ids ms) kept.1.1.0)
  node_keeps (union h disc cs) own below =
      let both = first_none _ _ (sym (inside_union h disc cs) ∙ below) in
      let kept = rules_hold (union h disc cs) own in
      (from_node disc (node_keeps disc) (unmapped _ _ both.0), cases_keep cs both.1, kept.0, low_ids (case_ids cs) kept.1.1.0)
  node_keeps (alias name t) own below = (from_node t (node_keeps t) (sym (inside_alias name t) ∙ below), (rules_hold (alias name t) own).0)

  members_keep : (ms : Members) → members_fault ms ≡ None → MembersKeepNames ms
  members_keep no_members e = tt
  members_keep (member h t ms) e =
      let both = first_none _ _ (sym (members_fault_step h t ms) ∙ e) in
      (from_node t (node_keeps t) (unmapped _ _ both.0), members_keep ms both.1)

  cases_keep : (cs : Cases) → cases_fault cs ≡ None → CasesKeepNames cs
  cases_keep no_cases e = tt
  cases_keep (one_case h t cs) e =
      let both = first_none _ _ (sym (cases_fault_step h t cs) ∙ e) in
      (from_node t (node_keeps t) (unmapped _ _ both.0), cases_keep cs both.1)

pub keeps_names : (t : Tree) → type_fault t ≡ None → KeepsNames t
unfolding type_fault
keeps_names t e = from_node t (node_keeps t) (first_none _ _ (first_none _ _ e).1).1
