-- A type without a fault keeps the rules at every node of its shape, and the limits.
use Rattle.std.proofs.Common.{◌≡◌, refl, sym, ◌∙◌, true≢false, ℕ, ◌≤◌, Bool, true, false, ◌&&◌, cond, nat_le, List, [], ◌∷◌, map, length, Option, Some, None, arith, tests}
use Rattle.std.specs.Option.{option_map}
use Rattle.xt_shapes.specs.declared.leaves.Step.{Step}
use Rattle.xt_shapes.specs.Keyable.{counted_keyable}
use Rattle.xt_shapes.specs.NodeRules.{not_empty, not_mutable, hashes_apart, ids_fit, enum_fits, mask_fits, dims_fit, is_map_key, is_discriminator, labels_fit, keys_discard, is_light, rules_hold, members_hold, cases_hold}
use Rattle.xt_shapes.specs.Shape.{heads, case_heads}
use Rattle.xt_shapes.specs.Weight.{weight}
use Rattle.type_trees.specs.Trees.{Tree, prim, str, enumeration, bitmask, sequence, array, map_of, structure, union, alias, Members, no_members, member, Cases, no_cases, one_case}
use Rattle.type_trees.specs.Bridge.{literal_shape, flag_shape, shape, member_shapes, case_shapes}
use Rattle.type_trees.specs.sizes.TypeNodes.{nodes}
use Rattle.node_rules.specs.Rules.{bases_fit}
use Rattle.node_rules.specs.Table.{enum_names, mask_names, struct_names, union_names, failing, rules_at, first_broken}
use Rattle.type_rules.specs.Places.{depth}
use Rattle.type_rules.specs.Valid.{first_fault, fault_inside, members_fault, cases_fault, first_deep, is_small, type_fault}
use Rattle.type_rules.proofs.DeepSteps.{first_none, unmapped, some_is, shallow}
use Rattle.type_rules.proofs.FaultSteps.{fault_is, inside_sequence, inside_array, inside_map, inside_structure, inside_union, inside_alias, members_fault_step, cases_fault_step}

-- where no rule at a node is broken, what the rules on shapes ask of the node holds
parts_kept : (k : ℕ) (names hashes filled fits : Bool) → first_broken ((1, names) ∷ (2, hashes) ∷ (4, filled) ∷ (k, fits) ∷ []) ≡ None → (hashes && (filled && fits)) ≡ true
parts_kept k false hashes filled fits e = absurd (some_is 1 e)
parts_kept k true false filled fits e = absurd (some_is 2 e)
parts_kept k true true false fits e = absurd (some_is 4 e)
parts_kept k true true true false e = absurd (some_is k e)
parts_kept k true true true true e = refl

element_kept : (is_light inner : Bool) → first_broken ((14, is_light) ∷ []) ≡ None → inner ≡ true → (is_light && inner) ≡ true
element_kept false inner e inner_holds = absurd (some_is 14 e)
element_kept true inner e inner_holds = inner_holds

array_kept : (dims is_light inner : Bool) → first_broken ((7, dims) ∷ (14, is_light) ∷ []) ≡ None → inner ≡ true → (dims && (is_light && inner)) ≡ true
array_kept false is_light inner e inner_holds = absurd (some_is 7 e)
array_kept true false inner e inner_holds = absurd (some_is 14 e)
array_kept true true inner e inner_holds = inner_holds

map_kept : (is_key are_light key value : Bool) → first_broken ((8, is_key) ∷ (14, are_light) ∷ []) ≡ None → key ≡ true → value ≡ true → ((is_key && are_light) && (key && value)) ≡ true
map_kept false are_light key value e key_holds value_holds = absurd (some_is 8 e)
map_kept true false key value e key_holds value_holds = absurd (some_is 14 e)
map_kept true true key value e key_holds value_holds = rw (key_holds, value_holds) refl

structure_kept : (names hashes ids filled keys discard bases inner : Bool) → first_broken ((1, names) ∷ (2, hashes) ∷ (3, ids) ∷ (4, filled) ∷ (12, keys) ∷ (13, discard) ∷ (18, bases) ∷ []) ≡ None → inner ≡ true → (((hashes && ids) && (filled && (keys && discard))) && inner) ≡ true
structure_kept false hashes ids filled keys discard bases inner e inner_holds = absurd (some_is 1 e)
structure_kept true false ids filled keys discard bases inner e inner_holds = absurd (some_is 2 e)
structure_kept true true false filled keys discard bases inner e inner_holds = absurd (some_is 3 e)
structure_kept true true true false keys discard bases inner e inner_holds = absurd (some_is 4 e)
structure_kept true true true true false discard bases inner e inner_holds = absurd (some_is 12 e)
structure_kept true true true true true false bases inner e inner_holds = absurd (some_is 13 e)
structure_kept true true true true true true false inner e inner_holds = absurd (some_is 18 e)
structure_kept true true true true true true true inner e inner_holds = inner_holds

union_kept : (names hashes ids filled closed fits labels disc inner : Bool) → first_broken ((1, names) ∷ (2, hashes) ∷ (3, ids) ∷ (4, filled) ∷ (9, closed) ∷ (10, fits) ∷ (11, labels) ∷ []) ≡ None → disc ≡ true → inner ≡ true → (((hashes && ids) && (filled && (closed && (fits && labels)))) && (disc && inner)) ≡ true
union_kept false hashes ids filled closed fits labels disc inner e disc_holds inner_holds = absurd (some_is 1 e)
union_kept true false ids filled closed fits labels disc inner e disc_holds inner_holds = absurd (some_is 2 e)
union_kept true true false filled closed fits labels disc inner e disc_holds inner_holds = absurd (some_is 3 e)
union_kept true true true false closed fits labels disc inner e disc_holds inner_holds = absurd (some_is 4 e)
union_kept true true true true false fits labels disc inner e disc_holds inner_holds = absurd (some_is 9 e)
union_kept true true true true true false labels disc inner e disc_holds inner_holds = absurd (some_is 10 e)
union_kept true true true true true true false disc inner e disc_holds inner_holds = absurd (some_is 11 e)
union_kept true true true true true true true disc inner e disc_holds inner_holds = rw (disc_holds, inner_holds) refl

broken_none : (t : Tree) → failing t ≡ None → first_broken (rules_at t) ≡ None
unfolding failing
broken_none t e = e

from_node : (t : Tree) → (failing t ≡ None → fault_inside t ≡ None → rules_hold (shape t) ≡ true) → first_fault t ≡ None → rules_hold (shape t) ≡ true
from_node t here e =
    let both = first_none _ _ (sym (fault_is t) ∙ e) in
    here (unmapped _ _ both.0) both.1

both_true : (a b : Bool) → (a && b) ≡ true → (a ≡ true) × (b ≡ true)
both_true true b e = (refl, e)
both_true false b e = absurd (true≢false (sym e))

mutual
  node_kept : (t : Tree) → failing t ≡ None → fault_inside t ≡ None → rules_hold (shape t) ≡ true
  node_kept (prim p) own below = refl
  node_kept (str bound) own below = refl
  node_kept (enumeration name ext bits literals) own below =
      let ls = map literal_shape literals in
      parts_kept 5 (enum_names name literals) (hashes_apart (map (λ l. l.hash) ls)) (not_empty ls) (enum_fits ext bits ls) (broken_none (enumeration name ext bits literals) own)
  node_kept (bitmask name bits flags) own below =
      let fs = map flag_shape flags in
      parts_kept 6 (mask_names name flags) (hashes_apart (map (λ f. f.hash) fs)) (not_empty fs) (mask_fits bits fs) (broken_none (bitmask name bits flags) own)
  node_kept (sequence bound tc t) own below =
      let inner = from_node t (node_kept t) (unmapped _ _ (sym (inside_sequence bound tc t) ∙ below)) in
      element_kept (is_light (shape t)) (rules_hold (shape t)) (broken_none (sequence bound tc t) own) inner
  node_kept (array dims tc t) own below =
      let inner = from_node t (node_kept t) (unmapped _ _ (sym (inside_array dims tc t) ∙ below)) in
      array_kept (dims_fit dims) (is_light (shape t)) (rules_hold (shape t)) (broken_none (array dims tc t) own) inner
  node_kept (map_of bound kc k vc v) own below =
      let both = first_none _ _ (sym (inside_map bound kc k vc v) ∙ below) in
      let key = from_node k (node_kept k) (unmapped _ _ both.0) in
      let value = from_node v (node_kept v) (unmapped _ _ both.1) in
      map_kept (is_map_key (shape k)) (is_light (shape k) && is_light (shape v)) (rules_hold (shape k)) (rules_hold (shape v)) (broken_none (map_of bound kc k vc v) own) key value
  node_kept (structure head ms) own below =
      let hs = heads (member_shapes ms) in
      let inner = members_kept ms (sym (inside_structure head ms) ∙ below) in
      structure_kept
      (struct_names head ms)
      (hashes_apart (map (λ h. h.hash) hs))
      (ids_fit (map (λ h. h.id) hs))
      (not_empty hs)
      (counted_keyable true (member_shapes ms))
      (keys_discard hs)
      (bases_fit head.bases (length hs))
      (members_hold (member_shapes ms))
      (broken_none (structure head ms) own)
      inner
  node_kept (union head disc cs) own below =
      let hs = case_heads (case_shapes cs) in
      let both = first_none _ _ (sym (inside_union head disc cs) ∙ below) in
      let key = from_node disc (node_kept disc) (unmapped _ _ both.0) in
      let inner = cases_kept cs both.1 in
      union_kept
      (union_names head cs)
      (hashes_apart (map (λ h. h.hash) hs))
      (ids_fit (map (λ h. h.id) hs))
      (not_empty hs)
      (not_mutable head.ext)
      (is_discriminator (shape disc))
      (labels_fit (shape disc) hs)
      (rules_hold (shape disc))
      (cases_hold (case_shapes cs))
      (broken_none (union head disc cs) own)
      key
      inner
  node_kept (alias name t) own below = from_node t (node_kept t) (sym (inside_alias name t) ∙ below)

  members_kept : (ms : Members) → members_fault ms ≡ None → members_hold (member_shapes ms) ≡ true
  members_kept no_members e = refl
  members_kept (member head t ms) e =
      let both = first_none _ _ (sym (members_fault_step head t ms) ∙ e) in
      let here = from_node t (node_kept t) (unmapped _ _ both.0) in
      let rest = members_kept ms both.1 in rw (here, rest) refl

  cases_kept : (cs : Cases) → cases_fault cs ≡ None → cases_hold (case_shapes cs) ≡ true
  cases_kept no_cases e = refl
  cases_kept (one_case head t cs) e =
      let both = first_none _ _ (sym (cases_fault_step head t cs) ∙ e) in
      let here = from_node t (node_kept t) (unmapped _ _ both.0) in
      let rest = cases_kept cs both.1 in rw (here, rest) refl

-- nothing of a type fails: neither its depth, nor its size, nor a rule at a node
record IsFaultless (t : Tree) : Type 0 where
  shallow_enough : first_deep 16 t ≡ None
  small : is_small t ≡ true
  rules : first_fault t ≡ None

small_is : (b : Bool) → cond {A = Option (ℕ × List Step)} b None (Some (16, [])) ≡ None → b ≡ true
small_is true e = refl
small_is false e = absurd (some_is (16, []) e)

faultless : (t : Tree) → type_fault t ≡ None → IsFaultless t
unfolding type_fault
faultless t e =
    let deep = first_none (option_map (λ p. (15, p)) (first_deep 16 t)) _ e in
    let others = first_none (cond (is_small t) None (Some (16, []))) (first_fault t) deep.1 in
    record { shallow_enough = unmapped _ _ deep.0; small = small_is (is_small t) others.0; rules = others.1 }

pub rules_kept : (t : Tree) → type_fault t ≡ None → rules_hold (shape t) ≡ true
rules_kept t e = from_node t (node_kept t) (faultless t e).rules

below_limit : (n : ℕ) → nat_le n 65536 ≡ true → n ≤ 65536
below_limit n e = grind (arith, tests)

pub limits_kept : (t : Tree) → type_fault t ≡ None → (depth t ≤ 16) × (nodes t ≤ 65536) × (weight (shape t) ≤ 65536)
limits_kept t e =
    let whole = faultless t e in
    let both = both_true (nat_le (nodes t) 65536) (nat_le (weight (shape t)) 65536) whole.small in (shallow t 16 whole.shallow_enough, below_limit (nodes t) both.0, below_limit (weight (shape t)) both.1)
