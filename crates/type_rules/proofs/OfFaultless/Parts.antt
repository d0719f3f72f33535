-- What is below the node of a type without a fault has none.
use Rattle.std.proofs.Common.{◌≡◌, refl, sym, ap, ◌∙◌, ℕ, zero, suc, ◌+◌, ◌*◌, ◌≤◌, Bool, true, false, ◌&&◌, cond, nat_le, List, [], ◌∷◌, Option, Some, None, arith, tests}
use Rattle.std.specs.Prelude.{max}
use Rattle.std.specs.Option.{option_map}
use Rattle.std.proofs.lemmas.Bool.{and_parts}
use Rattle.xt_shapes.specs.declared.leaves.Step.{Step}
use Rattle.xt_shapes.specs.Lists.{or_else}
use Rattle.xt_shapes.specs.Shape as shapes
use Rattle.xt_shapes.specs.Shape.{Shape}
use Rattle.xt_shapes.specs.NodeRules.{is_light, is_discriminator}
use Rattle.xt_shapes.specs.Weight.{weight, weights, greatest}
use Rattle.type_trees.specs.Trees.{Tree, prim, str, enumeration, bitmask, sequence, array, map_of, structure, union, alias, Members, no_members, member, Cases, no_cases, one_case}
use Rattle.type_trees.specs.Bridge.{shape, member_shapes, case_shapes}
use Rattle.type_trees.specs.sizes.TypeNodes.{nodes, member_nodes, case_nodes}
use Rattle.type_rules.specs.Valid.{first_fault, fault_inside, members_fault, cases_fault, first_deep, deep_inside, deep_members, deep_cases, is_small, type_fault}
use Rattle.type_rules.proofs.DeepSteps.{first_none, unmapped, some_is, deep_zero, deep_suc, deep_prim, deep_str, deep_enumeration, deep_bitmask, deep_sequence, deep_array, deep_map, deep_structure, deep_union, deep_alias, deep_no_members, deep_member, deep_no_cases, deep_case}
use Rattle.type_rules.proofs.FaultSteps.{inside_sequence, inside_array, inside_map, inside_structure, inside_union, inside_alias, members_fault_step, cases_fault_step}
use Rattle.type_rules.specs.faultless.Laws.{AreValid, EachPartIsValid}
use Rattle.type_rules.specs.faultless.Parts.{member_parts, case_parts}
use Rattle.type_rules.proofs.OfFaultless.Nodes.{at_and_below, each_rule_holds}

-- ---- where no node has n nodes above it, none has one more

both_none : {A : Type 0} (a b : Option A) → a ≡ None → b ≡ None → or_else a b ≡ None
both_none a b none others = ap (λ o. or_else o b) none ∙ others

mapped : {A B : Type 0} (f : A → B) (o : Option A) → o ≡ None → option_map f o ≡ None
mapped f o e = ap (option_map f) e

from_inside : (t : Tree) → ((n : ℕ) → deep_inside n t ≡ None → deep_inside (suc n) t ≡ None) → (n : ℕ) → first_deep n t ≡ None → first_deep (suc n) t ≡ None
from_inside t below zero e = absurd (some_is [] (sym (deep_zero t) ∙ e))
from_inside t below (suc n) e = deep_suc (suc n) t ∙ below n (sym (deep_suc n t) ∙ e)

mutual
  deeper_inside : (t : Tree) (n : ℕ) → deep_inside n t ≡ None → deep_inside (suc n) t ≡ None
  deeper_inside (prim p) n e = deep_prim (suc n) p
  deeper_inside (str b) n e = deep_str (suc n) b
  deeper_inside (enumeration m x b ls) n e = deep_enumeration (suc n) m x b ls
  deeper_inside (bitmask m b fs) n e = deep_bitmask (suc n) m b fs
  deeper_inside (sequence b tc t) n e = deep_sequence (suc n) b tc t ∙ mapped _ _ (from_inside t (deeper_inside t) n (unmapped _ _ (sym (deep_sequence n b tc t) ∙ e)))
  deeper_inside (array ds tc t) n e = deep_array (suc n) ds tc t ∙ mapped _ _ (from_inside t (deeper_inside t) n (unmapped _ _ (sym (deep_array n ds tc t) ∙ e)))
  deeper_inside (map_of b kc k vc v) n e =
      let both = first_none _ _ (sym (deep_map n b kc k vc v) ∙ e) in
      deep_map (suc n) b kc k vc v ∙ both_none _ _ (mapped _ _ (from_inside k (deeper_inside k) n (unmapped _ _ both.0))) (mapped _ _ (from_inside v (deeper_inside v) n (unmapped _ _ both.1)))
  deeper_inside (structure h ms) n e = deep_structure (suc n) h ms ∙ deeper_members ms n (sym (deep_structure n h ms) ∙ e)
  deeper_inside (union h d cs) n e =
      let both = first_none _ _ (sym (deep_union n h d cs) ∙ e) in
      deep_union (suc n) h d cs ∙ both_none _ _ (mapped _ _ (from_inside d (deeper_inside d) n (unmapped _ _ both.0))) (deeper_cases cs n both.1)
  deeper_inside (alias m t) n e = deep_alias (suc n) m t ∙ from_inside t (deeper_inside t) n (sym (deep_alias n m t) ∙ e)

  deeper_members : (ms : Members) (n : ℕ) → deep_members n ms ≡ None → deep_members (suc n) ms ≡ None
  deeper_members no_members n e = deep_no_members (suc n)
  deeper_members (member h t ms) n e =
      let both = first_none _ _ (sym (deep_member n h t ms) ∙ e) in
      deep_member (suc n) h t ms ∙ both_none _ _ (mapped _ _ (from_inside t (deeper_inside t) n (unmapped _ _ both.0))) (deeper_members ms n both.1)

  deeper_cases : (cs : Cases) (n : ℕ) → deep_cases n cs ≡ None → deep_cases (suc n) cs ≡ None
  deeper_cases no_cases n e = deep_no_cases (suc n)
  deeper_cases (one_case h t cs) n e =
      let both = first_none _ _ (sym (deep_case n h t cs) ∙ e) in
      deep_case (suc n) h t cs ∙ both_none _ _ (mapped _ _ (from_inside t (deeper_inside t) n (unmapped _ _ both.0))) (deeper_cases cs n both.1)

deeper : (t : Tree) (n : ℕ) → first_deep n t ≡ None → first_deep (suc n) t ≡ None
deeper t n e = from_inside t (deeper_inside t) n e

-- ---- one part

within : (n : ℕ) → n ≤ 65536 → nat_le n 65536 ≡ true
within n le = grind (arith, tests)

within_is : (n : ℕ) → nat_le n 65536 ≡ true → n ≤ 65536
within_is n e = grind (arith, tests)

small : (t : Tree) → nodes t ≤ 65536 → weight (shape t) ≤ 65536 → is_small t ≡ true
small t few light = rw (within (nodes t) few, within (weight (shape t)) light) refl

whole : (t : Tree) → first_deep 16 t ≡ None → is_small t ≡ true → first_fault t ≡ None → type_fault t ≡ None
unfolding type_fault
whole t deep is_so rules = rw (deep, is_so, rules) refl

part_valid : (t : Tree) → first_deep 15 t ≡ None → nodes t ≤ 65536 → weight (shape t) ≤ 65536 → first_fault t ≡ None → type_fault t ≡ None
part_valid t deep few light rules = whole t (deeper t 15 deep) (small t few light) rules

members_valid : (ms : Members) → deep_members 15 ms ≡ None → member_nodes ms ≤ 65536 → weights (member_shapes ms) ≤ 65536 → members_fault ms ≡ None → AreValid (member_parts ms)
members_valid no_members deep few light rules = tt
members_valid (member h t ms) deep few light rules =
    let shallow = first_none _ _ (sym (deep_member 15 h t ms) ∙ deep) in
    let sound = first_none _ _ (sym (members_fault_step h t ms) ∙ rules) in
    (part_valid t (unmapped _ _ shallow.0) (omega (arith, few)) (omega (arith, light)) (unmapped _ _ sound.0), members_valid ms shallow.1 (omega (arith, few)) (omega (arith, light)) sound.1)

greatest_of : (n k : ℕ) → max n k ≤ 65536 → (n ≤ 65536) × (k ≤ 65536)
greatest_of n k le = (omega (arith, le), omega (arith, le))

cases_valid : (cs : Cases) → deep_cases 15 cs ≡ None → case_nodes cs ≤ 65536 → greatest (case_shapes cs) ≤ 65536 → cases_fault cs ≡ None → AreValid (case_parts cs)
cases_valid no_cases deep few light rules = tt
cases_valid (one_case h t cs) deep few light rules =
    let shallow = first_none _ _ (sym (deep_case 15 h t cs) ∙ deep) in
    let sound = first_none _ _ (sym (cases_fault_step h t cs) ∙ rules) in
    let both = greatest_of (weight (shape t)) (greatest (case_shapes cs)) light in
    (part_valid t (unmapped _ _ shallow.0) (omega (arith, few)) both.0 (unmapped _ _ sound.0), cases_valid cs shallow.1 (omega (arith, few)) both.1 sound.1)

-- ---- what an element and a discriminator weigh

light_is : (s : Shape) → is_light s ≡ true → weight s ≤ 65536
light_is s e = below (weight s) e
  where
    below : (n : ℕ) → nat_le n 128 ≡ true → n ≤ 65536
    below n e = grind (arith, tests)

disc_is : (s : Shape) → is_discriminator s ≡ true → weight s ≤ 65536
disc_is (shapes.prim p) e = omega arith
disc_is (shapes.enumeration ext bits ls) e = omega arith
disc_is _ e = absurd cc

-- ---- the law

-- nothing of a type fails: neither its depth, nor its size, nor a rule below its node
record Kept (t : Tree) : Type 0 where
  shallow : deep_inside 15 t ≡ None
  few : nodes t ≤ 65536
  light : weight (shape t) ≤ 65536
  below : fault_inside t ≡ None

is_kept : (b : Bool) → cond {A = Option (ℕ × List Step)} b None (Some (16, [])) ≡ None → b ≡ true
is_kept true e = refl
is_kept false e = absurd (some_is (16, []) e)

kept : (t : Tree) → type_fault t ≡ None → Kept t
unfolding type_fault
kept t e =
    let deep = first_none (option_map (λ p. (15, p)) (first_deep 16 t)) _ e in
    let others = first_none (cond (is_small t) None (Some (16, []))) (first_fault t) deep.1 in
    let limits = and_parts (nat_le (nodes t) 65536) (nat_le (weight (shape t)) 65536) (is_kept (is_small t) others.0) in
    record { shallow = sym (deep_suc 15 t) ∙ unmapped _ _ deep.0; few = within_is (nodes t) limits.0; light = within_is (weight (shape t)) limits.1; below = (at_and_below t others.1).1 }

element_valid : (t : Tree) → first_deep 15 t ≡ None → nodes t ≤ 65536 → is_light (shape t) ≡ true → first_fault t ≡ None → type_fault t ≡ None
element_valid t deep few light rules = part_valid t deep few (light_is (shape t) light) rules

pub each_part_is_valid : EachPartIsValid
each_part_is_valid (prim p) e = tt
each_part_is_valid (str b) e = tt
each_part_is_valid (enumeration m x b ls) e = tt
each_part_is_valid (bitmask m b fs) e = tt
each_part_is_valid (sequence b tc t) e =
    let k = kept (sequence b tc t) e in
    let light = (each_rule_holds (sequence b tc t) e).0 in
    (element_valid t (unmapped _ _ (sym (deep_sequence 15 b tc t) ∙ k.shallow)) (omega (arith, k.few)) light (unmapped _ _ (sym (inside_sequence b tc t) ∙ k.below)), tt)
each_part_is_valid (array ds tc t) e =
    let k = kept (array ds tc t) e in
    let light = (each_rule_holds (array ds tc t) e).1.0 in
    (element_valid t (unmapped _ _ (sym (deep_array 15 ds tc t) ∙ k.shallow)) (omega (arith, k.few)) light (unmapped _ _ (sym (inside_array ds tc t) ∙ k.below)), tt)
each_part_is_valid (map_of b kc key vc value) e =
    let k = kept (map_of b kc key vc value) e in
    let light = and_parts (is_light (shape key)) (is_light (shape value)) (each_rule_holds (map_of b kc key vc value) e).1.0 in
    let shallow = first_none _ _ (sym (deep_map 15 b kc key vc value) ∙ k.shallow) in
    let sound = first_none _ _ (sym (inside_map b kc key vc value) ∙ k.below) in
    (element_valid key (unmapped _ _ shallow.0) (omega (arith, k.few)) light.0 (unmapped _ _ sound.0), (element_valid value (unmapped _ _ shallow.1) (omega (arith, k.few)) light.1 (unmapped _ _ sound.1), tt))
each_part_is_valid (structure h ms) e =
    let k = kept (structure h ms) e in
    members_valid ms (sym (deep_structure 15 h ms) ∙ k.shallow) (omega (arith, k.few)) (omega (arith, k.light)) (sym (inside_structure h ms) ∙ k.below)
each_part_is_valid (union h disc cs) e =
    let k = kept (union h disc cs) e in
    let closed = (each_rule_holds (union h disc cs) e).1.1.1.1.1.0 in
    let shallow = first_none _ _ (sym (deep_union 15 h disc cs) ∙ k.shallow) in
    let sound = first_none _ _ (sym (inside_union h disc cs) ∙ k.below) in
    (part_valid disc (unmapped _ _ shallow.0) (omega (arith, k.few)) (disc_is (shape disc) closed) (unmapped _ _ sound.0), cases_valid cs shallow.1 (omega (arith, k.few)) (omega (arith, k.light)) sound.1)
each_part_is_valid (alias m t) e =
    let k = kept (alias m t) e in
    (part_valid t (sym (deep_alias 15 m t) ∙ k.shallow) (omega (arith, k.few)) k.light (sym (inside_alias m t) ∙ k.below), tt)
