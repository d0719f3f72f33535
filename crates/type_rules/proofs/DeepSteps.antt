-- The first node with many nodes above it, level by level.
use Rattle.std.proofs.Common.{◌≡◌, refl, true≢false, ℕ, zero, suc, ◌+◌, ◌-◌, ◌<◌, ◌≤◌, ◌==◌, List, [], ◌∷◌, ◌++◌, length, get_or, drop, cond, Bool, true, false, Option, Some, None, ap, sym, ◌∙◌, arith, rules, tests}
use Rattle.std.specs.Option.{option_map}
use Rattle.std.proofs.lemmas.List.{drop_more}
use Rattle.std.proofs.Math.ListN.{drop_of_length-le}
use Rattle.xt_shapes.specs.declared.leaves.Step.{Step}
use Rattle.xt_shapes.specs.declared.leaves.Primitive.{Primitive}
use Rattle.xt_shapes.specs.declared.leaves.Ext.{Ext}
use Rattle.xt_shapes.specs.declared.leaves.Try.{Try}
use Rattle.type_trees.specs.declared.types.Literal.{Literal}
use Rattle.type_trees.specs.declared.types.Flag.{Flag}
use Rattle.type_trees.specs.declared.types.Member.{Member}
use Rattle.type_trees.specs.declared.types.Case.{Case}
use Rattle.type_trees.specs.Trees.{MemberHead, CaseHead, StructHead, UnionHead, Tree, prim, str, enumeration, bitmask, sequence, array, map_of, structure, union, alias, Members, no_members, member, Cases, no_cases, one_case}
use Rattle.xt_shapes.specs.Lists.{or_else}
use Rattle.type_rules.specs.Places.{Place, beneath_all, places, inside, member_places, case_places, depth, members_depth, cases_depth}
use Rattle.type_rules.specs.Valid.{first_with_above, first_deep, deep_inside, deep_members, deep_cases}
use Rattle.type_trees.specs.View.{tree, members_tree, cases_tree}
use Rattle.type_trees.proofs.Views.{member_tree_is, case_tree_is}

same_suc : (m n : ℕ) → (suc m == suc n) ≡ (m == n)
same_suc m n = search (rules, tests)

above_append : (n : ℕ) (ps qs : List Place) → first_with_above n (ps ++ qs) ≡ or_else (first_with_above n ps) (first_with_above n qs)
above_append n [] qs = refl
above_append n (p ∷ ps) qs =
    elim (p.above == n) as (λ b. cond b (Some p.path) (first_with_above n (ps ++ qs)) ≡ or_else (cond b (Some p.path) (first_with_above n ps)) (first_with_above n qs)) [
      | true ↦ refl
      | false ↦ above_append n ps qs
    ]

above_beneath : (n : ℕ) (steps : List Step) (ps : List Place) → first_with_above (suc n) (beneath_all steps ps) ≡ option_map (λ p. steps ++ p) (first_with_above n ps)
above_beneath n steps [] = refl
above_beneath n steps (p ∷ ps) =
    ap (λ b. cond b (Some (steps ++ p.path)) (first_with_above (suc n) (beneath_all steps ps))) (same_suc p.above n) ∙ elim (p.above == n) as (λ b. cond b (Some (steps ++ p.path)) (first_with_above (suc n) (beneath_all steps ps)) ≡ option_map (λ q. steps ++ q) (cond b (Some p.path) (first_with_above n ps))) [
      | true ↦ refl
      | false ↦ above_beneath n steps ps
    ]

pub deep_zero : (t : Tree) → first_deep 0 t ≡ Some []
unfolding first_deep
deep_zero t = refl

not_zero : (n : ℕ) → (0 == suc n) ≡ false
not_zero n = search (rules, tests)

pub deep_suc : (n : ℕ) (t : Tree) → first_deep (suc n) t ≡ deep_inside n t
unfolding first_deep deep_inside
deep_suc n t = ap (λ b. cond b (Some []) (first_with_above (suc n) (inside t))) (not_zero n)

pub deep_prim : (n : ℕ) (p : Primitive) → deep_inside n (prim p) ≡ None
unfolding deep_inside
deep_prim n p = refl

pub deep_str : (n b : ℕ) → deep_inside n (str b) ≡ None
unfolding deep_inside
deep_str n b = refl

pub deep_enumeration : (n : ℕ) (m : Option (List ℕ)) (e : Ext) (b : ℕ) (ls : List Literal) → deep_inside n (enumeration m e b ls) ≡ None
unfolding deep_inside
deep_enumeration n m e b ls = refl

pub deep_bitmask : (n : ℕ) (m : Option (List ℕ)) (b : ℕ) (fs : List Flag) → deep_inside n (bitmask m b fs) ≡ None
unfolding deep_inside
deep_bitmask n m b fs = refl

pub deep_sequence : (n b : ℕ) (tc : Try) (t : Tree) → deep_inside n (sequence b tc t) ≡ option_map (λ p. Step.Element ∷ p) (first_deep n t)
unfolding deep_inside first_deep
deep_sequence n b tc t = above_beneath n (Step.Element ∷ []) (places t)

pub deep_array : (n : ℕ) (ds : List ℕ) (tc : Try) (t : Tree) → deep_inside n (array ds tc t) ≡ option_map (λ p. Step.Element ∷ p) (first_deep n t)
unfolding deep_inside first_deep
deep_array n ds tc t = above_beneath n (Step.Element ∷ []) (places t)

pub deep_map : (n b : ℕ) (kc : Try) (k : Tree) (vc : Try) (v : Tree)
    → deep_inside n (map_of b kc k vc v) ≡ or_else (option_map (λ p. Step.Key ∷ p) (first_deep n k)) (option_map (λ p. Step.Entry ∷ p) (first_deep n v))
unfolding deep_inside first_deep
deep_map n b kc k vc v =
    above_append (suc n) (beneath_all (Step.Key ∷ []) (places k)) (beneath_all (Step.Entry ∷ []) (places v)) ∙ rw (above_beneath n (Step.Key ∷ []) (places k), above_beneath n (Step.Entry ∷ []) (places v)) refl

pub deep_structure : (n : ℕ) (h : StructHead) (ms : Members) → deep_inside n (structure h ms) ≡ deep_members n ms
unfolding deep_inside deep_members
deep_structure n h ms = refl

pub deep_union : (n : ℕ) (h : UnionHead) (d : Tree) (cs : Cases) → deep_inside n (union h d cs) ≡ or_else (option_map (λ p. Step.Disc ∷ p) (first_deep n d)) (deep_cases n cs)
unfolding deep_inside first_deep deep_cases
deep_union n h d cs =
    above_append (suc n) (beneath_all (Step.Disc ∷ []) (places d)) (case_places cs) ∙ rw (above_beneath n (Step.Disc ∷ []) (places d)) refl

same_path : (o : Option (List Step)) → option_map (λ p. [] ++ p) o ≡ o
same_path None = refl
same_path (Some p) = refl

pub deep_alias : (n : ℕ) (m : Option (List ℕ)) (t : Tree) → deep_inside n (alias m t) ≡ first_deep n t
unfolding deep_inside first_deep
deep_alias n m t = above_beneath n [] (places t) ∙ same_path (first_with_above n (places t))

pub deep_no_members : (n : ℕ) → deep_members n no_members ≡ None
unfolding deep_members
deep_no_members n = refl

pub deep_member : (n : ℕ) (h : MemberHead) (t : Tree) (ms : Members) → deep_members n (member h t ms) ≡ or_else (option_map (λ p. Step.Member h.id ∷ p) (first_deep n t)) (deep_members n ms)
unfolding deep_members first_deep
deep_member n h t ms =
    above_append (suc n) (beneath_all (Step.Member h.id ∷ []) (places t)) (member_places ms) ∙ rw (above_beneath n (Step.Member h.id ∷ []) (places t)) refl

pub deep_no_cases : (n : ℕ) → deep_cases n no_cases ≡ None
unfolding deep_cases
deep_no_cases n = refl

pub deep_case : (n : ℕ) (h : CaseHead) (t : Tree) (cs : Cases) → deep_cases n (one_case h t cs) ≡ or_else (option_map (λ p. Step.Member h.id ∷ p) (first_deep n t)) (deep_cases n cs)
unfolding deep_cases first_deep
deep_case n h t cs =
    above_append (suc n) (beneath_all (Step.Member h.id ∷ []) (places t)) (case_places cs) ∙ rw (above_beneath n (Step.Member h.id ∷ []) (places t)) refl

pub ruleset deep_rules = (deep_zero, deep_prim, deep_str, deep_enumeration, deep_bitmask, deep_sequence, deep_array, deep_map, deep_structure, deep_union, deep_alias, deep_no_members, deep_no_cases)

-- Where no node has n nodes above it, the depth is at most n.
abbrev holds_one : {A : Type 0} → Option A → Bool
holds_one None = false
holds_one (Some a) = true

pub some_is : {A : Type 0} (a : A) → Some a ≡ None → ⊥
some_is a e = true≢false (ap holds_one e)

pub unmapped : {A B : Type 0} (f : A → B) (o : Option A) → option_map f o ≡ None → o ≡ None
unmapped f None e = refl
unmapped f (Some a) e = absurd (some_is (f a) e)

pub first_none : {A : Type 0} (a b : Option A) → or_else a b ≡ None → (a ≡ None) × (b ≡ None)
first_none None b e = (refl, e)
first_none (Some a) b e = absurd (some_is a e)

from_inside : (t : Tree) → ((n : ℕ) → deep_inside n t ≡ None → depth t ≤ suc n) → (n : ℕ) → first_deep n t ≡ None → depth t ≤ n
from_inside t below zero e = absurd (some_is [] (sym (deep_zero t) ∙ e))
from_inside t below (suc n) e = below n (sym (deep_suc n t) ∙ e)

mutual
  shallow_inside : (t : Tree) (n : ℕ) → deep_inside n t ≡ None → depth t ≤ suc n
  shallow_inside (prim p) n e = omega arith
  shallow_inside (str b) n e = omega arith
  shallow_inside (enumeration m x b ls) n e = omega arith
  shallow_inside (bitmask m b fs) n e = omega arith
  shallow_inside (sequence b tc t) n e =
      let sub : depth t ≤ n = from_inside t (shallow_inside t) n (unmapped _ _ (sym (deep_sequence n b tc t) ∙ e)) in
      omega (arith, sub)
  shallow_inside (array ds tc t) n e =
      let sub : depth t ≤ n = from_inside t (shallow_inside t) n (unmapped _ _ (sym (deep_array n ds tc t) ∙ e)) in
      omega (arith, sub)
  shallow_inside (map_of b kc k vc v) n e =
      let both = first_none _ _ (sym (deep_map n b kc k vc v) ∙ e) in
      let key : depth k ≤ n = from_inside k (shallow_inside k) n (unmapped _ _ both.0) in
      let value : depth v ≤ n = from_inside v (shallow_inside v) n (unmapped _ _ both.1) in
      omega (arith, key, value)
  shallow_inside (structure h ms) n e =
      let sub = shallow_members ms n (sym (deep_structure n h ms) ∙ e) in
      omega (arith, sub)
  shallow_inside (union h d cs) n e =
      let both = first_none _ _ (sym (deep_union n h d cs) ∙ e) in
      let disc : depth d ≤ n = from_inside d (shallow_inside d) n (unmapped _ _ both.0) in
      let sub = shallow_cases cs n both.1 in
      omega (arith, disc, sub)
  shallow_inside (alias m t) n e =
      let sub : depth t ≤ n = from_inside t (shallow_inside t) n (sym (deep_alias n m t) ∙ e) in
      omega (arith, sub)

  shallow_members : (ms : Members) (n : ℕ) → deep_members n ms ≡ None → members_depth ms ≤ n
  shallow_members no_members n e = omega arith
  shallow_members (member h t ms) n e =
      let both = first_none _ _ (sym (deep_member n h t ms) ∙ e) in
      let sub : depth t ≤ n = from_inside t (shallow_inside t) n (unmapped _ _ both.0) in
      let rest = shallow_members ms n both.1 in
      omega (arith, sub, rest)

  shallow_cases : (cs : Cases) (n : ℕ) → deep_cases n cs ≡ None → cases_depth cs ≤ n
  shallow_cases no_cases n e = omega arith
  shallow_cases (one_case h t cs) n e =
      let both = first_none _ _ (sym (deep_case n h t cs) ∙ e) in
      let sub : depth t ≤ n = from_inside t (shallow_inside t) n (unmapped _ _ both.0) in
      let rest = shallow_cases cs n both.1 in
      omega (arith, sub, rest)

pub shallow : (t : Tree) (n : ℕ) → first_deep n t ≡ None → depth t ≤ n
shallow t n e = from_inside t (shallow_inside t) n e

-- The same of members and cases, one on.
pub deep_members_end : (n : ℕ) (ms : List Member) (i : ℕ) → length ms ≤ i → deep_members n (members_tree (drop i ms)) ≡ None
deep_members_end n ms i past = rw (drop_of_length-le ms past) (deep_no_members n)

pub deep_members_next : (n : ℕ) (ms : List Member) (i : ℕ) (m : Member) → i < length ms → m ≡ get_or ms i m
    → deep_members n (members_tree (drop i ms)) ≡ or_else (option_map (λ p. Step.Member m.id ∷ p) (first_deep n (tree m.ty))) (deep_members n (members_tree (drop (i + 1) ms)))
deep_members_next n ms i m within is = rw (drop_more ms i m within, ← is, member_tree_is m) (deep_member n _ _ _)

pub deep_cases_end : (n : ℕ) (cs : List Case) (i : ℕ) → length cs ≤ i → deep_cases n (cases_tree (drop i cs)) ≡ None
deep_cases_end n cs i past = rw (drop_of_length-le cs past) (deep_no_cases n)

pub deep_cases_next : (n : ℕ) (cs : List Case) (i : ℕ) (c : Case) → i < length cs → c ≡ get_or cs i c
    → deep_cases n (cases_tree (drop i cs)) ≡ or_else (option_map (λ p. Step.Member c.id ∷ p) (first_deep n (tree c.ty))) (deep_cases n (cases_tree (drop (i + 1) cs)))
deep_cases_next n cs i c within is = rw (drop_more cs i c within, ← is, case_tree_is c) (deep_case n _ _ _)

pub deep_below : (n : ℕ) (t : Tree) → (n ≡ 0 → ⊥) → first_deep n t ≡ deep_inside (n - 1) t
deep_below zero t h = absurd (h refl)
deep_below (suc n) t h = deep_suc n t ∙ ap (λ k. deep_inside k t) (omega arith)
