-- The first fault among the nodes of several types.
use Rattle.std.proofs.Common.{◌≡◌, refl, ℕ, List, [], ◌∷◌, ◌++◌, Option, Some, None, sym, ◌∙◌}
use Rattle.std.specs.Option.{option_map}
use Rattle.xt_shapes.specs.declared.leaves.Step.{Step}
use Rattle.xt_shapes.specs.declared.leaves.Primitive.{Primitive}
use Rattle.xt_shapes.specs.declared.leaves.Ext.{Ext}
use Rattle.xt_shapes.specs.declared.leaves.Try.{Try}
use Rattle.type_trees.specs.declared.types.Literal.{Literal}
use Rattle.type_trees.specs.declared.types.Flag.{Flag}
use Rattle.type_trees.specs.Trees.{MemberHead, CaseHead, StructHead, UnionHead, Tree, prim, str, enumeration, bitmask, sequence, array, map_of, structure, union, alias, Members, no_members, member, Cases, no_cases, one_case}
use Rattle.xt_shapes.specs.Lists.{or_else}
use Rattle.type_rules.specs.Places.{Place, beneath_all, places, member_places, case_places}
use Rattle.type_rules.specs.Valid.{first_failing, fault_beneath, first_fault, fault_inside, members_fault, cases_fault}
use Rattle.node_rules.specs.Table.{failing}

first_of_three : {A : Type 0} (a b c : Option A) → or_else (or_else a b) c ≡ or_else a (or_else b c)
first_of_three None b c = refl
first_of_three (Some a) b c = refl

pub first_append : (ps qs : List Place) → first_failing (ps ++ qs) ≡ or_else (first_failing ps) (first_failing qs)
first_append [] qs = refl
first_append (p ∷ ps) qs = rw (first_append ps qs) (sym (first_of_three (option_map (λ r. (r, p.path)) (failing p.node)) (first_failing ps) (first_failing qs)))

two_beneath : (steps path : List Step) (r : Option ℕ) (o : Option (ℕ × List Step))
    → or_else (option_map (λ n. (n, steps ++ path)) r) (option_map (fault_beneath steps) o) ≡ option_map (fault_beneath steps) (or_else (option_map (λ n. (n, path)) r) o)
two_beneath steps path None o = refl
two_beneath steps path (Some n) o = refl

pub first_beneath : (steps : List Step) (ps : List Place) → first_failing (beneath_all steps ps) ≡ option_map (fault_beneath steps) (first_failing ps)
first_beneath steps [] = refl
first_beneath steps (p ∷ ps) = rw (first_beneath steps ps) (two_beneath steps p.path (failing p.node) (first_failing ps))

-- The first fault, level by level.
pub fault_is : (t : Tree) → first_fault t ≡ or_else (option_map (λ r. (r, [])) (failing t)) (fault_inside t)
unfolding first_fault fault_inside
fault_is t = refl

pub inside_prim : (p : Primitive) → fault_inside (prim p) ≡ None
unfolding fault_inside
inside_prim p = refl

pub inside_str : (n : ℕ) → fault_inside (str n) ≡ None
unfolding fault_inside
inside_str n = refl

pub inside_enumeration : (n : Option (List ℕ)) (e : Ext) (b : ℕ) (ls : List Literal) → fault_inside (enumeration n e b ls) ≡ None
unfolding fault_inside
inside_enumeration n e b ls = refl

pub inside_bitmask : (n : Option (List ℕ)) (b : ℕ) (fs : List Flag) → fault_inside (bitmask n b fs) ≡ None
unfolding fault_inside
inside_bitmask n b fs = refl

pub inside_sequence : (n : ℕ) (tc : Try) (t : Tree) → fault_inside (sequence n tc t) ≡ option_map (fault_beneath (Step.Element ∷ [])) (first_fault t)
unfolding fault_inside first_fault
inside_sequence n tc t = first_beneath (Step.Element ∷ []) (places t)

pub inside_array : (ds : List ℕ) (tc : Try) (t : Tree) → fault_inside (array ds tc t) ≡ option_map (fault_beneath (Step.Element ∷ [])) (first_fault t)
unfolding fault_inside first_fault
inside_array ds tc t = first_beneath (Step.Element ∷ []) (places t)

pub inside_map : (n : ℕ) (kc : Try) (k : Tree) (vc : Try) (v : Tree)
    → fault_inside (map_of n kc k vc v) ≡ or_else (option_map (fault_beneath (Step.Key ∷ [])) (first_fault k)) (option_map (fault_beneath (Step.Entry ∷ [])) (first_fault v))
unfolding fault_inside first_fault
inside_map n kc k vc v =
    first_append (beneath_all (Step.Key ∷ []) (places k)) (beneath_all (Step.Entry ∷ []) (places v)) ∙ rw (first_beneath (Step.Key ∷ []) (places k), first_beneath (Step.Entry ∷ []) (places v)) refl

pub inside_structure : (h : StructHead) (ms : Members) → fault_inside (structure h ms) ≡ members_fault ms
unfolding fault_inside members_fault
inside_structure h ms = refl

pub inside_union : (h : UnionHead) (d : Tree) (cs : Cases) → fault_inside (union h d cs) ≡ or_else (option_map (fault_beneath (Step.Disc ∷ [])) (first_fault d)) (cases_fault cs)
unfolding fault_inside first_fault cases_fault
inside_union h d cs =
    first_append (beneath_all (Step.Disc ∷ []) (places d)) (case_places cs) ∙ rw (first_beneath (Step.Disc ∷ []) (places d)) refl

none_beneath : (o : Option (ℕ × List Step)) → option_map (fault_beneath []) o ≡ o
none_beneath None = refl
none_beneath (Some f) = refl

pub inside_alias : (n : Option (List ℕ)) (t : Tree) → fault_inside (alias n t) ≡ first_fault t
unfolding fault_inside first_fault
inside_alias n t = first_beneath [] (places t) ∙ none_beneath (first_failing (places t))

pub members_fault_none : members_fault no_members ≡ None
unfolding members_fault
members_fault_none = refl

pub members_fault_step : (h : MemberHead) (t : Tree) (ms : Members) → members_fault (member h t ms) ≡ or_else (option_map (fault_beneath (Step.Member h.id ∷ [])) (first_fault t)) (members_fault ms)
unfolding members_fault first_fault
members_fault_step h t ms =
    first_append (beneath_all (Step.Member h.id ∷ []) (places t)) (member_places ms) ∙ rw (first_beneath (Step.Member h.id ∷ []) (places t)) refl

pub cases_fault_none : cases_fault no_cases ≡ None
unfolding cases_fault
cases_fault_none = refl

pub cases_fault_step : (h : CaseHead) (t : Tree) (cs : Cases) → cases_fault (one_case h t cs) ≡ or_else (option_map (fault_beneath (Step.Member h.id ∷ [])) (first_fault t)) (cases_fault cs)
unfolding cases_fault first_fault
cases_fault_step h t cs =
    first_append (beneath_all (Step.Member h.id ∷ []) (places t)) (case_places cs) ∙ rw (first_beneath (Step.Member h.id ∷ []) (places t)) refl

pub ruleset fault_rules = (fault_is, inside_prim, inside_str, inside_enumeration, inside_bitmask, inside_sequence, inside_array, inside_map, inside_structure, inside_union, inside_alias, members_fault_none, members_fault_step, cases_fault_none, cases_fault_step)
