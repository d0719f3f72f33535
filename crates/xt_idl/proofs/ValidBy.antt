-- A definition is valid where what it uses is, and what is kept of that is within the limits.
use Rattle.std.proofs.Common.{◌≡◌, refl, sym, ap, ◌∙◌, true≢false, ℕ, zero, suc, ◌≤◌, min, nat_le, arith, tests, Bool, true, false, ◌&&◌, cond, List, [], ◌∷◌, ◌++◌, map, Option, Some, None, Box, Global}
use Rattle.std.specs.Option.{option_map}
use Rattle.std.proofs.lemmas.Bool.{and_parts}
use Rattle.xt_shapes.specs.declared.leaves.Primitive.{Primitive}
use Rattle.xt_shapes.specs.declared.leaves.Primitive.TheVariants.{Boolean}
use Rattle.xt_shapes.specs.declared.leaves.Step.{Step}
use Rattle.xt_shapes.specs.declared.leaves.Try.{Try}
use Rattle.xt_shapes.specs.Lists.{all, or_else}
use Rattle.xt_shapes.specs.NodeRules.{dims_fit, is_map_key, is_light}
use Rattle.xt_shapes.specs.Weight.{weight}
use Rattle.type_trees.specs.Trees.{Tree, prim, str, enumeration, bitmask, sequence, array, map_of, structure, union, alias, Members, no_members, member, Cases, no_cases, one_case}
use Rattle.type_trees.specs.View.{members_of, cases_of}
use Rattle.type_trees.specs.Bridge.{shape}
use Rattle.type_trees.specs.sizes.TypeNodes.{nodes}
use Rattle.node_rules.specs.Table.{failing}
use Rattle.type_rules.specs.Places.{depth, members_depth, cases_depth}
use Rattle.type_rules.specs.Valid.{first_deep, deep_inside, deep_members, deep_cases, fault_beneath, first_fault, fault_inside, members_fault, cases_fault, type_fault, is_small}
use Rattle.type_rules.proofs.DeepSteps.{deep_suc, deep_prim, deep_str, deep_enumeration, deep_bitmask, deep_sequence, deep_array, deep_map, deep_structure, deep_union, deep_alias, deep_no_members, deep_member, deep_no_cases, deep_case, first_none}
use Rattle.type_rules.proofs.FaultSteps.{fault_is, inside_prim, inside_str, inside_enumeration, inside_bitmask, inside_sequence, inside_array, inside_map, inside_structure, inside_union, inside_alias, members_fault_none, members_fault_step, cases_fault_none, cases_fault_step}
use Rattle.type_rules.proofs.OfFaultless.Nodes.{no_fault}
use Rattle.idl_types.specs.State.{Declared}
use Rattle.idl_types.specs.declared.uses.Used as u
use Rattle.idl_types.specs.declared.uses.Used.{Used}
use Rattle.idl_types.specs.declared.declarations.UsedMember.{UsedMember}
use Rattle.idl_types.specs.declared.declarations.UsedCase.{UsedCase}
use Rattle.idl_types.specs.declared.declarations.Definition.{Definition}
use Rattle.idl_types.specs.declared.declarations.Definition.TheVariants as definition_of
use Rattle.idl_tokens.specs.Classes.{Text}
use Rattle.idl_types.specs.Uses.{tree_at, whole}
use Rattle.idl_types.proofs.Wholes.{whole_prim, whole_str, whole_seq, whole_array, whole_map, whole_declared}
use Rattle.idl_types.specs.Definitions.{ListedMembers, listed, defined, bases_before, members_on, members_before, member_whole, case_whole}
use Rattle.idl_types.specs.Kept.{is_clear, all_valid}
use Rattle.xt_idl.specs.Measures.{measured, is_within, use_keeps, use_light, map_keeps, parts_keep}
use Rattle.xt_idl.specs.Light.{keys_keyable}

none_is : (o : Option (ℕ × List Step)) → is_clear o ≡ true → o ≡ None
none_is None e = refl
none_is (Some f) e = absurd (true≢false (sym e))

is_none : (o : Option (ℕ × List Step)) → o ≡ None → is_clear o ≡ true
is_none o e = rw e refl

clear_of : (rule : Option ℕ) (inner : Option (ℕ × List Step)) → is_clear (or_else (option_map (λ r. (r, [])) rule) inner) ≡ (is_clear (option_map (λ r. (r, [])) rule) && is_clear inner)
clear_of None inner = refl
clear_of (Some r) inner = refl

clear_both : (a b : Option (ℕ × List Step)) → is_clear (or_else a b) ≡ (is_clear a && is_clear b)
clear_both None b = refl
clear_both (Some f) b = refl

clear_beneath : (f : ℕ × List Step → ℕ × List Step) (o : Option (ℕ × List Step)) → is_clear (option_map f o) ≡ is_clear o
clear_beneath f None = refl
clear_beneath f (Some x) = refl

one_rule : (n : ℕ) (holds : Bool) → is_clear (option_map (λ r. (r, [])) (cond holds None (Some n))) ≡ holds
one_rule n true = refl
one_rule n false = refl

two_rules : (m n : ℕ) (one other : Bool) → is_clear (option_map (λ r. (r, [])) (cond one (cond other None (Some n)) (Some m))) ≡ (one && other)
two_rules m n true true = refl
two_rules m n true false = refl
two_rules m n false other = refl

and_assoc : (a b c : Bool) → ((a && b) && c) ≡ (a && (b && c))
and_assoc true b c = refl
and_assoc false b c = refl

-- ---- types where they are used

pub prim_clear : (p : Primitive) → is_clear (first_fault (prim p)) ≡ true
unfolding failing
prim_clear p = rw (fault_is (prim p), inside_prim p) refl

pub str_clear : (n : ℕ) → is_clear (first_fault (str n)) ≡ true
unfolding failing
str_clear n = rw (fault_is (str n), inside_str n) refl

pub sequence_clear : (n : ℕ) (tc : Try) (t : Tree) → is_clear (first_fault (sequence n tc t)) ≡ (is_light (shape t) && is_clear (first_fault t))
unfolding failing
sequence_clear n tc t = rw (fault_is (sequence n tc t), clear_of (failing (sequence n tc t)) (fault_inside (sequence n tc t)), inside_sequence n tc t, clear_beneath (λ f. (f.0, Step.Element ∷ f.1)) (first_fault t), one_rule 14 (is_light (shape t))) refl

pub array_clear : (ds : List ℕ) (tc : Try) (t : Tree) → is_clear (first_fault (array ds tc t)) ≡ (dims_fit ds && (is_light (shape t) && is_clear (first_fault t)))
unfolding failing
array_clear ds tc t =
    rw (fault_is (array ds tc t), clear_of (failing (array ds tc t)) (fault_inside (array ds tc t)), inside_array ds tc t, clear_beneath (λ f. (f.0, Step.Element ∷ f.1)) (first_fault t), two_rules 7 14 (dims_fit ds) (is_light (shape t))) (and_assoc (dims_fit ds) (is_light (shape t)) (is_clear (first_fault t)))

pub map_clear : (n : ℕ) (kc : Try) (k : Tree) (vc : Try) (v : Tree) → is_clear (first_fault (map_of n kc k vc v)) ≡ ((is_map_key (shape k) && (is_light (shape k) && is_light (shape v))) && (is_clear (first_fault k) && is_clear (first_fault v)))
unfolding failing
map_clear n kc k vc v =
    let key = clear_beneath (λ f. (f.0, Step.Key ∷ f.1)) (first_fault k) in
    let value = clear_beneath (λ f. (f.0, Step.Entry ∷ f.1)) (first_fault v) in
    rw (fault_is (map_of n kc k vc v), clear_of (failing (map_of n kc k vc v)) (fault_inside (map_of n kc k vc v)), inside_map n kc k vc v, clear_both (option_map (λ f. (f.0, Step.Key ∷ f.1)) (first_fault k)) (option_map (λ f. (f.0, Step.Entry ∷ f.1)) (first_fault v)), key, value, two_rules 8 14 (is_map_key (shape k)) (is_light (shape k) && is_light (shape v))) refl

first_clear : (t : Tree) → is_clear (type_fault t) ≡ true → is_clear (first_fault t) ≡ true
first_clear t e = is_none _ (no_fault t (none_is _ e))

pub declared_clear : (ts : Declared) (at : ℕ) → all_valid ts ≡ true → is_clear (first_fault (tree_at ts at)) ≡ true
declared_clear [] at valid = prim_clear Boolean
declared_clear (d ∷ ts) zero valid = first_clear d.1 (and_parts _ _ valid).0
declared_clear (d ∷ ts) (suc at) valid = declared_clear ts at (and_parts _ _ valid).1

pub use_prim : (ts : Declared) (p : Primitive) → use_keeps ts (u.Prim p) ≡ true
unfolding use_keeps
use_prim ts p = ap (λ t. is_clear (first_fault t)) (whole_prim ts p) ∙ prim_clear p

pub use_str : (ts : Declared) (n : ℕ) → use_keeps ts (u.Str n) ≡ true
unfolding use_keeps
use_str ts n = ap (λ t. is_clear (first_fault t)) (whole_str ts n) ∙ str_clear n

pub use_sequence : (ts : Declared) (n : ℕ) (tc : Try) (b : Box Used Global) → use_keeps ts (u.Seq n tc b) ≡ (use_light ts b.value && use_keeps ts b.value)
unfolding use_keeps use_light
use_sequence ts n tc b = ap (λ t. is_clear (first_fault t)) (whole_seq ts n tc b) ∙ sequence_clear n tc (whole ts b.value)

pub use_array : (ts : Declared) (ds : List ℕ) (tc : Try) (b : Box Used Global)
    → use_keeps ts (u.Array ds tc b) ≡ (dims_fit ds && (use_light ts b.value && use_keeps ts b.value))
unfolding use_keeps use_light
use_array ts ds tc b = ap (λ t. is_clear (first_fault t)) (whole_array ts ds tc b) ∙ array_clear ds tc (whole ts b.value)

pub use_map : (ts : Declared) (n : ℕ) (kc : Try) (k : Box Used Global) (vc : Try) (v : Box Used Global)
    → use_keeps ts (u.Map n kc k vc v)
    ≡ (map_keeps ts k.value v.value && (use_keeps ts k.value && use_keeps ts v.value))
unfolding use_keeps use_light map_keeps
use_map ts n kc k vc v = ap (λ t. is_clear (first_fault t)) (whole_map ts n kc k vc v) ∙ map_clear n kc (whole ts k.value) vc (whole ts v.value)

pub use_declared : (ts : Declared) (at : ℕ) → all_valid ts ≡ true → use_keeps ts (u.Declared at) ≡ true
unfolding use_keeps
use_declared ts at valid = ap (λ t. is_clear (first_fault t)) (whole_declared ts at) ∙ declared_clear ts at valid

pub ruleset use_rules = (use_prim, use_str, use_sequence, use_array, use_map, use_declared)

-- ---- below a definition's node

all_members : (ts : Declared) (own : List UsedMember) → all (λ m. use_keeps ts m.used) own ≡ true → members_fault (members_of (map (member_whole ts) own)) ≡ None
unfolding use_keeps
all_members ts [] e = members_fault_none
all_members ts (m ∷ own) e =
    let parts = and_parts _ _ e in
    let here : first_fault (whole ts m.used) ≡ None = none_is _ parts.0 in
    rw (members_fault_step (member_whole ts m).0 (whole ts m.used) (members_of (map (member_whole ts) own)), here, all_members ts own parts.1) refl

all_cases : (ts : Declared) (own : List UsedCase) → all (λ c. use_keeps ts c.used) own ≡ true → cases_fault (cases_of (map (case_whole ts) own)) ≡ None
unfolding use_keeps
all_cases ts [] e = cases_fault_none
all_cases ts (c ∷ own) e =
    let parts = and_parts _ _ e in
    let here : first_fault (whole ts c.used) ≡ None = none_is _ parts.0 in
    rw (cases_fault_step (case_whole ts c).0 (whole ts c.used) (cases_of (map (case_whole ts) own)), here, all_cases ts own parts.1) refl

-- members behind others that keep the rules
members_behind : (ms more : ListedMembers) → members_fault (members_of ms) ≡ None → members_fault (members_of more) ≡ None → members_fault (members_of (ms ++ more)) ≡ None
members_behind [] more e rest = rest
members_behind (m ∷ ms) more e rest =
    let parts = first_none (option_map (fault_beneath (Step.Member m.0.id ∷ [])) (first_fault m.1)) (members_fault (members_of ms)) (sym (members_fault_step m.0 m.1 (members_of ms)) ∙ e) in
    rw (members_fault_step m.0 m.1 (members_of (ms ++ more)), parts.0, members_behind ms more parts.1 rest) refl

unlisted : (ms : Members) → members_of (listed ms) ≡ ms
unlisted no_members = refl
unlisted (member h t ms) = ap (λ rest. member h t rest) (unlisted ms)

below_clear : (t : Tree) → is_clear (first_fault t) ≡ true → members_fault (members_of (members_on t)) ≡ None
below_clear (structure h ms) e = ap members_fault (unlisted ms) ∙ sym (inside_structure h ms) ∙ (first_none _ _ (sym (fault_is (structure h ms)) ∙ none_is _ e)).1
below_clear (prim p) e = members_fault_none
below_clear (str n) e = members_fault_none
below_clear (enumeration n x b ls) e = members_fault_none
below_clear (bitmask n b fs) e = members_fault_none
below_clear (sequence n c t) e = members_fault_none
below_clear (array ds c t) e = members_fault_none
below_clear (map_of n kc k vc v) e = members_fault_none
below_clear (union head d cs) e = members_fault_none
below_clear (alias n t) e = members_fault_none

base_clear : (ts : Declared) (base : Option ℕ) → all_valid ts ≡ true → members_fault (members_of (members_before ts base)) ≡ None
base_clear ts None valid = members_fault_none
base_clear ts (Some at) valid = below_clear (tree_at ts at) (declared_clear ts at valid)

parts_inside : (ts : Declared) (name : Text) (d : Definition) → all_valid ts ≡ true → parts_keep ts d ≡ true → fault_inside (defined ts name d) ≡ None
unfolding parts_keep use_keeps
parts_inside ts name (definition_of.Enum e) valid each = inside_enumeration e.name e.ext e.bits e.literals
parts_inside ts name (definition_of.Mask m) valid each = inside_bitmask m.name m.bits m.flags
parts_inside ts name (definition_of.Struct d) valid each =
    inside_structure (record { name = Some name; ext = d.ext; nested = d.nested; hashed_ids = d.hashed_ids; bases = bases_before ts d.base }) (members_of (members_before ts d.base ++ map (member_whole ts) d.members))
    ∙ members_behind (members_before ts d.base) (map (member_whole ts) d.members) (base_clear ts d.base valid) (all_members ts d.members each)
parts_inside ts name (definition_of.Union d) valid each =
    let parts = and_parts _ _ each in
    let over : first_fault (whole ts d.disc) ≡ None = none_is _ parts.0 in
    rw (inside_union (record { name = Some name; ext = d.ext; nested = d.nested; hashed_ids = d.hashed_ids; disc_key = d.disc_key }) (whole ts d.disc) (cases_of (map (case_whole ts) d.cases)), over, all_cases ts d.cases parts.1) refl
parts_inside ts name (definition_of.Alias used) valid each = inside_alias (Some name) (whole ts used) ∙ none_is _ each

-- ---- a type that isn't deep

no_depth : (t : Tree) → depth t ≤ 0 → ⊥
no_depth (prim p) low = omega (arith, low)
no_depth (str b) low = omega (arith, low)
no_depth (enumeration m x b ls) low = omega (arith, low)
no_depth (bitmask m b fs) low = omega (arith, low)
no_depth (sequence b tc t) low = omega (arith, low)
no_depth (array ds tc t) low = omega (arith, low)
no_depth (map_of b kc k vc v) low = omega (arith, low)
no_depth (structure h ms) low = omega (arith, low)
no_depth (union h d cs) low = omega (arith, low)
no_depth (alias m t) low = omega (arith, low)

flat_from : (t : Tree) → ((n : ℕ) → depth t ≤ suc n → deep_inside n t ≡ None) → (n : ℕ) → depth t ≤ n → first_deep n t ≡ None
flat_from t below zero low = absurd (no_depth t low)
flat_from t below (suc n) low = deep_suc n t ∙ below n low

mutual
  flat_inside : (t : Tree) (n : ℕ) → depth t ≤ suc n → deep_inside n t ≡ None
  flat_inside (prim p) n low = deep_prim n p
  flat_inside (str b) n low = deep_str n b
  flat_inside (enumeration m x b ls) n low = deep_enumeration n m x b ls
  flat_inside (bitmask m b fs) n low = deep_bitmask n m b fs
  flat_inside (sequence b tc t) n low = rw (deep_sequence n b tc t, flat_from t (flat_inside t) n (omega (arith, low))) refl
  flat_inside (array ds tc t) n low = rw (deep_array n ds tc t, flat_from t (flat_inside t) n (omega (arith, low))) refl
  flat_inside (map_of b kc k vc v) n low = rw (deep_map n b kc k vc v, flat_from k (flat_inside k) n (omega (arith, low)), flat_from v (flat_inside v) n (omega (arith, low))) refl
  flat_inside (structure h ms) n low = deep_structure n h ms ∙ flat_members ms n (omega (arith, low))
  flat_inside (union h d cs) n low = rw (deep_union n h d cs, flat_from d (flat_inside d) n (omega (arith, low)), flat_cases cs n (omega (arith, low))) refl
  flat_inside (alias m t) n low = deep_alias n m t ∙ flat_from t (flat_inside t) n (omega (arith, low))

  flat_members : (ms : Members) (n : ℕ) → members_depth ms ≤ n → deep_members n ms ≡ None
  flat_members no_members n low = deep_no_members n
  flat_members (member h t ms) n low = rw (deep_member n h t ms, flat_from t (flat_inside t) n (omega (arith, low)), flat_members ms n (omega (arith, low))) refl

  flat_cases : (cs : Cases) (n : ℕ) → cases_depth cs ≤ n → deep_cases n cs ≡ None
  flat_cases no_cases n low = deep_no_cases n
  flat_cases (one_case h t cs) n low = rw (deep_case n h t cs, flat_from t (flat_inside t) n (omega (arith, low)), flat_cases cs n (omega (arith, low))) refl

flat : (t : Tree) (n : ℕ) → depth t ≤ n → first_deep n t ≡ None
flat t n low = flat_from t (flat_inside t) n low

-- ---- a definition within the limits

low_depth : (n : ℕ) → nat_le (min 17 n) 16 ≡ true → n ≤ 16
low_depth n e = grind (arith, tests)

within : (n : ℕ) → nat_le (min 65537 n) 65536 ≡ nat_le n 65536
within n = grind (arith, tests)

no_fault_yet : (small : Bool) (o : Option (List Step)) (rest : Option (ℕ × List Step)) → o ≡ None → small ≡ true → rest ≡ None → or_else (option_map (λ p. (15, p)) o) (or_else (cond small None (Some (16, []))) rest) ≡ None
no_fault_yet small o rest p q r = rw (p, q, r) refl

valid_type : (t : Tree) → is_within (measured t) ≡ true → fault_inside t ≡ None → (keys_keyable t ≡ true → failing t ≡ None) → type_fault t ≡ None
unfolding type_fault
valid_type t in_limits inside node =
    let parts = and_parts _ _ in_limits in
    let first = and_parts _ _ parts.0 in
    let second = and_parts _ _ first.1 in
    let own : failing t ≡ None = node parts.1 in
    let clear : first_fault t ≡ None = fault_is t ∙ rw (own, inside) refl in
    let small : is_small t ≡ true = rw (sym (within (nodes t)) ∙ second.0, sym (within (weight (shape t))) ∙ second.1) refl in
    no_fault_yet (is_small t) (first_deep 16 t) (first_fault t) (flat t 16 (low_depth (depth t) first.0)) small clear

pub valid_by : (ts : Declared) (name : Text) (d : Definition) → all_valid ts ≡ true → is_within (measured (defined ts name d)) ≡ true → parts_keep ts d ≡ true → (keys_keyable (defined ts name d) ≡ true → failing (defined ts name d) ≡ None)
    → type_fault (defined ts name d) ≡ None
valid_by ts name d valid in_limits each node = valid_type (defined ts name d) in_limits (parts_inside ts name d valid each) node
