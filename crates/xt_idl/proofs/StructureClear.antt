-- A structure's node keeps the rules where its base's node does, and its own members do behind those.
use Rattle.std.proofs.Common.{◌≡◌, refl, sym, ap, ◌∙◌, ℕ, suc, ◌<◌, min, nat_le, nat_lt, nat_eq, Bool, true, false, not, ◌&&◌, ◌||◌, true≢false, List, [], ◌∷◌, ◌++◌, map, length, length-append, Option, Some, None, arith, tests, subst}
use Rattle.std.specs.Option.{option_map}
use Rattle.std.proofs.lemmas.Bool.{and_parts}
use Rattle.std.proofs.lemmas.List.{map-append}
use Rattle.xt_shapes.specs.declared.leaves.Step.{Step}
use Rattle.xt_shapes.specs.Lists.{all}
use Rattle.xt_shapes.specs.NodeRules.{distinct, hashes_apart, ids_fit, is_low, is_discard, not_empty, keys_discard}
use Rattle.xt_shapes.specs.Keyable.{counted_keyable}
use Rattle.xt_shapes.specs.Shape.{heads}
use Rattle.type_trees.specs.declared.types.Base.{Base}
use Rattle.type_trees.specs.Trees.{MemberHead, StructHead, Tree, prim, str, enumeration, bitmask, sequence, array, map_of, structure, union, alias, Members, no_members, member}
use Rattle.type_trees.specs.View.{members_of}
use Rattle.type_trees.specs.Bridge.{name_number, member_shapes}
use Rattle.node_rules.specs.Names.{name_fits, scope_fits}
use Rattle.node_rules.specs.Rules.{counts_rise, bases_fit}
use Rattle.node_rules.specs.Table.{member_names, struct_names, first_broken, failing}
use Rattle.node_rules.proofs.Labelled.{all_append}
use Rattle.type_rules.specs.Valid.{type_fault}
use Rattle.type_rules.proofs.Kept.{limits_kept}
use Rattle.type_rules.proofs.DeepSteps.{first_none}
use Rattle.type_rules.proofs.FaultSteps.{fault_is}
use Rattle.type_rules.proofs.OfFaultless.Nodes.{no_fault}
use Rattle.idl_tokens.specs.Classes.{Text}
use Rattle.idl_types.specs.State.{Declared}
use Rattle.idl_types.specs.Uses.{tree_at}
use Rattle.idl_types.specs.declared.declarations.UsedMember.{UsedMember}
use Rattle.idl_types.specs.declared.declarations.StructDefinition.{StructDefinition}
use Rattle.idl_types.specs.declared.declarations.Definition.TheVariants as definition_of
use Rattle.idl_types.specs.Definitions.{ListedMembers, listed, as_base, member_whole, members_on, bases_on, members_before, bases_before, defined}
use Rattle.idl_types.specs.Kept.{is_clear, all_valid}
use Rattle.xt_idl.specs.Light.{keys_keyable}
use Rattle.xt_idl.specs.Numbers.{numbers_of, numbers_in, apart, apart_behind, are_apart, member_fits, structure_keeps}
use Rattle.xt_idl.proofs.Numbering.{apart_append, apart_both}
use Rattle.xt_idl.proofs.Keeping.{own_listed}
use Rattle.xt_idl.proofs.Outlined.{none_is, as_many_nodes, at_valid}

both : (a b : Bool) → a ≡ true → b ≡ true → (a && b) ≡ true
both a b p q = rw (p, q) refl

all_both : {A : Type 0} (p q : A → Bool) (xs : List A) → all (λ x. p x && q x) xs ≡ (all p xs && all q xs)
all_both p q [] = refl
all_both p q (x ∷ xs) = ap (λ b. (p x && q x) && b) (all_both p q xs) ∙ four (p x) (q x) (all p xs) (all q xs)
  where
    four : (a b c d : Bool) → ((a && b) && (c && d)) ≡ ((a && c) && (b && d))
    four true true c d = refl
    four true false true d = refl
    four true false false d = refl
    four false b c d = refl

-- ---- what the rules ask of the members of a structure, and of its bases

abbrev head_fits : MemberHead → Bool
head_fits h = name_fits h.name && (is_low h.id && (not h.key || is_discard h.tc))

abbrev each_fits : ListedMembers → Bool
each_fits ms = all (λ m. head_fits m.0) ms

abbrev named : List Base → Bool
named bs = all (λ b. scope_fits b.name) bs

record Keeps (bs : List Base) (ms : ListedMembers) : Type 0 where
  names : named bs ≡ true
  each : each_fits ms ≡ true
  are_apart : apart (numbers_in ms) ≡ true
  counts : counts_rise 0 bs (length ms) ≡ true

-- ---- as the rules have it of a tree

names_listed : (ms : ListedMembers) → all name_fits (member_names (members_of ms)) ≡ all (λ m. name_fits m.0.name) ms
names_listed [] = refl
names_listed (m ∷ ms) = ap (λ b. name_fits m.0.name && b) (names_listed ms)

hashes_listed : (ms : ListedMembers) → map (λ h. h.hash) (heads (member_shapes (members_of ms))) ≡ map (λ n. n.hash) (numbers_in ms)
hashes_listed [] = refl
hashes_listed (m ∷ ms) = ap (λ l. name_number m.0.name ∷ l) (hashes_listed ms)

ids_listed : (ms : ListedMembers) → map (λ h. h.id) (heads (member_shapes (members_of ms))) ≡ map (λ n. n.id) (numbers_in ms)
ids_listed [] = refl
ids_listed (m ∷ ms) = ap (λ l. m.0.id ∷ l) (ids_listed ms)

low_listed : (ms : ListedMembers) → all is_low (map (λ n. n.id) (numbers_in ms)) ≡ all (λ m. is_low m.0.id) ms
low_listed [] = refl
low_listed (m ∷ ms) = ap (λ b. is_low m.0.id && b) (low_listed ms)

keys_listed : (ms : ListedMembers) → keys_discard (heads (member_shapes (members_of ms))) ≡ all (λ m. not m.0.key || is_discard m.0.tc) ms
keys_listed [] = refl
keys_listed (m ∷ ms) = ap (λ b. (not m.0.key || is_discard m.0.tc) && b) (keys_listed ms)

length_listed : (ms : ListedMembers) → length (heads (member_shapes (members_of ms))) ≡ length ms
length_listed [] = refl
length_listed (m ∷ ms) = ap suc (length_listed ms)

unlisted : (ms : Members) → members_of (listed ms) ≡ ms
unlisted no_members = refl
unlisted (member h t ms) = ap (λ rest. member h t rest) (unlisted ms)

parts_fit : (ms : ListedMembers) → each_fits ms ≡ (all (λ m. name_fits m.0.name) ms && (all (λ m. is_low m.0.id) ms && all (λ m. not m.0.key || is_discard m.0.tc) ms))
parts_fit ms =
    all_both (λ m. name_fits m.0.name) (λ m. is_low m.0.id && (not m.0.key || is_discard m.0.tc)) ms ∙ ap (λ b. all (λ m. name_fits m.0.name) ms && b) (all_both (λ m. is_low m.0.id) (λ m. not m.0.key || is_discard m.0.tc) ms)

clear_from : (head : StructHead) (ms : ListedMembers) → scope_fits head.name ≡ true → nat_le (length head.bases) 15 ≡ true → Keeps head.bases ms → not_empty (heads (member_shapes (members_of ms))) ≡ true
    → counted_keyable true (member_shapes (members_of ms)) ≡ true → failing (structure head (members_of ms)) ≡ None
unfolding failing
clear_from head ms name few keeps some keyed =
    let low = all (λ m. is_low m.0.id) ms in
    let discard = all (λ m. not m.0.key || is_discard m.0.tc) ms in
    let parts = and_parts (all (λ m. name_fits m.0.name) ms) (low && discard) (sym (parts_fit ms) ∙ keeps.each) in
    let rest = and_parts low discard parts.1 in
    let distinct_both = and_parts (distinct nat_eq (map (λ n. n.hash) (numbers_in ms))) (distinct nat_eq (map (λ n. n.id) (numbers_in ms))) (sym (apart_both (numbers_in ms)) ∙ keeps.are_apart) in
    rw (name, keeps.names, names_listed ms, parts.0, hashes_listed ms, distinct_both.0, ids_listed ms, low_listed ms, rest.0, distinct_both.1, some, keyed, keys_listed ms, rest.1, length_listed ms, few, keeps.counts) refl

-- ---- of a structure that is valid

-- none of the seven rules is broken
all_hold : (b1 b2 b3 b4 b5 b6 b7 : Bool) → first_broken ((1, b1) ∷ (2, b2) ∷ (3, b3) ∷ (4, b4) ∷ (12, b5) ∷ (13, b6) ∷ (18, b7) ∷ []) ≡ None
    → record { names : b1 ≡ true; hashes : b2 ≡ true; ids : b3 ≡ true; some : b4 ≡ true; keys : b6 ≡ true; bases : b7 ≡ true }
all_hold true true true true true true true e = record { names = refl; hashes = refl; ids = refl; some = refl; keys = refl; bases = refl }
all_hold false b2 b3 b4 b5 b6 b7 e = absurd (let none : Some 1 ≡ None = e in cc)
all_hold true false b3 b4 b5 b6 b7 e = absurd (let none : Some 2 ≡ None = e in cc)
all_hold true true false b4 b5 b6 b7 e = absurd (let none : Some 3 ≡ None = e in cc)
all_hold true true true false b5 b6 b7 e = absurd (let none : Some 4 ≡ None = e in cc)
all_hold true true true true false b6 b7 e = absurd (let none : Some 12 ≡ None = e in cc)
all_hold true true true true true false b7 e = absurd (let none : Some 13 ≡ None = e in cc)
all_hold true true true true true true false e = absurd (let none : Some 18 ≡ None = e in cc)

keeps_from : (head : StructHead) (ms : ListedMembers) → failing (structure head (members_of ms)) ≡ None → (Keeps head.bases ms) × ((scope_fits head.name ≡ true) × (not_empty (heads (member_shapes (members_of ms))) ≡ true))
unfolding failing
keeps_from head ms e =
    let hs = heads (member_shapes (members_of ms)) in
    let rules =
    all_hold (struct_names head (members_of ms)) (hashes_apart (map (λ h. h.hash) hs)) (ids_fit (map (λ h. h.id) hs)) (not_empty hs) (counted_keyable true (member_shapes (members_of ms))) (keys_discard hs) (bases_fit head.bases (length hs)) e in
    let names = and_parts (scope_fits head.name && named head.bases) (all name_fits (member_names (members_of ms))) rules.names in
    let bases = and_parts (scope_fits head.name) (named head.bases) names.0 in
    let ids = and_parts (all is_low (map (λ n. n.id) (numbers_in ms))) (distinct nat_eq (map (λ n. n.id) (numbers_in ms))) (sym (ap ids_fit (ids_listed ms)) ∙ rules.ids) in
    let counts = and_parts (nat_le (length head.bases) 15) (counts_rise 0 head.bases (length ms)) (sym (ap (bases_fit head.bases) (length_listed ms)) ∙ rules.bases) in (
      record {
        names = bases.1;
        each = parts_fit ms ∙ both _ _ (sym (names_listed ms) ∙ names.1) (both _ _ (sym (low_listed ms) ∙ ids.0) (sym (keys_listed ms) ∙ rules.keys));
        are_apart = apart_both (numbers_in ms) ∙ both _ _ (sym (ap hashes_apart (hashes_listed ms)) ∙ rules.hashes) ids.1;
        counts = counts.1;
      },
      (bases.0, rules.some),
    )

-- ---- one level of a structure over its base

own_fit : (ts : Declared) (own : List UsedMember) → all member_fits own ≡ each_fits (map (member_whole ts) own)
own_fit ts [] = refl
own_fit ts (m ∷ own) = ap (λ b. member_fits m && b) (own_fit ts own)

counts_more : (before end more : ℕ) (bs : List Base) (b : Base) → counts_rise before bs end ≡ true → b.count ≡ end → before < end → end < more → counts_rise before (bs ++ b ∷ []) more ≡ true
counts_more before end more [] b e is low high = rw (is, lower before end low, lower end more high) refl
  where
    lower : (a c : ℕ) → a < c → nat_lt a c ≡ true
    lower a c h = grind (arith, tests)
counts_more before end more (x ∷ bs) b e is low high =
    let parts = and_parts _ _ e in
    let here = and_parts _ _ parts.0 in
    let below : x.count < end = below_by x.count end here.1 in
    both _ _ (both _ _ here.0 (lower x.count more (omega (arith, below, high)))) (counts_more x.count end more bs b parts.1 is below high)
  where
    below_by : (a c : ℕ) → nat_lt a c ≡ true → a < c
    below_by a c h = grind (arith, tests)

    lower : (a c : ℕ) → a < c → nat_lt a c ≡ true
    lower a c h = grind (arith, tests)

none_left : (r : Option ℕ) → option_map (λ n. (n, [])) r ≡ (let o : Option (ℕ × List Step) = None in o) → r ≡ None
none_left None e = refl
none_left (Some n) e = absurd (cc e)

-- the rules at the node of a valid type
node_clear : (t : Tree) → is_clear (type_fault t) ≡ true → failing t ≡ None
node_clear t valid = none_left (failing t) (first_none _ _ (sym (fault_is t) ∙ no_fault t (none_is _ valid))).0

above_none : (ms : ListedMembers) → not_empty (heads (member_shapes (members_of ms))) ≡ true → 0 < length ms
above_none [] e = absurd (true≢false (sym e))
above_none (m ∷ ms) e = omega arith

ends_there : (ms : ListedMembers) (m : MemberHead × Tree) (more : ListedMembers) → not_empty (heads (member_shapes (members_of (ms ++ m ∷ more)))) ≡ true
ends_there [] m more = refl
ends_there (x ∷ ms) m more = refl

level_on : (h : StructHead) (ms own : ListedMembers) (b : Base) → failing (structure h (members_of ms)) ≡ None → b.name ≡ h.name → b.count ≡ length ms → 0 < length own → each_fits own ≡ true → apart_behind (numbers_in ms) (numbers_in own) ≡ true
    → Keeps (h.bases ++ b ∷ []) (ms ++ own)
level_on h ms own b clear name count some each are_apart =
    let found = keeps_from h ms clear in
    let keeps = found.0 in
    record {
      names = all_append (λ (x : Base). scope_fits x.name) h.bases (b ∷ []) ∙ both _ _ keeps.names (both _ _ (ap scope_fits name ∙ found.1.0) refl);
      each = all_append (λ m. head_fits m.0) ms own ∙ both _ _ keeps.each each;
      are_apart = ap apart (map-append (λ (m : MemberHead × Tree). numbers_of m.0) ms own) ∙ apart_append (numbers_in ms) (numbers_in own) keeps.are_apart are_apart;
      counts = counts_more 0 (length ms) (length (ms ++ own)) h.bases b keeps.counts count (above_none ms found.1.1) (omega (arith, some, length-append ms own));
    }

alone : (own : ListedMembers) → each_fits own ≡ true → apart_behind [] (numbers_in own) ≡ true → Keeps [] own
alone own each are_apart = record { names = refl; each = each; are_apart = (and_parts _ _ are_apart).0; counts = refl }

over_type : (t : Tree) (own : ListedMembers) → is_clear (type_fault t) ≡ true → 0 < length own → each_fits own ≡ true → apart_behind (numbers_in (members_on t)) (numbers_in own) ≡ true → Keeps (bases_on t) (members_on t ++ own)
over_type (structure h ms) own valid some each are_apart =
    let limits = limits_kept (structure h ms) (none_is _ valid) in
    let few : min (length (listed ms)) 4294967295 ≡ length (listed ms) = omega (arith, as_many_nodes ms, limits.1) in
    let clear : failing (structure h (members_of (listed ms))) ≡ None = ap (λ l. failing (structure h l)) (unlisted ms) ∙ node_clear (structure h ms) valid in
    level_on h (listed ms) own (as_base h (listed ms)) clear refl few some each are_apart
over_type (prim p) own valid some each are_apart = alone own each are_apart
over_type (str n) own valid some each are_apart = alone own each are_apart
over_type (enumeration n x b ls) own valid some each are_apart = alone own each are_apart
over_type (bitmask n b fs) own valid some each are_apart = alone own each are_apart
over_type (sequence n c t) own valid some each are_apart = alone own each are_apart
over_type (array ds c t) own valid some each are_apart = alone own each are_apart
over_type (map_of n kc k vc v) own valid some each are_apart = alone own each are_apart
over_type (union head d cs) own valid some each are_apart = alone own each are_apart
over_type (alias n t) own valid some each are_apart = alone own each are_apart

over_base : (ts : Declared) (base : Option ℕ) (own : ListedMembers) → all_valid ts ≡ true → 0 < length own → each_fits own ≡ true → apart_behind (numbers_in (members_before ts base)) (numbers_in own) ≡ true
    → Keeps (bases_before ts base) (members_before ts base ++ own)
over_base ts None own valid some each are_apart = alone own each are_apart
over_base ts (Some at) own valid some each are_apart = over_type (tree_at ts at) own (at_valid ts at valid) some each are_apart

behind_there : (before own : ListedMembers) → 0 < length own → not_empty (heads (member_shapes (members_of (before ++ own)))) ≡ true
behind_there before [] some = absurd (omega (arith, some))
behind_there before (m ∷ own) some = ends_there before m own

as_long : (ts : Declared) (own : List UsedMember) → length (map (member_whole ts) own) ≡ length own
as_long ts [] = refl
as_long ts (m ∷ own) = ap suc (as_long ts own)

above : (n : ℕ) → nat_lt 0 n ≡ true → 0 < n
above n e = grind (arith, tests)

pub structure_clear : (ts : Declared) (name : Text) (s : StructDefinition) → all_valid ts ≡ true → structure_keeps ts name s ≡ true → keys_keyable (defined ts name (definition_of.Struct s)) ≡ true → failing (defined ts name (definition_of.Struct s)) ≡ None
unfolding structure_keeps
structure_clear ts name s valid holds keyed =
    let few = nat_le (length (bases_before ts s.base)) 15 in
    let each = all member_fits s.members in
    let some = nat_lt 0 (length s.members) in
    let first = and_parts (are_apart ts (definition_of.Struct s)) (scope_fits (Some name) && (some && (few && each))) holds in
    let second = and_parts (scope_fits (Some name)) (some && (few && each)) first.1 in
    let third = and_parts some (few && each) second.1 in
    let fourth = and_parts few each third.1 in
    let own = map (member_whole ts) s.members in
    let more : 0 < length own = omega (arith, above (length s.members) third.0, as_long ts s.members) in
    let numbers = subst (λ ns. apart_behind (numbers_in (members_before ts s.base)) ns ≡ true) (sym (own_listed ts s.members)) first.0 in
    let keeps = over_base ts s.base own valid more (sym (own_fit ts s.members) ∙ fourth.1) numbers in
    clear_from (record { name = Some name; ext = s.ext; nested = s.nested; hashed_ids = s.hashed_ids; bases = bases_before ts s.base }) (members_before ts s.base ++ own) second.0 fourth.0 keeps (behind_there (members_before ts s.base) own more) keyed
