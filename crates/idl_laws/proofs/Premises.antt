-- What a valid, printable definition says of its parts, as reading them asks.
use Rattle.std.proofs.Common.{◌≡◌, refl, sym, ◌∙◌, ap, subst, true≢false, ℕ, zero, suc, ◌≤◌, ◌<◌, Bool, true, ◌||◌, nat_le, List, [], ◌∷◌, ◌++◌, map, length, Option, None, arith, tests}
use Rattle.std.proofs.lemmas.Bool.{and_parts, and_from}
use Rattle.std.specs.Prelude.{ℤ, nat_eq, nat_lt}
use Rattle.xt_shapes.specs.declared.leaves.Ext.{Ext}
use Rattle.xt_shapes.specs.Lists.{all}
use Rattle.xt_shapes.specs.NodeRules.{distinct, not_empty, is_low, labels_of}
use Rattle.xt_shapes.specs.Shape.{heads, case_heads}
use Rattle.xt_shapes.specs.Vals.{int}
use Rattle.xt_shapes.specs.Typing.{has_type}
use Rattle.type_trees.specs.declared.types.Base.{Base}
use Rattle.type_trees.specs.declared.types.Literal.{Literal}
use Rattle.type_trees.specs.declared.types.Flag.{Flag}
use Rattle.type_trees.specs.declared.types.Name.{Name}
use Rattle.type_trees.specs.Bridge.{name_number, literal_shape, flag_shape, shape, member_shapes, case_shapes}
use Rattle.type_trees.specs.Trees.{Tree, prim, str, enumeration, bitmask, sequence, array, map_of, structure, union, alias, StructHead, UnionHead, Members, no_members, member, Cases, no_cases, one_case}
use Rattle.type_trees.specs.sizes.TypeNodes.{nodes, member_nodes}
use Rattle.node_rules.specs.Names.{name_fits}
use Rattle.node_rules.specs.Rules.{counts_rise}
use Rattle.node_rules.specs.Table.{member_names, case_names}
use Rattle.type_rules.specs.Places.{depth, members_depth, cases_depth}
use Rattle.type_rules.specs.Valid.{first_fault, type_fault}
use Rattle.type_rules.proofs.Kept.{limits_kept}
use Rattle.type_rules.proofs.DeepSteps.{first_none, unmapped}
use Rattle.type_rules.proofs.FaultSteps.{inside_structure, inside_union, inside_alias}
use Rattle.idl_tokens.specs.Classes.{Text}
use Rattle.idl_types.specs.State.{State, Declared}
use Rattle.idl_definitions.specs.Unions.{behind}
use Rattle.idl_printer.specs.Words.{name_text}
use Rattle.idl_printer.specs.Parts.{members_behind}
use Rattle.idl_printer.specs.Lines.{last_base, count_of}
use Rattle.idl_laws.specs.Printable.{is_spelled, literal_fits, label_fits, EachMember, EachCase, own_members}
use Rattle.type_rules.proofs.OfFaultless.Nodes.{at_and_below, no_fault}
use Rattle.idl_laws.proofs.Facts.{GoodMembers, good_members, GoodCases, good_cases, numbers, member_numbers, case_numbers}
use Rattle.idl_laws.proofs.Bases.{count, last_is, last_below}
use Rattle.idl_laws.proofs.Declarators.{dims_hold}
use Rattle.idl_laws.proofs.Members.{AreMembers, some_members}
use Rattle.idl_laws.proofs.Numbered.{AreLiterals, AreFlags}
use Rattle.idl_laws.proofs.Distinct.{AreNew, are_new, apart_texts}
use Rattle.idl_laws.proofs.Labels.{LiteralsApart, EachLabel, label_read}
use Rattle.idl_laws.proofs.Structures.{CountFits}
use Rattle.idl_laws.proofs.Unions.{AreCases, some_cases}

-- ---- numbers

low_id : (id : ℕ) → is_low id ≡ true → id ≤ 268435454
low_id id low = grind (arith, tests)

shallow : (n : ℕ) → n ≤ 15 → n ≤ 16
shallow n h = omega arith

pub dims_kept : (t : Tree) → first_fault t ≡ None → dims_hold t ≡ true
dims_kept (array ds tc t) valid = (at_and_below (array ds tc t) valid).0.0
dims_kept (prim p) valid = refl
dims_kept (str n) valid = refl
dims_kept (enumeration name ext bits ls) valid = refl
dims_kept (bitmask name bits fs) valid = refl
dims_kept (sequence n tc t) valid = refl
dims_kept (map_of n kc k vc v) valid = refl
dims_kept (structure head ms) valid = refl
dims_kept (union head disc cs) valid = refl
dims_kept (alias name t) valid = refl

-- ---- members

member_names_fit : (ms : Members) → GoodMembers ms → all name_fits (member_names ms) ≡ true
member_names_fit no_members good = refl
member_names_fit (member m t ms) good = and_from _ _ good.0 (member_names_fit ms good.1.1.1.1)

members_spelled : (known : Declared) (ms : Members) → EachMember known ms → all is_spelled (member_names ms) ≡ true
members_spelled known no_members each = refl
members_spelled known (member m t ms) each = and_from _ _ each.0 (members_spelled known ms each.1.1)

members_are : (s : State) (before : List Text) (ms : Members) → GoodMembers ms → EachMember s.types ms → AreNew before (member_names ms) → AreMembers s before ms
members_are s before no_members good each new = tt
members_are s before (member m t ms) good each new =
    (new.0, (low_id m.id good.1.0, ((each.1.0, (shallow (depth t) good.1.1.0, dims_kept t good.1.1.1.0)), members_are s (before ++ name_text m.name ∷ []) ms good.1.1.1.1 each.1.1 new.1)))

good_behind : (n : ℕ) (ms : Members) → GoodMembers ms → GoodMembers (members_behind n ms)
good_behind zero ms good = good
good_behind (suc n) no_members good = tt
good_behind (suc n) (member m t ms) good = good_behind n ms good.1.1.1.1

apart_behind : (n : ℕ) (ms : Members) → distinct nat_eq (numbers (member_names ms)) ≡ true → distinct nat_eq (numbers (member_names (members_behind n ms))) ≡ true
apart_behind zero ms apart = apart
apart_behind (suc n) no_members apart = refl
apart_behind (suc n) (member m t ms) apart = apart_behind n ms (and_parts _ _ apart).1

some_behind : (n : ℕ) (ms : Members) → n < count ms → some_members (members_behind n ms) ≡ true
some_behind zero no_members more = absurd (omega arith)
some_behind zero (member m t ms) more = refl
some_behind (suc n) no_members more = absurd (omega arith)
some_behind (suc n) (member m t ms) more = some_behind n ms (omega arith)

own_count : (bs : List Base) (n : ℕ) → counts_rise 0 bs n ≡ true → 1 ≤ n → count_of (last_base bs) < n
own_count [] n rise some = omega arith
own_count (b ∷ bs) n rise some = rw (last_is b bs) (last_below 0 b bs n rise)

heads_count : (ms : Members) → length (heads (member_shapes ms)) ≡ count ms
heads_count no_members = refl
heads_count (member m t ms) = ap (λ n. suc n) (heads_count ms)

some_heads : (ms : Members) → not_empty (heads (member_shapes ms)) ≡ true → 1 ≤ count ms
some_heads no_members some = absurd (true≢false (sym some))
some_heads (member m t ms) some = omega arith

nodes_some : (t : Tree) → 1 ≤ nodes t
nodes_some (prim p) = omega arith
nodes_some (str n) = omega arith
nodes_some (enumeration name ext bits ls) = omega arith
nodes_some (bitmask name bits fs) = omega arith
nodes_some (sequence n tc t) = omega arith
nodes_some (array ds tc t) = omega arith
nodes_some (map_of n kc k vc v) = omega arith
nodes_some (structure head ms) = omega arith
nodes_some (union head disc cs) = omega arith
nodes_some (alias name t) = omega arith

count_nodes : (ms : Members) → count ms ≤ member_nodes ms
count_nodes no_members = omega arith
count_nodes (member m t ms) = omega (arith, nodes_some t, count_nodes ms)

count_fits : (bs : List Base) (ms : Members) → counts_rise 0 bs (count ms) ≡ true → count ms ≤ 65536 → CountFits bs ms
count_fits [] ms rise few = tt
count_fits (b ∷ bs) ms rise few = let last = last_below 0 b bs (count ms) rise in (omega arith, omega arith)

-- what reading a structure asks
pub record StructureHolds (s : State) (head : StructHead) (ms : Members) : Type 0 where
  pub counts : CountFits head.bases ms
  pub members : AreMembers s [] (own_members head ms)
  pub some : some_members (own_members head ms) ≡ true

pub structure_holds : (s : State) (head : StructHead) (ms : Members) → type_fault (structure head ms) ≡ None → EachMember s.types (own_members head ms) → StructureHolds s head ms
structure_holds s head ms valid each =
    let limits = limits_kept (structure head ms) valid in
    let low : members_depth ms ≤ 15 = omega (arith, limits.0) in
    let few : count ms ≤ 65536 = omega (arith, limits.1, count_nodes ms) in
    let rules = at_and_below (structure head ms) (no_fault (structure head ms) valid) in
    let held = rules.0 in
    let names = (and_parts _ _ held.0).1 in
    let own = count_of (last_base head.bases) in
    let rise : counts_rise 0 head.bases (count ms) ≡ true = subst (λ n. counts_rise 0 head.bases n ≡ true) (heads_count ms) (and_parts _ _ held.1.1.1.1.1.1.0).1 in
    let good = good_members ms names (and_parts _ _ held.1.1.0).0 low (sym (inside_structure head ms) ∙ rules.1) in
    let own_good = good_behind own ms good in
    let apart : distinct nat_eq (numbers (member_names ms)) ≡ true = subst (λ ns. distinct nat_eq ns ≡ true) (member_numbers ms) held.1.0 in
    let own_names = member_names (members_behind own ms) in
    record {
      counts = count_fits head.bases ms rise few;
      members = members_are s [] (members_behind own ms) own_good each (are_new own_names (members_spelled s.types (members_behind own ms) each) (member_names_fit (members_behind own ms) own_good) (apart_behind own ms apart));
      some = some_behind own ms (own_count head.bases (count ms) rise (some_heads ms held.1.1.1.0));
    }

-- ---- literals and flags

abbrev literal_names : List Literal → List Name
literal_names = map (λ l. l.name)

literal_numbers : (ls : List Literal) → map (λ l. l.hash) (map literal_shape ls) ≡ numbers (literal_names ls)
literal_numbers [] = refl
literal_numbers (l ∷ ls) = ap (λ ns. name_number l.name ∷ ns) (literal_numbers ls)

literal_names_fit : (ls : List Literal) → all (λ l. name_fits l.name) ls ≡ true → all name_fits (literal_names ls) ≡ true
literal_names_fit [] fit = refl
literal_names_fit (l ∷ ls) fit = let each = and_parts _ _ fit in and_from _ _ each.0 (literal_names_fit ls each.1)

literals_spelled : (ls : List Literal) → all literal_fits ls ≡ true → all is_spelled (literal_names ls) ≡ true
literals_spelled [] fit = refl
literals_spelled (l ∷ ls) fit = let each = and_parts _ _ fit in and_from _ _ (and_parts _ _ each.0).0 (literals_spelled ls each.1)

literals_are : (before : List Text) (ls : List Literal) → all literal_fits ls ≡ true → AreNew before (literal_names ls) → AreLiterals before ls
literals_are before [] fit new = tt
literals_are before (l ∷ ls) fit new = let each = and_parts _ _ fit in (new.0, ((and_parts _ _ each.0).1, literals_are (before ++ name_text l.name ∷ []) ls each.1 new.1))

abbrev flag_names : List Flag → List Name
flag_names = map (λ f. f.name)

flag_numbers : (fs : List Flag) → map (λ f. f.hash) (map flag_shape fs) ≡ numbers (flag_names fs)
flag_numbers [] = refl
flag_numbers (f ∷ fs) = ap (λ ns. name_number f.name ∷ ns) (flag_numbers fs)

flag_names_fit : (fs : List Flag) → all (λ f. name_fits f.name) fs ≡ true → all name_fits (flag_names fs) ≡ true
flag_names_fit [] fit = refl
flag_names_fit (f ∷ fs) fit = let each = and_parts _ _ fit in and_from _ _ each.0 (flag_names_fit fs each.1)

flags_spelled : (fs : List Flag) → all (λ f. is_spelled f.name) fs ≡ true → all is_spelled (flag_names fs) ≡ true
flags_spelled [] fit = refl
flags_spelled (f ∷ fs) fit = let each = and_parts _ _ fit in and_from _ _ each.0 (flags_spelled fs each.1)

position_below : (bits position : ℕ) → nat_le bits 64 ≡ true → nat_lt position bits ≡ true → position ≤ 63
position_below bits position few below = grind (arith, tests)

flags_are : (before : List Text) (bits : ℕ) (fs : List Flag) → nat_le bits 64 ≡ true → all (λ f. nat_lt f.position bits) (map flag_shape fs) ≡ true → AreNew before (flag_names fs) → AreFlags before fs
flags_are before bits [] few below new = tt
flags_are before bits (f ∷ fs) few below new = let each = and_parts _ _ below in (new.0, (position_below bits f.position few each.0, flags_are (before ++ name_text f.name ∷ []) bits fs few each.1 new.1))

-- ---- cases

case_names_fit : (cs : Cases) → GoodCases cs → all name_fits (case_names cs) ≡ true
case_names_fit no_cases good = refl
case_names_fit (one_case c t cs) good = and_from _ _ good.0 (case_names_fit cs good.1.1.1.1)

cases_spelled : (known : Declared) (disc : Tree) (cs : Cases) → EachCase known disc cs → all is_spelled (case_names cs) ≡ true
cases_spelled known disc no_cases each = refl
cases_spelled known disc (one_case c t cs) each = and_from _ _ each.0 (cases_spelled known disc cs each.1.1.1)

-- behind its aliases a valid type is valid
valid_behind : (t : Tree) → first_fault t ≡ None → first_fault (behind t) ≡ None
valid_behind (alias name t) valid = valid_behind t (sym (inside_alias name t) ∙ (at_and_below (alias name t) valid).1)
valid_behind (prim p) valid = valid
valid_behind (str n) valid = valid
valid_behind (enumeration name ext bits ls) valid = valid
valid_behind (bitmask name bits fs) valid = valid
valid_behind (sequence n tc t) valid = valid
valid_behind (array ds tc t) valid = valid
valid_behind (map_of n kc k vc v) valid = valid
valid_behind (structure head ms) valid = valid
valid_behind (union head disc cs) valid = valid

literals_apart : (t : Tree) (n : ℤ) → first_fault t ≡ None → label_fits t n ≡ true → LiteralsApart t
literals_apart (enumeration name ext bits ls) n valid fits =
    let held = (at_and_below (enumeration name ext bits ls) valid).0 in
    let apart = subst (λ ns. distinct nat_eq ns ≡ true) (literal_numbers ls) held.1.0 in
    (literal_names_fit ls (and_parts _ _ held.0).1, apart_texts (literal_names ls) (literals_spelled ls fits) apart)
literals_apart (prim p) n valid fits = tt
literals_apart (str m) n valid fits = tt
literals_apart (bitmask name bits fs) n valid fits = tt
literals_apart (sequence m tc t) n valid fits = tt
literals_apart (array ds tc t) n valid fits = tt
literals_apart (map_of m kc k vc v) n valid fits = tt
literals_apart (structure head ms) n valid fits = tt
literals_apart (union head disc cs) n valid fits = tt
literals_apart (alias name t) n valid fits = tt

labels_are : (disc : Tree) (ns : List ℤ) → first_fault disc ≡ None → all (label_fits (behind disc)) ns ≡ true → all (λ d. has_type (shape disc) (int d)) ns ≡ true → EachLabel disc ns
labels_are disc [] valid fit typed = tt
labels_are disc (n ∷ ns) valid fit typed =
    let each = and_parts _ _ fit in
    let each_typed = and_parts _ _ typed in
    (label_read disc n each.0 each_typed.0 (literals_apart (behind disc) n (valid_behind disc valid) each.0), labels_are disc ns valid each.1 each_typed.1)

all_front : (p : ℤ → Bool) (xs ys : List ℤ) → all p (xs ++ ys) ≡ true → (all p xs ≡ true) × (all p ys ≡ true)
all_front p [] ys e = (refl, e)
all_front p (x ∷ xs) ys e =
    let each = and_parts _ _ e in
    let more = all_front p xs ys each.1 in
    (and_from _ _ each.0 more.0, more.1)

cases_are : (s : State) (disc : Tree) (before : List Text) (cs : Cases) → first_fault disc ≡ None → GoodCases cs → EachCase s.types (behind disc) cs → AreNew before (case_names cs)
    → all (λ d. has_type (shape disc) (int d)) (labels_of (case_heads (case_shapes cs))) ≡ true → all (λ c. not_empty c.labels || c.is_default) (case_heads (case_shapes cs)) ≡ true → AreCases s disc before cs
cases_are s disc before no_cases valid good each new typed some = tt
cases_are s disc before (one_case c t cs) valid good each new typed some =
    let split = all_front (λ d. has_type (shape disc) (int d)) c.labels (labels_of (case_heads (case_shapes cs))) typed in
    let reached = and_parts _ _ some in
    (new.0, (low_id c.id good.1.0, ((reached.0, labels_are disc c.labels valid each.1.0 split.0), ((each.1.1.0, (shallow (depth t) good.1.1.0, dims_kept t good.1.1.1.0)), cases_are s disc (before ++ name_text c.name ∷ []) cs valid good.1.1.1.1 each.1.1.1 new.1 split.1 reached.1))))

some_case_heads : (cs : Cases) → not_empty (case_heads (case_shapes cs)) ≡ true → some_cases cs ≡ true
some_case_heads no_cases some = some
some_case_heads (one_case c t cs) some = refl

-- what reading a union asks
pub record UnionHolds (s : State) (disc : Tree) (cs : Cases) : Type 0 where
  pub low : depth disc ≤ 16
  pub cases : AreCases s disc [] cs
  pub some : some_cases cs ≡ true

pub union_holds : (s : State) (head : UnionHead) (disc : Tree) (cs : Cases) → type_fault (union head disc cs) ≡ None → EachCase s.types (behind disc) cs → UnionHolds s disc cs
union_holds s head disc cs valid each =
    let limits = limits_kept (union head disc cs) valid in
    let low : depth disc ≤ 16 = omega (arith, limits.0) in
    let cases_low : cases_depth cs ≤ 15 = omega (arith, limits.0) in
    let rules = at_and_below (union head disc cs) (no_fault (union head disc cs) valid) in
    let held = rules.0 in
    let below = first_none _ _ (sym (inside_union head disc cs) ∙ rules.1) in
    let good = good_cases cs (and_parts _ _ held.0).1 (and_parts _ _ held.1.1.0).0 cases_low below.1 in
    let apart : distinct nat_eq (numbers (case_names cs)) ≡ true = subst (λ ns. distinct nat_eq ns ≡ true) (case_numbers cs) held.1.0 in
    let new = are_new (case_names cs) (cases_spelled s.types (behind disc) cs each) (case_names_fit cs good) apart in
    let labels = and_parts _ _ held.1.1.1.1.1.1.0 in
    record {
      low = low;
      cases = cases_are s disc [] cs (unmapped _ _ below.0) good each new (and_parts _ _ labels.0).1 (and_parts _ _ labels.1).0;
      some = some_case_heads cs held.1.1.1.0;
    }

-- what reading an enumeration asks
pub record EnumerationHolds (ext : Ext) (bits : ℕ) (ls : List Literal) : Type 0 where
  pub some : not_empty ls ≡ true
  pub wide : nat_le 1 bits ≡ true
  pub narrow : nat_le bits 32 ≡ true
  pub literals : AreLiterals [] ls

not_empty_map : {A B : Type 0} (f : A → B) (xs : List A) → not_empty (map f xs) ≡ true → not_empty xs ≡ true
not_empty_map f [] some = some
not_empty_map f (x ∷ xs) some = refl

pub enumeration_holds : (name : Option Text) (ext : Ext) (bits : ℕ) (ls : List Literal) → type_fault (enumeration name ext bits ls) ≡ None → all literal_fits ls ≡ true → EnumerationHolds ext bits ls
enumeration_holds name ext bits ls valid fits =
    let held = (at_and_below (enumeration name ext bits ls) (no_fault (enumeration name ext bits ls) valid)).0 in
    let sizes = and_parts _ _ (and_parts _ _ (and_parts _ _ held.1.1.1.0).0).1 in
    let apart : distinct nat_eq (numbers (literal_names ls)) ≡ true = subst (λ ns. distinct nat_eq ns ≡ true) (literal_numbers ls) held.1.0 in
    let new = are_new (literal_names ls) (literals_spelled ls fits) (literal_names_fit ls (and_parts _ _ held.0).1) apart in
    record { some = not_empty_map literal_shape ls held.1.1.0; wide = sizes.0; narrow = sizes.1; literals = literals_are [] ls fits new }

-- what reading a bitmask asks
pub record BitmaskHolds (bits : ℕ) (fs : List Flag) : Type 0 where
  pub some : not_empty fs ≡ true
  pub wide : nat_le 1 bits ≡ true
  pub narrow : nat_le bits 64 ≡ true
  pub flags : AreFlags [] fs

pub bitmask_holds : (name : Option Text) (bits : ℕ) (fs : List Flag) → type_fault (bitmask name bits fs) ≡ None → all (λ f. is_spelled f.name) fs ≡ true → BitmaskHolds bits fs
bitmask_holds name bits fs valid spelled =
    let held = (at_and_below (bitmask name bits fs) (no_fault (bitmask name bits fs) valid)).0 in
    let parts = and_parts _ _ held.1.1.1.0 in
    let sizes = and_parts _ _ parts.0 in
    let apart : distinct nat_eq (numbers (flag_names fs)) ≡ true = subst (λ ns. distinct nat_eq ns ≡ true) (flag_numbers fs) held.1.0 in
    let new = are_new (flag_names fs) (flags_spelled fs spelled) (flag_names_fit fs (and_parts _ _ held.0).1) apart in
    record { some = not_empty_map flag_shape fs held.1.1.0; wide = sizes.0; narrow = sizes.1; flags = flags_are [] bits fs sizes.1 (and_parts _ _ parts.1).0 new }
