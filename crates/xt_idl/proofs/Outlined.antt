-- The text of a type is that of its outline.
use Rattle.std.proofs.Common.{◌≡◌, refl, sym, ap, ◌∙◌, true≢false, ℕ, zero, suc, ◌+◌, ◌-◌, ◌<◌, ◌≤◌, min, arith, true, List, [], ◌∷◌, ◌++◌, map, length, take, get_or, slice_get, length-append, Option, Some, None}
use Rattle.std.proofs.lemmas.List.{map_push}
use Rattle.std.proofs.lemmas.Bool.{and_parts}
use Rattle.xt_shapes.specs.declared.leaves.Primitive.TheVariants.{Boolean}
use Rattle.xt_shapes.specs.declared.leaves.Step.{Step}
use Rattle.type_trees.specs.declared.types.Base.{Base}
use Rattle.type_trees.specs.Trees.{Tree, prim, str, enumeration, bitmask, sequence, array, map_of, structure, union, alias, Members, no_members, member, Cases, no_cases, one_case}
use Rattle.type_trees.specs.View.{members_of, cases_of}
use Rattle.type_trees.specs.sizes.TypeNodes.{nodes, member_nodes}
use Rattle.node_rules.specs.Table.{failing}
use Rattle.node_rules.proofs.Labelled.{all_append}
use Rattle.type_rules.specs.Valid.{type_fault, first_deep, first_fault}
use Rattle.type_rules.proofs.Kept.{limits_kept}
use Rattle.idl_printer.specs.Uses.{type_text, declarator_text}
use Rattle.idl_printer.specs.Parts.{declared_text, members_text, members_behind, case_text, cases_text}
use Rattle.idl_printer.specs.Lines.{last_base, count_of, struct_head, own_members, struct_text, union_text, definition_text, line, printed}
use Rattle.type_trees.specs.declared.types.Named.{Named}
use Rattle.type_trees.specs.View.{tree}
use Rattle.idl_types.specs.State as state
use Rattle.idl_types.specs.State.{Declared}
use Rattle.idl_types.specs.Uses.{tree_at, whole}
use Rattle.idl_types.specs.declared.declarations.UsedMember.{UsedMember}
use Rattle.idl_types.specs.declared.declarations.UsedCase.{UsedCase}
use Rattle.idl_types.specs.declared.declarations.Declaration.{Declaration}
use Rattle.idl_types.specs.Definitions.{ListedMembers, listed, as_base, members_on, bases_on, members_before, bases_before, member_head, case_head, member_whole, case_whole, defined, declared_from, declared}
use Rattle.idl_types.specs.Kept.{is_clear, all_valid}
use Rattle.xt_idl.proofs.NamedAt.{taken_more}
use Rattle.xt_idl.specs.Outlines.{use_outline, members_outline, cases_outline, base_outline, outline, outlines}

-- ---- types where they are used

use_text : (t : Tree) → type_text (use_outline t) ≡ type_text t
use_text (prim p) = refl
use_text (str n) = refl
use_text (sequence n tc t) = rw (use_text t) refl
use_text (array ds tc t) = refl
use_text (map_of n kc k vc v) = rw (use_text k, use_text v) refl
use_text (enumeration n x b ls) = refl
use_text (bitmask n b fs) = refl
use_text (structure h ms) = refl
use_text (union h d cs) = refl
use_text (alias n t) = refl

name_text_of : (t : Tree) (name : List ℕ) → declarator_text (use_outline t) name ≡ declarator_text t name
name_text_of (prim p) name = refl
name_text_of (str n) name = refl
name_text_of (sequence n tc t) name = rw (use_text t) refl
name_text_of (array ds tc t) name = rw (use_text t) refl
name_text_of (map_of n kc k vc v) name = rw (use_text k, use_text v) refl
name_text_of (enumeration n x b ls) name = refl
name_text_of (bitmask n b fs) name = refl
name_text_of (structure h ms) name = refl
name_text_of (union h d cs) name = refl
name_text_of (alias n t) name = refl

-- ---- members and cases

members_same : (ms : Members) → members_text (members_outline ms) ≡ members_text ms
unfolding declared_text
members_same no_members = refl
members_same (member h t ms) = rw (name_text_of t, members_same ms) refl

cases_same : (disc : Tree) (cs : Cases) → cases_text disc (cases_outline cs) ≡ cases_text disc cs
unfolding declared_text case_text
cases_same disc no_cases = refl
cases_same disc (one_case h t cs) = rw (name_text_of t, cases_same disc cs) refl

-- ---- definitions

last_of_one : (b : Base) → last_base (b ∷ []) ≡ Some b
last_of_one b = refl

base_same : (name : List ℕ) (b : Option Base) → struct_head name (last_base (base_outline b)) ≡ struct_head name b
unfolding struct_head
base_same name None = refl
base_same name (Some b) = refl

own_same : (b : Option Base) (ms : Members) → own_members (last_base (base_outline b)) (members_outline ms) ≡ members_text ms
unfolding own_members
own_same None ms = members_same ms
own_same (Some b) ms = members_same ms

definition_same : (t : Tree) (name : List ℕ) → definition_text (outline t) name ≡ definition_text t name
unfolding struct_text union_text own_members
definition_same (structure h ms) name =
    rw (base_same name (last_base h.bases), own_same (last_base h.bases) (members_behind (count_of (last_base h.bases)) ms)) refl
definition_same (union h d cs) name = rw (cases_same d cs) refl
definition_same (alias n t) name = rw (name_text_of t) refl
definition_same (prim p) name = refl
definition_same (str n) name = refl
definition_same (enumeration n x b ls) name = refl
definition_same (bitmask n b fs) name = refl
definition_same (sequence n c t) name = refl
definition_same (array ds c t) name = refl
definition_same (map_of n kc k vc v) name = refl

line_same : (full : List ℕ) (t : Tree) → line full (outline t) ≡ line full t
unfolding line
line_same full t = rw (definition_same t) refl

pub printed_outlines : (ds : Declared) → printed (outlines ds) ≡ printed ds
printed_outlines [] = refl
printed_outlines (d ∷ ds) = rw (line_same d.0 d.1, printed_outlines ds) refl

-- ---- a structure's base

last_there : (bs : List Base) (b : Base) → slice_get (bs ++ b ∷ []) (length bs) ≡ Some b
last_there [] b = refl
last_there (c ∷ bs) b = last_there bs b

pub base_there : (bs : List Base) (b : Base) → last_base (bs ++ b ∷ []) ≡ Some b
base_there bs b =
    let at : length (bs ++ b ∷ []) - 1 ≡ length bs = omega (arith, length-append bs (b ∷ [])) in
    ap (slice_get (bs ++ b ∷ [])) at ∙ last_there bs b

behind_all : (before own : ListedMembers) → members_behind (length before) (members_of (before ++ own)) ≡ members_of own
behind_all [] own = refl
behind_all (m ∷ before) own = behind_all before own

some_nodes : (t : Tree) → 1 ≤ nodes t
some_nodes (prim p) = omega arith
some_nodes (str n) = omega arith
some_nodes (enumeration n x b ls) = omega arith
some_nodes (bitmask n b fs) = omega arith
some_nodes (sequence n c t) = omega arith
some_nodes (array ds c t) = omega arith
some_nodes (map_of n kc k vc v) = omega arith
some_nodes (structure h ms) = omega arith
some_nodes (union head d cs) = omega arith
some_nodes (alias n t) = omega arith

pub as_many_nodes : (ms : Members) → length (listed ms) ≤ member_nodes ms
as_many_nodes no_members = omega arith
as_many_nodes (member h t ms) = omega (arith, some_nodes t, as_many_nodes ms)

pub none_is : (o : Option (ℕ × List Step)) → is_clear o ≡ true → o ≡ None
none_is None e = refl
none_is (Some f) e = absurd (true≢false (sym e))

-- the members that a base has stand before a structure's own
behind_base : (t : Tree) (own : ListedMembers) → is_clear (type_fault t) ≡ true → members_behind (count_of (last_base (bases_on t))) (members_of (members_on t ++ own)) ≡ members_of own
behind_base (structure h ms) own valid =
    let limits = limits_kept (structure h ms) (none_is _ valid) in
    let few : min (length (listed ms)) 4294967295 ≡ length (listed ms) = omega (arith, as_many_nodes ms, limits.1) in
    ap (λ b. members_behind (count_of b) (members_of (listed ms ++ own))) (base_there h.bases (as_base h (listed ms))) ∙ ap (λ n. members_behind n (members_of (listed ms ++ own))) few ∙ behind_all (listed ms) own
behind_base (prim p) own valid = refl
behind_base (str n) own valid = refl
behind_base (enumeration n x b ls) own valid = refl
behind_base (bitmask n b fs) own valid = refl
behind_base (sequence n c t) own valid = refl
behind_base (array ds c t) own valid = refl
behind_base (map_of n kc k vc v) own valid = refl
behind_base (union head d cs) own valid = refl
behind_base (alias n t) own valid = refl

boolean_clear : is_clear (type_fault (prim Boolean)) ≡ true
unfolding type_fault first_deep first_fault failing
boolean_clear = refl

pub at_valid : (ts : Declared) (at : ℕ) → all_valid ts ≡ true → is_clear (type_fault (tree_at ts at)) ≡ true
at_valid [] at valid = boolean_clear
at_valid (d ∷ ts) zero valid = (and_parts _ _ valid).0
at_valid (d ∷ ts) (suc at) valid = at_valid ts at (and_parts _ _ valid).1

pub behind : (ts : Declared) (base : Option ℕ) (own : ListedMembers) → all_valid ts ≡ true → members_behind (count_of (last_base (bases_before ts base))) (members_of (members_before ts base ++ own)) ≡ members_of own
behind ts None own valid = refl
behind ts (Some at) own valid = behind_base (tree_at ts at) own (at_valid ts at valid)

own_outline : (ts : Declared) (own : List UsedMember) → members_outline (members_of (map (member_whole ts) own)) ≡ members_of (map (λ m. (member_head m, use_outline (whole ts m.used))) own)
own_outline ts [] = refl
own_outline ts (m ∷ own) = ap (λ rest. member (member_head m) (use_outline (whole ts m.used)) rest) (own_outline ts own)

pub own_behind : (ts : Declared) (base : Option ℕ) (own : List UsedMember) → all_valid ts ≡ true
    → members_outline (members_behind (count_of (last_base (bases_before ts base))) (members_of (members_before ts base ++ map (member_whole ts) own))) ≡ members_of (map (λ m. (member_head m, use_outline (whole ts m.used))) own)
own_behind ts base own valid = ap members_outline (behind ts base (map (member_whole ts) own) valid) ∙ own_outline ts own

pub cases_are : (ts : Declared) (own : List UsedCase) → cases_outline (cases_of (map (case_whole ts) own)) ≡ cases_of (map (λ c. (case_head c, use_outline (whole ts c.used))) own)
cases_are ts [] = refl
cases_are ts (c ∷ own) = ap (λ rest. one_case (case_head c) (use_outline (whole ts c.used)) rest) (cases_are ts own)

-- ---- the first of a list

front_valid : (ts more : Declared) → all_valid (ts ++ more) ≡ true → all_valid ts ≡ true
front_valid ts more valid = (and_parts _ _ (sym (all_append (λ d. is_clear (type_fault d.1)) ts more) ∙ valid)).0

start_valid : (ts : Declared) (ds : List Declaration) → all_valid (declared_from ts ds) ≡ true → all_valid ts ≡ true
start_valid ts [] valid = valid
start_valid ts (d ∷ ds) valid =
    let one : Declared = (d.name, defined ts d.name d.definition) ∷ [] in
    front_valid ts one (start_valid (ts ++ one) ds valid)

taken_from : (ts : Declared) (ds : List Declaration) (n : ℕ) → all_valid (declared_from ts ds) ≡ true → all_valid (declared_from ts (take n ds)) ≡ true
taken_from ts [] zero valid = valid
taken_from ts [] (suc n) valid = valid
taken_from ts (d ∷ ds) zero valid = start_valid ts (d ∷ ds) valid
taken_from ts (d ∷ ds) (suc n) valid = taken_from (ts ++ (d.name, defined ts d.name d.definition) ∷ []) ds n valid

pub valid_taken : (ds : List Declaration) (n : ℕ) → all_valid (declared ds) ≡ true → all_valid (declared (take n ds)) ≡ true
valid_taken ds n valid = taken_from [] ds n valid

-- one declaration more
pub outlined_more : (ds : List Declaration) (i : ℕ) (d : Declaration) → i < length ds → d ≡ get_or ds i d → (row new : List Named) (n : Named) → new ≡ row ++ n ∷ [] → state.declared row ≡ outlines (declared (take i ds)) → n.name ≡ d.name
    → tree n.ty ≡ outline (defined (declared (take i ds)) d.name d.definition) → state.declared new ≡ outlines (declared (take (i + 1) ds))
outlined_more ds i d within is row new n more so_far name ty =
    let before = declared (take i ds) in
    let one : List ℕ × Tree = (d.name, defined before d.name d.definition) in
    ap state.declared more ∙ map_push (λ (m : Named). (m.name, tree m.ty)) row n ∙ ap (λ (l : Declared). l ++ (n.name, tree n.ty) ∷ []) so_far
    ∙ ap (λ (x : List ℕ). outlines before ++ (x, tree n.ty) ∷ []) name ∙ ap (λ (x : Tree). outlines before ++ (d.name, x) ∷ []) ty
    ∙ sym (ap outlines (taken_more ds i d within is) ∙ map_push (λ (x : List ℕ × Tree). (x.0, outline x.1)) before one)
