-- What the rules see of members, cases, literals and flags.
use Rattle.std.proofs.Common.{◌≡◌, refl, sym, ap, ◌∙◌, ℕ, ℤ, suc, Bool, true, false, ◌||◌, List, ◌++◌, Option, [], ◌∷◌, map, length, nat_lt, rules, tests}
use Rattle.type_trees.specs.declared.types.Member.{Member}
use Rattle.type_trees.specs.declared.types.Case.{Case}
use Rattle.type_trees.specs.declared.types.Literal.{Literal}
use Rattle.type_trees.specs.declared.types.Flag.{Flag}
use Rattle.type_trees.specs.Trees.{StructHead, UnionHead}
use Rattle.type_trees.specs.View.{members_tree, cases_tree}
use Rattle.type_trees.specs.Bridge.{name_number, literal_shape, flag_shape, members_shape, cases_shape}
use Rattle.type_trees.proofs.Views.{member_tree_is, case_tree_is}
use Rattle.xt_shapes.specs.Lists.{all}
use Rattle.xt_shapes.specs.Shape.{CaseHead, Shape, heads, case_heads}
use Rattle.xt_shapes.specs.Vals.{int}
use Rattle.xt_shapes.specs.Typing.{has_type}
use Rattle.xt_shapes.specs.Keyable.{counted_keyable}
use Rattle.xt_shapes.specs.declared.leaves.Ext.{Ext}
use Rattle.node_rules.specs.Names.{name_fits}
use Rattle.xt_shapes.specs.NodeRules.{not_empty, not_mutable, hashes_apart, ids_fit, enum_fits, mask_fits, is_discriminator, labels_of, labels_fit, keys_discard}
use Rattle.node_rules.specs.Rules.{bases_fit, is_value, any_labelled, labels_hold}
use Rattle.node_rules.specs.Table.{member_names, case_names, enum_names, mask_names, struct_names, union_names, enum_rules, mask_rules, struct_rules, union_rules, first_broken}

pub member_names_fit : (ms : List Member) → all name_fits (member_names (members_tree ms)) ≡ all (λ m. name_fits m.name) ms
member_names_fit [] = refl
member_names_fit (m ∷ ms) = rw (member_tree_is m, member_names_fit ms) refl

pub case_names_fit : (cs : List Case) → all name_fits (case_names (cases_tree cs)) ≡ all (λ c. name_fits c.name) cs
case_names_fit [] = refl
case_names_fit (c ∷ cs) = rw (case_tree_is c, case_names_fit cs) refl

pub member_hashes : (ms : List Member) → map (λ h. h.hash) (heads (members_shape ms)) ≡ map (λ m. name_number m.name) ms
member_hashes [] = refl
member_hashes (m ∷ ms) = rw (member_tree_is m, member_hashes ms) refl

pub member_ids : (ms : List Member) → map (λ h. h.id) (heads (members_shape ms)) ≡ map (λ m. m.id) ms
member_ids [] = refl
member_ids (m ∷ ms) = rw (member_tree_is m, member_ids ms) refl

pub member_count : (ms : List Member) → length (heads (members_shape ms)) ≡ length ms
member_count [] = refl
member_count (m ∷ ms) = ap suc (member_count ms)

pub case_hashes : (cs : List Case) → map (λ h. h.hash) (case_heads (cases_shape cs)) ≡ map (λ c. name_number c.name) cs
case_hashes [] = refl
case_hashes (c ∷ cs) = rw (case_tree_is c, case_hashes cs) refl

pub case_ids : (cs : List Case) → map (λ h. h.id) (case_heads (cases_shape cs)) ≡ map (λ c. c.id) cs
case_ids [] = refl
case_ids (c ∷ cs) = rw (case_tree_is c, case_ids cs) refl

pub literal_hashes : (ls : List Literal) → map (λ l. l.hash) (map literal_shape ls) ≡ map (λ l. name_number l.name) ls
literal_hashes [] = refl
literal_hashes (l ∷ ls) = rw (literal_hashes ls) refl

pub flag_hashes : (fs : List Flag) → map (λ f. f.hash) (map flag_shape fs) ≡ map (λ f. name_number f.name) fs
flag_hashes [] = refl
flag_hashes (f ∷ fs) = rw (flag_hashes fs) refl

-- there is an item in the program's list where there is one in what the rules see
literals_filled : (ls : List Literal) → nat_lt 0 (length ls) ≡ not_empty (map literal_shape ls)
literals_filled [] = refl
literals_filled (l ∷ ls) = search (rules, tests)

flags_filled : (fs : List Flag) → nat_lt 0 (length fs) ≡ not_empty (map flag_shape fs)
flags_filled [] = refl
flags_filled (f ∷ fs) = search (rules, tests)

members_filled : (ms : List Member) → nat_lt 0 (length ms) ≡ not_empty (heads (members_shape ms))
members_filled [] = refl
members_filled (m ∷ ms) = search (rules, tests)

cases_filled : (cs : List Case) → nat_lt 0 (length cs) ≡ not_empty (case_heads (cases_shape cs))
cases_filled [] = refl
cases_filled (c ∷ cs) = search (rules, tests)

-- The program's tests of a node are the rules there.
pub enum_tests : (name : Option (List ℕ)) (ext : Ext) (bits : ℕ) (ls slice : List Literal) (names hashes filled fits : Bool) → slice ≡ ls → names ≡ enum_names name ls
    → hashes ≡ hashes_apart (map (λ l. name_number l.name) slice) → filled ≡ nat_lt 0 (length slice) → fits ≡ enum_fits ext bits (map literal_shape ls)
    → first_broken ((1, names) ∷ (2, hashes) ∷ (4, filled) ∷ (5, fits) ∷ []) ≡ first_broken (enum_rules name ext bits ls)
enum_tests name ext bits ls slice names hashes filled fits same names_are hashes_are filled_is fits_is =
    rw (names_are, hashes_are, filled_is, fits_is, same, literals_filled ls, literal_hashes ls) refl

pub mask_tests : (name : Option (List ℕ)) (bits : ℕ) (fs slice : List Flag) (names hashes filled fits : Bool) → slice ≡ fs → names ≡ mask_names name fs
    → hashes ≡ hashes_apart (map (λ f. name_number f.name) slice) → filled ≡ nat_lt 0 (length slice) → fits ≡ mask_fits bits (map flag_shape fs)
    → first_broken ((1, names) ∷ (2, hashes) ∷ (4, filled) ∷ (6, fits) ∷ []) ≡ first_broken (mask_rules name bits fs)
mask_tests name bits fs slice names hashes filled fits same names_are hashes_are filled_is fits_is =
    rw (names_are, hashes_are, filled_is, fits_is, same, flags_filled fs, flag_hashes fs) refl

pub struct_tests : (head : StructHead) (ms slice : List Member) (names hashes ids filled keyable discard bases : Bool) → slice ≡ ms → names ≡ struct_names head (members_tree ms)
    → hashes ≡ hashes_apart (map (λ m. name_number m.name) slice) → ids ≡ ids_fit (map (λ m. m.id) slice) → filled ≡ nat_lt 0 (length slice)
    → keyable ≡ counted_keyable true (members_shape slice) → discard ≡ keys_discard (heads (members_shape slice)) → bases ≡ bases_fit head.bases (length slice)
    → first_broken ((1, names) ∷ (2, hashes) ∷ (3, ids) ∷ (4, filled) ∷ (12, keyable) ∷ (13, discard) ∷ (18, bases) ∷ []) ≡ first_broken (struct_rules head (members_tree ms))
struct_tests head ms slice names hashes ids filled keyable discard bases same names_are hashes_are ids_are filled_is keyable_are discard_are bases_are =
    rw (names_are, hashes_are, ids_are, filled_is, keyable_are, discard_are, bases_are, same, members_filled ms, member_hashes ms, member_ids ms, member_count ms) refl

or_filled : {A : Type 0} (xs ys : List A) → not_empty (xs ++ ys) ≡ (not_empty xs || not_empty ys)
or_filled [] ys = refl
or_filled (x ∷ xs) ys = refl

labelled_filled : (cases : List CaseHead) → any_labelled cases ≡ not_empty (labels_of cases)
labelled_filled [] = refl
labelled_filled (c ∷ cs) = ap (λ b. not_empty c.labels || b) (labelled_filled cs) ∙ sym (or_filled c.labels (labels_of cs))

same_values : (disc : Shape) (ls : List ℤ) → is_discriminator disc ≡ true → all (is_value disc) ls ≡ all (λ d. has_type disc (int d)) ls
same_values disc [] holds = refl
same_values disc (l ∷ ls) holds = rw (same_values disc ls holds, holds) refl

same_labels : (disc : Shape) (cases : List CaseHead) → is_discriminator disc ≡ true → labels_hold disc cases ≡ labels_fit disc cases
same_labels disc cases holds = rw (same_values disc (labels_of cases) holds, labelled_filled cases) refl

-- V11 is asked only where V10 holds
labels_last : (disc : Shape) (cases : List CaseHead) (b : Bool) → is_discriminator disc ≡ b
    → first_broken ((10, b) ∷ (11, labels_hold disc cases) ∷ []) ≡ first_broken ((10, b) ∷ (11, labels_fit disc cases) ∷ [])
labels_last disc cases true holds = ap (λ fits. first_broken ((11, fits) ∷ [])) (same_labels disc cases holds)
labels_last disc cases false holds = refl

five_more : (names hashes ids filled closed : Bool) (ps qs : List (ℕ × Bool)) → first_broken ps ≡ first_broken qs
    → first_broken ((1, names) ∷ (2, hashes) ∷ (3, ids) ∷ (4, filled) ∷ (9, closed) ∷ ps) ≡ first_broken ((1, names) ∷ (2, hashes) ∷ (3, ids) ∷ (4, filled) ∷ (9, closed) ∷ qs)
five_more names hashes ids filled closed ps qs same = rw same refl

pub union_tests : (head : UnionHead) (disc : Shape) (cs slice : List Case) (names hashes ids filled closed fits labels : Bool) → slice ≡ cs → names ≡ union_names head (cases_tree cs)
    → hashes ≡ hashes_apart (map (λ c. name_number c.name) slice) → ids ≡ ids_fit (map (λ c. c.id) slice) → filled ≡ nat_lt 0 (length slice) → closed ≡ not_mutable head.ext
    → fits ≡ is_discriminator disc → labels ≡ labels_hold disc (case_heads (cases_shape slice))
    → first_broken ((1, names) ∷ (2, hashes) ∷ (3, ids) ∷ (4, filled) ∷ (9, closed) ∷ (10, fits) ∷ (11, labels) ∷ []) ≡ first_broken (union_rules head disc (cases_tree cs))
union_tests head disc cs slice names hashes ids filled closed fits labels same names_are hashes_are ids_are filled_is closed_is fits_is labels_are =
    rw (names_are, hashes_are, ids_are, filled_is, closed_is, fits_is, labels_are, same, cases_filled cs, case_hashes cs, case_ids cs)
    (five_more
    (union_names head (cases_tree cs))
    (hashes_apart (map (λ c. name_number c.name) cs))
    (ids_fit (map (λ c. c.id) cs))
    (not_empty (case_heads (cases_shape cs)))
    (not_mutable head.ext)
    ((10, is_discriminator disc) ∷ (11, labels_hold disc (case_heads (cases_shape cs))) ∷ [])
    ((10, is_discriminator disc) ∷ (11, labels_fit disc (case_heads (cases_shape cs))) ∷ [])
    (labels_last disc (case_heads (cases_shape cs)) (is_discriminator disc) refl))
