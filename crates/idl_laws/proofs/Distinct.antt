-- Names whose hashes are apart are apart themselves.
use Rattle.std.proofs.Common.{◌≡◌, refl, sym, ◌∙◌, ap, subst, true≢false, ⊎_elim, ℕ, Bool, true, false, not, ◌&&◌, List, [], ◌∷◌, ◌++◌, map}
use Rattle.std.proofs.lemmas.Bool.{and_parts, and_from, not-true, or_parts, or_from, or_left, or_right, or_cases, false_from_ne_true, not_from_false}
use Rattle.std.specs.Prelude.{nat_eq}
use Rattle.std.specs.Str.{bytes_eq}
use Rattle.std.proofs.lemmas.Slice.Eq.{bytes_eq-Decides}
use Rattle.std.proofs.lemmas.Bool.Decides.{Decides-eqb}
use Rattle.xt_shapes.specs.Lists.{all}
use Rattle.xt_shapes.specs.Lists as lists
use Rattle.xt_shapes.specs.NodeRules.{distinct}
use Rattle.type_trees.specs.declared.types.Name.{Name}
use Rattle.type_trees.specs.declared.types.Name.TheVariants as name_of
use Rattle.type_trees.specs.Bridge.{name_number}
use Rattle.node_rules.specs.Names.{name_fits}
use Rattle.idl_tokens.specs.Classes.{Text}
use Rattle.idl_tokens.specs.names.Sets.{has}
use Rattle.idl_printer.specs.Words.{name_text}
use Rattle.idl_laws.specs.Printable.{is_spelled}
use Rattle.idl_laws.proofs.Members.{IsNewName}
use Rattle.idl_laws.proofs.Facts.{numbers}

pub same_text : (a b : Text) → bytes_eq a b ≡ true → a ≡ b
same_text a b e = (bytes_eq-Decides a b).0 e

pub text_is_same : (a : Text) → bytes_eq a a ≡ true
text_is_same a = (bytes_eq-Decides a a).1 refl

number_is_same : (n : ℕ) → nat_eq n n ≡ true
number_is_same n = (Decides-eqb n n).1 refl

pub full_is : (n : Name) → is_spelled n ≡ true → n ≡ name_of.Full (name_text n)
full_is (name_of.Full s) e = refl
full_is (name_of.Hashed h) e = absurd (true≢false (sym e))

-- ---- texts

abbrev pub texts : List Name → List Text
texts = map name_text

abbrev pub texts_apart : List Text → Bool
texts_apart [] = true
texts_apart (t ∷ ts) = not (has t ts) && texts_apart ts

same_number : (t : Text) (n : Name) → is_spelled n ≡ true → bytes_eq t (name_text n) ≡ true → nat_eq (name_number (name_of.Full t)) (name_number n) ≡ true
same_number t n spelled same =
    let e : name_of.Full t ≡ n = ap (λ s. name_of.Full s) (same_text t (name_text n) same) ∙ sym (full_is n spelled) in
    subst (λ m. nat_eq (name_number (name_of.Full t)) (name_number m) ≡ true) e (number_is_same (name_number (name_of.Full t)))

number_among : (t : Text) (ns : List Name) → all is_spelled ns ≡ true → has t (texts ns) ≡ true → lists.has (nat_eq (name_number (name_of.Full t))) (numbers ns) ≡ true
number_among t [] spelled there = absurd (true≢false (sym there))
number_among t (n ∷ ns) spelled there =
    let each = and_parts _ _ spelled in
    ⊎_elim (λ here. or_left _ _ (same_number t n each.0 here)) (λ later. or_right _ _ (number_among t ns each.1 later)) (or_cases (bytes_eq t (name_text n)) (has t (texts ns)) there)

pub apart_texts : (ns : List Name) → all is_spelled ns ≡ true → distinct nat_eq (numbers ns) ≡ true → texts_apart (texts ns) ≡ true
apart_texts [] spelled apart = refl
apart_texts (n ∷ ns) spelled apart =
    let each = and_parts _ _ spelled in
    let apart = and_parts _ _ apart in
    let none : lists.has (nat_eq (name_number n)) (numbers ns) ≡ false = not-true _ apart.0 in
    let none_full : lists.has (nat_eq (name_number (name_of.Full (name_text n)))) (numbers ns) ≡ false = subst (λ m. lists.has (nat_eq (name_number m)) (numbers ns) ≡ false) (full_is n each.0) none in
    and_from _ _ (not_from_false _ (false_from_ne_true _ (λ there. true≢false (sym (number_among (name_text n) ns each.1 there) ∙ none_full)))) (apart_texts ns each.1 apart.1)

-- ---- names that are new, one after another

abbrev pub AreNew : List Text → List Name → Type 0
AreNew before [] = Unit {0}
AreNew before (n ∷ ns) = IsNewName before n × AreNew (before ++ name_text n ∷ []) ns

-- none of the texts is among earlier ones
abbrev none_of : List Text → List Text → Bool
none_of before [] = true
none_of before (t ∷ ts) = not (has t before) && none_of before ts

has_append : (t : Text) (before : List Text) (u : Text) → has t before ≡ false → bytes_eq t u ≡ false → has t (before ++ u ∷ []) ≡ false
has_append t [] u none other = or_from _ _ other refl
has_append t (b ∷ before) u none other =
    let each = or_parts _ _ none in
    or_from _ _ each.0 (has_append t before u each.1 other)

-- `==` on texts goes both ways
other_way : (t u : Text) → bytes_eq u t ≡ false → bytes_eq t u ≡ false
other_way t u other = false_from_ne_true _ (λ same. true≢false (sym ((bytes_eq-Decides u t).1 (sym (same_text t u same))) ∙ other))

none_further : (before : List Text) (u : Text) (ts : List Text) → none_of before ts ≡ true → has u ts ≡ false → none_of (before ++ u ∷ []) ts ≡ true
none_further before u [] none apart = refl
none_further before u (t ∷ ts) none apart =
    let each = and_parts _ _ none in
    let others = or_parts _ _ apart in
    and_from _ _ (not_from_false _ (has_append t before u (not-true _ each.0) (other_way t u others.0))) (none_further before u ts each.1 others.1)

new_name : (before : List Text) (n : Name) → is_spelled n ≡ true → name_fits n ≡ true → has (name_text n) before ≡ false → IsNewName before n
new_name before (name_of.Full s) spelled fits none = record { s = s; is = refl; free = and_from _ _ (and_parts _ _ fits).1 spelled; new = none }
new_name before (name_of.Hashed h) spelled fits none = absurd (true≢false (sym spelled))

are_new_behind : (before : List Text) (ns : List Name) → all is_spelled ns ≡ true → all name_fits ns ≡ true → texts_apart (texts ns) ≡ true → none_of before (texts ns) ≡ true → AreNew before ns
are_new_behind before [] spelled fits apart none = tt
are_new_behind before (n ∷ ns) spelled fits apart none =
    let each = and_parts _ _ spelled in
    let fit = and_parts _ _ fits in
    let parts = and_parts _ _ apart in
    let nones = and_parts _ _ none in
    (new_name before n each.0 fit.0 (not-true _ nones.0), are_new_behind (before ++ name_text n ∷ []) ns each.1 fit.1 parts.1 (none_further before (name_text n) (texts ns) nones.1 (not-true _ parts.0)))

none_of_none : (ts : List Text) → none_of [] ts ≡ true
none_of_none [] = refl
none_of_none (t ∷ ts) = none_of_none ts

pub are_new : (ns : List Name) → all is_spelled ns ≡ true → all name_fits ns ≡ true → distinct nat_eq (numbers ns) ≡ true → AreNew [] ns
are_new ns spelled fits apart = are_new_behind [] ns spelled fits (apart_texts ns spelled apart) (none_of_none (texts ns))
