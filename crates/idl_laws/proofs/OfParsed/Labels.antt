-- What labels that were read are: they have the form of the discriminator's type.
use Rattle.std.proofs.Common.{◌≡◌, refl, sym, ◌∙◌, subst, true≢false, ℕ, zero, suc, ◌≤◌, Bool, true, false, not, ◌&&◌, ◌||◌, cond, nat_le, List, [], ◌∷◌, ◌++◌, take, Option, Some, None, arith, tests}
use Rattle.std.specs.Prelude.{◌==◌, codes, ℤ, pos, neg_ℤ, slice_index}
use Rattle.std.proofs.lemmas.Option.{cond_some}
use Rattle.std.proofs.lemmas.Bool.{lt-ltb}
use Rattle.std.proofs.lemmas.List.{get_or-take}
use Rattle.xt_shapes.specs.Lists.{all}
use Rattle.xt_shapes.specs.declared.leaves.Primitive.TheVariants.{Boolean, Char8}
use Rattle.type_trees.specs.Trees.{Tree, prim, str, sequence, map_of, array, enumeration, bitmask, structure, union, alias}
use Rattle.idl_tokens.specs.declared.tokens.TokenKind.{TokenKind}
use Rattle.idl_tokens.specs.declared.tokens.TokenKind.TheVariants.{Word, Number, Character, Quoted, Mark, End, Bad}
use Rattle.idl_tokens.specs.declared.tokens.Token.{Token}
use Rattle.idl_tokens.specs.Classes.{Text, is_printable}
use Rattle.idl_tokens.specs.Tokens.{skip, token, a_token, numeral, character, quoted, mark}
use Rattle.idl_tokens.specs.Numerals.{signed_32, magnitude, is_negative}
use Rattle.idl_input.specs.Input.{Input, here, want, kind, spelling, sees, sees_number, turns}
use Rattle.idl_types.specs.State.{Declared}
use Rattle.idl_types.specs.Names.{scoped}
use Rattle.idl_definitions.specs.Unions.{behind, truth_label, is_character, character_label, or_syntax, number_label, value_named, known_label, literal_label, label_by, label, labels_from, labels}
use Rattle.idl_laws.specs.Printable.{IsNamed, IsTyped, IsDefinition, is_number, literal_fits, label_fits}
use Rattle.idl_laws.specs.Printable as printable
use Rattle.idl_laws.proofs.OfParsed.Gives.{Yields, bind, behind as following, next, given, fails, tested, by_input, at_input, read, if_eaten}
use Rattle.idl_laws.proofs.OfParsed.Sound.{Sound}
use Rattle.idl_laws.proofs.OfParsed.Uses.{taken_within, typed_more}
use Rattle.idl_laws.proofs.OfParsed.Numbered.{all_more}

-- ---- literals of a discriminator

-- where the type is an enumeration, its literals can be printed
abbrev pub LiteralsFit : Tree → Type 0
LiteralsFit (enumeration name ext bits ls) = all literal_fits ls ≡ true
LiteralsFit _ = Unit {0}

-- the definition of a type that stands in the list
pub record Defined (types : Declared) (t : Tree) : Type 0 where
  pub place : ℕ
  pub full : Text
  pub is : IsDefinition (take place types) full t

named_defined : (types : Declared) → Sound types → (name : Option Text) (t : Tree) → IsNamed types name t → Defined types t
named_defined types sound None t named = absurd named
named_defined types sound (Some full) t named = record { place = named.0; full = full; is = (sound named.0 full t named.1).defined }

pub literals_behind : (types : Declared) → Sound types → (t : Tree) → IsTyped types t → LiteralsFit (behind t)
literals_behind types sound (alias name t) typed =
    let d = named_defined types sound name (alias name t) typed in
    literals_behind types sound t (typed_more (take d.place types) types (taken_within d.place types) t d.is.1)
literals_behind types sound (enumeration name ext bits ls) typed = (named_defined types sound name (enumeration name ext bits ls) typed).is.1
literals_behind types sound (prim p) typed = tt
literals_behind types sound (str n) typed = tt
literals_behind types sound (sequence n tc t) typed = tt
literals_behind types sound (map_of n kc k vc v) typed = tt
literals_behind types sound (array ds tc t) typed = tt
literals_behind types sound (bitmask name bits fs) typed = tt
literals_behind types sound (structure head ms) typed = tt
literals_behind types sound (union head disc cs) typed = tt

-- ---- numbers

low_number : (m : ℕ) → m ≤ 2147483648 → is_number (neg_ℤ (pos m)) ≡ true
low_number zero fits = refl
low_number (suc k) fits = lt-ltb k 2147483648 (omega arith)

high_number : (m : ℕ) → m ≤ 2147483647 → is_number (pos m) ≡ true
high_number m fits = lt-ltb m 2147483648 (omega arith)

at_most : (n high : ℕ) → nat_le n high ≡ true → n ≤ high
at_most n high e = grind (arith, tests)

signed_by : (negative : Bool) (m : ℕ) (n : ℤ) → cond negative (cond (nat_le m 2147483648) (Some (neg_ℤ (pos m))) None) (cond (nat_le m 2147483647) (Some (pos m)) None) ≡ Some n → is_number n ≡ true
signed_by true m n e = let through = cond_some (nat_le m 2147483648) (neg_ℤ (pos m)) n e in subst (λ v. is_number v ≡ true) through.1 (low_number m (at_most m 2147483648 through.0))
signed_by false m n e = let through = cond_some (nat_le m 2147483647) (pos m) n e in subst (λ v. is_number v ≡ true) through.1 (high_number m (at_most m 2147483647 through.0))

signed_number : (s : Text) (n : ℤ) → signed_32 s ≡ Some n → is_number n ≡ true
unfolding signed_32
signed_number s n e = signed_by (is_negative s) (magnitude s) n e

some_yields : (o : Option ℤ) (P : ℤ → Type 0) → ((n : ℤ) → o ≡ Some n → P n) → Yields (or_syntax o) P
some_yields (Some n) P each = by_input (λ i. read (each n refl))
some_yields None P each = fails

number_yields : Yields number_label (λ n. is_number n ≡ true)
unfolding number_label
number_yields = by_input (λ i. tested (sees_number i) (λ _. at_input (some_yields _ (λ n. is_number n ≡ true) (signed_number (spelling i))) i) (λ _. fails))

-- ---- truth values

truth_yields : Yields truth_label (λ n. is_number n ≡ true)
unfolding truth_label
truth_yields = if_eaten (codes "TRUE") (given refl) (next (want (codes "FALSE")) (given refl))

-- ---- characters

-- a token of a character has it between quotes
record HoldsCharacter (text : Text) (t : Token) : Type 0 where
  length_is : t.len ≡ 3
  character_is : printable.is_character (pos (slice_index text 1)) ≡ true

abbrev IfCharacter : Text → Token → Type 0
IfCharacter text t = is_character t.kind ≡ true → HoldsCharacter text t

split : (P : Token → Type 0) (b : Bool) (t u : Token) → (b ≡ true → P t) → P u → P (cond b t u)
split P true t u first second = first refl
split P false t u first second = second

no_character : (text : Text) (k : TokenKind) (n : ℕ) → is_character k ≡ false → IfCharacter text (a_token k n)
no_character text k n e is = absurd (true≢false (sym is ∙ e))

number_or_bad : (text : Text) (b : Bool) (n : ℕ) → IfCharacter text (a_token (cond b Number Bad) n)
number_or_bad text true n = no_character text Number n refl
number_or_bad text false n = no_character text Bad n refl

numeral_none : (text : Text) → IfCharacter text (numeral text)
numeral_none text = number_or_bad text _ _

regrouped : (a b c d : Bool) → (((a && b) && c) && d) ≡ true → (b && (c && d)) ≡ true
regrouped true true c d e = e
regrouped true false c d e = absurd (true≢false (sym e))
regrouped false b c d e = absurd (true≢false (sym e))

character_some : (text : Text) → IfCharacter text (character text)
character_some text =
    let b = slice_index text 1 in
    let between = regrouped (slice_index text 2 == 39) (is_printable b) (not (b == 39)) (not (b == 92)) in
    split (IfCharacter text) _ (a_token Character 3) (a_token Bad 1) (λ e is. record { length_is = refl; character_is = between e }) (no_character text Bad 1 refl)

quoted_none : (text : Text) → IfCharacter text (quoted text)
quoted_none text = split (IfCharacter text) _ _ _ (λ _. no_character text Quoted _ refl) (no_character text Bad 1 refl)

mark_none : (text : Text) → IfCharacter text (mark text)
mark_none text = split (IfCharacter text) _ _ _ (λ _. no_character text Mark 2 refl) (split (IfCharacter text) _ _ _ (λ _. no_character text Mark 1 refl) (no_character text Bad 1 refl))

token_character : (text : Text) → IfCharacter text (token text)
unfolding token
token_character text =
    split (IfCharacter text) _ _ _ (λ _. no_character text End 0 refl)
    (split (IfCharacter text) _ _ _ (λ _. no_character text Word _ refl)
    (split (IfCharacter text) _ _ _ (λ _. numeral_none text)
    (split (IfCharacter text) _ _ _ (λ _. character_some text)
    (split (IfCharacter text) _ _ _ (λ _. quoted_none text) (mark_none text)))))

spelled_at : (text : Text) (n : ℕ) → HoldsCharacter text (token text) → n ≡ (token text).len → printable.is_character (pos (slice_index (take n text) 1)) ≡ true
spelled_at text n holds e = subst (λ b. printable.is_character (pos b) ≡ true) (sym (get_or-take n text 1 0 (omega (arith, holds.length_is)))) holds.character_is

spelled_character : (i : Input) → is_character (kind i) ≡ true → printable.is_character (pos (slice_index (spelling i) 1)) ≡ true
unfolding kind spelling
spelled_character i is = spelled_at (skip i.text) (token (skip i.text)).len (token_character (skip i.text) is) refl

character_yields : Yields character_label (λ n. printable.is_character n ≡ true)
unfolding character_label
character_yields = by_input (λ i. tested (is_character (kind i)) (λ e. read (spelled_character i e)) (λ _. fails))

-- ---- literals

known_yields : (at : ℕ) (o : Option ℤ) (P : Type 0) → P → Yields (known_label at o) (λ _. P)
known_yields at (Some v) P holds = given holds
known_yields at None P holds = fails

literal_label_yields : (ls : _) (P : Type 0) → P → Yields (literal_label ls) (λ _. P)
unfolding literal_label
literal_label_yields ls P holds = following here (λ at. following scoped (λ s. known_yields at (value_named s.last ls) P holds))

-- ---- labels

label_by_yields : (d : Tree) → LiteralsFit d → Yields (label_by d) (λ n. label_fits d n ≡ true)
label_by_yields (prim Boolean) fit = truth_yields
label_by_yields (prim Char8) fit = character_yields
label_by_yields (enumeration name ext bits ls) fit = literal_label_yields ls _ fit
label_by_yields _ fit = number_yields

label_yields : (disc : Tree) → LiteralsFit (behind disc) → Yields (label disc) (λ n. label_fits (behind disc) n ≡ true)
unfolding label
label_yields disc fit = label_by_yields (behind disc) fit

abbrev pub AllFit : Tree → List ℤ × Bool → Type 0
AllFit disc l = all (label_fits (behind disc)) l.0 ≡ true

labels_from_yields : (disc : Tree) → LiteralsFit (behind disc) → (n : ℕ) (ls : List ℤ) (is_default : Bool) → all (label_fits (behind disc)) ls ≡ true
    → Yields (labels_from disc n ls is_default) (AllFit disc)
unfolding labels_from
labels_from_yields disc fit zero ls is_default each = given each
labels_from_yields disc fit (suc n) ls is_default each =
    if_eaten (codes "case") (bind (label_yields disc fit) (λ l more. next (want (codes ":")) (labels_from_yields disc fit n (ls ++ l ∷ []) is_default (all_more (label_fits (behind disc)) ls l each more))))
    (if_eaten (codes "default") (next (want (codes ":")) (labels_from_yields disc fit n ls true each)) (given each))

pub labels_yield : (disc : Tree) → LiteralsFit (behind disc) → Yields (labels disc) (AllFit disc)
unfolding labels
labels_yield disc fit = by_input (λ i. tested (sees (codes "case") i || sees (codes "default") i) (λ _. at_input (labels_from_yields disc fit (turns i) [] false refl) i) (λ _. fails))
