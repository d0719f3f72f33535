-- Keys of a map repeat where its numbers or its texts do.
use Rattle.std.proofs.Common.{◌≡◌, refl, sym, ap, ap₂, ◌∙◌, ℕ, ℤ, Bool, true, false, ◌||◌, List, [], ◌∷◌, map}
use Rattle.std.proofs.lemmas.Map.Text.{is_eq-slice_cmp}
use Rattle.std.specs.Cmp.Lexicographic.{slice_cmp}
use Rattle.std.specs.Ordering.{int_cmp, nat_cmp, is_eq}
use Rattle.xt_shapes.specs.Lists.{has}
use Rattle.xt_shapes.specs.Typing.{same_key, repeats}
use Rattle.xt_shapes.specs.Vals.{Val, int, text}
use Rattle.node_rules.specs.distinct.Repeats.{repeats_by}
use Rattle.type_values.specs.KeyLists.{and_number, and_text, number_keys, text_keys}

-- ---- keys by kind

or_swap : (a b c : Bool) → (a || (b || c)) ≡ (b || (a || c))
or_swap true true c = refl
or_swap true false c = refl
or_swap false b c = refl

or_assoc : (a b c : Bool) → (a || (b || c)) ≡ ((a || b) || c)
or_assoc true b c = refl
or_assoc false b c = refl

abbrev same_number : ℤ → ℤ → Bool
same_number i j = is_eq (int_cmp i j)

abbrev same_text : List ℕ → List ℕ → Bool
same_text s t = is_eq (slice_cmp nat_cmp s t)

number_among : (i : ℤ) (k v : Val) (xs : List (Val × Val)) → has (λ y. same_key (int i) y.0) xs ≡ has (same_number i) (number_keys xs) → (same_key (int i) k || has (λ y. same_key (int i) y.0) xs) ≡ has (same_number i) (and_number k (number_keys xs))
number_among i (int j) v xs e = ap (λ b. same_number i j || b) e
number_among i k v xs e = e

among_numbers : (i : ℤ) (xs : List (Val × Val)) → has (λ y. same_key (int i) y.0) xs ≡ has (same_number i) (number_keys xs)
among_numbers i [] = refl
among_numbers i (x ∷ xs) = number_among i x.0 x.1 xs (among_numbers i xs)

text_among : (t : List ℕ) (k v : Val) (xs : List (Val × Val)) → has (λ y. same_key (text t) y.0) xs ≡ has (same_text t) (text_keys xs) → (same_key (text t) k || has (λ y. same_key (text t) y.0) xs) ≡ has (same_text t) (and_text k (text_keys xs))
text_among t (text s) v xs e = ap₂ (λ (a b : Bool). a || b) (sym (is_eq-slice_cmp t s)) e
text_among t k v xs e = e

among_texts : (t : List ℕ) (xs : List (Val × Val)) → has (λ y. same_key (text t) y.0) xs ≡ has (same_text t) (text_keys xs)
among_texts t [] = refl
among_texts t (x ∷ xs) = text_among t x.0 x.1 xs (among_texts t xs)

among_none : (k : Val) (xs : List (Val × Val)) → ((l : Val) → same_key k l ≡ false) → has (λ y. same_key k y.0) xs ≡ false
among_none k [] none = refl
among_none k (x ∷ xs) none = rw (none x.0, among_none k xs none) refl

abbrev by_kind : List (Val × Val) → Bool
by_kind xs = repeats_by same_number (number_keys xs) || repeats_by same_text (text_keys xs)

one_by_kind : (k : Val) (xs : List (Val × Val)) → repeats xs ≡ by_kind xs → (has (λ y. same_key k y.0) xs || repeats xs) ≡ (repeats_by same_number (and_number k (number_keys xs)) || repeats_by same_text (and_text k (text_keys xs)))
one_by_kind (int i) xs e = ap₂ (λ (a b : Bool). a || b) (among_numbers i xs) e ∙ or_assoc (has (same_number i) (number_keys xs)) (repeats_by same_number (number_keys xs)) (repeats_by same_text (text_keys xs))
one_by_kind (text t) xs e = ap₂ (λ (a b : Bool). a || b) (among_texts t xs) e ∙ or_swap (has (same_text t) (text_keys xs)) (repeats_by same_number (number_keys xs)) (repeats_by same_text (text_keys xs))
one_by_kind k xs e = ap (λ b. b || repeats xs) (among_none k xs (λ l. refl)) ∙ e

-- entries repeat where two numbers, or two texts, are the same
pub repeats_by_kind : (xs : List (Val × Val)) → repeats xs ≡ by_kind xs
repeats_by_kind [] = refl
repeats_by_kind (x ∷ xs) = one_by_kind x.0 xs (repeats_by_kind xs)

mapped_has : {A B : Type 0} (f : A → B) (p : B → Bool) (xs : List A) → has (λ x. p (f x)) xs ≡ has p (map f xs)
mapped_has f p [] = refl
mapped_has f p (x ∷ xs) = ap (λ b. p (f x) || b) (mapped_has f p xs)

pub mapped_repeats : {A B : Type 0} (f : A → B) (same : B → B → Bool) (xs : List A) → repeats_by (λ a b. same (f a) (f b)) xs ≡ repeats_by same (map f xs)
mapped_repeats f same [] = refl
mapped_repeats f same (x ∷ xs) = ap₂ (λ (a b : Bool). a || b) (mapped_has f (same (f x)) xs) (mapped_repeats f same xs)

-- ---- the answers

pub by_numbers : (es : List (Val × Val)) (ns : List ℤ) → ns ≡ number_keys es → repeats_by (λ a b. is_eq (int_cmp a b)) ns ≡ true → true ≡ repeats es
by_numbers es ns is some = sym (repeats_by_kind es ∙ ap (λ l. repeats_by same_number l || repeats_by same_text (text_keys es)) (sym is) ∙ ap (λ b. b || repeats_by same_text (text_keys es)) some)

pub by_texts : {B : Type 0} (now : B → List ℕ) (es : List (Val × Val)) (ns : List ℤ) (rs : List B) → ns ≡ number_keys es → map now rs ≡ text_keys es → repeats_by (λ a b. is_eq (int_cmp a b)) ns ≡ false
    → repeats_by (λ a b. is_eq (slice_cmp nat_cmp (now a) (now b))) rs ≡ repeats es
by_texts now es ns rs is texts none =
    mapped_repeats now same_text rs
    ∙ ap (repeats_by same_text) texts
    ∙ sym (repeats_by_kind es ∙ ap (λ l. repeats_by same_number l || repeats_by same_text (text_keys es)) (sym is) ∙ ap (λ b. b || repeats_by same_text (text_keys es)) none)
