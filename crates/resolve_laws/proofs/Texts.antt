-- A name of a type or of a part of it is a text that objects hold.
use Rattle.std.proofs.Common.{◌≡◌, ℕ, zero, suc, List, [], ◌∷◌, length, refl}
use Rattle.std.proofs.lemmas.Bool.{and_parts, false≢true}
use Rattle.std.specs.Prelude.{Bool, true, false, cond, ◌&&◌, ◌==◌, nat_le, Some}
use Rattle.xt_shapes.specs.Lists.{all}
use Rattle.type_trees.specs.declared.types.Name.{Name}
use Rattle.object_formats.specs.Format.{has_nul, text}
use Rattle.node_rules.specs.Names.{is_letter, is_word, is_identifier, is_scoped, goes_on, is_joined, name_fits, scope_fits}

-- no letter is NUL

words_end : (t : List ℕ) → all is_word t ≡ true → has_nul t ≡ false
words_end [] e = refl
words_end (zero ∷ t) e = absurd (false≢true e)
words_end (suc o ∷ t) e = words_end t (and_parts (is_word (suc o)) (all is_word t) e).1

identifier_ends : (t : List ℕ) → is_identifier t ≡ true → has_nul t ≡ false
identifier_ends [] e = absurd (false≢true e)
identifier_ends (zero ∷ t) e = absurd (false≢true e)
identifier_ends (suc o ∷ t) e = words_end t (and_parts (is_letter (suc o)) (all is_word t) e).1

-- more of an identifier or the second colon
next : (b c : Bool) (t : List ℕ) → cond b (goes_on t) (c && is_joined t) ≡ true → (goes_on t ≡ true → has_nul t ≡ false) → (is_joined t ≡ true → has_nul t ≡ false) → has_nul t ≡ false
next true c t e more second = more e
next false c t e more second = second (and_parts c (is_joined t) e).1

mutual
  scope_ends : (t : List ℕ) → is_scoped t ≡ true → has_nul t ≡ false
  scope_ends [] e = refl
  scope_ends (zero ∷ t) e = absurd (false≢true e)
  scope_ends (suc o ∷ t) e = rest_ends t (and_parts (is_letter (suc o)) (goes_on t) e).1

  rest_ends : (t : List ℕ) → goes_on t ≡ true → has_nul t ≡ false
  rest_ends [] e = refl
  rest_ends (zero ∷ t) e = absurd (false≢true e)
  rest_ends (suc o ∷ t) e = next (is_word (suc o)) (suc o == 58) t e (rest_ends t) (joined_ends t)

  joined_ends : (t : List ℕ) → is_joined t ≡ true → has_nul t ≡ false
  joined_ends [] e = refl
  joined_ends (zero ∷ t) e = absurd (false≢true e)
  joined_ends (suc o ∷ t) e = scope_ends t (and_parts (suc o == 58) (is_scoped t) e).1

short_text : (t : List ℕ) → nat_le (length t) 255 ≡ true → has_nul t ≡ false → text.good t ≡ true
unfolding text
short_text t short ends = rw (short, ends) refl

-- ---- of a part, and of a type

pub name_good : (t : List ℕ) → name_fits (Name.Full t) ≡ true → text.good t ≡ true
name_good t e = let both = and_parts (nat_le (length t) 255) (is_identifier t) e in short_text t both.0 (identifier_ends t both.1)

pub scope_good : (t : List ℕ) → scope_fits (Some t) ≡ true → text.good t ≡ true
scope_good t e = let both = and_parts (nat_le (length t) 255) (is_scoped t) e in short_text t both.0 (scope_ends t both.1)
