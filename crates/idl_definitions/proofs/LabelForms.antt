-- Unions read their cases alike where their labels are read alike.
use Rattle.std.proofs.Common.{◌≡◌, ℕ, ℤ, zero, suc, Bool, true, List, [], ◌∷◌, ◌++◌, codes, if◌then◌else◌, ◌||◌, false, refl, ap, ◌∙◌}
use Rattle.type_trees.specs.Trees.{Tree}
use Rattle.idl_input.specs.Input.{Input, Parser, ◌>>=◌, ◌>>◌, pure, eat, want, sees, syntax, turns}
use Rattle.idl_types.specs.State.{State}
use Rattle.idl_definitions.specs.Lists.{to_brace}
use Rattle.idl_definitions.specs.Unions.{Gathered, label, labels_from, labels, case}

-- one turn, with how a label is read and what comes after the turn
abbrev turn : Parser ℤ → (List ℤ → Bool → Parser (List ℤ × Bool)) → List ℤ → Bool → Parser (List ℤ × Bool)
turn one rest ls is_default = do
  labelled ← eat (codes "case")
  if labelled then (one >>= λ l. want (codes ":") >> rest (ls ++ l ∷ []) is_default)
      else (do other ← eat (codes "default"); if other then want (codes ":") >> rest ls true else pure (ls, is_default))

same_from : (a b : Tree) → label a ≡ label b → (n : ℕ) → labels_from a n ≡ labels_from b n
unfolding labels_from
same_from a b e zero = refl
same_from a b e (suc n) = ap (turn (label a)) (same_from a b e n) ∙ ap (λ one. turn one (labels_from b n)) e

same_labels : (a b : Tree) → label a ≡ label b → labels a ≡ labels b
unfolding labels
same_labels a b e = λ j. λ i. if sees (codes "case") i || sees (codes "default") i then same_from a b e (turns i) j [] false i else syntax i

same_case_at : (s : State) (hashed : Bool) (a b : Tree) (r : Gathered) (i : Input) → label a ≡ label b → case s hashed a r i ≡ case s hashed b r i
unfolding case
same_case_at s hashed a b r i e = rw (same_labels a b e) refl

same_case : (s : State) (hashed : Bool) (a b : Tree) → label a ≡ label b → case s hashed a ≡ case s hashed b
same_case s hashed a b e = λ j. λ r i. same_case_at s hashed a b r i e j

pub same_cases : (s : State) (hashed : Bool) (a b : Tree) (r : Gathered) → label a ≡ label b → to_brace (case s hashed a) r ≡ to_brace (case s hashed b) r
same_cases s hashed a b r e = ap (λ c. to_brace c r) (same_case s hashed a b e)
