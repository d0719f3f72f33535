-- Which ids were seen, by the pieces that came.
use Rattle.std.proofs.Common.{◌≡◌, sym, ap, refl, ◌∙◌, ℕ, Bool, true, false, cond, ◌||◌, ◌==◌, List, ◌∷◌, ◌++◌, [], Option, Some, None, is_some, inl, inr, eq-eqb}
use Rattle.std.proofs.lemmas.Bool.{cases_Bool, eqb-true, ne_eqb, eqb-false}
use Rattle.xt_shapes.specs.Lists.{has}
use Rattle.xcdr_model.specs.Projection.{Built, Part, built_at}
use Rattle.try_construct.proofs.StructureSteps.{built_append, first_built}
use Rattle.xcdr_reader.specs.Members.{Pieces}

abbrev pub Seen : List ℕ → Pieces → Type 0
Seen seen ps = (id : ℕ) → has (λ i. i == id) seen ≡ is_some (built_at ps.0 id)

turned : (a b : ℕ) → (a == b) ≡ (b == a)
turned a b = elim (cases_Bool (b == a)) [
  | inl y ↦ eq-eqb a b (sym (eqb-true b a y)) ∙ sym y
  | inr n ↦ ne_eqb a b (λ z. eqb-false b a n (sym z)) ∙ sym n
]

some_first : (x : Option Built) (b : Bool) (y : Built) → is_some (first_built x (cond b (Some y) None)) ≡ (b || is_some x)
some_first None true y = refl
some_first None false y = refl
some_first (Some x) true y = refl
some_first (Some x) false y = refl

pub seen_more : (seen : List ℕ) (ps : Pieces) (id : ℕ) (y : Part) (u : Bool) → Seen seen ps → Seen (id ∷ seen) (ps.0 ++ (id, y) ∷ [], u)
seen_more seen ps id y u same j = sym (ap is_some (built_append ps.0 ((id, y) ∷ []) j) ∙ some_first (built_at ps.0 j) (id == j) y.0 ∙ ap (λ b. (id == j) || b) (sym (same j)))
