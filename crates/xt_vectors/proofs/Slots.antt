-- One slot more.
use Rattle.std.proofs.Common.{◌≡◌, ℕ, ◌+◌, ◌≤◌, List, [], ◌∷◌, ◌++◌, length, drop, sym, ap, ◌∙◌}
use Rattle.std.proofs.lemmas.List.{drop_all}
use Rattle.xt_shapes.specs.Vals.{Slot}
use Rattle.xt_vectors.specs.declared.plans.Plan.{Plan}
use Rattle.xt_vectors.specs.Values.{slot_drawn, slots_from}

-- the member's slot is drawn behind those before it
pub one_slot_on : (ps : List Plan) (i : ℕ) (p : Plan) (xs ys : List Slot) (s n : ℕ) (b : Slot) (t : List Slot × ℕ) → drop i ps ≡ p ∷ drop (i + 1) ps → b ≡ (slot_drawn p s).0 → n ≡ (slot_drawn p s).1 → ys ≡ xs ++ b ∷ [] → slots_from (drop i ps) (xs, s) ≡ t → slots_from (drop (i + 1) ps) (ys, n) ≡ t
one_slot_on ps i p xs ys s n b t front item state more before =
    ap (λ (l : List Slot). slots_from (drop (i + 1) ps) (l, n)) (more ∙ ap (λ (x : Slot). xs ++ x ∷ []) item)
    ∙ ap (λ (k : ℕ). slots_from (drop (i + 1) ps) (xs ++ (slot_drawn p s).0 ∷ [], k)) state
    ∙ sym (ap (λ (l : List Plan). slots_from l (xs, s)) front)
    ∙ before

-- no member is left
pub all_slots : (ps : List Plan) (i : ℕ) (x t : List Slot × ℕ) → length ps ≤ i → slots_from (drop i ps) x ≡ t → x ≡ t
all_slots ps i x t past before = ap (λ (l : List Plan). slots_from l x) (sym (drop_all i ps past)) ∙ before
