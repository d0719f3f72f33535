-- One more probe, and what the probe of a number told.
use Rattle.std.proofs.Common.{◌≡◌, ◌≢◌, ℕ, zero, suc, ◌+◌, ◌<◌, List, [], ◌∷◌, ◌++◌, length, inl, inr, refl, sym, subst, arith, map}
use Rattle.std.specs.Prelude.{Some, slice_get}
use Rattle.type_trees.specs.declared.types.HashId.{HashId}
use Rattle.type_registry.specs.notes.Facts.{Has}
use Rattle.type_registry.specs.Held.{Held}
use Rattle.type_registry.specs.Walked.{IsStep, Walked, Strangers, MetNext, Walk, IsPath, walk_past}
use Rattle.type_registry.specs.Found.{held_of}

module _ (name : List ℕ → List ℕ) (registry : List ℕ) (id : HashId) where
  pub walked_more : (p : ℕ) (ls : List (ℕ × List ℕ)) (cs : List (ℕ × Held)) (l : ℕ × List ℕ) (c : ℕ × Held) (q : ℕ) → q ≡ p + length cs → Walked name registry id p ls cs → IsStep name registry id q l c → Walked name registry id p (ls ++ l ∷ []) (cs ++ c ∷ [])
  walked_more p [] [] l c q e w s = let same : q ≡ p = omega arith in (subst (λ (n : ℕ). IsStep name registry id n l c) same s, tt)
  walked_more p [] (d ∷ cs) l c q e w s = absurd w
  walked_more p (m ∷ ls) [] l c q e w s = absurd w
  walked_more p (m ∷ ls) (d ∷ cs) l c q e w s = let next : q ≡ suc p + length cs = omega arith in (w.0, walked_more (suc p) ls cs l c q next w.1 s)

  pub strangers_more : (cs : List (ℕ × Held)) (c : ℕ × Held) → Strangers id cs → c.1.id ≢ id → Strangers id (cs ++ c ∷ [])
  strangers_more [] c s n = (n, tt)
  strangers_more (d ∷ cs) c s n = (s.0, strangers_more cs c s.1 n)

  abbrev pub AtStep : List (ℕ × List ℕ) → List (ℕ × Held) → ℕ → Held → Type 0
  AtStep ls cs n h = (l : ℕ × List ℕ) × (c : ℕ × Held) × Has ls l × Has cs c × IsStep name registry id n l c × (c.1 ≡ h)

  -- the probe of a number told what the list has there
  pub walked_at : (p : ℕ) (ls : List (ℕ × List ℕ)) (cs : List (ℕ × Held)) (i n : ℕ) (h : Held) → n ≡ p + i → Walked name registry id p ls cs → slice_get (map held_of cs) i ≡ Some h → AtStep ls cs n h
  walked_at p [] [] i n h e w g = absurd (cc g)
  walked_at p [] (c ∷ cs) i n h e w g = absurd w
  walked_at p (l ∷ ls) [] i n h e w g = absurd w
  walked_at p (l ∷ ls) (c ∷ cs) zero n h e w g = let same : p ≡ n = omega arith in (l, c, inl refl, inl refl, subst (λ (k : ℕ). IsStep name registry id k l c) same w.0, cc g)
  walked_at p (l ∷ ls) (c ∷ cs) (suc i) n h e w g = let next : n ≡ suc p + i = omega arith in let r : AtStep ls cs n h = walked_at (suc p) ls cs i n h next w.1 g in (r.0, r.1, inr r.2, inr r.3, r.4, r.5)

  pub stranger_at : (cs : List (ℕ × Held)) (i : ℕ) (h : Held) → Strangers id cs → slice_get (map held_of cs) i ≡ Some h → h.id ≢ id
  stranger_at [] i h s g = absurd (cc g)
  stranger_at (c ∷ cs) zero h s g = let e : c.1 ≡ h = cc g in subst (λ (x : Held). x.id ≢ id) e s.0
  stranger_at (c ∷ cs) (suc i) h s g = stranger_at cs i h s.1 g

-- a path with one more stranger is a path
pub told_whole : (name : List ℕ → List ℕ) (w : Walk) (h : Held) (ls : List (ℕ × List ℕ)) (cs : List (ℕ × Held)) → IsPath name w → MetNext name w h ls cs → Walked name w.registry w.id 0 (w.levels ++ ls) (w.cells ++ cs)
told_whole name w h ls cs p m = let at : w.count ≡ 0 + length w.cells = omega (arith, p.counted) in
    subst (λ (xs : List (ℕ × List ℕ)). Walked name w.registry w.id 0 (w.levels ++ xs) (w.cells ++ cs)) (sym m.2)
    (subst (λ (ys : List (ℕ × Held)). Walked name w.registry w.id 0 (w.levels ++ m.0 ∷ []) (w.cells ++ ys)) (sym m.3)
    (walked_more name w.registry w.id 0 w.levels w.cells m.0 (m.1, h) w.count at p.walked m.4))

pub length_more : {X : Type 0} (xs : List X) (x : X) → length (xs ++ x ∷ []) ≡ length xs + 1
length_more [] x = refl
length_more (y ∷ xs) x = let e = length_more xs x in omega (arith, e)

pub past_is_path : (name : List ℕ → List ℕ) (w : Walk) (h : Held) (ls : List (ℕ × List ℕ)) (cs : List (ℕ × Held)) → IsPath name w → MetNext name w h ls cs → h.id ≢ w.id → w.count < 64 → IsPath name (walk_past w ls cs)
past_is_path name w h ls cs p m n room = record {
  few = omega (arith, room);
  counted = let e : length (w.cells ++ cs) ≡ length w.cells + 1 = subst (λ (ys : List (ℕ × Held)). length (w.cells ++ ys) ≡ length w.cells + 1) (sym m.3) (length_more w.cells (m.1, h)) in omega (arith, e, p.counted);
  walked = told_whole name w h ls cs p m;
  strange = subst (λ (ys : List (ℕ × Held)). Strangers w.id (w.cells ++ ys)) (sym m.3) (strangers_more name w.registry w.id w.cells (m.1, h) p.strange n);
}

pub past_fields : (name : List ℕ → List ℕ) (w self : Walk) (h : Held) (ls : List (ℕ × List ℕ)) (cs : List (ℕ × Held)) → w ≡ self → IsPath name w → MetNext name self h ls cs → h.id ≢ self.id → self.count < 64
    → (levels : List (ℕ × List ℕ)) → levels ≡ w.levels ++ ls → (cells : List (ℕ × Held)) → cells ≡ w.cells ++ cs
    → IsPath name (record { registry = w.registry; id = w.id; count = w.count + 1; levels = levels; cells = cells })
past_fields name w self h ls cs is p m n room levels el cells ec =
    subst (λ (xs : List (ℕ × List ℕ)). IsPath name (record { registry = w.registry; id = w.id; count = w.count + 1; levels = xs; cells = cells })) (sym el)
    (subst (λ (ys : List (ℕ × Held)). IsPath name (record { registry = w.registry; id = w.id; count = w.count + 1; levels = w.levels ++ ls; cells = ys })) (sym ec)
    (past_is_path name w h ls cs p (subst (λ (v : Walk). MetNext name v h ls cs) (sym is) m) (subst (λ (v : Walk). h.id ≢ v.id) (sym is) n) (subst (λ (v : Walk). v.count < 64) (sym is) room)))
