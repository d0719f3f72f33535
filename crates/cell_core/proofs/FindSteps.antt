-- What a find answers.
use Rattle.std.proofs.Common.{◌≡◌, ℕ, suc, ◌≤◌, List, [], ◌∷◌, Bool, true, false, Option, inl, inr, refl, sym, ap, subst, ◌∙◌, take, arith}
use Rattle.std.specs.Prelude.{None, Some}
use Rattle.type_trees.specs.declared.types.HashId.{HashId}
use Rattle.type_trees.specs.Ids.{same_id}
use Rattle.cell_core.specs.declared.event.Event.{Event}
use Rattle.cell_core.specs.Probes.{Place, probes}
use Rattle.cell_core.specs.Cells.{Held, cells, met, met_full, first_with, AreLawful}
use Rattle.cell_core.specs.Finds.{Choose, Shows, FindsOver, Finds}
use Rattle.type_trees.proofs.SameIds.{same_id_tells}
use Rattle.cell_core.proofs.CellSteps.{cells_take, cells_of_take, same_held, one_cell}

-- a find that begins after the identifier is found answers that object
pub found_answered : (events : List Event) (id : HashId) (start : ℕ) (ps : List Place) (from : ℕ) (positions : List ℕ) (answer : Option ℕ) (object : ℕ)
    → start ≤ from → first_with (cells (take start events)) id ps ≡ Some object → FindsOver events id ps from positions answer → answer ≡ Some object
found_answered events id start [] from positions answer object le e f = absurd (cc e)
found_answered events id start (p ∷ ps) from positions answer object le e f =
    by (let next : start ≤ suc f.0 = omega (arith, f.3) in λ k t. found_answered events id start ps (suc f.0) f.1 answer object next k t) (cells (take start events) p) refl
  where
    Rest : Type 0
    Rest = FindsOver events id ps (suc f.0) f.1 answer

    by : (first_with (cells (take start events)) id ps ≡ Some object → FindsOver events id ps (suc f.0) f.1 answer → answer ≡ Some object) → (c : Option Held) → cells (take start events) p ≡ c → answer ≡ Some object
    by goes_on None n = let m : met None id (first_with (cells (take start events)) id ps) ≡ Some object = subst (λ (c : Option Held). met c id (first_with (cells (take start events)) id ps) ≡ Some object) n e in absurd (cc m)
    by goes_on (Some held) n =
        let m : met (Some held) id (first_with (cells (take start events)) id ps) ≡ Some object = subst (λ (c : Option Held). met c id (first_with (cells (take start events)) id ps) ≡ Some object) n e in
        let later : start ≤ f.0 = omega (arith, f.3) in
        let s : Shows (Some held) id f.1 answer (FindsOver events id ps (suc f.0) f.1 answer) = subst (λ (c : Option Held). Shows c id f.1 answer (FindsOver events id ps (suc f.0) f.1 answer)) (cells_take events start f.0 later p held n) f.5 in
        elim (same_id held.id id) as (λ b. met_full b held.object (first_with (cells (take start events)) id ps) ≡ Some object → Choose b ((f.1 ≡ []) × (answer ≡ Some held.object)) (FindsOver events id ps (suc f.0) f.1 answer) → answer ≡ Some object)
        [ true ↦ (λ k t. t.1 ∙ k) | false ↦ goes_on ] m s

-- a find that answers an object read it in a cell with that identifier
abbrev pub ReadIt : List Event → HashId → ℕ → Type 0
ReadIt events id object = (p : Place) × (held : Held) × (cells events p ≡ Some held) × (held.id ≡ id) × (held.object ≡ object)

pub read_it : (events : List Event) (id : HashId) (ps : List Place) (from : ℕ) (positions : List ℕ) (object : ℕ) → FindsOver events id ps from positions (Some object) → ReadIt events id object
read_it events id [] from positions object f = absurd (cc f.1)
read_it events id (p ∷ ps) from positions object f = by (read_it events id ps (suc f.0) f.1 object) (cells (take f.0 events) p) refl
  where
    by : (FindsOver events id ps (suc f.0) f.1 (Some object) → ReadIt events id object) → (c : Option Held) → cells (take f.0 events) p ≡ c → ReadIt events id object
    by goes_on None n = let s : Shows None id f.1 (Some object) (FindsOver events id ps (suc f.0) f.1 (Some object)) = subst (λ (c : Option Held). Shows c id f.1 (Some object) (FindsOver events id ps (suc f.0) f.1 (Some object))) n f.5 in absurd (cc s.1)
    by goes_on (Some held) n =
        let s : Shows (Some held) id f.1 (Some object) (FindsOver events id ps (suc f.0) f.1 (Some object)) = subst (λ (c : Option Held). Shows c id f.1 (Some object) (FindsOver events id ps (suc f.0) f.1 (Some object))) n f.5 in
        elim (same_id_tells held.id id) [
          | inl t ↦ let u : Choose true ((f.1 ≡ []) × (Some object ≡ Some held.object)) (FindsOver events id ps (suc f.0) f.1 (Some object)) = subst (λ (b : Bool). Choose b ((f.1 ≡ []) × (Some object ≡ Some held.object)) (FindsOver events id ps (suc f.0) f.1 (Some object))) t.0 s in
              (p, held, cells_of_take events f.0 p held n, t.1, cc u.1)
          | inr t ↦ let u : Choose false ((f.1 ≡ []) × (Some object ≡ Some held.object)) (FindsOver events id ps (suc f.0) f.1 (Some object)) = subst (λ (b : Bool). Choose b ((f.1 ≡ []) × (Some object ≡ Some held.object)) (FindsOver events id ps (suc f.0) f.1 (Some object))) t.0 s in
              goes_on u
        ]

pub finds_agree : (events : List Event) → AreLawful [] events → (id : HashId) (i j : ℕ) (ps qs : List ℕ) (x y : ℕ) → Finds events id i ps (Some x) → Finds events id j qs (Some y) → x ≡ y
finds_agree events l id i j ps qs x y f g =
    let a = read_it events id (probes id) i ps x f in let b = read_it events id (probes id) j qs y g in
    let place : a.0 ≡ b.0 = one_cell events l a.0 b.0 a.1 b.1 a.2 b.2 (a.3 ∙ sym b.3) in
    let same : a.1 ≡ b.1 = same_held (cells events) b.0 a.1 b.1 (sym (ap (cells events) place) ∙ a.2) b.2 in
    sym a.4 ∙ ap (λ h. h.object) same ∙ b.4
