-- Cells over longer lists of events, and where an identifier stands.
use Rattle.std.proofs.Common.{◌≡◌, ◌≢◌, ℕ, zero, suc, ◌≤◌, List, [], ◌∷◌, ◌++◌, Bool, true, false, Option, ◌⊎◌, inl, inr, refl, sym, ap, subst, ◌∙◌, take, arith, nat_eq, ◌&&◌, append_assoc, append-nil}
use borrow.Author.Tests.{eqb-true, eqb-false}
use mathlib.Core.Bool.{true≢false}
use Rattle.std.specs.Prelude.{None, Some}
use Rattle.std.specs.Str.{bytes_eq}
use Rattle.std.proofs.lemmas.Slice.Eq.{bytes_eq-Decides}
use Rattle.type_trees.specs.declared.types.HashId.{HashId}
use Rattle.type_trees.specs.Ids.{same_id}
use Rattle.cell_core.specs.declared.event.Event.{Event}
use Rattle.cell_core.specs.declared.event.Event.TheVariants.{Set, Get}
use Rattle.cell_core.specs.Probes.{Place, probes}
use Rattle.cell_core.specs.Cells.{Held, Cells, is_at, either, cells, Stays, met, met_full, first_with, FoundStays, Reaches, IsLawful, AreLawful}

-- no full cell changes
pub cells_more : (events more : List Event) → Stays (cells events) (cells (events ++ more))
cells_more [] more p held e = cc
cells_more (Set level cell object id ∷ events) more p held e = elim (is_at (level, cell) p) as (λ b. either b (Some (record { object = object; id = id })) (cells events p) ≡ Some held → either b (Some (record { object = object; id = id })) (cells (events ++ more) p) ≡ Some held)
    [ true ↦ (λ h. h) | false ↦ (λ h. cells_more events more p held h) ] e
cells_more (Get level cell ∷ events) more p held e = cells_more events more p held e

pub cells_take : (events : List Event) (i j : ℕ) → i ≤ j → Stays (cells (take i events)) (cells (take j events))
cells_take events zero j le p held e = cc
cells_take [] (suc i) j le p held e = cc
cells_take (event ∷ events) (suc i) zero le p held e = absurd (omega arith)
cells_take (Set level cell object id ∷ events) (suc i) (suc j) le p held e = elim (is_at (level, cell) p) as (λ b. either b (Some (record { object = object; id = id })) (cells (take i events) p) ≡ Some held → either b (Some (record { object = object; id = id })) (cells (take j events) p) ≡ Some held)
    [ true ↦ (λ h. h) | false ↦ (λ h. cells_take events i j (omega arith) p held h) ] e
cells_take (Get level cell ∷ events) (suc i) (suc j) le p held e = cells_take events i j (omega arith) p held e

pub cells_of_take : (events : List Event) (i : ℕ) → Stays (cells (take i events)) (cells events)
cells_of_take events zero p held e = cc
cells_of_take [] (suc i) p held e = cc
cells_of_take (Set level cell object id ∷ events) (suc i) p held e = elim (is_at (level, cell) p) as (λ b. either b (Some (record { object = object; id = id })) (cells (take i events) p) ≡ Some held → either b (Some (record { object = object; id = id })) (cells events p) ≡ Some held)
    [ true ↦ (λ h. h) | false ↦ (λ h. cells_of_take events i p held h) ] e
cells_of_take (Get level cell ∷ events) (suc i) p held e = cells_of_take events i p held e

-- what is found stays found, where no full cell changes
first_step : (before after : Cells) → Stays before after → (id : HashId) (p : Place) (ps : List Place) (object : ℕ) → (first_with before id ps ≡ Some object → first_with after id ps ≡ Some object)
    → (c : Option Held) → before p ≡ c → met c id (first_with before id ps) ≡ Some object → met (after p) id (first_with after id ps) ≡ Some object
first_step before after s id p ps object more None e h = cc
first_step before after s id p ps object more (Some held) e h = rw (s p held e) (elim (same_id held.id id) as (λ b. met_full b held.object (first_with before id ps) ≡ Some object → met_full b held.object (first_with after id ps) ≡ Some object)
    [ true ↦ (λ k. k) | false ↦ more ] h)

pub first_with_stays : (before after : Cells) → Stays before after → (id : HashId) (ps : List Place) (object : ℕ) → first_with before id ps ≡ Some object → first_with after id ps ≡ Some object
first_with_stays before after s id [] object e = e
first_with_stays before after s id (p ∷ ps) object e = first_step before after s id p ps object (first_with_stays before after s id ps object) (before p) refl
    (subst (λ (c : Option Held). met c id (first_with before id ps) ≡ Some object) refl e)

pub reaches_stays : (before after : Cells) → Stays before after → (id : HashId) (ps : List Place) (p : Place) → Reaches before id ps p → Reaches after id ps p
reaches_stays before after s id [] p r = r
reaches_stays before after s id (q ∷ ps) p r = elim r [ inl e ↦ inl e | inr t ↦ inr ((t.0.0, s q t.0.0 t.0.1, t.0.2), reaches_stays before after s id ps p t.1) ]

is_at_true : (p q : Place) → is_at p q ≡ true → p ≡ q
is_at_true p q = by (nat_eq p.0 q.0) (nat_eq p.1 q.1) refl refl
  where
    by : (s t : Bool) → nat_eq p.0 q.0 ≡ s → nat_eq p.1 q.1 ≡ t → s && t ≡ true → p ≡ q
    by true true e f h = let k : p.0 ≡ q.0 = eqb-true p.0 q.0 e in let l : p.1 ≡ q.1 = eqb-true p.1 q.1 f in λ i. (k i, l i)
    by true false e f h = absurd (true≢false (sym h))
    by false t e f h = absurd (true≢false (sym h))

-- each full cell is reached by its identifier
abbrev pub AllReached : Cells → Type 0
AllReached now = (p : Place) (held : Held) → now p ≡ Some held → Reaches now held.id (probes held.id) p

abbrev one_set : ℕ → HashId → Held
one_set object id = record { object = object; id = id }

-- an empty cell that is full one event later was set by it
cells_new : (before : List Event) (event : Event) (p : Place) → cells before p ≡ None → cells (before ++ event ∷ []) p ≡ cells (event ∷ []) p
cells_new [] event p e = refl
cells_new (Set level cell object id ∷ before) event p e = elim (is_at (level, cell) p) as (λ b. either b (Some (one_set object id)) (cells before p) ≡ None → either b (Some (one_set object id)) (cells (before ++ event ∷ []) p) ≡ cells (event ∷ []) p)
    [ true ↦ (λ h. absurd (cc h)) | false ↦ (λ h. cells_new before event p h) ] e
cells_new (Get level cell ∷ before) event p e = cells_new before event p e

reached_by : (now : Cells) (event : Event) (p : Place) (held : Held) (before : List Event) → IsLawful before event → cells (event ∷ []) p ≡ Some held → Reaches (cells before) held.id (probes held.id) p
reached_by now (Get level cell) p held before l e = absurd (cc e)
reached_by now (Set level cell object id) p held before l e = by (is_at (level, cell) p) refl e
  where
    by : (b : Bool) → is_at (level, cell) p ≡ b → either b (Some (one_set object id)) None ≡ Some held → Reaches (cells before) held.id (probes held.id) p
    by false a h = absurd (cc h)
    by true a h = let w : one_set object id ≡ held = cc in let q : (level, cell) ≡ p = is_at_true (level, cell) p a in
        subst (λ (x : Held). Reaches (cells before) x.id (probes x.id) p) w (subst (λ (r : Place). Reaches (cells before) id (probes id) r) q l)

kept_step : (before : List Event) (event : Event) → IsLawful before event → AllReached (cells before) → AllReached (cells (before ++ event ∷ []))
kept_step before event l kept p held e = by (cells before p) refl
  where
    after : Cells
    after = cells (before ++ event ∷ [])

    by : (c : Option Held) → cells before p ≡ c → Reaches (cells (before ++ event ∷ [])) held.id (probes held.id) p
    by None n = reaches_stays (cells before) (cells (before ++ event ∷ [])) (cells_more before (event ∷ [])) held.id (probes held.id) p (reached_by (cells before) event p held before l (sym (cells_new before event p n) ∙ e))
    by (Some other) n = let w : other ≡ held = cc (cells_more before (event ∷ []) p other n) in
        reaches_stays (cells before) (cells (before ++ event ∷ [])) (cells_more before (event ∷ [])) held.id (probes held.id) p (subst (λ (x : Held). Reaches (cells before) x.id (probes x.id) p) w (kept p other n))

kept_after : (before events : List Event) → AreLawful before events → AllReached (cells before) → AllReached (cells (before ++ events))
kept_after before [] l kept = subst (λ (es : List Event). AllReached (cells es)) (sym (append-nil before)) kept
kept_after before (event ∷ events) l kept = subst (λ (es : List Event). AllReached (cells es)) (append_assoc before (event ∷ []) events) (kept_after (before ++ event ∷ []) events l.1 (kept_step before event l.0 kept))

pub all_reached : (events : List Event) → AreLawful [] events → AllReached (cells events)
all_reached events l = kept_after [] events l (λ p held e. absurd (cc e))

pub same_held : (now : Cells) (p : Place) (x y : Held) → now p ≡ Some x → now p ≡ Some y → x ≡ y
same_held now p x y e f = cc

-- two cells that an identifier reaches and stands in are one
one_of : (now : Cells) (id : HashId) (ps : List Place) (p q : Place) (x y : Held) → Reaches now id ps p → Reaches now id ps q → now p ≡ Some x → now q ≡ Some y → x.id ≡ id → y.id ≡ id → p ≡ q
one_of now id [] p q x y r t e f i j = absurd r
one_of now id (c ∷ ps) p q x y r t e f i j = elim r [
  | inl a ↦ elim t [ inl b ↦ sym a ∙ b | inr b ↦ absurd (b.0.2 (ap (λ h. h.id) (same_held now c b.0.0 x b.0.1 (ap now a ∙ e)) ∙ i)) ]
  | inr a ↦ elim t [ inl b ↦ absurd (a.0.2 (ap (λ h. h.id) (same_held now c a.0.0 y a.0.1 (ap now b ∙ f)) ∙ j)) | inr b ↦ one_of now id ps p q x y a.1 b.1 e f i j ]
]

pub one_cell : (events : List Event) → AreLawful [] events → (p q : Place) (x y : Held) → cells events p ≡ Some x → cells events q ≡ Some y → x.id ≡ y.id → p ≡ q
one_cell events l p q x y e f same = let kept = all_reached events l in
    one_of (cells events) y.id (probes y.id) p q x y (subst (λ (i : HashId). Reaches (cells events) i (probes i) p) same (kept p x e)) (kept q y f) e f same refl

pub stays_pushed : (old new : List Event) (event : Event) → new ≡ old ++ event ∷ [] → Stays (cells old) (cells new)
stays_pushed old new event e = subst (λ (es : List Event). Stays (cells old) (cells es)) (sym e) (cells_more old (event ∷ []))

pub found_pushed : (old new : List Event) (event : Event) → new ≡ old ++ event ∷ [] → FoundStays (cells old) (cells new)
found_pushed old new event e id object h = first_with_stays (cells old) (cells new) (stays_pushed old new event e) id (probes id) object h
