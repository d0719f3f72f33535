-- A union's case.
use Rattle.std.proofs.Common.{◌≡◌, ℕ, ◌+◌, ℤ, Bool, cond, List, length, Option, Some, None, Ok, refl, sym, ap, subst, ap₂, ◌∙◌, ◌==◌}
use Rattle.std.proofs.lemmas.Bool.{cases_Bool, eq-eqb}
use Rattle.std.proofs.Common.{inl, inr}
use Rattle.std.specs.Ordering.{int_eq}
use Rattle.xt_shapes.specs.declared.leaves.Order.{Order}
use Rattle.xt_shapes.specs.Lists.{or_else, has}
use Rattle.xt_shapes.specs.Select.{select, labelled, default_case, case_at}
use Rattle.xt_shapes.specs.Shape.{CaseHead, Shape, Cases, no_cases, one_case}
use Rattle.xt_shapes.specs.Vals.{Val, Slot, absent, present}
use Rattle.xcdr_model.specs.Projection.{Part, projected, projected_case, settled_case}
use Rattle.xcdr_model.specs.Xcdr2Reading.{read, read_case}
use Rattle.xcdr_model.specs.Xcdr2Spelling.{writes, writes_case}
use Rattle.shape_laws.proofs.Steps.{spot, Reads, reads_done}

in_labelled : (cs : Cases) (d : ℤ) (i : ℕ) → labelled cs d ≡ Some i → (t : Shape) × (case_at cs i ≡ Some t)
in_labelled no_cases d i e = absurd cc
in_labelled (one_case h t cs) d i e = elim (cases_Bool (has (int_eq d) h.labels)) [
  | inl y ↦ (let f : Some h.id ≡ Some i = (ap (λ (b : Bool). cond b (Some h.id) (labelled cs d)) (sym y)) ∙ e in
      let k : h.id ≡ i = cc in (t, ap (λ (b : Bool). cond b (Some t) (case_at cs i)) (eq-eqb h.id i k)))
  | inr n ↦ (let f : labelled cs d ≡ Some i = (ap (λ (b : Bool). cond b (Some h.id) (labelled cs d)) (sym n)) ∙ e in first_or h t cs i (in_labelled cs d i f))
]
  where
    first_or : (h : CaseHead) (t : Shape) (cs : Cases) (i : ℕ) → (u : Shape) × (case_at cs i ≡ Some u) → (u : Shape) × (case_at (one_case h t cs) i ≡ Some u)
    first_or h t cs i x = elim (cases_Bool (h.id == i)) [
      | inl y ↦ (t, ap (λ (b : Bool). cond b (Some t) (case_at cs i)) y)
      | inr n ↦ (x.0, ap (λ (b : Bool). cond b (Some t) (case_at cs i)) n ∙ x.1)
    ]

in_default : (cs : Cases) (i : ℕ) → default_case cs ≡ Some i → (t : Shape) × (case_at cs i ≡ Some t)
in_default no_cases i e = absurd cc
in_default (one_case h t cs) i e = elim (cases_Bool h.is_default) [
  | inl y ↦ (let f : Some h.id ≡ Some i = (ap (λ (b : Bool). cond b (Some h.id) (default_case cs)) (sym y)) ∙ e in
      let k : h.id ≡ i = cc in (t, ap (λ (b : Bool). cond b (Some t) (case_at cs i)) (eq-eqb h.id i k)))
  | inr n ↦ (let f : default_case cs ≡ Some i = (ap (λ (b : Bool). cond b (Some h.id) (default_case cs)) (sym n)) ∙ e in
      let x = in_default cs i f in
      elim (cases_Bool (h.id == i)) [
        | inl y ↦ (t, ap (λ (b : Bool). cond b (Some t) (case_at cs i)) y)
        | inr n ↦ (x.0, ap (λ (b : Bool). cond b (Some t) (case_at cs i)) n ∙ x.1)
      ])
]

-- what is selected is a case
pub selected_case : (cs : Cases) (d : ℤ) (i : ℕ) → select cs d ≡ Some i → (t : Shape) × (case_at cs i ≡ Some t)
selected_case cs d i e = by_label (labelled cs d) refl e
  where
    by_label : (l : Option ℕ) → labelled cs d ≡ l → or_else l (default_case cs) ≡ Some i → (t : Shape) × (case_at cs i ≡ Some t)
    by_label None e f = in_default cs i f
    by_label (Some j) e f = in_labelled cs d i (e ∙ f)

-- ---- the law for a case

pub written_case : (o : Order) (cs : Cases) (j : ℕ) (s : Slot) (p : ℕ) (b : List ℕ) → writes_case o cs j s p b → (t : Shape) × (w : Val) × (case_at cs j ≡ Some t) × (s ≡ present w) × writes o t w p b
unfolding writes writes_case
written_case o no_cases j s p b h = absurd h
written_case o (one_case k t cs) j absent p b h = elim (cases_Bool (k.id == j)) [
  | inl y ↦ absurd (rw y at h)
  | inr n ↦ (let x = written_case o cs j absent p b (rw n at h) in (x.0, x.1, ap (λ (c : Bool). cond c (Some t) (case_at cs j)) n ∙ x.2, x.3, x.4))
]
written_case o (one_case k t cs) j (present w) p b h = elim (cases_Bool (k.id == j)) [
  | inl y ↦ (t, w, ap (λ (c : Bool). cond c (Some t) (case_at cs j)) y, refl, rw y at h)
  | inr n ↦ (let x = written_case o cs j (present w) p b (rw n at h) in (x.0, x.1, ap (λ (c : Bool). cond c (Some t) (case_at cs j)) n ∙ x.2, x.3, x.4))
]

reads_named_case : (o : Order) (cs : Cases) (i : ℕ) (t t2 : Shape) (w : Val) → case_at cs i ≡ Some t → Reads (read o t) (writes o t2 w) (projected t t2 w) → Reads (λ s. read_case o cs i s) (writes o t2 w) (projected_case cs i (Some t2) (present w))
unfolding read_case projected_case
reads_named_case o no_cases i t t2 w e r p b rest h = absurd cc
reads_named_case o (one_case k u cs) i t t2 w e r p b rest h = elim (cases_Bool (k.id == i)) [
  | inl y ↦ (let f : Some u ≡ Some t = ap (λ (c : Bool). cond c (Some u) (case_at cs i)) (sym y) ∙ e in
      let same : t ≡ u = cc in
      rw y (reads_done (λ (x : Part). settled_case k u x) (read o u) (writes o t2 w) (projected u t2 w) (subst (λ (z : Shape). Reads (read o z) (writes o t2 w) (projected z t2 w)) same r) p b rest h))
  | inr n ↦ (let f : case_at cs i ≡ Some t = ap (λ (c : Bool). cond c (Some u) (case_at cs i)) (sym n) ∙ e in
      rw n (reads_named_case o cs i t t2 w f r p b rest h))
]

pub reads_case : (o : Order) (cs cs2 : Cases) (i j : ℕ) (t : Shape) (s : Slot) → case_at cs i ≡ Some t → ((t2 : Shape) → case_at cs2 j ≡ Some t2 → (w : Val) → Reads (read o t) (writes o t2 w) (projected t t2 w)) → Reads (λ s1. read_case o cs i s1) (writes_case o cs2 j s) (projected_case cs i (case_at cs2 j) s)
reads_case o cs cs2 i j t s e r p b rest h =
    let x = written_case o cs2 j s p b h in
    reads_named_case o cs i t x.0 x.1 e (r x.0 x.2 x.1) p b rest x.4
    ∙ ap₂ (λ (a : Option Shape) (c : Slot). Ok (projected_case cs i a c, spot (p + length b) rest)) (sym x.2) (sym x.3)
