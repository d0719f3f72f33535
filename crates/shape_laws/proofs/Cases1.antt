-- A union's case, an optional member and a content in XCDR1.
use Rattle.std.proofs.Common.{◌≡◌, ℕ, ◌+◌, ◌<◌, Bool, true, false, cond, not, ◌||◌, ◌&&◌, List, [], ◌∷◌, ◌++◌, length, Option, Some, None, Result, Ok, refl, sym, ap, ap₂, subst, ◌∙◌, arith, ◌==◌, is_some, inl, inr, leb}
use Rattle.std.proofs.lemmas.Bool.{cases_Bool, eq-eqb, ne_eqb, le-leb, and_from, or_from, not_from_false}
use Rattle.std.proofs.lemmas.List.{append-nil, length-append, nil_from_length}
use Rattle.xt_shapes.specs.declared.leaves.Order.{Order}
use Rattle.xt_shapes.specs.Select.{case_at}
use Rattle.xt_shapes.specs.Shape.{Head, Shape, Cases, no_cases, one_case}
use Rattle.xt_shapes.specs.Vals.{Val, Slot, absent, present}
use Rattle.xcdr_model.specs.declared.malformed.Fault.{Fault}
use Rattle.xcdr_model.specs.declared.malformed.Why.TheVariants.{MemberId, Parameter}
use Rattle.xcdr_model.specs.Numbers.{padding}
use Rattle.xcdr_model.specs.Projection.{Part, Body, no_body, projected, projected_case, by_sides}
use Rattle.xcdr_model.specs.Reading.{Spot, Reading, ◌>>=◌, fault_at}
use Rattle.xcdr_model.specs.Xcdr1Reading.{read1, read_case1, rest_selected1, content_read, closed_by, shifted, optional1_at, is_end, is_ignored}
use Rattle.xcdr_model.specs.Xcdr1Spelling.{writes1, writes_case1, Content, slot1, IsParam}
use Rattle.xcdr_model.specs.Xcdr2Reading.{selected_at, Piece}
use Rattle.xcdr_model.specs.Xcdr2Spelling.{if_selected}
use Rattle.shape_laws.proofs.Headers1.{head_again, sized_again}
use Rattle.shape_laws.proofs.InOrder.{slot_part}
use Rattle.shape_laws.proofs.Steps.{spot, Reads, then_ok, reads_done}

-- f reads x from what P spells where nothing follows, and uses the region up
abbrev pub Ends : {A : Type 0} → (Spot → Reading A) → (ℕ → List ℕ → Type 0) → A → Type 0
Ends f P x = (p : ℕ) (b : List ℕ) → P p b → (e : ℕ) × (f (spot p b) ≡ Ok (x, spot e []))

-- ---- contents

pub content_by : {A : Type 0} (f : Spot → Reading A) (P : ℕ → List ℕ → Type 0) (x : A) → Reads f P x → (at : ℕ) (c : List ℕ) → Content true P c → (e : ℕ) × (content_read true f (spot at c) ≡ Ok (x, spot e []))
unfolding content_read
content_by f P x r at c h =
    let few : leb (length h.pad) 3 ≡ true = le-leb _ _ h.few in
    let read : f (spot 0 c) ≡ Ok (x, spot (length h.body) h.pad) = ap (λ (d : List ℕ). f (spot 0 d)) h.parts ∙ r 0 h.body h.pad h.spelled ∙ ap (λ (n : ℕ). Ok (x, spot n h.pad)) (omega arith) in
    let closes : (f (spot 0 c) >>= λ y. closed_by true y) ≡ Ok (x, spot (length h.body) []) = then_ok _ read (rw few refl) in
    (length h.body, ap (shifted at) closes)

pub content_up : {A : Type 0} (f : Spot → Reading A) (P : ℕ → List ℕ → Type 0) (x : A) → Ends f P x → (at : ℕ) (c : List ℕ) → Content false P c → (e : ℕ) × (content_read false f (spot at c) ≡ Ok (x, spot e []))
unfolding content_read
content_up f P x r at c h =
    let none : h.pad ≡ [] = nil_from_length h.pad (omega (arith, h.few)) in
    let same : c ≡ h.body = h.parts ∙ ap (λ (d : List ℕ). h.body ++ d) none ∙ append-nil h.body in
    let z = r 0 h.body h.spelled in
    let read : f (spot 0 c) ≡ Ok (x, spot z.0 []) = ap (λ (d : List ℕ). f (spot 0 d)) same ∙ z.1 in
    let closes : (f (spot 0 c) >>= λ y. closed_by false y) ≡ Ok (x, spot z.0 []) = then_ok _ read refl in
    (z.0, ap (shifted at) closes)

-- ---- optional members

param_read : (o : Order) (id : ℕ) (k : Head) (same : id ≡ k.id) (q : Piece) → q.id ≡ k.id → (g : Spot → Reading Part) (f : Spot → Reading Part) (p : ℕ) (b rest : List ℕ) → IsParam o q p b → (y : Result (List (ℕ × Part) × Spot) Fault)
    → cond (length q.content.rest == 0) (Ok ([], spot (p + length b) rest)) (g q.content >>= λ x. Ok ((id, x.0) ∷ [], spot (p + length b) rest)) ≡ y → optional1_at true o id f g (spot p (b ++ rest)) ≡ y
unfolding optional1_at
param_read o id k same q e g f p b rest h y z =
    let m = head_again o q p b rest h in
    let is : (m.mark.id == id) ≡ true = eq-eqb _ _ (m.id ∙ e ∙ sym same) in
    let member : ((m.mark.id == id) && not (is_end m.mark || is_ignored m.mark)) ≡ true = and_from (m.mark.id == id) (not (is_end m.mark || is_ignored m.mark)) is (not_from_false (is_end m.mark || is_ignored m.mark) (or_from (is_end m.mark) (is_ignored m.mark) m.no_end m.no_ignored)) in
    then_ok _ m.read (then_ok _ (ap (λ (c : Bool). cond c (Ok m.mark) (fault_at (p + padding 4 p) Parameter)) member) (then_ok _ (ap (λ (c : Bool). cond c (fault_at (p + padding 4 p) MemberId) (Ok m.mark)) m.has_id) (then_ok _ (sized_again o q p b rest h m) z)))

pub reads_slot1 : (opt : Bool) (o : Order) (id : ℕ) (k : Head) (closed : Bool) (f g : Spot → Reading Part) (P : Val → ℕ → List ℕ → Type 0) (G : Val → Part) (s : Slot) → id ≡ k.id → ((w : Val) → Reads f (P w) (G w))
    → ((w : Val) (at : ℕ) (c : List ℕ) → Content closed (P w) c → (e : ℕ) × (g (spot at c) ≡ Ok (G w, spot e []))) → ((w : Val) (q : ℕ) (c : List ℕ) → P w q c → 0 < length c) → Reads (optional1_at opt o id f g) (slot1 opt o k closed P s) (slot_part id G s)
unfolding optional1_at
reads_slot1 false o id k closed f g P G absent same r u full p b rest h = absurd h
reads_slot1 false o id k closed f g P G (present w) same r u full p b rest h = reads_done (λ (x : Part). (id, x) ∷ []) f (P w) (G w) (r w) p b rest h
reads_slot1 true o id k closed f g P G absent same r u full p b rest h =
    let none : (length h.piece.content.rest == 0) ≡ true = eq-eqb _ _ (ap length h.content) in
    param_read o id k same h.piece h.id g f p b rest h.spelled (Ok ([], spot (p + length b) rest)) (rw none refl)
reads_slot1 true o id k closed f g P G (present w) same r u full p b rest h =
    let c = h.content in
    let some : (length h.piece.content.rest == 0) ≡ false = ne_eqb _ _ (λ z. omega (arith, full w 0 c.body c.spelled, ap length c.parts ∙ length-append c.body c.pad)) in
    let z = u w h.piece.content.at h.piece.content.rest c in
    param_read o id k same h.piece h.id g f p b rest h.spelled (Ok ((id, G w) ∷ [], spot (p + length b) rest)) (rw some (then_ok _ z.1 refl))

-- ---- cases

pub written_case1 : (o : Order) (cs : Cases) (j : ℕ) (s : Slot) (p : ℕ) (b : List ℕ) → writes_case1 o cs j s p b → (t : Shape) × (w : Val) × (case_at cs j ≡ Some t) × (s ≡ present w) × writes1 o t w p b
unfolding writes1 writes_case1
written_case1 o no_cases j s p b h = absurd h
written_case1 o (one_case k t cs) j absent p b h = elim (cases_Bool (k.id == j)) [
  | inl y ↦ absurd (rw y at h)
  | inr n ↦ (let x = written_case1 o cs j absent p b (rw n at h) in (x.0, x.1, ap (λ (c : Bool). cond c (Some t) (case_at cs j)) n ∙ x.2, x.3, x.4))
]
written_case1 o (one_case k t cs) j (present w) p b h = elim (cases_Bool (k.id == j)) [
  | inl y ↦ (t, w, ap (λ (c : Bool). cond c (Some t) (case_at cs j)) y, refl, rw y at h)
  | inr n ↦ (let x = written_case1 o cs j (present w) p b (rw n at h) in (x.0, x.1, ap (λ (c : Bool). cond c (Some t) (case_at cs j)) n ∙ x.2, x.3, x.4))
]

-- the case of an id is read by its type
case1_is : (tail : Bool) (o : Order) (cs : Cases) (i : ℕ) (t : Shape) → case_at cs i ≡ Some t → (s : Spot) (x : Part) (after : Spot) (t2 : Shape) (w : Val) → read1 tail o t s ≡ Ok (x, after) → x ≡ projected t t2 w → read_case1 tail o cs i s ≡ Ok (projected_case cs i (Some t2) (present w), after)
unfolding read_case1 projected_case
case1_is tail o no_cases i t e s x after t2 w r y = absurd cc
case1_is tail o (one_case k u cs) i t e s x after t2 w r y = elim (cases_Bool (k.id == i)) [
  | inl z ↦ (let f : Some u ≡ Some t = ap (λ (c : Bool). cond c (Some u) (case_at cs i)) (sym z) ∙ e in
      let same : t ≡ u = cc in
      let r2 : read1 tail o u s ≡ Ok (projected u t2 w, after) = subst (λ (a : Shape). read1 tail o a s ≡ Ok (projected a t2 w, after)) same (r ∙ ap (λ (a : Part). Ok (a, after)) y) in
      rw z (then_ok _ r2 refl))
  | inr n ↦ (let f : case_at cs i ≡ Some t = ap (λ (c : Bool). cond c (Some u) (case_at cs i)) (sym n) ∙ e in
      rw n (case1_is tail o cs i t f s x after t2 w r y))
]

pub reads_case1 : (o : Order) (cs cs2 : Cases) (i j : ℕ) (t : Shape) (s : Slot) → case_at cs i ≡ Some t → ((t2 : Shape) → case_at cs2 j ≡ Some t2 → (w : Val) → Reads (read1 false o t) (writes1 o t2 w) (projected t t2 w)) → Reads (λ s1. read_case1 false o cs i s1) (writes_case1 o cs2 j s) (projected_case cs i (case_at cs2 j) s)
reads_case1 o cs cs2 i j t s e r p b rest h =
    let x = written_case1 o cs2 j s p b h in
    case1_is false o cs i t e (spot p (b ++ rest)) (projected t x.0 x.1) (spot (p + length b) rest) x.0 x.1 (r x.0 x.2 x.1 p b rest x.4) refl
    ∙ ap₂ (λ (a : Option Shape) (c : Slot). Ok (projected_case cs i a c, spot (p + length b) rest)) (sym x.2) (sym x.3)

pub ends_case1 : (o : Order) (cs cs2 : Cases) (i j : ℕ) (t : Shape) (s : Slot) → case_at cs i ≡ Some t → ((t2 : Shape) → case_at cs2 j ≡ Some t2 → (w : Val) → Ends (read1 true o t) (writes1 o t2 w) (projected t t2 w)) → Ends (λ s1. read_case1 true o cs i s1) (writes_case1 o cs2 j s) (projected_case cs i (case_at cs2 j) s)
ends_case1 o cs cs2 i j t s e r p b h =
    let x = written_case1 o cs2 j s p b h in
    let z = r x.0 x.2 x.1 p b x.4 in (
      z.0,
      case1_is true o cs i t e (spot p b) (projected t x.0 x.1) (spot z.0 []) x.0 x.1 z.1 refl
          ∙ ap₂ (λ (a : Option Shape) (c : Slot). Ok (projected_case cs i a c, spot z.0 [])) (sym x.2) (sym x.3),
    )

-- the body of a FINAL union that has the rest
pub final_end : (a c : Option ℕ) → is_some a ≡ is_some c → (f : ℕ → Spot → Reading (Body × Bool)) (W : ℕ → ℕ → List ℕ → Type 0) (G : ℕ → ℕ → Body × Bool) → ((i j : ℕ) → a ≡ Some i → c ≡ Some j → Ends (f i) (W j) (G i j)) → Ends (selected_at a f) (if_selected c W) (by_sides a c G)
final_end None None e f W G r p b h = (p, ap (λ (c : List ℕ). Ok ((no_body, false), spot p c)) h)
final_end None (Some j) e f W G r p b h = absurd cc
final_end (Some i) None e f W G r p b h = absurd cc
final_end (Some i) (Some j) e f W G r p b h = r i j refl refl p b h

-- the body of an APPENDABLE union that has the rest
pub appendable_end : (a c : Option ℕ) (f : ℕ → Spot → Reading (Body × Bool)) (W : ℕ → ℕ → List ℕ → Type 0) (G : ℕ → ℕ → Body × Bool) → ((i j : ℕ) → a ≡ Some i → c ≡ Some j → Ends (f i) (W j) (G i j)) → ((j p : ℕ) (b : List ℕ) → W j p b → 0 < length b) → Ends (rest_selected1 a f) (if_selected c W) (by_sides a c G)
appendable_end None None f W G r full p b h = (p + length b, rw h refl)
appendable_end None (Some j) f W G r full p b h =
    let some : (length b == 0) ≡ false = ne_eqb _ _ (λ z. omega (arith, full j p b h)) in
    (p + length b, rw some refl)
appendable_end (Some i) None f W G r full p b h = (p, rw h refl)
appendable_end (Some i) (Some j) f W G r full p b h =
    let some : (length b == 0) ≡ false = ne_eqb _ _ (λ z. omega (arith, full j p b h)) in
    let z = r i j refl refl p b h in
    (z.0, rw some z.1)
