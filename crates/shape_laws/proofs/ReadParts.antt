-- Members and cases that are read are typed.
use Rattle.std.proofs.Common.{◌≡◌, ℕ, ℤ, Bool, true, false, cond, not, ◌||◌, List, [], ◌∷◌, ◌++◌, length, Option, Some, None, Result, Ok, Err, refl, sym, ap, ap₂, ◌∙◌, inl, inr, ◌==◌}
use Rattle.std.proofs.lemmas.Bool.{cases_Bool, and_parts, and_from, eqb-true, eq-eqb, not-true}
use Rattle.xt_shapes.specs.declared.leaves.Order.{Order}
use Rattle.xt_shapes.specs.Kinds.{is_number}
use Rattle.xt_shapes.specs.Lists.{has, all}
use Rattle.xt_shapes.specs.Select.{is_literal, select, has_member, shape_at}
use Rattle.xt_shapes.specs.Shape.{CaseHead, Shape, prim, enumeration, bitmask, Members, no_members, member, Cases, one_case}
use Rattle.xt_shapes.specs.Typing.{has_type, case_type}
use Rattle.xt_shapes.specs.Vals.{Val, int}
use Rattle.xcdr_model.specs.declared.malformed.Fault.{Fault}
use Rattle.xcdr_model.specs.declared.malformed.Why.TheVariants.{Twice}
use Rattle.xcdr_model.specs.Premises.{distinct_members}
use Rattle.xcdr_model.specs.Projection.{Built, got, failed, Part, built_at, Body, no_body, one_sided, disc_built}
use Rattle.xcdr_model.specs.Reading.{Spot, Reading, ◌>>=◌, number_at, is_used_up, filling}
use Rattle.xcdr_model.specs.Xcdr2Reading.{holder, scalar_at, Piece, content_of, contents, one_part, optional_at, present_at, two_valued, selected_at, rest_selected}
use Rattle.shape_laws.proofs.Costs.{reading, bind_ok, guard_ok, ok_parts, used_up_ok}
use Rattle.shape_laws.proofs.GatherTyped.{ok, Gathers, body_ok}
use Rattle.shape_laws.proofs.Gives.{small, Gives, number_gives, scalar_gives, prim_gives, mask_gives, done_gives, filling_gives}
use Rattle.shape_laws.proofs.KeyKept.{later_shape}
use Rattle.shape_laws.proofs.Rules.{left, right}

abbrev pub ok_at : Option Shape → Built → Bool
ok_at None b = true
ok_at (Some t) b = ok t b

abbrev pub parts_ok : Members → List (ℕ × Part) → Bool
parts_ok whole ps = all (λ x. ok_at (shape_at whole x.0) x.1.0) ps

pub parts_append : (whole : Members) (xs ys : List (ℕ × Part)) → parts_ok whole xs ≡ true → parts_ok whole ys ≡ true → parts_ok whole (xs ++ ys) ≡ true
parts_append whole [] ys h k = k
parts_append whole (x ∷ xs) ys h k = and_from (ok_at (shape_at whole x.0) x.1.0) (parts_ok whole (xs ++ ys)) (left (ok_at (shape_at whole x.0) x.1.0) (parts_ok whole xs) h) (parts_append whole xs ys (right (ok_at (shape_at whole x.0) x.1.0) (parts_ok whole xs) h) k)

part_ok : (whole : Members) (ps : List (ℕ × Part)) (id : ℕ) (b : Built) → parts_ok whole ps ≡ true → built_at ps id ≡ Some b → ok_at (shape_at whole id) b ≡ true
part_ok whole [] id b h e = absurd cc
part_ok whole (x ∷ xs) id b h e =
    let p = and_parts (ok_at (shape_at whole x.0) x.1.0) (parts_ok whole xs) h in
    elim (cases_Bool (x.0 == id)) [
      | inl y ↦ (let f : Some x.1.0 ≡ Some b = ap (λ (c : Bool). cond c (Some x.1.0) (built_at xs id)) (sym y) ∙ e in
          let same : x.1.0 ≡ b = cc in ap₂ (λ (n : ℕ) (z : Built). ok_at (shape_at whole n) z) (sym (eqb-true x.0 id y)) (sym same) ∙ p.0)
      | inr n ↦ part_ok whole xs id b p.1 (ap (λ (c : Bool). cond c (Some x.1.0) (built_at xs id)) (sym n) ∙ e)
    ]

pub parts_gather : (ms whole : Members) (ps : List (ℕ × Part)) → distinct_members ms ≡ true → parts_ok whole ps ≡ true → ((id : ℕ) (t : Shape) → shape_at ms id ≡ Some t → shape_at whole id ≡ Some t) → Gathers ms (built_at ps)
parts_gather no_members whole ps d h a = tt
parts_gather (member m t ms) whole ps d h a =
    let n = and_parts (not (has_member ms m.id)) (distinct_members ms) d in
    let here = a m.id t (ap (λ (c : Bool). cond c (Some t) (shape_at ms m.id)) (eq-eqb m.id m.id refl)) in
    ((λ b e. ap (λ (z : Option Shape). ok_at z b) (sym here) ∙ part_ok whole ps m.id b h e), parts_gather ms whole ps n.1 h (λ id u e. a id u (later_shape m t ms id u (not-true (has_member ms m.id) n.0) e)))

-- ---- members in order

pub single_gives : (whole : Members) (id : ℕ) (t : Shape) (f : Spot → Reading Part) → shape_at whole id ≡ Some t → Gives f (λ x. ok t x.0 ≡ true) → Gives (λ s. one_part id (f s)) (λ ps. parts_ok whole ps ≡ true)
single_gives whole id t f a c = done_gives (λ x. (id, x) ∷ []) f (λ x. ok t x.0 ≡ true) (λ ps. parts_ok whole ps ≡ true) c (λ x h. and_from (ok_at (shape_at whole id) x.0) true (ap (λ (z : Option Shape). ok_at z x.0) a ∙ h) refl)

pub optional_gives : (opt : Bool) (o : Order) (whole : Members) (id : ℕ) (t : Shape) (f : Spot → Reading Part) → shape_at whole id ≡ Some t → Gives f (λ x. ok t x.0 ≡ true) → Gives (λ s. optional_at opt o id f s) (λ ps. parts_ok whole ps ≡ true)
unfolding optional_at
optional_gives false o whole id t f a c s s2 x h e = single_gives whole id t f a c s s2 x h e
optional_gives true o whole id t f a c s s2 x h e =
    let b = bind_ok (present_at o s) (λ z. cond z.0 (one_part id (f z.1)) (reading [] z.1)) (x, s2) e in
    let n = bind_ok (number_at 4 o 1 s) (λ z. two_valued true (holder 4 1 s) z.0 >>= λ m. reading (m == 1) z.1) b.0 b.1 in
    let m = bind_ok (two_valued true (holder 4 1 s) n.0.0) (λ m. reading (m == 1) n.0.1) b.0 n.2 in
    let p = ok_parts (m.0 == 1) b.0.0 n.0.1 b.0.1 m.2 in
    by_presence b.0.0 b.0.1 (ap (λ (z : Spot). small z.rest) (sym p.1) ∙ (number_gives 4 o 1 s n.0.1 n.0.0 h n.1).0) b.2
  where
    by_presence : (b : Bool) (z : Spot) → small z.rest ≡ true → cond b (one_part id (f z)) (reading [] z) ≡ reading x s2 → (small s2.rest ≡ true) × (parts_ok whole x ≡ true)
    by_presence true z k e = single_gives whole id t f a c z s2 x k e
    by_presence false z k e = let p = ok_parts [] x z s2 e in (ap (λ (y : Spot). small y.rest) (sym p.1) ∙ k, ap (parts_ok whole) (sym p.0))

pub joined_gives : (whole : Members) (f g : Spot → Reading (List (ℕ × Part))) → Gives f (λ ps. parts_ok whole ps ≡ true) → Gives g (λ ps. parts_ok whole ps ≡ true) → Gives (λ s. f s >>= λ x. g x.1 >>= λ xs. reading (x.0 ++ xs.0) xs.1) (λ ps. parts_ok whole ps ≡ true)
joined_gives whole f g c d s s2 ps h e =
    let a = bind_ok (f s) (λ x. g x.1 >>= λ xs. reading (x.0 ++ xs.0) xs.1) (ps, s2) e in
    let b = bind_ok (g a.0.1) (λ xs. reading (a.0.0 ++ xs.0) xs.1) (ps, s2) a.2 in
    let k = c s a.0.1 a.0.0 h a.1 in
    let m = d a.0.1 b.0.1 b.0.0 k.0 b.1 in
    let p = ok_parts (a.0.0 ++ b.0.0) ps b.0.1 s2 b.2 in
    (ap (λ (z : Spot). small z.rest) (sym p.1) ∙ m.0, ap (parts_ok whole) (sym p.0) ∙ parts_append whole a.0.0 b.0.0 k.1 m.1)

-- ---- members under headers

abbrev pub small_pieces : List Piece → Bool
small_pieces qs = all (λ q. small q.content.rest) qs

abbrev pub KnownOk : Members → (ℕ → Option (Spot → Reading Part)) → Type 0
KnownOk whole known = (id : ℕ) (f : Spot → Reading Part) → known id ≡ Some f → (s s2 : Spot) (x : Part) → small s.rest ≡ true → f s ≡ reading x s2 → ok_at (shape_at whole id) x.0 ≡ true

abbrev pub Parts : Type 0
Parts = List (ℕ × Part) × Bool

abbrev in_parts : Members → Result Parts Fault → Bool
in_parts whole (Ok x) = parts_ok whole x.0
in_parts whole (Err f) = true

pub contents_gives : (whole : Members) (known : ℕ → Option (Spot → Reading Part)) → KnownOk whole known → (seen : List ℕ) (qs : List Piece) (end : Option Fault) (r : Parts) → small_pieces qs ≡ true → contents known seen qs end ≡ Ok r → parts_ok whole r.0 ≡ true
unfolding contents
contents_gives whole known K seen [] None r h e = ap (in_parts whole) (sym e)
contents_gives whole known K seen [] (Some f) r h e = absurd cc
contents_gives whole known K seen (q ∷ qs) end r h e = by_known (known q.id) refl (λ seen2 r2 e2. contents_gives whole known K seen2 qs end r2 (right (small q.content.rest) (small_pieces qs) h) e2) e
  where
    by_known : (k : Option (Spot → Reading Part)) → known q.id ≡ k → ((seen2 : List ℕ) (r2 : Parts) → contents known seen2 qs end ≡ Ok r2 → parts_ok whole r2.0 ≡ true)
        → content_of k seen q (λ seen2. contents known seen2 qs end) ≡ Ok r → parts_ok whole r.0 ≡ true
    by_known None k go e =
        let b = bind_ok (contents known seen qs end) (λ z. Ok (z.0, q.must || z.1)) r e in
        ap (in_parts whole) (sym b.2) ∙ go seen b.0 b.1
    by_known (Some f) k go e =
        let seen2 = q.id ∷ seen in
        let tail = λ (y : Part). contents known seen2 qs end >>= λ z. Ok ((q.id, y) ∷ z.0, z.1) in
        let g = guard_ok (has (λ i. i == q.id) seen) (record { at = q.header; why = Twice }) (f q.content >>= λ x. is_used_up x >>= λ y. tail y) r e in
        let a = bind_ok (f q.content) (λ x. is_used_up x >>= λ y. tail y) r g.1 in
        let b = bind_ok (is_used_up a.0) tail r a.2 in
        let c = bind_ok (contents known seen2 qs end) (λ z. Ok ((q.id, b.0) ∷ z.0, z.1)) r b.2 in
        let u = used_up_ok a.0 b.0 b.1 in
        ap (in_parts whole) (sym c.2) ∙ and_from (ok_at (shape_at whole q.id) b.0.0) (parts_ok whole c.0.0) (ap (λ (y : Part). ok_at (shape_at whole q.id) y.0) (sym u.1) ∙ K q.id f k q.content a.0.1 a.0.0 (left (small q.content.rest) (small_pieces qs) h) a.1) (go seen2 c.0 c.1)

-- ---- unions

abbrev pub CaseOk : Cases → ℤ → Body × Bool → Type 0
CaseOk cs d b = body_ok cs (select cs d) b.0 ≡ true

pub disc_typed : (most : ℕ) (o : Order) (t : Shape) → is_number t ≡ true → Gives (scalar_at most o t) (λ d. (v : Val) → disc_built t d ≡ got v → has_type t (int d) ≡ true)
unfolding has_type
disc_typed most o (prim p) n s s2 d h e = let k = prim_gives most o p s s2 d h e in (k.0, (λ v z. k.1))
disc_typed most o (enumeration x bits ls) n s s2 d h e = ((scalar_gives most o (enumeration x bits ls) s s2 d h e).0, (λ v z. by_test (is_literal ls d) v z))
  where
    by_test : (c : Bool) (v : Val) → cond c (got (int d)) failed ≡ got v → c ≡ true
    by_test true v e = refl
    by_test false v e = absurd cc
disc_typed most o (bitmask bits fs) n s s2 d h e = let k = mask_gives most o bits fs s s2 d h e in (k.0, (λ v z. k.1))
disc_typed most o _ n s s2 d h e = absurd cc

pub type_here : (m : CaseHead) (t : Shape) (cs : Cases) (i : ℕ) (v : Val) → (m.id == i) ≡ true → case_type (one_case m t cs) i v ≡ has_type t v
unfolding case_type
type_here m t cs i v y = ap (λ (c : Bool). cond c (has_type t v) (case_type cs i v)) y

pub type_later : (m : CaseHead) (t : Shape) (cs : Cases) (i : ℕ) (v : Val) → (m.id == i) ≡ false → case_type (one_case m t cs) i v ≡ case_type cs i v
unfolding case_type
type_later m t cs i v n = ap (λ (c : Bool). cond c (has_type t v) (case_type cs i v)) n

pub selected_gives : (cs : Cases) (i : Option ℕ) (f : ℕ → Spot → Reading (Body × Bool)) → ((j : ℕ) → i ≡ Some j → Gives (f j) (λ b. body_ok cs (Some j) b.0 ≡ true)) → Gives (selected_at i f) (λ b. body_ok cs i b.0 ≡ true)
selected_gives cs None f c s s2 x h e = let p = ok_parts {A = Body × Bool} (no_body, false) x s s2 e in (ap (λ (z : Spot). small z.rest) (sym p.1) ∙ h, ap (λ (z : Body × Bool). body_ok cs None z.0) (sym p.0))
selected_gives cs (Some i) f c s s2 x h e = c i refl s s2 x h e

pub rest_gives : (cs : Cases) (i : Option ℕ) (f : ℕ → Spot → Reading (Body × Bool)) → ((j : ℕ) → i ≡ Some j → Gives (f j) (λ b. body_ok cs (Some j) b.0 ≡ true)) → Gives (rest_selected i f) (λ b. body_ok cs i b.0 ≡ true)
rest_gives cs None f c s s2 x h e = let p = ok_parts {A = Body × Bool} (cond (length s.rest == 0) no_body one_sided, false) x s s2 e in (ap (λ (z : Spot). small z.rest) (sym p.1) ∙ h, ap (λ (z : Body × Bool). body_ok cs None z.0) (sym p.0) ∙ none_in (length s.rest == 0))
  where
    none_in : (c : Bool) → body_ok cs None (cond c no_body one_sided) ≡ true
    none_in true = refl
    none_in false = refl
rest_gives cs (Some i) f c s s2 x h e = by_end (length s.rest == 0) e
  where
    by_end : (b : Bool) → cond b (reading {A = Body × Bool} (one_sided, false) s) (filling (length s.rest) (λ z. f i z) s) ≡ reading x s2 → (small s2.rest ≡ true) × (body_ok cs (Some i) x.0 ≡ true)
    by_end true e = let p = ok_parts {A = Body × Bool} (one_sided, false) x s s2 e in (ap (λ (z : Spot). small z.rest) (sym p.1) ∙ h, ap (λ (z : Body × Bool). body_ok cs (Some i) z.0) (sym p.0))
    by_end false e = filling_gives (length s.rest) (f i) (λ b. body_ok cs (Some i) b.0 ≡ true) (c i refl) s s2 x h e
