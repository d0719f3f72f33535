-- What is spelled under the writer's type is read under the reader's as the projection says, whatever follows.
use Rattle.std.proofs.Common.{◌≡◌, ℕ, ◌+◌, ◌<◌, ℤ, Bool, true, false, cond, ◌&&◌, List, [], map, length, Option, Some, None, Ok, refl, sym, ap, ap₂, subst, ◌∙◌, arith, ◌==◌, is_some, add-zero, le_refl}
use Rattle.std.proofs.lemmas.Bool.{ne_eqb, eq-eqb}
use Rattle.std.proofs.lemmas.List.{append-nil}
use Rattle.xt_shapes.specs.declared.leaves.Order.{Order}
use Rattle.xt_shapes.specs.declared.leaves.Primitive.{Primitive}
use Rattle.xt_shapes.specs.Defaults.{default_of}
use Rattle.xt_shapes.specs.Kinds.{prim_code, same_kind}
use Rattle.xt_shapes.specs.Select.{is_literal, select, case_at}
use Rattle.xt_shapes.specs.Shape.{Shape, prim, enumeration, bitmask, Members, member, product}
use Rattle.xt_shapes.specs.Vals.{Val, int, Slots, first, others, slots_in, items_in, entries_in, number_in, disc_in, body_in, octets_in}
use Rattle.xcdr_model.specs.Projection.{Built, got, failed, Part, Body, no_body, projected, projected_members, projected_case, whole_items, whole_entries, whole_structure, whole_union, gather_text, lacks_must, disc_built, disc_across, by_sides}
use Rattle.xcdr_model.specs.Reading.{Spot, Reading, ◌>>=◌, each_at, filling}
use Rattle.xcdr_model.specs.Spelling.{Then, Each}
use Rattle.xcdr_model.specs.Xcdr2Reading.{done, scalar_at, text_at, is_primitive, collection_at, counted_at, optional_at, selected_at, rest_selected, members_at, read, read_members, read_named, read_case}
use Rattle.xcdr_model.specs.Xcdr2Spelling.{scalar, IsText, Collection, Counted, slot_of, if_selected, AnyOrder, writes, writes_pieces, writes_members, writes_case}
use Rattle.shape_laws.proofs.Agreement.{Agree, same_prim, both_str, same_bits, same_mask, both_sequence, same_dims, both_map, both_final, both_appendable, both_mutable, final_union, appendable_union, AllInOrder, none_left, next_of_all, FrontInOrder, reader_ends, writer_ends, next_of_both}
use Rattle.shape_laws.proofs.AnyOrder.{named_some, named_none}
use Rattle.shape_laws.proofs.AnyOrderWhole.{reads_contents, same_whole, sent_pieces}
use Rattle.shape_laws.proofs.Cases.{selected_case, reads_case, written_case}
use Rattle.shape_laws.proofs.Headers.{pieces_again}
use Rattle.shape_laws.proofs.InOrder.{slot_part, reads_slot, projected_next, projected_none}
use Rattle.shape_laws.proofs.Leaves.{reads_prim, reads_enum, reads_mask, reads_text}
use Rattle.shape_laws.proofs.Nonempty.{nonempty, of_slot, of_left}
use Rattle.shape_laws.proofs.Steps.{spot, Reads, then_ok, at_one, one_at_end, at_two, at_end, reads_done, reads_both, reads_each, reads_collection, reads_counted, header_of, past_region, is_passed, is_filled}

same_plain : {t t2 : Shape} → Agree t t2 → is_primitive t ≡ is_primitive t2
same_plain (same_prim p) = refl
same_plain (both_str a b) = refl
same_plain (same_bits e e2 bits ls ls2) = refl
same_plain (same_mask bits fs fs2) = refl
same_plain (both_sequence a b ca cb t t2 g) = refl
same_plain (same_dims dims ca cb t t2 g) = refl
same_plain (both_map a b ca cb da db k k2 t t2 gk g) = refl
same_plain (both_final ms ms2 g) = refl
same_plain (both_appendable ms ms2 g) = refl
same_plain (both_mutable ms ms2 apart g) = refl
same_plain (final_union k k2 disc disc2 cs cs2 gd sides g) = refl
same_plain (appendable_union k k2 disc disc2 cs cs2 fill gd g) = refl

-- agreeing types are of one kind, so that the writer's discriminator is one of the reader's
agreed_kind : {t t2 : Shape} → Agree t t2 → same_kind t t2 ≡ true
agreed_kind (same_prim p) = eq-eqb (prim_code p) (prim_code p) refl
agreed_kind (both_str a b) = refl
agreed_kind (same_bits e e2 bits ls ls2) = refl
agreed_kind (same_mask bits fs fs2) = refl
agreed_kind (both_sequence a b ca cb t t2 g) = refl
agreed_kind (same_dims dims ca cb t t2 g) = refl
agreed_kind (both_map a b ca cb da db k k2 t t2 gk g) = refl
agreed_kind (both_final ms ms2 g) = refl
agreed_kind (both_appendable ms ms2 g) = refl
agreed_kind (both_mutable ms ms2 apart g) = refl
agreed_kind (final_union k k2 disc disc2 cs cs2 gd sides g) = refl
agreed_kind (appendable_union k k2 disc disc2 cs cs2 fill gd g) = refl

pub across_kind : (t t2 : Shape) (d : ℤ) → same_kind t t2 ≡ true → disc_built t d ≡ disc_across t t2 d
across_kind t t2 d e = ap (λ (c : Bool). cond c (disc_built t d) failed) (sym e)

pub same_prim_built : (p : Primitive) (v : Val) → (got (int (number_in v)), false) ≡ projected (prim p) (prim p) v
unfolding projected
same_prim_built p v = ap (λ (c : Bool). (cond c (got (int (number_in v))) failed, false)) (sym (eq-eqb (prim_code p) (prim_code p) refl))

-- a number under another type of the same holder
reads_scalar : {t t2 : Shape} → Agree t t2 → (o : Order) (i : ℤ) → Reads (scalar_at 4 o t) (scalar 4 o t2 i) i
unfolding scalar_at
reads_scalar (same_prim t) o i p b rest h = reads_prim 4 o t i p b rest h
reads_scalar (same_bits e e2 bits ls ls2) o i p b rest h = reads_enum 4 o bits i p b rest h
reads_scalar (same_mask bits fs fs2) o i p b rest h = reads_mask 4 o bits i p b rest h
reads_scalar (both_str a c) o i p b rest h = absurd h
reads_scalar (both_sequence a c ca cb t t2 g) o i p b rest h = absurd h
reads_scalar (same_dims dims ca cb t t2 g) o i p b rest h = absurd h
reads_scalar (both_map a c ca cb da db k k2 t t2 gk g) o i p b rest h = absurd h
reads_scalar (both_final ms ms2 g) o i p b rest h = absurd h
reads_scalar (both_appendable ms ms2 g) o i p b rest h = absurd h
reads_scalar (both_mutable ms ms2 apart g) o i p b rest h = absurd h
reads_scalar (final_union k k2 disc disc2 cs cs2 gd sides g) o i p b rest h = absurd h
reads_scalar (appendable_union k k2 disc disc2 cs cs2 fill gd g) o i p b rest h = absurd h

-- a collection of the writer's, read where the reader's stands behind a count as well
across : {A : Type 0} (c d : Bool) → c ≡ d → (o : Order) (f : Spot → Reading A) (P : ℕ → List ℕ → Type 0) (x : A) → Reads f P x → Reads (collection_at c o f) (Collection d o P) x
across c d e o f P x r = subst (λ (z : Bool). Reads (collection_at c o f) (Collection z o P) x) e (reads_collection c o f P x r)

abbrev pub pair_of : Part → Part → Part × Part
pair_of x y = (x, y)

-- the body of a FINAL union
pub final_body : (a c : Option ℕ) → is_some a ≡ is_some c → (f : ℕ → Spot → Reading (Body × Bool)) (W : ℕ → ℕ → List ℕ → Type 0) (G : ℕ → ℕ → Body × Bool) → ((i j : ℕ) → a ≡ Some i → c ≡ Some j → Reads (f i) (W j) (G i j)) → Reads (selected_at a f) (if_selected c W) (by_sides a c G)
final_body None None e f W G r p b rest h = rw h (ap (λ (n : ℕ). Ok ((no_body, false), spot n rest)) (sym (add-zero p)))
final_body None (Some j) e f W G r p b rest h = absurd cc
final_body (Some i) None e f W G r p b rest h = absurd cc
final_body (Some i) (Some j) e f W G r p b rest h = r i j refl refl p b rest h

-- the body of an APPENDABLE union, up to its region's end
appendable_body : (a c : Option ℕ) (f : ℕ → Spot → Reading (Body × Bool)) (W : ℕ → ℕ → List ℕ → Type 0) (G : ℕ → ℕ → Body × Bool) → ((i j : ℕ) → a ≡ Some i → c ≡ Some j → Reads (f i) (W j) (G i j)) → ((j p : ℕ) (b : List ℕ) → W j p b → 0 < length b)
    → (p : ℕ) (b : List ℕ) → if_selected c W p b → (s : Spot) × (rest_selected a f (spot p b) ≡ Ok (by_sides a c G, s))
appendable_body None None f W G r full p b h = (spot p b, rw h refl)
appendable_body None (Some j) f W G r full p b h =
    let some : (length b == 0) ≡ false = ne_eqb _ _ (λ z. omega (arith, full j p b h)) in
    (spot p b, rw some refl)
appendable_body (Some i) None f W G r full p b h = (spot p b, rw h refl)
appendable_body (Some i) (Some j) f W G r full p b h =
    let some : (length b == 0) ≡ false = ne_eqb _ _ (λ z. omega (arith, full j p b h)) in
    (spot (p + length b) [], rw some (ap (λ (c : List ℕ). filling (length b) (f i) (spot p c)) (sym (append-nil b)) ∙ is_filled (f i) (G i j) p b [] (p + length b) (at_end (f i) (W j) (G i j) (r i j refl refl) p b h)))

mutual
  unfolding read writes projected

  pub law : {t t2 : Shape} → Agree t t2 → (o : Order) (v : Val) → Reads (read o t) (writes o t2 v) (projected t t2 v)
  law (same_prim t) o v p b rest h = reads_done (λ (i : ℤ). (got (int i), false)) (scalar_at 4 o (prim t)) (scalar 4 o (prim t) (number_in v)) (number_in v) (reads_prim 4 o t (number_in v)) p b rest h ∙ ap (λ (x : Part). Ok (x, spot (p + length b) rest)) (same_prim_built t v)
  law (both_str a c) o v p b rest h = reads_done (λ (t : List ℕ). (gather_text a t, false)) (text_at o) (IsText o (octets_in v)) (octets_in v) (reads_text o (octets_in v)) p b rest h
  law (same_bits e e2 bits ls ls2) o v p b rest h = reads_done (λ (i : ℤ). (cond (is_literal ls i) (got (int i)) failed, false)) (scalar_at 4 o (enumeration e bits ls)) (scalar 4 o (enumeration e2 bits ls2) (number_in v)) (number_in v) (reads_scalar (same_bits e e2 bits ls ls2) o (number_in v)) p b rest h
  law (same_mask bits fs fs2) o v p b rest h = reads_done (λ (i : ℤ). (got (int i), false)) (scalar_at 4 o (bitmask bits fs)) (scalar 4 o (bitmask bits fs2) (number_in v)) (number_in v) (reads_scalar (same_mask bits fs fs2) o (number_in v)) p b rest h
  law (both_sequence a c ca cb t t2 g) o v p b rest h =
      reads_done (whole_items a ca (default_of t)) (λ s. collection_at (is_primitive t) o (counted_at o (λ s1. read o t s1)) s) (Collection (is_primitive t2) o (Counted o (λ w. writes o t2 w) (items_in v))) (map (λ w. projected t t2 w) (items_in v))
      (across (is_primitive t) (is_primitive t2) (same_plain g) o (counted_at o (λ s1. read o t s1)) (Counted o (λ w. writes o t2 w) (items_in v)) (map (λ w. projected t t2 w) (items_in v))
      (reads_counted o (λ s1. read o t s1) (λ w. writes o t2 w) (λ w. projected t t2 w) (items_in v) (λ w. law g o w))) p b rest h
  law (same_dims dims ca cb t t2 g) o v p b rest h =
      let xs = map (λ w. projected t t2 w) (items_in v) in
      let E = Each (λ w. writes o t2 w) (items_in v) in
      let r : Reads (each_at (product dims) (λ s1. read o t s1)) E xs = subst (λ (n : ℕ). Reads (each_at n (λ s1. read o t s1)) E xs) h.0 (reads_each (λ s1. read o t s1) (λ w. writes o t2 w) (λ w. projected t t2 w) (items_in v) (λ w. law g o w)) in
      reads_done (whole_items 0 ca (default_of t)) (λ s. collection_at (is_primitive t) o (each_at (product dims) (λ s1. read o t s1)) s) (Collection (is_primitive t2) o E) xs
      (across (is_primitive t) (is_primitive t2) (same_plain g) o (each_at (product dims) (λ s1. read o t s1)) E xs r) p b rest h.1
  law (both_map x y ca cb da db k k2 t t2 gk g) o v p b rest h =
      let f = λ (s1 : Spot). read o k s1 >>= λ a. read o t a.1 >>= λ c. Ok ((a.0, c.0), c.1) in
      let P = λ (e : Val × Val). Then (writes o k2 e.0) (writes o t2 e.1) in
      let G = λ (e : Val × Val). pair_of (projected k k2 e.0) (projected t t2 e.1) in
      let plain : (is_primitive k && is_primitive t) ≡ (is_primitive k2 && is_primitive t2) = ap₂ (λ (c d : Bool). c && d) (same_plain gk) (same_plain g) in
      reads_done (whole_entries x ca (default_of k) da (default_of t)) (λ s. collection_at (is_primitive k && is_primitive t) o (counted_at o f) s) (Collection (is_primitive k2 && is_primitive t2) o (Counted o P (entries_in v))) (map G (entries_in v))
      (across (is_primitive k && is_primitive t) (is_primitive k2 && is_primitive t2) plain o (counted_at o f) (Counted o P (entries_in v)) (map G (entries_in v))
      (reads_counted o f P G (entries_in v) (λ e. reads_both (λ s1. read o k s1) (λ s1. read o t s1) (writes o k2 e.0) (writes o t2 e.1) (projected k k2 e.0) (projected t t2 e.1) (law gk o e.0) (law g o e.1)))) p b rest h
  law (both_final ms ms2 g) o v p b rest h = reads_done (λ (ps : List (ℕ × Part)). whole_structure ms ps false) (λ s. read_members o false ms s) (writes_members o ms2 (slots_in v)) (projected_members ms ms2 (slots_in v)) (law_all g o (slots_in v)) p b rest h
  law (both_appendable ms ms2 g) o v p b rest h =
      let W = writes_members o ms2 (slots_in v) in
      let x = law_front g o (slots_in v) (p + length h.head) h.body h.inside in
      let y = whole_structure ms (projected_members ms ms2 (slots_in v)) false in
      then_ok _ (header_of o W p b rest h) (
      is_passed (λ s1. done (λ ps. whole_structure ms ps false) (read_members o true ms s1)) y (p + length h.head) h.body rest x.0 (then_ok _ x.1 refl)
      ∙ ap (λ (n : ℕ). Ok (y, spot n rest)) (past_region o W p b rest h))
  law (both_mutable ms ms2 apart g) o v p b rest h =
      let ss = slots_in v in
      let q = p + length h.head in
      let W = AnyOrder o ms2 ss (λ qs. writes_pieces o ms2 ss qs) in
      let y = whole_structure ms (projected_members ms ms2 ss) (lacks_must ms ms2 ss) in
      let k = h.inside in
      let found = pieces_again o k.qs (length h.body) q h.body (le_refl (length h.body)) k.spelled in
      let S = λ (t : Shape) (w : Val). writes o t w in
      let each = sent_pieces o ms2 ss k.qs k.sent_each in
      let parts = reads_contents S (λ t s1. read o t s1) (λ id. read_named o ms id) ms ms2 ss k.qs (named_some o ms) (named_none o ms)
      (λ id t t2 e e2 w c_at c z. (c_at + length c, at_end (read o t) (writes o t2 w) (projected t t2 w) (law (g id t t2 e e2) o w) c_at c z)) each k.distinct k.no_others in
      then_ok _ (header_of o W p b rest h) (
      is_passed (λ s1. done (λ r. whole_structure ms r.0 r.1) (members_at o (λ id. read_named o ms id) s1)) y q h.body rest (spot q h.body)
      (rw found (then_ok _ (then_ok _ parts refl) (ap (λ (x : Part). Ok (x, spot q h.body)) (same_whole S ms ms2 ss k.qs apart each k.distinct k.no_others))))
      ∙ ap (λ (n : ℕ). Ok (y, spot n rest)) (past_region o W p b rest h))
  law (final_union k k2 disc disc2 cs cs2 gd sides g) o v p b rest h =
      let d = disc_in v in
      let W = λ (j : ℕ). writes_case o cs2 j (body_in v) in
      let B = if_selected (select cs2 d) W in
      let G = λ (i j : ℕ). projected_case cs i (case_at cs2 j) (body_in v) in
      let r : Reads (selected_at (select cs d) (λ i s1. read_case o cs i s1)) B (by_sides (select cs d) (select cs2 d) G) =
      final_body (select cs d) (select cs2 d) (sides d) (λ i s1. read_case o cs i s1) W G (λ i j e f. let x = selected_case cs d i e in
      reads_case o cs cs2 i j x.0 (body_in v) x.1 (λ t2 m w. law (g d i j x.0 t2 e f x.1 m) o w)) in
      then_ok _ (at_one (scalar_at 4 o disc) (scalar 4 o disc2 d) B d (reads_scalar gd o d) p b rest h) (
      then_ok _ (at_two (selected_at (select cs d) (λ i s1. read_case o cs i s1)) (scalar 4 o disc2 d) B (by_sides (select cs d) (select cs2 d) G) r p b rest h)
      (ap (λ (z : Built). Ok (whole_union z d (by_sides (select cs d) (select cs2 d) G), spot (p + length b) rest)) (across_kind disc disc2 d (agreed_kind gd))))
  law (appendable_union k k2 disc disc2 cs cs2 fill gd g) o v p b rest h =
      let d = disc_in v in
      let q = p + length h.head in
      let W = λ (j : ℕ). writes_case o cs2 j (body_in v) in
      let B = if_selected (select cs2 d) W in
      let G = λ (i j : ℕ). projected_case cs i (case_at cs2 j) (body_in v) in
      let y = whole_union (disc_built disc d) d (by_sides (select cs d) (select cs2 d) G) in
      let x = appendable_body (select cs d) (select cs2 d) (λ i s1. read_case o cs i s1) W G (λ i j e f. let x = selected_case cs d i e in
      reads_case o cs cs2 i j x.0 (body_in v) x.1 (λ t2 m w. law (g d i j x.0 t2 e f x.1 m) o w))
      (λ j q c m. let z = written_case o cs2 j (body_in v) q c m in nonempty z.0 (fill j z.0 z.2) o z.1 q c z.4)
      (q + length h.inside.left) h.inside.right h.inside.two in
      then_ok _ (header_of o (Then (scalar 4 o disc2 d) B) p b rest h) (
      is_passed (λ s1. scalar_at 4 o disc s1 >>= λ a. done (λ c. whole_union (disc_built disc a.0) a.0 c) (rest_selected (select cs a.0) (λ i s2. read_case o cs i s2) a.1)) y q h.body rest x.0
      (then_ok _ (one_at_end (scalar_at 4 o disc) (scalar 4 o disc2 d) B d (reads_scalar gd o d) q h.body h.inside) (then_ok _ x.1 refl))
      ∙ ap₂ (λ (n : ℕ) (z : Built). Ok (whole_union z d (by_sides (select cs d) (select cs2 d) G), spot n rest)) (past_region o (Then (scalar 4 o disc2 d) B) p b rest h) (across_kind disc disc2 d (agreed_kind gd)))

  law_all : {ms ms2 : Members} → AllInOrder ms ms2 → (o : Order) (ss : Slots) → Reads (λ s. read_members o false ms s) (writes_members o ms2 ss) (projected_members ms ms2 ss)
  law_all none_left o ss p b rest h = rw h (ap (λ (n : ℕ). Ok ([], spot n rest)) (sym (add-zero p)))
  law_all (next_of_all k k2 t t2 ms ms2 e d out g gs) o ss p b rest h =
      let P = slot_of k2.optional o (λ w. writes o t2 w) (first ss) in
      let Q = writes_members o ms2 (others ss) in
      let x = slot_part k.id (λ w. projected t t2 w) (first ss) in
      let y = projected_members ms ms2 (others ss) in
      let r : Reads (optional_at k.optional o k.id (λ s1. read o t s1)) P x = subst (λ (c : Bool). Reads (optional_at c o k.id (λ s1. read o t s1)) P x) (sym d) (reads_slot k2.optional o k.id (λ s1. read o t s1) (λ w. writes o t2 w) (λ w. projected t t2 w) (first ss) (λ w. law g o w)) in
      then_ok _ (at_one (optional_at k.optional o k.id (λ s1. read o t s1)) P Q x r p b rest h) (
      then_ok _ (at_two (λ s. read_members o false ms s) P Q y (law_all gs o (others ss)) p b rest h)
      (ap (λ (z : List (ℕ × Part)). Ok (z, spot (p + length b) rest)) (sym (projected_next k k2 t t2 ms ms2 ss e out))))

  law_front : {ms ms2 : Members} → FrontInOrder ms ms2 → (o : Order) (ss : Slots) (p : ℕ) (b : List ℕ) → writes_members o ms2 ss p b → (s : Spot) × (read_members o true ms (spot p b) ≡ Ok (projected_members ms ms2 ss, s))
  law_front (reader_ends ms2) o ss p b h = (spot p b, refl)
  law_front (writer_ends k t ms) o ss p b h = (spot p b, rw (h, projected_none (member k t ms) ss) refl)
  law_front (next_of_both k k2 t t2 ms ms2 e d out full g gs) o ss p b h =
      let P = slot_of k2.optional o (λ w. writes o t2 w) (first ss) in
      let Q = writes_members o ms2 (others ss) in
      let x = slot_part k.id (λ w. projected t t2 w) (first ss) in
      let r : Reads (optional_at k.optional o k.id (λ s1. read o t s1)) P x = subst (λ (c : Bool). Reads (optional_at c o k.id (λ s1. read o t s1)) P x) (sym d) (reads_slot k2.optional o k.id (λ s1. read o t s1) (λ w. writes o t2 w) (λ w. projected t t2 w) (first ss) (λ w. law g o w)) in
      let some : 0 < length b = of_left P Q p b h (of_slot k2.optional o (λ w. writes o t2 w) (first ss) p h.left (λ w q c m. nonempty t2 full o w q c m) h.one) in
      let not_end : (length b == 0) ≡ false = ne_eqb _ _ (λ z. omega arith) in
      let more = law_front gs o (others ss) (p + length h.left) h.right h.two in (
        more.0,
        rw not_end (then_ok _ (one_at_end (optional_at k.optional o k.id (λ s1. read o t s1)) P Q x r p b h) (then_ok _ more.1
            (ap (λ (z : List (ℕ × Part)). Ok (z, more.0)) (sym (projected_next k k2 t t2 ms ms2 ss e out))))),
      )
