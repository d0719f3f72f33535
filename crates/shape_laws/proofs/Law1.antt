-- The law in XCDR1: an inner value whatever follows, a tail where it has the rest.
use Rattle.std.proofs.Common.{◌≡◌, ℕ, suc, ◌+◌, ◌<◌, ℤ, Bool, true, false, cond, not, List, [], ◌++◌, map, length, Some, None, Ok, refl, sym, ap, subst, ◌∙◌, arith, ◌==◌, add-zero}
use Rattle.std.proofs.lemmas.Bool.{eq-eqb, ne_eqb, cases_Bool}
use Rattle.std.proofs.Common.{inl, inr}
use Rattle.xt_shapes.specs.declared.leaves.Ext.TheVariants.{Final, Appendable, Mutable}
use Rattle.xt_shapes.specs.declared.leaves.Order.{Order}
use Rattle.xt_shapes.specs.Defaults.{default_of}
use Rattle.xt_shapes.specs.Kinds.{prim_code, same_kind}
use Rattle.xt_shapes.specs.Select.{is_literal, select, case_at, shape_at}
use Rattle.xt_shapes.specs.Shape.{Shape, prim, str, enumeration, bitmask, sequence, array, map_of, structure, union, Members, no_members, member, product}
use Rattle.xt_shapes.specs.Vals.{Val, int, Slots, first, others, slots_in, items_in, entries_in, number_in, disc_in, body_in, octets_in}
use Rattle.xcdr_model.specs.Projection.{Built, whole_union, got, failed, Part, projected, projected_members, projected_case, whole_items, whole_entries, whole_structure, gather_text, by_sides}
use Rattle.xcdr_model.specs.Reading.{Spot, ◌>>=◌, each_at}
use Rattle.xcdr_model.specs.Spelling.{Then, Each}
use Rattle.xcdr_model.specs.Xcdr1Reading.{is_open, content_read, optional1_at, read1, read_members1, read_named1, read_case1}
use Rattle.xcdr_model.specs.Xcdr1Spelling.{Content, slot1, pieces, writes1, writes_members1, writes_case1, writes_params}
use Rattle.xcdr_model.specs.Xcdr2Reading.{Piece, scalar_at, text_at, counted_at, selected_at}
use Rattle.xcdr_model.specs.Xcdr2Spelling.{scalar, IsText, Counted, if_selected}
use Rattle.shape_laws.proofs.Agreement1.{Inner, in_prim, in_str, in_bits, in_mask, in_sequence, in_array, in_map, in_final, in_appendable, in_mutable, in_union, Tail, of_closed, end_appendable, end_final_union, end_union, AllInner, none_left, next_of_all, FrontInner, reader_ends, writer_ends, next_of_both}
use Rattle.shape_laws.proofs.AnyOrder.{sent_all}
use Rattle.shape_laws.proofs.AnyOrderWhole.{reads_contents, same_whole}
use Rattle.shape_laws.proofs.Cases.{selected_case}
use Rattle.shape_laws.proofs.Cases1.{Ends, content_by, content_up, reads_slot1, written_case1, reads_case1, ends_case1, final_end, appendable_end}
use Rattle.shape_laws.proofs.Headers1.{params_again}
use Rattle.shape_laws.proofs.InOrder.{slot_part, projected_next, projected_none}
use Rattle.shape_laws.proofs.Law.{final_body, pair_of, across_kind, same_prim_built}
use Rattle.shape_laws.proofs.Leaves.{reads_prim, reads_enum, reads_mask, reads_text}
use Rattle.shape_laws.proofs.Nonempty.{of_left}
use Rattle.shape_laws.proofs.Nonempty1.{nonempty1, of_slot1}
use Rattle.shape_laws.proofs.Steps.{spot, Reads, then_ok, at_one, at_two, at_end, one_at_end, reads_done, reads_both, reads_each, reads_counted}
use Rattle.std.proofs.lemmas.List.{length-append}

-- ---- modes

pub closed_same : (t : Shape) → is_open t ≡ false → (o : Order) (s : Spot) → read1 true o t s ≡ read1 false o t s
unfolding read1
closed_same (prim p) e o s = refl
closed_same (str bound) e o s = refl
closed_same (enumeration x bits ls) e o s = refl
closed_same (bitmask bits fs) e o s = refl
closed_same (sequence bound tc t) e o s = refl
closed_same (array dims tc t) e o s = refl
closed_same (map_of bound kc k vc t) e o s = refl
closed_same (structure Final ms) e o s = refl
closed_same (structure Appendable ms) e o s = absurd cc
closed_same (structure Mutable ms) e o s = refl
closed_same (union x key disc cs) e o s = absurd cc

reads_scalar1 : {t t2 : Shape} → Inner t t2 → (o : Order) (i : ℤ) → Reads (scalar_at 8 o t) (scalar 8 o t2 i) i
unfolding scalar_at
reads_scalar1 (in_prim t) o i p b rest h = reads_prim 8 o t i p b rest h
reads_scalar1 (in_bits e e2 bits ls ls2) o i p b rest h = reads_enum 8 o bits i p b rest h
reads_scalar1 (in_mask bits fs fs2) o i p b rest h = reads_mask 8 o bits i p b rest h
reads_scalar1 (in_str a c) o i p b rest h = absurd h
reads_scalar1 (in_sequence a c ca cb t t2 g) o i p b rest h = absurd h
reads_scalar1 (in_array dims ca cb t t2 g) o i p b rest h = absurd h
reads_scalar1 (in_map a c ca cb da db k k2 t t2 gk g) o i p b rest h = absurd h
reads_scalar1 (in_final ms ms2 g) o i p b rest h = absurd h
reads_scalar1 (in_appendable ms ms2 g) o i p b rest h = absurd h
reads_scalar1 (in_mutable ms ms2 apart g) o i p b rest h = absurd h
reads_scalar1 (in_union e e2 k k2 disc disc2 cs cs2 gd sides g) o i p b rest h = absurd h

agreed_kind1 : {t t2 : Shape} → Inner t t2 → same_kind t t2 ≡ true
agreed_kind1 (in_prim p) = eq-eqb (prim_code p) (prim_code p) refl
agreed_kind1 (in_str a b) = refl
agreed_kind1 (in_bits e e2 bits ls ls2) = refl
agreed_kind1 (in_mask bits fs fs2) = refl
agreed_kind1 (in_sequence a b ca cb t t2 g) = refl
agreed_kind1 (in_array dims ca cb t t2 g) = refl
agreed_kind1 (in_map a b ca cb da db k k2 t t2 gk g) = refl
agreed_kind1 (in_final ms ms2 g) = refl
agreed_kind1 (in_appendable ms ms2 g) = refl
agreed_kind1 (in_mutable ms ms2 apart g) = refl
agreed_kind1 (in_union e e2 k k2 disc disc2 cs cs2 gd sides g) = refl

named1_some : (o : Order) (ms : Members) (id : ℕ) (t : Shape) → shape_at ms id ≡ Some t → read_named1 o ms id ≡ Some (content_read (not (is_open t)) (λ s. read1 true o t s))
unfolding read_named1
named1_some o no_members id t e = absurd cc
named1_some o (member h u ms) id t e = elim (cases_Bool (h.id == id)) [
  | inl y ↦ (let f : Some u ≡ Some t = ap (λ (c : Bool). cond c (Some u) (shape_at ms id)) (sym y) ∙ e in
      let s : u ≡ t = cc in ap (λ (c : Bool). cond c (Some (content_read (not (is_open u)) (λ s1. read1 true o u s1))) (read_named1 o ms id)) y ∙ ap (λ (z : Shape). Some (content_read (not (is_open z)) (λ s1. read1 true o z s1))) s)
  | inr n ↦ ap (λ (c : Bool). cond c (Some (content_read (not (is_open u)) (λ s1. read1 true o u s1))) (read_named1 o ms id)) n ∙ named1_some o ms id t (ap (λ (c : Bool). cond c (Some u) (shape_at ms id)) (sym n) ∙ e)
]

named1_none : (o : Order) (ms : Members) (id : ℕ) → shape_at ms id ≡ None → read_named1 o ms id ≡ None
unfolding read_named1
named1_none o no_members id e = refl
named1_none o (member h u ms) id e = elim (cases_Bool (h.id == id)) [
  | inl y ↦ (let f : Some u ≡ None = ap (λ (c : Bool). cond c (Some u) (shape_at ms id)) (sym y) ∙ e in absurd cc)
  | inr n ↦ ap (λ (c : Bool). cond c (Some (content_read (not (is_open u)) (λ s1. read1 true o u s1))) (read_named1 o ms id)) n ∙ named1_none o ms id (ap (λ (c : Bool). cond c (Some u) (shape_at ms id)) (sym n) ∙ e)
]

abbrev OneContent : Order → Shape → Val → ℕ → List ℕ → Type 0
OneContent o t w at c = Content (not (is_open t)) (writes1 o t w) c

sent_params : (o : Order) (ms : Members) (ss : Slots) (qs : List Piece) → writes_params o ms ss qs → sent_all (OneContent o) ms ss qs
unfolding writes_params
sent_params o no_members ss qs k = tt
sent_params o (member h t ms) ss qs k = (k.0, sent_params o ms (others ss) qs k.1)

-- a tail is read as its projection, by itself and as a parameter's content
abbrev AtEnd : Order → Shape → Shape → Val → Type 0
AtEnd o t t2 v = Ends (λ s. read1 true o t s) (writes1 o t2 v) (projected t t2 v)
    × ((at : ℕ) (c : List ℕ) → OneContent o t2 v at c → (e : ℕ) × (content_read (not (is_open t)) (λ s. read1 true o t s) (spot at c) ≡ Ok (projected t t2 v, spot e [])))

at_end_of_open : (o : Order) (t t2 : Shape) (v : Val) → is_open t ≡ true → is_open t2 ≡ true → Ends (λ s. read1 true o t s) (writes1 o t2 v) (projected t t2 v) → AtEnd o t t2 v
at_end_of_open o t t2 v k k2 r = (
  r,
  (λ at c h.
      let h2 : Content false (writes1 o t2 v) c = subst (λ (x : Bool). Content (not x) (writes1 o t2 v) c) k2 h in
      let x = content_up (λ s. read1 true o t s) (writes1 o t2 v) (projected t t2 v) r at c h2 in
      (x.0, ap (λ (y : Bool). content_read (not y) (λ s. read1 true o t s) (spot at c)) k ∙ x.1)),
)

mutual
  unfolding read1 writes1 projected

  pub law1 : {t t2 : Shape} → Inner t t2 → (o : Order) (v : Val) → Reads (read1 false o t) (writes1 o t2 v) (projected t t2 v)
  law1 (in_prim t) o v p b rest h = reads_done (λ (i : ℤ). (got (int i), false)) (scalar_at 8 o (prim t)) (scalar 8 o (prim t) (number_in v)) (number_in v) (reads_prim 8 o t (number_in v)) p b rest h ∙ ap (λ (x : Part). Ok (x, spot (p + length b) rest)) (same_prim_built t v)
  law1 (in_str a c) o v p b rest h = reads_done (λ (t : List ℕ). (gather_text a t, false)) (text_at o) (IsText o (octets_in v)) (octets_in v) (reads_text o (octets_in v)) p b rest h
  law1 (in_bits e e2 bits ls ls2) o v p b rest h = reads_done (λ (i : ℤ). (cond (is_literal ls i) (got (int i)) failed, false)) (scalar_at 8 o (enumeration e bits ls)) (scalar 8 o (enumeration e2 bits ls2) (number_in v)) (number_in v) (reads_scalar1 (in_bits e e2 bits ls ls2) o (number_in v)) p b rest h
  law1 (in_mask bits fs fs2) o v p b rest h = reads_done (λ (i : ℤ). (got (int i), false)) (scalar_at 8 o (bitmask bits fs)) (scalar 8 o (bitmask bits fs2) (number_in v)) (number_in v) (reads_scalar1 (in_mask bits fs fs2) o (number_in v)) p b rest h
  law1 (in_sequence a c ca cb t t2 g) o v p b rest h =
      reads_done (whole_items a ca (default_of t)) (counted_at o (λ s1. read1 false o t s1)) (Counted o (λ w. writes1 o t2 w) (items_in v)) (map (λ w. projected t t2 w) (items_in v))
      (reads_counted o (λ s1. read1 false o t s1) (λ w. writes1 o t2 w) (λ w. projected t t2 w) (items_in v) (λ w. law1 g o w)) p b rest h
  law1 (in_array dims ca cb t t2 g) o v p b rest h =
      let xs = map (λ w. projected t t2 w) (items_in v) in
      let E = Each (λ w. writes1 o t2 w) (items_in v) in
      let r : Reads (each_at (product dims) (λ s1. read1 false o t s1)) E xs = subst (λ (n : ℕ). Reads (each_at n (λ s1. read1 false o t s1)) E xs) h.0 (reads_each (λ s1. read1 false o t s1) (λ w. writes1 o t2 w) (λ w. projected t t2 w) (items_in v) (λ w. law1 g o w)) in
      reads_done (whole_items 0 ca (default_of t)) (each_at (product dims) (λ s1. read1 false o t s1)) E xs r p b rest h.1
  law1 (in_map x y ca cb da db k k2 t t2 gk g) o v p b rest h =
      let f = λ (s1 : Spot). read1 false o k s1 >>= λ a. read1 false o t a.1 >>= λ c. Ok ((a.0, c.0), c.1) in
      let P = λ (e : Val × Val). Then (writes1 o k2 e.0) (writes1 o t2 e.1) in
      let G = λ (e : Val × Val). pair_of (projected k k2 e.0) (projected t t2 e.1) in
      reads_done (whole_entries x ca (default_of k) da (default_of t)) (counted_at o f) (Counted o P (entries_in v)) (map G (entries_in v))
      (reads_counted o f P G (entries_in v) (λ e. reads_both (λ s1. read1 false o k s1) (λ s1. read1 false o t s1) (writes1 o k2 e.0) (writes1 o t2 e.1) (projected k k2 e.0) (projected t t2 e.1) (law1 gk o e.0) (law1 g o e.1))) p b rest h
  law1 (in_final ms ms2 g) o v p b rest h = reads_done (λ (ps : List (ℕ × Part)). whole_structure ms ps false) (λ s. read_members1 o false ms s) (writes_members1 o ms2 (slots_in v)) (projected_members ms ms2 (slots_in v)) (law1_all g o (slots_in v)) p b rest h
  law1 (in_appendable ms ms2 g) o v p b rest h = then_ok _ (reads_done (λ (ps : List (ℕ × Part)). whole_structure ms ps false) (λ s. read_members1 o false ms s) (writes_members1 o ms2 (slots_in v)) (projected_members ms ms2 (slots_in v)) (law1_all g o (slots_in v)) p b rest h) refl
  law1 (in_mutable ms ms2 apart g) o v p b rest h =
      let ss = slots_in v in
      let qs = pieces h.qs in
      let known = λ (id : ℕ). read_named1 o ms id in
      let found = params_again o h.qs (suc (length (b ++ rest))) p b rest (omega (arith, length-append b rest)) h.spelled in
      let each = sent_params o ms2 ss qs h.sent_each in
      let parts = reads_contents (OneContent o) (λ t. content_read (not (is_open t)) (λ s1. read1 true o t s1)) known ms ms2 ss qs (named1_some o ms) (named1_none o ms)
      (λ id t t2 e e2 w at c z. (law1_end (g id t t2 e e2) o w).1 at c z) each h.distinct h.no_others in
      rw found (then_ok _ (then_ok _ parts (then_ok _ refl refl)) (ap (λ (x : Part). Ok (x, spot (p + length b) rest)) (same_whole (OneContent o) ms ms2 ss qs apart each h.distinct h.no_others)))
  law1 (in_union e e2 k k2 disc disc2 cs cs2 gd sides g) o v p b rest h =
      let d = disc_in v in
      let W = λ (j : ℕ). writes_case1 o cs2 j (body_in v) in
      let B = if_selected (select cs2 d) W in
      let G = λ (i j : ℕ). projected_case cs i (case_at cs2 j) (body_in v) in
      let r : Reads (selected_at (select cs d) (λ i s1. read_case1 false o cs i s1)) B (by_sides (select cs d) (select cs2 d) G) =
      final_body (select cs d) (select cs2 d) (sides d) (λ i s1. read_case1 false o cs i s1) W G (λ i j e f. let x = selected_case cs d i e in
      reads_case1 o cs cs2 i j x.0 (body_in v) x.1 (λ t2 m w. law1 (g d i j x.0 t2 e f x.1 m) o w)) in
      then_ok _ (at_one (scalar_at 8 o disc) (scalar 8 o disc2 d) B d (reads_scalar1 gd o d) p b rest h) (
      then_ok _ (at_two (selected_at (select cs d) (λ i s1. read_case1 false o cs i s1)) (scalar 8 o disc2 d) B (by_sides (select cs d) (select cs2 d) G) r p b rest h)
      (ap (λ (z : Built). Ok (whole_union z d (by_sides (select cs d) (select cs2 d) G), spot (p + length b) rest)) (across_kind disc disc2 d (agreed_kind1 gd))))

  pub law1_end : {t t2 : Shape} → Tail t t2 → (o : Order) (v : Val) → AtEnd o t t2 v
  law1_end (of_closed t t2 k k2 g) o v =
      let r : Reads (λ s. read1 true o t s) (writes1 o t2 v) (projected t t2 v) = λ p b rest z. closed_same t k o (spot p (b ++ rest)) ∙ law1 g o v p b rest z in (
        (λ p b h. (p + length b, at_end (λ s. read1 true o t s) (writes1 o t2 v) (projected t t2 v) r p b h)),
        (λ at c h.
            let h2 : Content true (writes1 o t2 v) c = subst (λ (x : Bool). Content (not x) (writes1 o t2 v) c) k2 h in
            let x = content_by (λ s. read1 true o t s) (writes1 o t2 v) (projected t t2 v) r at c h2 in
            (x.0, ap (λ (y : Bool). content_read (not y) (λ s. read1 true o t s) (spot at c)) k ∙ x.1)),
      )
  law1_end (end_appendable ms ms2 g) o v =
      at_end_of_open o (structure Appendable ms) (structure Appendable ms2) v refl refl (λ p b h.
      let x = law1_front g o (slots_in v) p b h in (x.0.at + length x.0.rest, then_ok _ (then_ok _ x.1 refl) refl))
  law1_end (end_final_union k k2 disc disc2 cs cs2 gd sides g) o v =
      at_end_of_open o (union Final k disc cs) (union Final k2 disc2 cs2) v refl refl (λ p b h.
      let d = disc_in v in
      let W = λ (j : ℕ). writes_case1 o cs2 j (body_in v) in
      let B = if_selected (select cs2 d) W in
      let G = λ (i j : ℕ). projected_case cs i (case_at cs2 j) (body_in v) in
      let r = final_end (select cs d) (select cs2 d) (sides d) (λ i s1. read_case1 true o cs i s1) W G (λ i j e f. let x = selected_case cs d i e in
      ends_case1 o cs cs2 i j x.0 (body_in v) x.1 (λ t2 m w. (law1_end (g d i j x.0 t2 e f x.1 m) o w).0)) (p + length h.left) h.right h.two in (
        r.0,
        then_ok _ (one_at_end (scalar_at 8 o disc) (scalar 8 o disc2 d) B d (reads_scalar1 gd o d) p b h) (then_ok _ r.1
            (ap (λ (z : Built). Ok (whole_union z d (by_sides (select cs d) (select cs2 d) G), spot r.0 [])) (across_kind disc disc2 d (agreed_kind1 gd)))),
      ))
  law1_end (end_union k k2 disc disc2 cs cs2 fill gd g) o v =
      at_end_of_open o (union Appendable k disc cs) (union Appendable k2 disc2 cs2) v refl refl (λ p b h.
      let d = disc_in v in
      let W = λ (j : ℕ). writes_case1 o cs2 j (body_in v) in
      let B = if_selected (select cs2 d) W in
      let G = λ (i j : ℕ). projected_case cs i (case_at cs2 j) (body_in v) in
      let r = appendable_end (select cs d) (select cs2 d) (λ i s1. read_case1 true o cs i s1) W G (λ i j e f. let x = selected_case cs d i e in
      ends_case1 o cs cs2 i j x.0 (body_in v) x.1 (λ t2 m w. (law1_end (g d i j x.0 t2 e f x.1 m) o w).0))
      (λ j q c m. let z = written_case1 o cs2 j (body_in v) q c m in nonempty1 z.0 (fill j z.0 z.2) o z.1 q c z.4) (p + length h.left) h.right h.two in (
        r.0,
        then_ok _ (one_at_end (scalar_at 8 o disc) (scalar 8 o disc2 d) B d (reads_scalar1 gd o d) p b h) (then_ok _ r.1
            (ap (λ (z : Built). Ok (whole_union z d (by_sides (select cs d) (select cs2 d) G), spot r.0 [])) (across_kind disc disc2 d (agreed_kind1 gd)))),
      ))

  law1_all : {ms ms2 : Members} → AllInner ms ms2 → (o : Order) (ss : Slots) → Reads (λ s. read_members1 o false ms s) (writes_members1 o ms2 ss) (projected_members ms ms2 ss)
  law1_all none_left o ss p b rest h = rw h (ap (λ (n : ℕ). Ok ([], spot n rest)) (sym (add-zero p)))
  law1_all (next_of_all k k2 t t2 ms ms2 e d out full g u gs) o ss p b rest h =
      let P = slot1 k2.optional o k2 (not (is_open t2)) (λ w. writes1 o t2 w) (first ss) in
      let Q = writes_members1 o ms2 (others ss) in
      let x = slot_part k.id (λ w. projected t t2 w) (first ss) in
      let y = projected_members ms ms2 (others ss) in
      let c = content_read (not (is_open t)) (λ s1. read1 true o t s1) in
      let r : Reads (optional1_at k.optional o k.id (λ s1. read1 false o t s1) c) P x = subst (λ (z : Bool). Reads (optional1_at z o k.id (λ s1. read1 false o t s1) c) P x) (sym d)
      (reads_slot1 k2.optional o k.id k2 (not (is_open t2)) (λ s1. read1 false o t s1) c (λ w. writes1 o t2 w) (λ w. projected t t2 w) (first ss) e (λ w. law1 g o w) (λ w at a z. (law1_end u o w).1 at a z) (λ w q a z. nonempty1 t2 full o w q a z)) in
      then_ok _ (at_one (optional1_at k.optional o k.id (λ s1. read1 false o t s1) c) P Q x r p b rest h) (
      then_ok _ (at_two (λ s. read_members1 o false ms s) P Q y (law1_all gs o (others ss)) p b rest h)
      (ap (λ (z : List (ℕ × Part)). Ok (z, spot (p + length b) rest)) (sym (projected_next k k2 t t2 ms ms2 ss e out))))

  law1_front : {ms ms2 : Members} → FrontInner ms ms2 → (o : Order) (ss : Slots) (p : ℕ) (b : List ℕ) → writes_members1 o ms2 ss p b → (s : Spot) × (read_members1 o true ms (spot p b) ≡ Ok (projected_members ms ms2 ss, s))
  law1_front (reader_ends ms2) o ss p b h = (spot p b, refl)
  law1_front (writer_ends k t ms) o ss p b h = (spot p b, rw (h, projected_none (member k t ms) ss) refl)
  law1_front (next_of_both k k2 t t2 ms ms2 e d out full g u gs) o ss p b h =
      let P = slot1 k2.optional o k2 (not (is_open t2)) (λ w. writes1 o t2 w) (first ss) in
      let Q = writes_members1 o ms2 (others ss) in
      let x = slot_part k.id (λ w. projected t t2 w) (first ss) in
      let c = content_read (not (is_open t)) (λ s1. read1 true o t s1) in
      let r : Reads (optional1_at k.optional o k.id (λ s1. read1 false o t s1) c) P x = subst (λ (z : Bool). Reads (optional1_at z o k.id (λ s1. read1 false o t s1) c) P x) (sym d)
      (reads_slot1 k2.optional o k.id k2 (not (is_open t2)) (λ s1. read1 false o t s1) c (λ w. writes1 o t2 w) (λ w. projected t t2 w) (first ss) e (λ w. law1 g o w) (λ w at a z. (law1_end u o w).1 at a z) (λ w q a z. nonempty1 t2 full o w q a z)) in
      let some : 0 < length b = of_left P Q p b h (of_slot1 k2.optional o k2 (not (is_open t2)) (λ w. writes1 o t2 w) (first ss) p h.left (λ w q a z. nonempty1 t2 full o w q a z) h.one) in
      let not_end : (length b == 0) ≡ false = ne_eqb _ _ (λ z. omega arith) in
      let more = law1_front gs o (others ss) (p + length h.left) h.right h.two in (
        more.0,
        rw not_end (then_ok _ (one_at_end (optional1_at k.optional o k.id (λ s1. read1 false o t s1) c) P Q x r p b h) (then_ok _ more.1
            (ap (λ (z : List (ℕ × Part)). Ok (z, more.0)) (sym (projected_next k k2 t t2 ms ms2 ss e out))))),
      )
