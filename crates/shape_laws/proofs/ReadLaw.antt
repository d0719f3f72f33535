-- What is read in XCDR2 has its type.
use Rattle.std.proofs.Common.{◌≡◌, ℕ, zero, suc, ◌+◌, ◌-◌, ◌*◌, ◌/◌, ◌%◌, ◌^◌, ℤ, Bool, true, false, cond, not, ◌&&◌, List, [], ◌∷◌, ◌++◌, map, length, Option, Some, None, Ok, Err, refl, sym, ap, ◌∙◌, inl, inr, nat_lt, ◌==◌}
use Rattle.std.proofs.lemmas.Bool.{cases_Bool, and_parts, and_from, eqb-true, not-true}
use Rattle.xt_shapes.specs.declared.leaves.Ext.{Ext}
use Rattle.xt_shapes.specs.declared.leaves.Ext.TheVariants.{Final, Appendable, Mutable}
use Rattle.xt_shapes.specs.declared.leaves.Order.{Order}
use Rattle.xt_shapes.specs.Defaults.{default_of}
use Rattle.xt_shapes.specs.Kinds.{is_number}
use Rattle.xt_shapes.specs.Lists.{has, all}
use Rattle.xt_shapes.specs.Select.{is_literal, select, has_member, shape_at}
use Rattle.xt_shapes.specs.Shape.{Shape, prim, str, enumeration, bitmask, sequence, array, map_of, structure, union, Members, no_members, member, Cases, no_cases, one_case, product}
use Rattle.xt_shapes.specs.Typing.{has_type, case_type}
use Rattle.xt_shapes.specs.Vals.{Val, int}
use Rattle.xcdr_model.specs.declared.malformed.Why.TheVariants.{MemberSize, MemberId}
use Rattle.xcdr_model.specs.Premises.{sound, sound_members, sound_cases, some_member, distinct_members, storable, members_storable, cases_storable, own_default, defaults_typed, member_defaults, case_defaults}
use Rattle.xcdr_model.specs.Projection.{got, failed, Part, gather_text, built_list, whole_items, whole_entries, whole_structure, built_at, Body, settled_case, whole_union, disc_built}
use Rattle.xcdr_model.specs.Reading.{Spot, Reading, fault_at, ◌>>=◌, step, number_at, front, each_at}
use Rattle.xcdr_model.specs.Xcdr2Reading.{holder, done, scalar_at, text_at, is_primitive, collection_at, counted_at, Piece, content_at, piece_at, ends, and_more, pieces_at, contents, members_at, optional_at, selected_at, rest_selected, read, read_members, read_named, read_case}
use Rattle.shape_laws.proofs.Costs.{reading, bind_ok, guard_ok, ok_parts}
use Rattle.shape_laws.proofs.GatherTyped.{ok, ok2, sequence_ok, array_ok, map_ok, structure_ok, body_ok, union_ok, case_ok}
use Rattle.shape_laws.proofs.Gives.{small, Gives, small_take, small_step, number_gives, scalar_gives, prim_gives, mask_gives, text_gives, done_gives, each_gives, counted_gives, collection_gives, region_gives}
use Rattle.shape_laws.proofs.NodesSteps.{Among, first_among, rest_among, pair_reading, some_same}
use Rattle.shape_laws.proofs.ProjectTyped.{number_ok, text_ok}
use Rattle.shape_laws.proofs.ReadParts.{ok_at, parts_ok, parts_gather, optional_gives, joined_gives, small_pieces, KnownOk, Parts, contents_gives, disc_typed, type_here, type_later, selected_gives, rest_gives}
use Rattle.shape_laws.proofs.Rules.{left, right}

-- ---- pieces

count_gives : (o : Order) (code : ℕ) (s s2 : Spot) (n : ℕ) → small s.rest ≡ true → content_at o code s ≡ reading n s2 → small s2.rest ≡ true
count_gives o code s s2 n h e = by_code (nat_lt code 4) (code == 4) e
  where
    by_code : (c d : Bool) → cond c (reading (2 ^ code) s) (number_at 4 o 4 s >>= λ m. cond d (Ok m) (reading (4 + m.0 * cond (code == 5) 1 (cond (code == 6) 4 8)) s)) ≡ reading n s2 → small s2.rest ≡ true
    by_code true d e = (let p = ok_parts (2 ^ code) n s s2 e in ap (λ (z : Spot). small z.rest) (sym p.1) ∙ h)
    by_code false true e =
        let b = bind_ok (number_at 4 o 4 s) (λ m. Ok m) (n, s2) e in
        let p = ok_parts b.0.0 n b.0.1 s2 b.2 in ap (λ (z : Spot). small z.rest) (sym p.1) ∙ (number_gives 4 o 4 s b.0.1 b.0.0 h b.1).0
    by_code false false e =
        let b = bind_ok (number_at 4 o 4 s) (λ m. reading (4 + m.0 * cond (code == 5) 1 (cond (code == 6) 4 8)) s) (n, s2) e in
        let p = ok_parts (4 + b.0.0 * cond (code == 5) 1 (cond (code == 6) 4 8)) n s s2 b.2 in ap (λ (z : Spot). small z.rest) (sym p.1) ∙ h

abbrev made : Order → Spot → ℕ → ℕ × Spot → Piece
made o s h n = record { header = holder 4 4 s; id = h % 2 ^ 28; must = h / 2 ^ 31 == 1; content = front n.0 n.1 }

piece_gives : (o : Order) (s s2 : Spot) (q : Piece) → small s.rest ≡ true → piece_at o s ≡ reading q s2 → (small q.content.rest ≡ true) × (small s2.rest ≡ true)
unfolding piece_at
piece_gives o s s2 q z e =
    let last = λ (h : ℕ) (n : ℕ × Spot). cond (h % 2 ^ 28 == 2 ^ 28 - 1) (fault_at (holder 4 4 s) MemberId) (cond (nat_lt (length n.1.rest) n.0) (fault_at (holder 4 4 s) MemberSize) (reading (made o s h n) (step n.0 n.1))) in
    let b = bind_ok (number_at 4 o 4 s) (λ h. content_at o (h.0 / 2 ^ 28 % 8) h.1 >>= λ n. last h.0 n) (q, s2) e in
    let c = bind_ok (content_at o (b.0.0 / 2 ^ 28 % 8) b.0.1) (λ n. last b.0.0 n) (q, s2) b.2 in
    let g = guard_ok (b.0.0 % 2 ^ 28 == 2 ^ 28 - 1) (record { at = holder 4 4 s; why = MemberId }) (cond (nat_lt (length c.0.1.rest) c.0.0) (fault_at (holder 4 4 s) MemberSize) (reading (made o s b.0.0 c.0) (step c.0.0 c.0.1))) (q, s2) c.2 in
    let d = guard_ok (nat_lt (length c.0.1.rest) c.0.0) (record { at = holder 4 4 s; why = MemberSize }) (reading (made o s b.0.0 c.0) (step c.0.0 c.0.1)) (q, s2) g.1 in
    let p = ok_parts (made o s b.0.0 c.0) q (step c.0.0 c.0.1) s2 d.1 in
    let k = count_gives o (b.0.0 / 2 ^ 28 % 8) b.0.1 c.0.1 c.0.0 (number_gives 4 o 4 s b.0.1 b.0.0 z b.1).0 c.1 in
    (ap (λ (y : Piece). small y.content.rest) (sym p.0) ∙ small_take c.0.0 c.0.1.rest k, ap (λ (y : Spot). small y.rest) (sym p.1) ∙ small_step c.0.0 c.0.1 k)

pieces_give : (o : Order) (n : ℕ) (s : Spot) → small s.rest ≡ true → small_pieces (pieces_at o n s).0 ≡ true
unfolding pieces_at
pieces_give o zero s z = refl
pieces_give o (suc n) s z = by_end (ends s) (λ s2 k. pieces_give o n s2 k)
  where
    more : (r : Reading Piece) → piece_at o s ≡ r → ((s2 : Spot) → small s2.rest ≡ true → small_pieces (pieces_at o n s2).0 ≡ true) → small_pieces (and_more r (λ s1. pieces_at o n s1)).0 ≡ true
    more (Err f) e go = refl
    more (Ok q) e go = let k = piece_gives o s q.1 q.0 z e in and_from (small q.0.content.rest) (small_pieces (pieces_at o n q.1).0) k.0 (go q.1 k.1)

    by_end : (c : Bool) → ((s2 : Spot) → small s2.rest ≡ true → small_pieces (pieces_at o n s2).0 ≡ true) → small_pieces (cond c ([], None) (and_more (piece_at o s) (λ s1. pieces_at o n s1))).0 ≡ true
    by_end true go = refl
    by_end false go = more (piece_at o s) refl go

members_give : (o : Order) (whole : Members) (known : ℕ → Option (Spot → Reading Part)) → KnownOk whole known → Gives (members_at o known) (λ r. parts_ok whole r.0 ≡ true)
members_give o whole known K s s2 r h e =
    let ps = pieces_at o (length s.rest) s in
    let b = bind_ok (contents known [] ps.0 ps.1) (λ z. reading z s) (r, s2) e in
    let p = ok_parts b.0 r s s2 b.2 in
    (ap (λ (z : Spot). small z.rest) (sym p.1) ∙ h, ap (λ (z : Parts). parts_ok whole z.0) (sym p.0) ∙ contents_gives whole known K [] ps.0 ps.1 b.0 (pieces_give o (length s.rest) s h) b.1)

-- ---- collections

abbrev pub is_ok : Shape → Part → Bool
is_ok t x = ok t x.0

abbrev pub are_ok : Shape → Shape → Part × Part → Bool
are_ok k t x = ok k x.0.0 && ok t x.1.0

pub all_built : (t : Shape) (xs : List Part) → all (is_ok t) xs ≡ all (ok t) (built_list xs)
all_built t [] = refl
all_built t (x ∷ xs) = ap (λ (c : Bool). ok t x.0 && c) (all_built t xs)

pub all_built2 : (k t : Shape) (xs : List (Part × Part)) → all (are_ok k t) xs ≡ all (ok2 k t) (map (λ x. (x.0.0, x.1.0)) xs)
all_built2 k t [] = refl
all_built2 k t (x ∷ xs) = ap (λ (c : Bool). are_ok k t x && c) (all_built2 k t xs)

pub length_built : (xs : List Part) → length (built_list xs) ≡ length xs
length_built [] = refl
length_built (x ∷ xs) = ap (λ (n : ℕ). suc n) (length_built xs)

abbrev Two : Type 0
Two = Part × Part

pub entry_gives : (k t : Shape) (f g : Spot → Reading Part) → Gives f (λ x. ok k x.0 ≡ true) → Gives g (λ x. ok t x.0 ≡ true) → Gives (pair_reading f g) (λ x. are_ok k t x ≡ true)
entry_gives k t f g c d s s2 x h e =
    let a = bind_ok (f s) (λ y. g y.1 >>= λ z. reading {A = Two} (y.0, z.0) z.1) (x, s2) e in
    let b = bind_ok (g a.0.1) (λ z. reading {A = Two} (a.0.0, z.0) z.1) (x, s2) a.2 in
    let m = c s a.0.1 a.0.0 h a.1 in
    let n = d a.0.1 b.0.1 b.0.0 m.0 b.1 in
    let p = ok_parts {A = Two} (a.0.0, b.0.0) x b.0.1 s2 b.2 in
    (ap (λ (z : Spot). small z.rest) (sym p.1) ∙ n.0, ap (are_ok k t) (sym p.0) ∙ and_from (ok k a.0.0.0) (ok t b.0.0.0) m.1 n.1)

pub text_read : (bound : ℕ) (t : List ℕ) → (small t && not (has (λ c. c == 0) t)) ≡ true → ok (str bound) (gather_text bound t) ≡ true
text_read bound t h = text_ok bound 0 t h

union_gives : (o : Order) (e : Ext) (key : Bool) (disc : Shape) (cs : Cases) (f : ℤ → Spot → Reading (Body × Bool)) → is_number disc ≡ true → ((d : ℤ) → Gives (f d) (λ b. body_ok cs (select cs d) b.0 ≡ true)) → Gives (λ s. scalar_at 4 o disc s >>= λ d. done (λ b. whole_union (disc_built disc d.0) d.0 b) (f d.0 d.1)) (λ x. ok (union e key disc cs) x.0 ≡ true)
union_gives o e key disc cs f n c s s2 x h r =
    let b = bind_ok (scalar_at 4 o disc s) (λ d. done (λ b. whole_union (disc_built disc d.0) d.0 b) (f d.0 d.1)) (x, s2) r in
    let k = disc_typed 4 o disc n s b.0.1 b.0.0 h b.1 in
    done_gives (λ y. whole_union (disc_built disc b.0.0) b.0.0 y) (f b.0.0) (λ y. body_ok cs (select cs b.0.0) y.0 ≡ true) (λ y. ok (union e key disc cs) y.0 ≡ true) (c b.0.0) (λ y z. union_ok e key disc cs (disc_built disc b.0.0) b.0.0 y.0 k.1 z) b.0.1 s2 x k.0 b.2

mutual
  unfolding read has_type

  pub read_gives : (t : Shape) → sound t ≡ true → storable t ≡ true → defaults_typed t ≡ true → (o : Order) → Gives (read o t) (λ x. ok t x.0 ≡ true)
  read_gives (prim p) s k l o q1 q2 qx qh qe = done_gives (λ i. (got (int i), false)) (scalar_at 4 o (prim p)) _ (λ x. ok (prim p) x.0 ≡ true) (prim_gives 4 o p) (λ i h. h) q1 q2 qx qh qe
  read_gives (enumeration e bits ls) s k l o q1 q2 qx qh qe = done_gives (λ i. (cond (is_literal ls i) (got (int i)) failed, false)) (scalar_at 4 o (enumeration e bits ls)) (λ i. Unit {0}) (λ x. ok (enumeration e bits ls) x.0 ≡ true) (scalar_gives 4 o (enumeration e bits ls)) (λ i h. number_ok (enumeration e bits ls) (is_literal ls i) i (λ z. z)) q1 q2 qx qh qe
  read_gives (bitmask bits fs) s k l o q1 q2 qx qh qe = done_gives (λ i. (got (int i), false)) (scalar_at 4 o (bitmask bits fs)) _ (λ x. ok (bitmask bits fs) x.0 ≡ true) (mask_gives 4 o bits fs) (λ i h. h) q1 q2 qx qh qe
  read_gives (str bound) s k l o q1 q2 qx qh qe = done_gives (λ t. (gather_text bound t, false)) (text_at o) _ (λ x. ok (str bound) x.0 ≡ true) (text_gives o) (λ t h. text_read bound t h) q1 q2 qx qh qe
  read_gives (sequence bound tc t) s k l o q1 q2 qx qh qe =
      let p = and_parts (own_default t) (defaults_typed t) l in
      done_gives (whole_items bound tc (default_of t)) (λ s1. collection_at (is_primitive t) o (counted_at o (λ s2. read o t s2)) s1) (λ xs. all (is_ok t) xs ≡ true) (λ x. ok (sequence bound tc t) x.0 ≡ true)
      (collection_gives (is_primitive t) o (counted_at o (λ s1. read o t s1)) (λ xs. all (is_ok t) xs ≡ true) (counted_gives o (λ s1. read o t s1) (is_ok t) (read_gives t s k p.1 o)))
      (λ xs h. sequence_ok bound tc t (built_list xs) (sym (all_built t xs) ∙ h) p.0) q1 q2 qx qh qe
  read_gives (array dims tc t) s k l o q1 q2 qx qh qe =
      let p = and_parts (own_default t) (defaults_typed t) l in
      done_gives (whole_items 0 tc (default_of t)) (λ s1. collection_at (is_primitive t) o (each_at (product dims) (λ s2. read o t s2)) s1) (λ xs. (all (is_ok t) xs ≡ true) × (length xs ≡ product dims)) (λ x. ok (array dims tc t) x.0 ≡ true)
      (collection_gives (is_primitive t) o (each_at (product dims) (λ s1. read o t s1)) (λ xs. (all (is_ok t) xs ≡ true) × (length xs ≡ product dims)) (each_gives (λ s1. read o t s1) (is_ok t) (read_gives t (right (nat_lt 0 (product dims)) (sound t) s) k p.1 o) (product dims)))
      (λ xs h. array_ok dims tc t (built_list xs) (sym (all_built t xs) ∙ h.0) p.0 (length_built xs ∙ h.1)) q1 q2 qx qh qe
  read_gives (map_of bound kc j vc t) s k l o q1 q2 qx qh qe =
      let lj = and_parts (own_default j) (defaults_typed j) (left (own_default j && defaults_typed j) (own_default t && defaults_typed t) l) in
      let lt = and_parts (own_default t) (defaults_typed t) (right (own_default j && defaults_typed j) (own_default t && defaults_typed t) l) in
      let f = pair_reading (λ s1. read o j s1) (λ s1. read o t s1) in
      done_gives (whole_entries bound kc (default_of j) vc (default_of t)) (λ s1. collection_at (is_primitive j && is_primitive t) o (counted_at o f) s1) (λ xs. all (are_ok j t) xs ≡ true) (λ x. ok (map_of bound kc j vc t) x.0 ≡ true)
      (collection_gives (is_primitive j && is_primitive t) o (counted_at o f) (λ xs. all (are_ok j t) xs ≡ true) (counted_gives o f (are_ok j t) (entry_gives j t (λ s1. read o j s1) (λ s1. read o t s1) (read_gives j (left (sound j) (sound t) s) (left (storable j) (storable t) k) lj.1 o) (read_gives t (right (sound j) (sound t) s) (right (storable j) (storable t) k) lt.1 o))))
      (λ xs h. map_ok bound kc j vc t (map (λ x. (x.0.0, x.1.0)) xs) (sym (all_built2 j t xs) ∙ h) lj.0 lt.0) q1 q2 qx qh qe
  read_gives (structure Final ms) s k l o q1 q2 qx qh qe =
      let d = and_parts (distinct_members ms) (sound_members ms) (right (some_member ms) (distinct_members ms && sound_members ms) s) in
      done_gives (λ ps. whole_structure ms ps false) (λ s1. read_members o false ms s1) (λ ps. parts_ok ms ps ≡ true) (λ x. ok (structure Final ms) x.0 ≡ true) (members_in ms ms d.0 d.1 k l o false (λ id t e. e))
      (λ ps h. structure_ok Final ms (built_at ps) l (parts_gather ms ms ps d.0 h (λ id t e. e))) q1 q2 qx qh qe
  read_gives (structure Appendable ms) s k l o q1 q2 qx qh qe =
      let d = and_parts (distinct_members ms) (sound_members ms) (right (some_member ms) (distinct_members ms && sound_members ms) s) in
      region_gives o (λ s1. done (λ ps. whole_structure ms ps false) (read_members o true ms s1)) (λ x. ok (structure Appendable ms) x.0 ≡ true)
      (done_gives (λ ps. whole_structure ms ps false) (λ s1. read_members o true ms s1) (λ ps. parts_ok ms ps ≡ true) (λ x. ok (structure Appendable ms) x.0 ≡ true) (members_in ms ms d.0 d.1 k l o true (λ id t e. e))
      (λ ps h. structure_ok Appendable ms (built_at ps) l (parts_gather ms ms ps d.0 h (λ id t e. e)))) q1 q2 qx qh qe
  read_gives (structure Mutable ms) s k l o q1 q2 qx qh qe =
      let d = and_parts (distinct_members ms) (sound_members ms) (right (some_member ms) (distinct_members ms && sound_members ms) s) in
      let known = λ (id : ℕ). read_named o ms id in
      region_gives o (λ s1. done (λ r. whole_structure ms r.0 r.1) (members_at o known s1)) (λ x. ok (structure Mutable ms) x.0 ≡ true)
      (done_gives (λ r. whole_structure ms r.0 r.1) (λ s1. members_at o known s1) (λ r. parts_ok ms r.0 ≡ true) (λ x. ok (structure Mutable ms) x.0 ≡ true) (members_give o ms known (λ id f z a b x h e. named_in ms ms d.0 d.1 k l o (λ id t e. e) id f z a b x h e))
      (λ r h. structure_ok Mutable ms (built_at r.0) l (parts_gather ms ms r.0 d.0 h (λ id t e. e)))) q1 q2 qx qh qe
  read_gives (union Final key disc cs) s k l o q1 q2 qx qh qe =
      let c = right (sound disc) (sound_cases cs) s in
      let kd = left (is_number disc && storable disc) (cases_storable cs) k in
      let kc = right (is_number disc && storable disc) (cases_storable cs) k in
      union_gives o Final key disc cs (λ d z. selected_at (select cs d) (λ i s1. read_case o cs i s1) z) (left (is_number disc) (storable disc) kd)
      (λ d. selected_gives cs (select cs d) (λ i s1. read_case o cs i s1) (λ j e. case_in cs cs c kc l o j (λ z h. h))) q1 q2 qx qh qe
  read_gives (union Appendable key disc cs) s k l o q1 q2 qx qh qe =
      let c = right (sound disc) (sound_cases cs) s in
      let kd = left (is_number disc && storable disc) (cases_storable cs) k in
      let kc = right (is_number disc && storable disc) (cases_storable cs) k in
      region_gives o (λ s1. scalar_at 4 o disc s1 >>= λ d. done (λ b. whole_union (disc_built disc d.0) d.0 b) (rest_selected (select cs d.0) (λ i s2. read_case o cs i s2) d.1)) (λ x. ok (union Appendable key disc cs) x.0 ≡ true)
      (union_gives o Appendable key disc cs (λ d z. rest_selected (select cs d) (λ i s1. read_case o cs i s1) z) (left (is_number disc) (storable disc) kd)
      (λ d. rest_gives cs (select cs d) (λ i s1. read_case o cs i s1) (λ j e. case_in cs cs c kc l o j (λ z h. h)))) q1 q2 qx qh qe
  read_gives (union Mutable key disc cs) s k l o q1 q2 qx qh qe = absurd cc

  members_in : (ms whole : Members) → distinct_members ms ≡ true → sound_members ms ≡ true → members_storable ms ≡ true → member_defaults ms ≡ true → (o : Order) (cut : Bool) → Among ms whole → Gives (λ s. read_members o cut ms s) (λ ps. parts_ok whole ps ≡ true)
  members_in no_members whole d s k l o cut a s1 s2 ps h e = let p = ok_parts [] ps s1 s2 e in (ap (λ (z : Spot). small z.rest) (sym p.1) ∙ h, ap (parts_ok whole) (sym p.0))
  members_in (member m t ms) whole d s k l o cut a s1 s2 ps h e =
      let n = and_parts (not (has_member ms m.id)) (distinct_members ms) d in
      let p = and_parts (own_default t && defaults_typed t) (member_defaults ms) l in
      let r = and_parts (storable t) (members_storable ms) (right (nat_lt m.id (2 ^ 28 - 1)) (storable t && members_storable ms) k) in
      let c = optional_gives m.optional o whole m.id t (λ z. read o t z) (first_among m t ms whole a) (read_gives t (left (sound t) (sound_members ms) s) r.0 (right (own_default t) (defaults_typed t) p.0) o) in
      let more = members_in ms whole n.1 (right (sound t) (sound_members ms) s) r.1 p.1 o cut (rest_among m t ms whole (not-true (has_member ms m.id) n.0) a) in
      by_end (cut && (length s1.rest == 0)) c more e
    where
      by_end : (b : Bool) → Gives (λ z. optional_at m.optional o m.id (λ s1. read o t s1) z) (λ ps. parts_ok whole ps ≡ true) → Gives (λ z. read_members o cut ms z) (λ ps. parts_ok whole ps ≡ true)
          → cond b (reading [] s1) (optional_at m.optional o m.id (λ s1. read o t s1) s1 >>= λ x. read_members o cut ms x.1 >>= λ xs. reading (x.0 ++ xs.0) xs.1) ≡ reading ps s2 → (small s2.rest ≡ true) × (parts_ok whole ps ≡ true)
      by_end true c more e = let p = ok_parts [] ps s1 s2 e in (ap (λ (z : Spot). small z.rest) (sym p.1) ∙ h, ap (parts_ok whole) (sym p.0))
      by_end false c more e = joined_gives whole (λ z. optional_at m.optional o m.id (λ s1. read o t s1) z) (λ z. read_members o cut ms z) c more s1 s2 ps h e

  named_in : (ms whole : Members) → distinct_members ms ≡ true → sound_members ms ≡ true → members_storable ms ≡ true → member_defaults ms ≡ true → (o : Order) → Among ms whole → KnownOk whole (λ id. read_named o ms id)
  named_in no_members whole d s k l o a id f e s1 s2 x h r = absurd cc
  named_in (member m t ms) whole d s k l o a id f e s1 s2 x h r =
      let n = and_parts (not (has_member ms m.id)) (distinct_members ms) d in
      let p = and_parts (own_default t && defaults_typed t) (member_defaults ms) l in
      let g = and_parts (storable t) (members_storable ms) (right (nat_lt m.id (2 ^ 28 - 1)) (storable t && members_storable ms) k) in
      elim (cases_Bool (m.id == id)) [
        | inl y ↦ (let z : Some (λ q. read o t q) ≡ Some f = ap (λ (c : Bool). cond c (Some (λ q. read o t q)) (read_named o ms id)) (sym y) ∙ e in
            let same : (λ q. read o t q) ≡ f = some_same z in
            let v = read_gives t (left (sound t) (sound_members ms) s) g.0 (right (own_default t) (defaults_typed t) p.0) o s1 s2 x h (ap (λ (g : Spot → Reading Part). g s1) same ∙ r) in
            ap (λ (q : Option Shape). ok_at q x.0) (ap (shape_at whole) (sym (eqb-true m.id id y)) ∙ first_among m t ms whole a) ∙ v.1)
        | inr w ↦ named_in ms whole n.1 (right (sound t) (sound_members ms) s) g.1 p.1 o (rest_among m t ms whole (not-true (has_member ms m.id) n.0) a) id f (ap (λ (c : Bool). cond c (Some (λ q. read o t q)) (read_named o ms id)) (sym w) ∙ e) s1 s2 x h r
      ]

  case_in : (cs whole : Cases) → sound_cases cs ≡ true → cases_storable cs ≡ true → case_defaults cs ≡ true → (o : Order) (i : ℕ) → ((z : Val) → case_type cs i z ≡ true → case_type whole i z ≡ true) → Gives (λ s. read_case o cs i s) (λ b. body_ok whole (Some i) b.0 ≡ true)
  case_in no_cases whole s k l o i g s1 s2 x h e = absurd cc
  case_in (one_case m t cs) whole s k l o i g s1 s2 x h e =
      let p = and_parts (own_default t && defaults_typed t) (case_defaults cs) l in
      let q = and_parts (own_default t) (defaults_typed t) p.0 in
      elim (cases_Bool (m.id == i)) [
        | inl y ↦ (let f : done (λ z. settled_case m t z) (read o t s1) ≡ reading x s2 = ap (λ (c : Bool). cond c (done (λ z. settled_case m t z) (read o t s1)) (read_case o cs i s1)) (sym y) ∙ e in
            done_gives (λ z. settled_case m t z) (λ z. read o t z) (λ z. ok t z.0 ≡ true) (λ b. body_ok whole (Some i) b.0 ≡ true) (read_gives t (left (sound t) (sound_cases cs) s) (left (storable t) (cases_storable cs) k) q.1 o)
            (λ z w. case_ok m.tc t z.0 i whole w q.0 (λ v u. g v (type_here m t cs i v y ∙ u))) s1 s2 x h f)
        | inr n ↦ (let f : read_case o cs i s1 ≡ reading x s2 = ap (λ (c : Bool). cond c (done (λ z. settled_case m t z) (read o t s1)) (read_case o cs i s1)) (sym n) ∙ e in
            case_in cs whole (right (sound t) (sound_cases cs) s) (right (storable t) (cases_storable cs) k) p.1 o i (λ v u. g v (type_later m t cs i v n ∙ u)) s1 s2 x h f)
      ]
