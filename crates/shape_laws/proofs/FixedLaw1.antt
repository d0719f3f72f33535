-- The fixed spelling in XCDR1 is a spelling.
use Rattle.std.proofs.Common.{◌≡◌, ℕ, ◌-◌, ◌^◌, ◌<◌, Bool, true, false, not, ◌&&◌, List, [], length, Some, refl, sym, ap, subst, ◌∙◌, arith, inl, inr, nat_lt, ◌==◌}
use Rattle.std.proofs.lemmas.Bool.{cases_Bool, and_parts, eqb-true, ltb-true}
use Rattle.std.specs.List.{AllByRecursion}
use Rattle.xt_shapes.specs.declared.leaves.Ext.TheVariants.{Final, Appendable, Mutable}
use Rattle.xt_shapes.specs.declared.leaves.Order.{Order}
use Rattle.xt_shapes.specs.Kinds.{is_number}
use Rattle.xt_shapes.specs.Lists.{all}
use Rattle.xt_shapes.specs.Select.{is_literal, select}
use Rattle.xt_shapes.specs.Shape.{Head, Shape, prim, str, enumeration, bitmask, sequence, array, map_of, structure, union, Members, no_members, member, Cases, no_cases, one_case, product}
use Rattle.xt_shapes.specs.Typing.{is_past, is_below, of_prim, is_text_within, of_slot, of_body, has_type, have_types, case_type}
use Rattle.xt_shapes.specs.Vals.{Val, int, Slots, no_slots, one_slot, Slot, absent, present, number_in, octets_in, items_in, entries_in, slots_in, disc_in, body_in, each_val, each_pair}
use Rattle.xcdr_model.specs.FixedSpelling.{Fixed, then_fixed, scalar_fixed, slot_fixed1, if_selected_fixed, param_fixed, end_fixed, fixed1, members_fixed1, params_fixed, case_fixed1}
use Rattle.xcdr_model.specs.Premises.{sound, sound_members, sound_cases, some_member, distinct_members, storable, members_storable, cases_storable}
use Rattle.xcdr_model.specs.Projection.{is_mutable, part_at}
use Rattle.xcdr_model.specs.Spelling.{Then}
use Rattle.xcdr_model.specs.Xcdr1Reading.{is_open}
use Rattle.xcdr_model.specs.Xcdr1Spelling.{slot1, writes1, writes_members1, writes_params, writes_case1}
use Rattle.xcdr_model.specs.Xcdr2Reading.{Piece}
use Rattle.xcdr_model.specs.Xcdr2Spelling.{scalar, if_selected, distinct_ids}
use Rattle.shape_laws.proofs.FixedLaw.{Spells, length_then, then_spells, each_spells, counted_spells, prim_spells, scalar_spells, text_spells, body_spells}
use Rattle.shape_laws.proofs.FixedPieces1.{one_param, param_spells, whole_content, params_of, given, given_back, SlotLaw, Laws, with_end, content_short, distinct_params, sent_fixed1_all, no_others_fixed1}
use Rattle.shape_laws.proofs.Nonempty.{of_left}
use Rattle.shape_laws.proofs.Nonempty1.{nonempty1}
use Rattle.shape_laws.proofs.Rules.{left, right, is_solid}
use Rattle.shape_laws.proofs.Self.{int_is, text_is, list_is, map_is, struct_is, union_is}

param_short : (o : Order) (h : Head) (c : List ℕ) (p : ℕ) → length (param_fixed o h c p) < 2 ^ 32 → length c < 2 ^ 32
param_short o h c p l = omega (arith, content_short o h c p)

slot_spells1 : (opt : Bool) (o : Order) (h : Head) (closed : Bool) (f : Val → Fixed) (P : Val → ℕ → List ℕ → Type 0) (g : Val → Bool) (s : Slot) → h.id < 2 ^ 28 - 1 → of_slot opt g s ≡ true → ((w : Val) → g w ≡ true → Spells (f w) (P w)) → Spells (slot_fixed1 opt o h f s) (slot1 opt o h closed P s)
slot_spells1 false o h closed f P g absent i e a p l = absurd cc
slot_spells1 false o h closed f P g (present w) i e a p l = a w e p l
slot_spells1 true o h closed f P g absent i e a p l = record { piece = one_param o h [] p; id = refl; mark = refl; spelled = param_spells o h [] p i l; content = refl }
slot_spells1 true o h closed f P g (present w) i e a p l = record { piece = one_param o h (f w 0) p; id = refl; mark = refl; spelled = param_spells o h (f w 0) p i l; content = whole_content closed (P w) (f w 0) (a w e 0 (param_short o h (f w 0) p l)) }

slot_law : (o : Order) (t : Shape) (opt : Bool) (s : Slot) → of_slot opt (λ w. has_type t w) s ≡ true → ((w : Val) → has_type t w ≡ true → Spells (fixed1 o t w) (writes1 o t w)) → SlotLaw o t s
slot_law o t opt absent e a = tt
slot_law o t opt (present w) e a = λ l. a w e 0 l

mutual
  unfolding has_type writes1 fixed1

  pub fixed1_spells : (t : Shape) → sound t ≡ true → storable t ≡ true → (o : Order) (v : Val) → has_type t v ≡ true → Spells (fixed1 o t v) (writes1 o t v)
  fixed1_spells (prim q) s k o v h p l =
      let x = int_is v _ h in
      prim_spells 8 o q (number_in v) (ap (λ (z : Val). of_prim q (number_in z)) x.1 ∙ x.2) p l
  fixed1_spells (str bound) s k o v h p l =
      let x = text_is v _ h in
      text_spells o bound (octets_in v) (ap (λ (z : Val). is_text_within bound (octets_in z)) x.1 ∙ x.2) p l
  fixed1_spells (enumeration e bits ls) s k o v h p l =
      let x = int_is v _ h in
      scalar_spells 8 o (enumeration e bits ls) (number_in v) k refl (ap (λ (z : Val). is_literal ls (number_in z)) x.1 ∙ x.2) p l
  fixed1_spells (bitmask bits fs) s k o v h p l =
      let x = int_is v _ h in
      scalar_spells 8 o (bitmask bits fs) (number_in v) k refl (ap (λ (z : Val). is_below (2 ^ bits) (number_in z)) x.1 ∙ x.2) p l
  fixed1_spells (sequence bound tc t) s k o v h p l =
      let x = list_is v _ h in
      let typed : all (λ w. has_type t w) (items_in v) ≡ true = ap (λ (z : Val). all (λ w. has_type t w) (items_in z)) x.1 ∙ right (not (is_past bound (length (each_val x.0)))) (all (λ w. has_type t w) (each_val x.0)) x.2 in
      counted_spells o (λ w. fixed1 o t w) (λ w. writes1 o t w) (λ w. has_type t w) (items_in v) typed (λ w e. fixed1_spells t s k o w e) (λ w q b z. nonempty1 t (is_solid t s) o w q b z) p l
  fixed1_spells (array dims tc t) s k o v h p l =
      let x = list_is v _ h in
      let parts = and_parts (length (each_val x.0) == product dims) (all (λ w. has_type t w) (each_val x.0)) x.2 in
      let typed : all (λ w. has_type t w) (items_in v) ≡ true = ap (λ (z : Val). all (λ w. has_type t w) (items_in z)) x.1 ∙ parts.1 in (
        ap (λ (z : Val). length (items_in z)) x.1 ∙ eqb-true (length (each_val x.0)) (product dims) parts.0,
        each_spells (λ w. fixed1 o t w) (λ w. writes1 o t w) (λ w. has_type t w) (items_in v) typed (λ w e. fixed1_spells t (right (nat_lt 0 (product dims)) (sound t) s) k o w e) p l,
      )
  fixed1_spells (map_of bound kc j vc t) s k o v h p l =
      let x = map_is v _ h in
      let test = λ (e : Val × Val). has_type j e.0 && has_type t e.1 in
      let typed : all test (entries_in v) ≡ true = ap (λ (z : Val). all test (entries_in z)) x.1 ∙ right _ (all test (each_pair x.0)) x.2 in
      let sj = left (sound j) (sound t) s in
      let st = right (sound j) (sound t) s in
      let f = λ (e : Val × Val). then_fixed (fixed1 o j e.0) (fixed1 o t e.1) in
      let P = λ (e : Val × Val). Then (writes1 o j e.0) (writes1 o t e.1) in
      counted_spells o f P test (entries_in v) typed
      (λ w e. then_spells (fixed1 o j w.0) (fixed1 o t w.1) (writes1 o j w.0) (writes1 o t w.1) (fixed1_spells j sj (left (storable j) (storable t) k) o w.0 (left (has_type j w.0) (has_type t w.1) e)) (fixed1_spells t st (right (storable j) (storable t) k) o w.1 (right (has_type j w.0) (has_type t w.1) e)))
      (λ w q b z. of_left (writes1 o j w.0) (writes1 o t w.1) q b z (nonempty1 j (is_solid j sj) o w.0 q z.left z.one)) p l
  fixed1_spells (structure Final ms) s k o v h p l =
      let x = struct_is v _ h in
      let a = right (some_member ms) (distinct_members ms && sound_members ms) s in
      members_spell1 ms (right (distinct_members ms) (sound_members ms) a) k o (slots_in v) (ap (λ (z : Val). have_types ms (slots_in z)) x.1 ∙ x.2) p l
  fixed1_spells (structure Appendable ms) s k o v h p l =
      let x = struct_is v _ h in
      let a = right (some_member ms) (distinct_members ms && sound_members ms) s in
      members_spell1 ms (right (distinct_members ms) (sound_members ms) a) k o (slots_in v) (ap (λ (z : Val). have_types ms (slots_in z)) x.1 ∙ x.2) p l
  fixed1_spells (structure Mutable ms) s k o v h p l =
      let x = struct_is v _ h in
      let ss = slots_in v in
      let a = right (some_member ms) (distinct_members ms && sound_members ms) s in
      let d = left (distinct_members ms) (sound_members ms) a in
      let laws = member_laws1 ms (right (distinct_members ms) (sound_members ms) a) k o ss (ap (λ (z : Val). have_types ms (slots_in z)) x.1 ∙ x.2) in
      let m : length (params_fixed o ms ss p) < 2 ^ 32 = omega (arith, length_then (params_fixed o ms ss) (end_fixed o) p) in
      let ps = params_of o ms ss p in
      let back = sym (given_back ps) in
      record {
        qs = given ps;
        spelled = with_end o ms ss p k m;
        distinct = ap distinct_ids (sym back) ∙ distinct_params o ms ss p d;
        sent_each = subst (λ (z : List Piece). writes_params o ms ss z) back (sent_fixed1_all o ms ss p ps laws m d (λ id z. refl));
        no_others = subst (λ (z : List Piece). AllByRecursion (λ q. (x : Shape × Val) × (part_at ms ss q.id ≡ Some x)) z) back (no_others_fixed1 o ms ss p ms ss d (λ id z. refl));
      }
  fixed1_spells (union e key disc cs) s k o v h p l =
      let x = union_is v _ h in
      let sc = right (sound disc) (sound_cases cs) (right (not (is_mutable e)) (sound disc && sound_cases cs) s) in
      let kd = left (is_number disc && storable disc) (cases_storable cs) k in
      let kc = right (is_number disc && storable disc) (cases_storable cs) k in
      let d = disc_in v in
      let b = body_in v in
      let q = and_parts (has_type disc (int d)) (of_body (select cs d) (λ i w. case_type cs i w) b) (ap (λ (z : Val). has_type disc (int (disc_in z)) && of_body (select cs (disc_in z)) (λ i w. case_type cs i w) (body_in z)) x.2 ∙ x.3) in
      then_spells (scalar_fixed 8 o disc d) (if_selected_fixed (select cs d) (λ i. case_fixed1 o cs i b)) (scalar 8 o disc d) (if_selected (select cs d) (λ i. writes_case1 o cs i b))
      (scalar_spells 8 o disc d (right (is_number disc) (storable disc) kd) (left (is_number disc) (storable disc) kd) q.0)
      (body_spells (λ i z. case_fixed1 o cs i z) (λ i z. writes_case1 o cs i z) (λ i w. case_type cs i w) (select cs d) b q.1 (λ j w e. case_spells1 cs sc kc o j w e)) p l

  members_spell1 : (ms : Members) → sound_members ms ≡ true → members_storable ms ≡ true → (o : Order) (ss : Slots) → have_types ms ss ≡ true → Spells (members_fixed1 o ms ss) (writes_members1 o ms ss)
  members_spell1 no_members s k o ss h p l = refl
  members_spell1 (member a t ms) s k o no_slots h p l = absurd cc
  members_spell1 (member a t ms) s k o (one_slot b ss) h p l =
      let q = and_parts (of_slot a.optional (λ w. has_type t w) b) (have_types ms ss) h in
      let i = ltb-true a.id (2 ^ 28 - 1) (left (nat_lt a.id (2 ^ 28 - 1)) (storable t && members_storable ms) k) in
      let k2 = right (nat_lt a.id (2 ^ 28 - 1)) (storable t && members_storable ms) k in
      then_spells (slot_fixed1 a.optional o a (λ w. fixed1 o t w) b) (members_fixed1 o ms ss) (slot1 a.optional o a (not (is_open t)) (λ w. writes1 o t w) b) (writes_members1 o ms ss)
      (slot_spells1 a.optional o a (not (is_open t)) (λ w. fixed1 o t w) (λ w. writes1 o t w) (λ w. has_type t w) b i q.0 (λ w e. fixed1_spells t (left (sound t) (sound_members ms) s) (left (storable t) (members_storable ms) k2) o w e))
      (members_spell1 ms (right (sound t) (sound_members ms) s) (right (storable t) (members_storable ms) k2) o ss q.1) p l

  member_laws1 : (ms : Members) → sound_members ms ≡ true → members_storable ms ≡ true → (o : Order) (ss : Slots) → have_types ms ss ≡ true → Laws o ms ss
  member_laws1 no_members s k o ss h = tt
  member_laws1 (member a t ms) s k o no_slots h = absurd cc
  member_laws1 (member a t ms) s k o (one_slot b ss) h =
      let q = and_parts (of_slot a.optional (λ w. has_type t w) b) (have_types ms ss) h in
      let k2 = right (nat_lt a.id (2 ^ 28 - 1)) (storable t && members_storable ms) k in (
        slot_law o t a.optional b q.0 (λ w e. fixed1_spells t (left (sound t) (sound_members ms) s) (left (storable t) (members_storable ms) k2) o w e),
        member_laws1 ms (right (sound t) (sound_members ms) s) (right (storable t) (members_storable ms) k2) o ss q.1,
      )

  case_spells1 : (cs : Cases) → sound_cases cs ≡ true → cases_storable cs ≡ true → (o : Order) (i : ℕ) (w : Val) → case_type cs i w ≡ true → Spells (case_fixed1 o cs i (present w)) (writes_case1 o cs i (present w))
  case_spells1 no_cases s k o i w e p l = absurd cc
  case_spells1 (one_case a t cs) s k o i w e p l = elim (cases_Bool (a.id == i)) [
    | inl y ↦ rw y (fixed1_spells t (left (sound t) (sound_cases cs) s) (left (storable t) (cases_storable cs) k) o w (rw y at e) p (rw y at l))
    | inr n ↦ rw n (case_spells1 cs (right (sound t) (sound_cases cs) s) (right (storable t) (cases_storable cs) k) o i w (rw n at e) p (rw n at l))
  ]
