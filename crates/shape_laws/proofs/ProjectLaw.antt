-- A typed value's projection onto an agreeing type is typed: the induction.
use Rattle.std.proofs.Common.{◌≡◌, ℕ, ◌^◌, nat_lt, Bool, true, false, cond, not, ◌&&◌, length, map, Some, sym, ap, ap₂, ◌∙◌, inl, inr, ◌==◌}
use Rattle.std.proofs.lemmas.Bool.{cases_Bool, and_parts, and_from, eqb-true}
use Rattle.xt_shapes.specs.declared.leaves.Ext.TheVariants.{Final, Appendable, Mutable}
use Rattle.xt_shapes.specs.Lists.{all}
use Rattle.xt_shapes.specs.Select.{is_literal, shape_at}
use Rattle.xt_shapes.specs.Shape.{Head, Shape, prim, enumeration, Members, member, product}
use Rattle.xt_shapes.specs.Typing.{is_past, repeats, is_text_within, is_below, of_prim, has_type, have_types}
use Rattle.xt_shapes.specs.Vals.{Val, each_val, each_pair, number_in, octets_in, items_in, entries_in, slots_in}
use Rattle.xcdr_model.specs.Premises.{sound, sound_members, sound_cases, some_member, distinct_members, own_default, defaults_typed, member_defaults}
use Rattle.xcdr_model.specs.Projection.{Part, built_list, projected}
use Rattle.shape_laws.proofs.Agreement.{Agree, same_prim, both_str, same_bits, same_mask, both_sequence, same_dims, both_map, both_final, both_appendable, both_mutable, final_union, appendable_union, AllInOrder, none_left, next_of_all, FrontInOrder, reader_ends, writer_ends, next_of_both}
use Rattle.shape_laws.proofs.GatherTyped.{ok, sequence_ok, array_ok, map_ok}
use Rattle.shape_laws.proofs.Law.{pair_of, same_prim_built}
use Rattle.shape_laws.proofs.ProjectTyped.{Pairs, whole_ok, number_ok, text_ok, each_ok, each_ok2, length_parts, case_default, member_default, union_typed}
use Rattle.shape_laws.proofs.Rules.{left, right, sound_at, sound_case}
use Rattle.shape_laws.proofs.Self.{int_is, text_is, list_is, map_is, struct_is}

one_shape : (h h2 : Head) (t t2 : Shape) (ms ns : Members) (id : ℕ) (x y : Shape) → h.id ≡ h2.id → shape_at (member h t ms) id ≡ Some x → shape_at (member h2 t2 ns) id ≡ Some y → (h.id == id) ≡ true → (t ≡ x) × (t2 ≡ y)
one_shape h h2 t t2 ms ns id x y e f g z =
    let z2 : (h2.id == id) ≡ true = ap (λ (n : ℕ). n == id) (sym e) ∙ z in
    let a : Some t ≡ Some x = ap (λ (c : Bool). cond c (Some t) (shape_at ms id)) (sym z) ∙ f in
    let b : Some t2 ≡ Some y = ap (λ (c : Bool). cond c (Some t2) (shape_at ns id)) (sym z2) ∙ g in
    let p : t ≡ x = cc in
    let q : t2 ≡ y = cc in
    (p, q)

later_shapes : (h h2 : Head) (t t2 : Shape) (ms ns : Members) (id : ℕ) (x y : Shape) → h.id ≡ h2.id → shape_at (member h t ms) id ≡ Some x → shape_at (member h2 t2 ns) id ≡ Some y → (h.id == id) ≡ false → (shape_at ms id ≡ Some x) × (shape_at ns id ≡ Some y)
later_shapes h h2 t t2 ms ns id x y e f g z =
    let z2 : (h2.id == id) ≡ false = ap (λ (n : ℕ). n == id) (sym e) ∙ z in
    (ap (λ (c : Bool). cond c (Some t) (shape_at ms id)) (sym z) ∙ f, ap (λ (c : Bool). cond c (Some t2) (shape_at ns id)) (sym z2) ∙ g)

abbrev Keeps : Shape → Shape → Type 0
Keeps t u = sound t ≡ true → defaults_typed t ≡ true → (w : Val) → has_type u w ≡ true → ok t (projected t u w).0 ≡ true

mutual
  unfolding has_type projected

  pub keeps : {t u : Shape} → Agree t u → Keeps t u
  keeps (same_prim p) s k v h = let x = int_is v _ h in ap (ok (prim p)) (ap (λ (z : Part). z.0) (sym (same_prim_built p v))) ∙ (ap (λ (z : Val). of_prim p (number_in z)) x.1 ∙ x.2)
  keeps (both_str a b) s k v h = let x = text_is v (is_text_within b) h in text_ok a b (octets_in v) (ap (λ (z : Val). is_text_within b (octets_in z)) x.1 ∙ x.2)
  keeps (same_bits e e2 bits ls ls2) s k v h = number_ok (enumeration e bits ls) (is_literal ls (number_in v)) (number_in v) (λ z. z)
  keeps (same_mask bits fs fs2) s k v h = let x = int_is v _ h in ap (λ (z : Val). is_below (2 ^ bits) (number_in z)) x.1 ∙ x.2
  keeps (both_sequence a b ca cb t t2 g) s k v h =
      let x = list_is v (λ xs. not (is_past b (length xs)) && all (λ w. has_type t2 w) xs) h in
      let typed : all (λ w. has_type t2 w) (items_in v) ≡ true = ap (λ (z : Val). all (λ w. has_type t2 w) (items_in z)) x.1 ∙ right (not (is_past b (length (each_val x.0)))) (all (λ w. has_type t2 w) (each_val x.0)) x.2 in
      sequence_ok a ca t (built_list (map (λ w. projected t t2 w) (items_in v))) (each_ok t (λ w. projected t t2 w) (λ w. has_type t2 w) (items_in v) typed (λ w e. keeps g s (right (own_default t) (defaults_typed t) k) w e)) (left (own_default t) (defaults_typed t) k)
  keeps (same_dims dims ca cb t t2 g) s k v h =
      let x = list_is v (λ xs. (length xs == product dims) && all (λ w. has_type t2 w) xs) h in
      let p = and_parts (length (each_val x.0) == product dims) (all (λ w. has_type t2 w) (each_val x.0)) x.2 in
      let typed : all (λ w. has_type t2 w) (items_in v) ≡ true = ap (λ (z : Val). all (λ w. has_type t2 w) (items_in z)) x.1 ∙ p.1 in
      array_ok dims ca t (built_list (map (λ w. projected t t2 w) (items_in v))) (each_ok t (λ w. projected t t2 w) (λ w. has_type t2 w) (items_in v) typed (λ w e. keeps g (right (nat_lt 0 (product dims)) (sound t) s) (right (own_default t) (defaults_typed t) k) w e)) (left (own_default t) (defaults_typed t) k)
      (length_parts (λ w. projected t t2 w) (items_in v) ∙ ap (λ (z : Val). length (items_in z)) x.1 ∙ eqb-true (length (each_val x.0)) (product dims) p.0)
  keeps (both_map a b ca cb da db j j2 t t2 gj g) s k v h =
      let x = map_is v (λ xs. (not (is_past b (length xs)) && not (repeats xs)) && all (λ e. has_type j2 e.0 && has_type t2 e.1) xs) h in
      let test = λ (e : Val × Val). has_type j2 e.0 && has_type t2 e.1 in
      let typed : all test (entries_in v) ≡ true = ap (λ (z : Val). all test (entries_in z)) x.1 ∙ right (not (is_past b (length (each_pair x.0))) && not (repeats (each_pair x.0))) (all test (each_pair x.0)) x.2 in
      let kj = left (own_default j && defaults_typed j) (own_default t && defaults_typed t) k in
      let kt = right (own_default j && defaults_typed j) (own_default t && defaults_typed t) k in
      map_ok a ca j da t (map (λ x. (x.0.0, x.1.0)) (map (λ w. pair_of (projected j j2 w.0) (projected t t2 w.1)) (entries_in v)))
      (each_ok2 j t (λ w. pair_of (projected j j2 w.0) (projected t t2 w.1)) test (entries_in v) typed
      (λ w e. and_from (ok j (projected j j2 w.0).0) (ok t (projected t t2 w.1).0) (keeps gj (left (sound j) (sound t) s) (right (own_default j) (defaults_typed j) kj) w.0 (left (has_type j2 w.0) (has_type t2 w.1) e)) (keeps g (right (sound j) (sound t) s) (right (own_default t) (defaults_typed t) kt) w.1 (right (has_type j2 w.0) (has_type t2 w.1) e))))
      (left (own_default j) (defaults_typed j) kj) (left (own_default t) (defaults_typed t) kt)
  keeps (both_final ms ns g) s k v h =
      let x = struct_is v (λ ss. have_types ns ss) h in
      let d = and_parts (distinct_members ms) (sound_members ms) (right (some_member ms) (distinct_members ms && sound_members ms) s) in
      whole_ok Final ms ns (slots_in v) d.0 k (ap (λ (z : Val). have_types ns (slots_in z)) x.1 ∙ x.2) (keeps_all g d.1 k)
  keeps (both_appendable ms ns g) s k v h =
      let x = struct_is v (λ ss. have_types ns ss) h in
      let d = and_parts (distinct_members ms) (sound_members ms) (right (some_member ms) (distinct_members ms && sound_members ms) s) in
      whole_ok Appendable ms ns (slots_in v) d.0 k (ap (λ (z : Val). have_types ns (slots_in z)) x.1 ∙ x.2) (keeps_front g d.1 k)
  keeps (both_mutable ms ns apart g) s k v h =
      let x = struct_is v (λ ss. have_types ns ss) h in
      let d = and_parts (distinct_members ms) (sound_members ms) (right (some_member ms) (distinct_members ms && sound_members ms) s) in
      whole_ok Mutable ms ns (slots_in v) d.0 k (ap (λ (z : Val). have_types ns (slots_in z)) x.1 ∙ x.2) (λ id t u w e f z. keeps (g id t u e f) (sound_at ms id t d.1 e) (member_default ms id t k e).1 w z)
  keeps (final_union y y2 disc disc2 cs cs2 gd sides g) s k v h =
      let c = right (sound disc) (sound_cases cs) s in
      union_typed Final Final y y2 disc disc2 cs cs2 v gd k (λ d i j t u w a b e f z. keeps (g d i j t u a b e f) (sound_case cs i t c e) (case_default cs i t k e).1 w z) h
  keeps (appendable_union y y2 disc disc2 cs cs2 fill gd g) s k v h =
      let c = right (sound disc) (sound_cases cs) s in
      union_typed Appendable Appendable y y2 disc disc2 cs cs2 v gd k (λ d i j t u w a b e f z. keeps (g d i j t u a b e f) (sound_case cs i t c e) (case_default cs i t k e).1 w z) h

  keeps_all : {ms ns : Members} → AllInOrder ms ns → sound_members ms ≡ true → member_defaults ms ≡ true → Pairs ms ns
  keeps_all none_left s k id x y w f g z = absurd cc
  keeps_all (next_of_all h h2 t t2 ms ns e d out g gs) s k id x y w f i z =
      let p = and_parts (sound t) (sound_members ms) s in
      let q = and_parts (own_default t && defaults_typed t) (member_defaults ms) k in
      elim (cases_Bool (h.id == id)) [
        | inl m ↦ (let o = one_shape h h2 t t2 ms ns id x y e f i m in
            ap₂ (λ (a b : Shape). ok a (projected a b w).0) (sym o.0) (sym o.1) ∙ keeps g p.0 (right (own_default t) (defaults_typed t) q.0) w (ap (λ (a : Shape). has_type a w) o.1 ∙ z))
        | inr m ↦ (let o = later_shapes h h2 t t2 ms ns id x y e f i m in keeps_all gs p.1 q.1 id x y w o.0 o.1 z)
      ]

  keeps_front : {ms ns : Members} → FrontInOrder ms ns → sound_members ms ≡ true → member_defaults ms ≡ true → Pairs ms ns
  keeps_front (reader_ends ns) s k id x y w f g z = absurd cc
  keeps_front (writer_ends h t ms) s k id x y w f g z = absurd cc
  keeps_front (next_of_both h h2 t t2 ms ns e d out full g gs) s k id x y w f i z =
      let p = and_parts (sound t) (sound_members ms) s in
      let q = and_parts (own_default t && defaults_typed t) (member_defaults ms) k in
      elim (cases_Bool (h.id == id)) [
        | inl m ↦ (let o = one_shape h h2 t t2 ms ns id x y e f i m in
            ap₂ (λ (a b : Shape). ok a (projected a b w).0) (sym o.0) (sym o.1) ∙ keeps g p.0 (right (own_default t) (defaults_typed t) q.0) w (ap (λ (a : Shape). has_type a w) o.1 ∙ z))
        | inr m ↦ (let o = later_shapes h h2 t t2 ms ns id x y e f i m in keeps_front gs p.1 q.1 id x y w o.0 o.1 z)
      ]
