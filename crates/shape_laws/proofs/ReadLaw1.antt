-- What is read in XCDR1 has its type.
use Rattle.std.proofs.Common.{◌≡◌, ℕ, ◌+◌, ◌-◌, ◌^◌, ℤ, Bool, true, false, cond, not, ◌&&◌, [], ◌++◌, map, length, Option, Some, None, refl, sym, ap, ◌∙◌, inl, inr, nat_lt, ◌==◌}
use Rattle.std.proofs.lemmas.Bool.{cases_Bool, and_parts, eqb-true, not-true}
use Rattle.xt_shapes.specs.declared.leaves.Ext.{Ext}
use Rattle.xt_shapes.specs.declared.leaves.Ext.TheVariants.{Final, Appendable, Mutable}
use Rattle.xt_shapes.specs.declared.leaves.Order.{Order}
use Rattle.xt_shapes.specs.Defaults.{default_of}
use Rattle.xt_shapes.specs.Kinds.{is_number}
use Rattle.xt_shapes.specs.Lists.{all}
use Rattle.xt_shapes.specs.Select.{is_literal, select, has_member, shape_at}
use Rattle.xt_shapes.specs.Shape.{Shape, prim, str, enumeration, bitmask, sequence, array, map_of, structure, union, Members, no_members, member, Cases, no_cases, one_case, product}
use Rattle.xt_shapes.specs.Typing.{has_type, case_type}
use Rattle.xt_shapes.specs.Vals.{Val, int}
use Rattle.xcdr_model.specs.Premises.{sound, sound_members, sound_cases, some_member, distinct_members, storable, members_storable, cases_storable, own_default, defaults_typed, member_defaults, case_defaults}
use Rattle.xcdr_model.specs.Projection.{got, failed, Part, gather_text, built_list, whole_items, whole_entries, whole_structure, built_at, Body, no_body, one_sided, settled_case, whole_union, disc_built, is_mutable}
use Rattle.xcdr_model.specs.Reading.{Spot, Reading, ◌>>=◌, each_at}
use Rattle.xcdr_model.specs.Xcdr1Reading.{is_open, content_read, params_read, optional1_at, rest_selected1, case_read, is_appendable, passed, read1, read_members1, read_named1, read_case1}
use Rattle.xcdr_model.specs.Xcdr2Reading.{done, scalar_at, text_at, counted_at}
use Rattle.shape_laws.proofs.Costs.{reading, bind_ok, ok_parts}
use Rattle.shape_laws.proofs.GatherTyped.{ok, sequence_ok, array_ok, map_ok, structure_ok, body_ok, union_ok, case_ok}
use Rattle.shape_laws.proofs.Gives.{small, Gives, scalar_gives, prim_gives, mask_gives, text_gives, done_gives, each_gives, counted_gives}
use Rattle.shape_laws.proofs.NodesSteps.{Among, first_among, rest_among, pair_reading, some_same}
use Rattle.shape_laws.proofs.ProjectTyped.{number_ok}
use Rattle.shape_laws.proofs.ReadLaw.{is_ok, are_ok, all_built, all_built2, length_built, entry_gives, text_read}
use Rattle.shape_laws.proofs.ReadParams.{content_gives, optional1_gives, params_read_gives}
use Rattle.shape_laws.proofs.ReadParts.{ok_at, parts_ok, parts_gather, joined_gives, KnownOk, disc_typed, type_here, type_later, selected_gives}
use Rattle.shape_laws.proofs.Rules.{left, right}

passed_gives : (t : Shape) (tail : Bool) (x : Part × Spot) (y : Part) (s2 : Spot) → small x.1.rest ≡ true → ok t x.0.0 ≡ true → passed tail x ≡ reading y s2 → (small s2.rest ≡ true) × (ok t y.0 ≡ true)
passed_gives t true x y s2 h k e = let p = ok_parts x.0 y (record { at = x.1.at + length x.1.rest; rest = [] }) s2 e in (ap (λ (z : Spot). small z.rest) (sym p.1), ap (λ (z : Part). ok t z.0) (sym p.0) ∙ k)
passed_gives t false x y s2 h k e = let p = ok_parts x.0 y x.1 s2 e in (ap (λ (z : Spot). small z.rest) (sym p.1) ∙ h, ap (λ (z : Part). ok t z.0) (sym p.0) ∙ k)

rest1_gives : (cs : Cases) (i : Option ℕ) (f : ℕ → Spot → Reading (Body × Bool)) → ((j : ℕ) → i ≡ Some j → Gives (f j) (λ b. body_ok cs (Some j) b.0 ≡ true)) → Gives (rest_selected1 i f) (λ b. body_ok cs i b.0 ≡ true)
rest1_gives cs None f c s s2 x h e = let p = ok_parts {A = Body × Bool} (cond (length s.rest == 0) no_body one_sided, false) x (record { at = s.at + length s.rest; rest = [] }) s2 e in (ap (λ (z : Spot). small z.rest) (sym p.1), ap (λ (z : Body × Bool). body_ok cs None z.0) (sym p.0) ∙ none_in (length s.rest == 0))
  where
    none_in : (c : Bool) → body_ok cs None (cond c no_body one_sided) ≡ true
    none_in true = refl
    none_in false = refl
rest1_gives cs (Some i) f c s s2 x h e = by_end (length s.rest == 0) e
  where
    by_end : (b : Bool) → cond b (reading {A = Body × Bool} (one_sided, false) s) (f i s) ≡ reading x s2 → (small s2.rest ≡ true) × (body_ok cs (Some i) x.0 ≡ true)
    by_end true e = let p = ok_parts {A = Body × Bool} (one_sided, false) x s s2 e in (ap (λ (z : Spot). small z.rest) (sym p.1) ∙ h, ap (λ (z : Body × Bool). body_ok cs (Some i) z.0) (sym p.0))
    by_end false e = c i refl s s2 x h e

case_gives : (b : Bool) (cs : Cases) (i : Option ℕ) (f : ℕ → Spot → Reading (Body × Bool)) → ((j : ℕ) → i ≡ Some j → Gives (f j) (λ b. body_ok cs (Some j) b.0 ≡ true)) → Gives (case_read b i f) (λ b. body_ok cs i b.0 ≡ true)
case_gives true cs i f c s s2 x h e = rest1_gives cs i f c s s2 x h e
case_gives false cs i f c s s2 x h e = selected_gives cs i f c s s2 x h e

union1_gives : (o : Order) (e : Ext) (key : Bool) (disc : Shape) (cs : Cases) (f : ℤ → Spot → Reading (Body × Bool)) → is_number disc ≡ true → ((d : ℤ) → Gives (f d) (λ b. body_ok cs (select cs d) b.0 ≡ true)) → Gives (λ s. scalar_at 8 o disc s >>= λ d. done (λ b. whole_union (disc_built disc d.0) d.0 b) (f d.0 d.1)) (λ x. ok (union e key disc cs) x.0 ≡ true)
union1_gives o e key disc cs f n c s s2 x h r =
    let b = bind_ok (scalar_at 8 o disc s) (λ d. done (λ b. whole_union (disc_built disc d.0) d.0 b) (f d.0 d.1)) (x, s2) r in
    let k = disc_typed 8 o disc n s b.0.1 b.0.0 h b.1 in
    done_gives (λ y. whole_union (disc_built disc b.0.0) b.0.0 y) (f b.0.0) (λ y. body_ok cs (select cs b.0.0) y.0 ≡ true) (λ y. ok (union e key disc cs) y.0 ≡ true) (c b.0.0) (λ y z. union_ok e key disc cs (disc_built disc b.0.0) b.0.0 y.0 k.1 z) b.0.1 s2 x k.0 b.2

mutual
  unfolding read1 has_type

  pub read1_gives : (t : Shape) → sound t ≡ true → storable t ≡ true → defaults_typed t ≡ true → (o : Order) (tail : Bool) → Gives (read1 tail o t) (λ x. ok t x.0 ≡ true)
  read1_gives (prim p) s k l o tail q1 q2 qx qh qe = done_gives (λ i. (got (int i), false)) (scalar_at 8 o (prim p)) _ (λ x. ok (prim p) x.0 ≡ true) (prim_gives 8 o p) (λ i h. h) q1 q2 qx qh qe
  read1_gives (enumeration e bits ls) s k l o tail q1 q2 qx qh qe = done_gives (λ i. (cond (is_literal ls i) (got (int i)) failed, false)) (scalar_at 8 o (enumeration e bits ls)) (λ i. Unit {0}) (λ x. ok (enumeration e bits ls) x.0 ≡ true) (scalar_gives 8 o (enumeration e bits ls)) (λ i h. number_ok (enumeration e bits ls) (is_literal ls i) i (λ z. z)) q1 q2 qx qh qe
  read1_gives (bitmask bits fs) s k l o tail q1 q2 qx qh qe = done_gives (λ i. (got (int i), false)) (scalar_at 8 o (bitmask bits fs)) _ (λ x. ok (bitmask bits fs) x.0 ≡ true) (mask_gives 8 o bits fs) (λ i h. h) q1 q2 qx qh qe
  read1_gives (str bound) s k l o tail q1 q2 qx qh qe = done_gives (λ t. (gather_text bound t, false)) (text_at o) _ (λ x. ok (str bound) x.0 ≡ true) (text_gives o) (λ t h. text_read bound t h) q1 q2 qx qh qe
  read1_gives (sequence bound tc t) s k l o tail q1 q2 qx qh qe =
      let p = and_parts (own_default t) (defaults_typed t) l in
      done_gives (whole_items bound tc (default_of t)) (counted_at o (λ s1. read1 false o t s1)) (λ xs. all (is_ok t) xs ≡ true) (λ x. ok (sequence bound tc t) x.0 ≡ true)
      (counted_gives o (λ s1. read1 false o t s1) (is_ok t) (read1_gives t s k p.1 o false))
      (λ xs h. sequence_ok bound tc t (built_list xs) (sym (all_built t xs) ∙ h) p.0) q1 q2 qx qh qe
  read1_gives (array dims tc t) s k l o tail q1 q2 qx qh qe =
      let p = and_parts (own_default t) (defaults_typed t) l in
      done_gives (whole_items 0 tc (default_of t)) (each_at (product dims) (λ s1. read1 false o t s1)) (λ xs. (all (is_ok t) xs ≡ true) × (length xs ≡ product dims)) (λ x. ok (array dims tc t) x.0 ≡ true)
      (each_gives (λ s1. read1 false o t s1) (is_ok t) (read1_gives t (right (nat_lt 0 (product dims)) (sound t) s) k p.1 o false) (product dims))
      (λ xs h. array_ok dims tc t (built_list xs) (sym (all_built t xs) ∙ h.0) p.0 (length_built xs ∙ h.1)) q1 q2 qx qh qe
  read1_gives (map_of bound kc j vc t) s k l o tail q1 q2 qx qh qe =
      let lj = and_parts (own_default j) (defaults_typed j) (left (own_default j && defaults_typed j) (own_default t && defaults_typed t) l) in
      let lt = and_parts (own_default t) (defaults_typed t) (right (own_default j && defaults_typed j) (own_default t && defaults_typed t) l) in
      let f = pair_reading (λ s1. read1 false o j s1) (λ s1. read1 false o t s1) in
      done_gives (whole_entries bound kc (default_of j) vc (default_of t)) (counted_at o f) (λ xs. all (are_ok j t) xs ≡ true) (λ x. ok (map_of bound kc j vc t) x.0 ≡ true)
      (counted_gives o f (are_ok j t) (entry_gives j t (λ s1. read1 false o j s1) (λ s1. read1 false o t s1) (read1_gives j (left (sound j) (sound t) s) (left (storable j) (storable t) k) lj.1 o false) (read1_gives t (right (sound j) (sound t) s) (right (storable j) (storable t) k) lt.1 o false)))
      (λ xs h. map_ok bound kc j vc t (map (λ x. (x.0.0, x.1.0)) xs) (sym (all_built2 j t xs) ∙ h) lj.0 lt.0) q1 q2 qx qh qe
  read1_gives (structure Final ms) s k l o tail q1 q2 qx qh qe =
      let d = and_parts (distinct_members ms) (sound_members ms) (right (some_member ms) (distinct_members ms && sound_members ms) s) in
      done_gives (λ ps. whole_structure ms ps false) (λ s1. read_members1 o false ms s1) (λ ps. parts_ok ms ps ≡ true) (λ x. ok (structure Final ms) x.0 ≡ true) (members_in ms ms d.0 d.1 k l o false (λ id t e. e))
      (λ ps h. structure_ok Final ms (built_at ps) l (parts_gather ms ms ps d.0 h (λ id t e. e))) q1 q2 qx qh qe
  read1_gives (structure Appendable ms) s k l o tail q1 q2 qx qh qe =
      let d = and_parts (distinct_members ms) (sound_members ms) (right (some_member ms) (distinct_members ms && sound_members ms) s) in
      let b = bind_ok (done (λ ps. whole_structure ms ps false) (read_members1 o tail ms q1)) (λ z. passed tail z) (qx, q2) qe in
      let m = done_gives (λ ps. whole_structure ms ps false) (λ s1. read_members1 o tail ms s1) (λ ps. parts_ok ms ps ≡ true) (λ x. ok (structure Appendable ms) x.0 ≡ true) (members_in ms ms d.0 d.1 k l o tail (λ id t e. e))
      (λ ps h. structure_ok Appendable ms (built_at ps) l (parts_gather ms ms ps d.0 h (λ id t e. e))) q1 b.0.1 b.0.0 qh b.1 in
      passed_gives (structure Appendable ms) tail b.0 qx q2 m.0 m.1 b.2
  read1_gives (structure Mutable ms) s k l o tail q1 q2 qx qh qe =
      let d = and_parts (distinct_members ms) (sound_members ms) (right (some_member ms) (distinct_members ms && sound_members ms) s) in
      let known = λ (id : ℕ). read_named1 o ms id in
      done_gives (λ r. whole_structure ms r.0 r.1) (params_read o known) (λ r. parts_ok ms r.0 ≡ true) (λ x. ok (structure Mutable ms) x.0 ≡ true) (params_read_gives o ms known (λ id f z a b x h e. named_in ms ms d.0 d.1 k l o (λ id t e. e) id f z a b x h e))
      (λ r h. structure_ok Mutable ms (built_at r.0) l (parts_gather ms ms r.0 d.0 h (λ id t e. e))) q1 q2 qx qh qe
  read1_gives (union e key disc cs) s k l o tail q1 q2 qx qh qe =
      let c = right (sound disc) (sound_cases cs) (right (not (is_mutable e)) (sound disc && sound_cases cs) s) in
      let kd = left (is_number disc && storable disc) (cases_storable cs) k in
      let kc = right (is_number disc && storable disc) (cases_storable cs) k in
      union1_gives o e key disc cs (λ d z. case_read (tail && is_appendable e) (select cs d) (λ i s1. read_case1 tail o cs i s1) z) (left (is_number disc) (storable disc) kd)
      (λ d. case_gives (tail && is_appendable e) cs (select cs d) (λ i s1. read_case1 tail o cs i s1) (λ j x. case_in cs cs c kc l o tail j (λ z h. h))) q1 q2 qx qh qe

  members_in : (ms whole : Members) → distinct_members ms ≡ true → sound_members ms ≡ true → members_storable ms ≡ true → member_defaults ms ≡ true → (o : Order) (cut : Bool) → Among ms whole → Gives (λ s. read_members1 o cut ms s) (λ ps. parts_ok whole ps ≡ true)
  members_in no_members whole d s k l o cut a s1 s2 ps h e = let p = ok_parts [] ps s1 s2 e in (ap (λ (z : Spot). small z.rest) (sym p.1) ∙ h, ap (parts_ok whole) (sym p.0))
  members_in (member m t ms) whole d s k l o cut a s1 s2 ps h e =
      let n = and_parts (not (has_member ms m.id)) (distinct_members ms) d in
      let p = and_parts (own_default t && defaults_typed t) (member_defaults ms) l in
      let r = and_parts (storable t) (members_storable ms) (right (nat_lt m.id (2 ^ 28 - 1)) (storable t && members_storable ms) k) in
      let g = λ (w : Bool). read1_gives t (left (sound t) (sound_members ms) s) r.0 (right (own_default t) (defaults_typed t) p.0) o w in
      let c = optional1_gives m.optional o whole m.id t (not (is_open t)) (λ z. read1 false o t z) (λ z. read1 true o t z) (first_among m t ms whole a) (g false) (g true) in
      let more = members_in ms whole n.1 (right (sound t) (sound_members ms) s) r.1 p.1 o cut (rest_among m t ms whole (not-true (has_member ms m.id) n.0) a) in
      by_end (cut && (length s1.rest == 0)) c more e
    where
      by_end : (b : Bool) → Gives (λ z. optional1_at m.optional o m.id (λ y. read1 false o t y) (content_read (not (is_open t)) (λ y. read1 true o t y)) z) (λ ps. parts_ok whole ps ≡ true) → Gives (λ z. read_members1 o cut ms z) (λ ps. parts_ok whole ps ≡ true)
          → cond b (reading [] s1) (optional1_at m.optional o m.id (λ y. read1 false o t y) (content_read (not (is_open t)) (λ y. read1 true o t y)) s1 >>= λ x. read_members1 o cut ms x.1 >>= λ xs. reading (x.0 ++ xs.0) xs.1) ≡ reading ps s2 → (small s2.rest ≡ true) × (parts_ok whole ps ≡ true)
      by_end true c more e = let p = ok_parts [] ps s1 s2 e in (ap (λ (z : Spot). small z.rest) (sym p.1) ∙ h, ap (parts_ok whole) (sym p.0))
      by_end false c more e = joined_gives whole (λ z. optional1_at m.optional o m.id (λ y. read1 false o t y) (content_read (not (is_open t)) (λ y. read1 true o t y)) z) (λ z. read_members1 o cut ms z) c more s1 s2 ps h e

  named_in : (ms whole : Members) → distinct_members ms ≡ true → sound_members ms ≡ true → members_storable ms ≡ true → member_defaults ms ≡ true → (o : Order) → Among ms whole → KnownOk whole (λ id. read_named1 o ms id)
  named_in no_members whole d s k l o a id f e s1 s2 x h r = absurd cc
  named_in (member m t ms) whole d s k l o a id f e s1 s2 x h r =
      let n = and_parts (not (has_member ms m.id)) (distinct_members ms) d in
      let p = and_parts (own_default t && defaults_typed t) (member_defaults ms) l in
      let g = and_parts (storable t) (members_storable ms) (right (nat_lt m.id (2 ^ 28 - 1)) (storable t && members_storable ms) k) in
      let own = content_read (not (is_open t)) (λ q. read1 true o t q) in
      elim (cases_Bool (m.id == id)) [
        | inl y ↦ (let z : Some own ≡ Some f = ap (λ (c : Bool). cond c (Some own) (read_named1 o ms id)) (sym y) ∙ e in
            let same : own ≡ f = some_same z in
            let v = content_gives (not (is_open t)) t (λ q. read1 true o t q) (read1_gives t (left (sound t) (sound_members ms) s) g.0 (right (own_default t) (defaults_typed t) p.0) o true) s1 s2 x h (ap (λ (g : Spot → Reading Part). g s1) same ∙ r) in
            ap (λ (q : Option Shape). ok_at q x.0) (ap (shape_at whole) (sym (eqb-true m.id id y)) ∙ first_among m t ms whole a) ∙ v)
        | inr w ↦ named_in ms whole n.1 (right (sound t) (sound_members ms) s) g.1 p.1 o (rest_among m t ms whole (not-true (has_member ms m.id) n.0) a) id f (ap (λ (c : Bool). cond c (Some own) (read_named1 o ms id)) (sym w) ∙ e) s1 s2 x h r
      ]

  case_in : (cs whole : Cases) → sound_cases cs ≡ true → cases_storable cs ≡ true → case_defaults cs ≡ true → (o : Order) (tail : Bool) (i : ℕ) → ((z : Val) → case_type cs i z ≡ true → case_type whole i z ≡ true) → Gives (λ s. read_case1 tail o cs i s) (λ b. body_ok whole (Some i) b.0 ≡ true)
  case_in no_cases whole s k l o tail i g s1 s2 x h e = absurd cc
  case_in (one_case m t cs) whole s k l o tail i g s1 s2 x h e =
      let p = and_parts (own_default t && defaults_typed t) (case_defaults cs) l in
      let q = and_parts (own_default t) (defaults_typed t) p.0 in
      elim (cases_Bool (m.id == i)) [
        | inl y ↦ (let f : done (λ z. settled_case m t z) (read1 tail o t s1) ≡ reading x s2 = ap (λ (c : Bool). cond c (done (λ z. settled_case m t z) (read1 tail o t s1)) (read_case1 tail o cs i s1)) (sym y) ∙ e in
            done_gives (λ z. settled_case m t z) (λ z. read1 tail o t z) (λ z. ok t z.0 ≡ true) (λ b. body_ok whole (Some i) b.0 ≡ true) (read1_gives t (left (sound t) (sound_cases cs) s) (left (storable t) (cases_storable cs) k) q.1 o tail)
            (λ z w. case_ok m.tc t z.0 i whole w q.0 (λ v u. g v (type_here m t cs i v y ∙ u))) s1 s2 x h f)
        | inr n ↦ (let f : read_case1 tail o cs i s1 ≡ reading x s2 = ap (λ (c : Bool). cond c (done (λ z. settled_case m t z) (read1 tail o t s1)) (read_case1 tail o cs i s1)) (sym n) ∙ e in
            case_in cs whole (right (sound t) (sound_cases cs) s) (right (storable t) (cases_storable cs) k) p.1 o tail i (λ v u. g v (type_later m t cs i v n ∙ u)) s1 s2 x h f)
      ]
