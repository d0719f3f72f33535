-- What is read in XCDR1 has at most its type's weight and 128 nodes for each octet.
use Rattle.std.proofs.Common.{◌≡◌, ℕ, ◌+◌, ◌*◌, ◌≤◌, ℤ, Bool, true, false, cond, not, ◌&&◌, List, [], ◌++◌, map, length, max, Option, Some, None, refl, sym, ap, ◌∙◌, arith, inl, inr, nat_lt, nat_le, ◌==◌}
use Rattle.std.proofs.lemmas.Bool.{cases_Bool, and_parts, eqb-true, ltb-true, leb-true, not-true, both_ways}
use Rattle.xt_shapes.specs.declared.leaves.Ext.TheVariants.{Final, Appendable, Mutable}
use Rattle.xt_shapes.specs.declared.leaves.Order.{Order}
use Rattle.xt_shapes.specs.Defaults.{default_of}
use Rattle.xt_shapes.specs.Select.{is_literal, select, has_member}
use Rattle.xt_shapes.specs.Shape.{Head, Shape, prim, str, enumeration, bitmask, sequence, array, map_of, structure, union, Members, no_members, member, Cases, no_cases, one_case, product}
use Rattle.xt_shapes.specs.Vals.{int}
use Rattle.xt_shapes.specs.Weight.{weight, weights, greatest}
use Rattle.xcdr_model.specs.Premises.{sound, sound_members, sound_cases, some_member, distinct_members, light, light_members, light_cases}
use Rattle.xcdr_model.specs.Projection.{got, failed, Part, gather_text, whole_items, whole_entries, whole_structure, built_list, Body, no_body, one_sided, settled_case, whole_union, disc_built, is_mutable}
use Rattle.xcdr_model.specs.Reading.{Spot, Reading, ◌>>=◌, each_at}
use Rattle.xcdr_model.specs.Xcdr1Reading.{is_open, content_read, params_read, optional1_at, at_end_of, rest_selected1, case_read, is_appendable, read1, read_members1, read_named1, read_case1}
use Rattle.xcdr_model.specs.Xcdr2Reading.{done, scalar_at, text_at, counted_at, selected_at}
use Rattle.shape_laws.proofs.Costs.{reading, Costs, bind_ok, ok_parts, scalar_costs, text_costs, done_costs, total, each_costs, counted_costs}
use Rattle.shape_laws.proofs.Law1.{closed_same}
use Rattle.shape_laws.proofs.NodesBuilt.{nodes_built, default_nodes, items_nodes}
use Rattle.shape_laws.proofs.NodesMembers.{Known}
use Rattle.shape_laws.proofs.NodesParams.{TailIn, content_costs, optional1_costs, params_read_costs}
use Rattle.shape_laws.proofs.NodesParts.{entries_nodes, excess, structure_nodes, nodes_body, union_nodes, case_nodes, excess_at}
use Rattle.shape_laws.proofs.NodesSteps.{Within, weaker, one, two, total_one, total_two, element_costs, part_costs, pair_reading, entry_costs, ListIn, count, some_count, OnePart, joined, some_same, InOrder, CaseIn, selected_costs, number_nodes, text_nodes, paid_nodes}
use Rattle.shape_laws.proofs.PartCosts.{Measure, Paid, total_parts, Afforded, Inside, first_inside, of_member, rest_inside}
use Rattle.shape_laws.proofs.Rules.{left, right}

abbrev Parts : Type 0
Parts = List (ℕ × Part) × Bool

heavy : (w : ℕ) (l : Bool) → (nat_le w 128 && l) ≡ true → w ≤ 128
heavy w l e = leb-true w 128 (left (nat_le w 128) l e)

-- inner values, and those that have the rest of their region
abbrev pub Both1 : Order → Shape → Type 0
Both1 o t = Costs (λ s. read1 false o t s) (λ x u. Within (weight t) x u) × Costs (λ s. read1 true o t s) (TailIn (weight t))

closed_costs : (o : Order) (t : Shape) → is_open t ≡ false → Costs (λ s. read1 false o t s) (λ x u. Within (weight t) x u) → Both1 o t
closed_costs o t k c = (c, (λ s s2 x e. let m = c s s2 x (sym (closed_same t k o s) ∙ e) in (m.0, m.1, omega (arith, m.2.1))))

pub passed_costs : {A : Type 0} (x y : A) (s s2 : Spot) → at_end_of x s ≡ reading y s2 → (x ≡ y) × (length s2.rest ≡ 0)
passed_costs x y s s2 e = let p = ok_parts x y (record { at = s.at + length s.rest; rest = [] }) s2 e in (p.0, sym (ap (λ (z : Spot). length z.rest) p.1))

rest_costs1 : (g : ℕ) (i : Option ℕ) (f : ℕ → Spot → Reading (Body × Bool)) → ((j : ℕ) → Costs (f j) (CaseIn g)) → Costs (rest_selected1 i f) (CaseIn g)
rest_costs1 g None f c s s2 x e = let p = passed_costs {A = Body × Bool} (cond (length s.rest == 0) no_body one_sided, false) x s s2 e in (length s.rest, omega (arith, p.1), omega (arith, ap (λ (z : Body × Bool). nodes_body z.0) p.0, none_in (length s.rest == 0)))
  where
    none_in : (c : Bool) → nodes_body (cond c no_body one_sided) ≡ 0
    none_in true = refl
    none_in false = refl
rest_costs1 g (Some i) f c s s2 x e = by_end (length s.rest == 0) e
  where
    by_end : (b : Bool) → cond b (reading {A = Body × Bool} (one_sided, false) s) (f i s) ≡ reading x s2 → (u : ℕ) × (length s.rest ≡ u + length s2.rest) × CaseIn g x u
    by_end true e = let p = ok_parts {A = Body × Bool} (one_sided, false) x s s2 e in (0, omega (arith, ap (λ (z : Spot). length z.rest) p.1), omega (arith, ap (λ (z : Body × Bool). nodes_body z.0) p.0))
    by_end false e = c i s s2 x e

case_costs : (b : Bool) (g : ℕ) (i : Option ℕ) (f : ℕ → Spot → Reading (Body × Bool)) → ((j : ℕ) → Costs (f j) (CaseIn g)) → Costs (case_read b i f) (CaseIn g)
case_costs true g i f c s s2 x e = rest_costs1 g i f c s s2 x e
case_costs false g i f c s s2 x e = selected_costs g i f c s s2 x e

union_costs1 : (o : Order) (disc : Shape) (g : ℕ) (f : ℤ → Spot → Reading (Body × Bool)) → ((d : ℤ) → Costs (f d) (CaseIn g)) → Costs (λ s. scalar_at 8 o disc s >>= λ d. done (λ b. whole_union (disc_built disc d.0) d.0 b) (f d.0 d.1)) (λ x u. Within (2 + g) x u)
union_costs1 o disc g f c s s2 x e =
    let b = bind_ok (scalar_at 8 o disc s) (λ d. done (λ b. whole_union (disc_built disc d.0) d.0 b) (f d.0 d.1)) (x, s2) e in
    let k = scalar_costs 8 o disc s b.0.1 b.0.0 b.1 in
    let m = done_costs (λ y. whole_union (disc_built disc b.0.0) b.0.0 y) (f b.0.0) (CaseIn g) (λ y u. nodes_built y.0 ≤ 2 + g + 128 * u) (c b.0.0) (λ y u h. omega (arith, h, union_nodes (disc_built disc b.0.0) b.0.0 y.0)) b.0.1 s2 x b.2 in
    (k.0 + m.0, omega (arith, k.1, m.1), (omega (arith, k.2), omega (arith, k.2, m.2)))

tail_of : (f : Spot → Reading Part) (w : ℕ) → Costs f (λ x u. Within w x u) → Costs f (TailIn w)
tail_of f w c = weaker f (λ x u. Within w x u) (TailIn w) c (λ x u h. omega (arith, h.1))

-- each member's reading pays, in both modes
abbrev pub EachPaid1 : Measure → Order → Members → Type 0
EachPaid1 E o no_members = Unit {0}
EachPaid1 E o (member h t ms) = Costs (λ s. read1 false o t s) (Paid E h.id) × Costs (λ s. read1 true o t s) (Afforded E h.id) × EachPaid1 E o ms

pub members1_in : (E : Measure) (o : Order) (cut : Bool) (ms : Members) → EachPaid1 E o ms → Costs (λ s. read_members1 o cut ms s) (InOrder cut E (count ms))
unfolding read_members1
members1_in E o cut no_members c s1 s2 ps e = let p = ok_parts [] ps s1 s2 e in (0, omega (arith, ap (λ (z : Spot). length z.rest) p.1), (omega (arith, ap (total_parts E) p.0), (λ z. omega (arith, ap (total_parts E) p.0))))
members1_in E o cut (member h t ms) c s1 s2 ps e = by_end cut (length s1.rest == 0) refl (optional1_costs h.optional o E h.id (not (is_open t)) (λ z. read1 false o t z) (λ z. read1 true o t z) c.0 c.1) (members1_in E o cut ms c.2) e
  where
    by_end : (b c : Bool) → cut ≡ b → Costs (λ z. optional1_at h.optional o h.id (λ y. read1 false o t y) (content_read (not (is_open t)) (λ y. read1 true o t y)) z) (OnePart E) → Costs (λ z. read_members1 o cut ms z) (InOrder cut E (count ms))
        → cond (b && c) (reading [] s1) (optional1_at h.optional o h.id (λ y. read1 false o t y) (content_read (not (is_open t)) (λ y. read1 true o t y)) s1 >>= λ x. read_members1 o cut ms x.1 >>= λ xs. reading (x.0 ++ xs.0) xs.1) ≡ reading ps s2 → (u : ℕ) × (length s1.rest ≡ u + length s2.rest) × InOrder cut E (1 + count ms) ps u
    by_end true true w k more e = let p = ok_parts [] ps s1 s2 e in (0, omega (arith, ap (λ (z : Spot). length z.rest) p.1), (omega (arith, ap (total_parts E) p.0), (λ z. absurd (both_ways cut z w))))
    by_end true false w k more e = joined cut E (count ms) (λ z. optional1_at h.optional o h.id (λ y. read1 false o t y) (content_read (not (is_open t)) (λ y. read1 true o t y)) z) (λ z. read_members1 o cut ms z) k more s1 s2 ps e
    by_end false c w k more e = joined cut E (count ms) (λ z. optional1_at h.optional o h.id (λ y. read1 false o t y) (content_read (not (is_open t)) (λ y. read1 true o t y)) z) (λ z. read_members1 o cut ms z) k more s1 s2 ps e

pub named1_in : (E : Measure) (o : Order) (ms : Members) → EachPaid1 E o ms → Known E (λ id. read_named1 o ms id)
unfolding read_named1
named1_in E o no_members c id f e s1 s2 x r = absurd cc
named1_in E o (member h t ms) c id f e s1 s2 x r =
    let own = content_read (not (is_open t)) (λ q. read1 true o t q) in
    elim (cases_Bool (h.id == id)) [
      | inl y ↦ (let z : Some own ≡ Some f = ap (λ (c : Bool). cond c (Some own) (read_named1 o ms id)) (sym y) ∙ e in
          let same : own ≡ f = some_same z in
          let k = content_costs (not (is_open t)) (λ q. read1 true o t q) (Afforded E h.id) c.1 s1 s2 x (ap (λ (g : Spot → Reading Part). g s1) same ∙ r) in
          omega (arith, k.1, k.2, ap (λ (n : ℕ). E n x.0) (eqb-true h.id id y)))
      | inr m ↦ named1_in E o ms c.2 id f (ap (λ (c : Bool). cond c (Some own) (read_named1 o ms id)) (sym m) ∙ e) s1 s2 x r
    ]

mutual
  unfolding read1

  pub read1_costs : (t : Shape) → sound t ≡ true → light t ≡ true → (o : Order) → Both1 o t
  read1_costs (prim p) s l o = closed_costs o (prim p) refl (done_costs (λ i. (got (int i), false)) (scalar_at 8 o (prim p)) (λ i u. 1 ≤ u) (λ x u. Within 1 x u) (scalar_costs 8 o (prim p)) (λ i u h. (h, omega (arith, h))))
  read1_costs (enumeration e bits ls) s l o = closed_costs o (enumeration e bits ls) refl (done_costs (λ i. (cond (is_literal ls i) (got (int i)) failed, false)) (scalar_at 8 o (enumeration e bits ls)) (λ i u. 1 ≤ u) (λ x u. Within 1 x u) (scalar_costs 8 o (enumeration e bits ls)) (λ i u h. (h, omega (arith, h, number_nodes (is_literal ls i) i))))
  read1_costs (bitmask bits fs) s l o = closed_costs o (bitmask bits fs) refl (done_costs (λ i. (got (int i), false)) (scalar_at 8 o (bitmask bits fs)) (λ i u. 1 ≤ u) (λ x u. Within 1 x u) (scalar_costs 8 o (bitmask bits fs)) (λ i u h. (h, omega (arith, h))))
  read1_costs (str bound) s l o = closed_costs o (str bound) refl (done_costs (λ t. (gather_text bound t, false)) (text_at o) (λ t u. length t + 5 ≤ u) (λ x u. Within 1 x u) (text_costs o) (λ t u h. (omega (arith, h), omega (arith, h, text_nodes bound t))))
  read1_costs (sequence bound tc t) s l o =
      let w = weight t in
      let f = λ (z : Spot). read1 false o t z in
      let e = element_costs f w (heavy w (light t) l) (read1_costs t s (right (nat_le w 128) (light t) l) o).0 in
      closed_costs o (sequence bound tc t) refl (done_costs (whole_items bound tc (default_of t)) (counted_at o f) (ListIn (one w)) (λ x u. Within 1 x u) (counted_costs o f (one w) e)
      (λ xs u h. (h.0, omega (arith, h.1, items_nodes bound tc (default_of t) w (built_list xs) (default_nodes t), total_one w xs))))
  read1_costs (array dims tc t) s l o =
      let w = weight t in
      let n = product dims in
      let n_pos = ltb-true 0 n (left (nat_lt 0 n) (sound t) s) in
      let f = λ (z : Spot). read1 false o t z in
      let e = part_costs f w (read1_costs t (right (nat_lt 0 n) (sound t) s) (right (nat_le w 128) (light t) l) o).0 in
      closed_costs o (array dims tc t) refl (done_costs (whole_items 0 tc (default_of t)) (each_at n f) (λ xs u. (n ≤ u) × (total (one w) xs + 128 * n ≤ n * w + 128 * u)) (λ x u. Within (1 + n * w) x u) (each_costs f (one w) w e n)
      (λ xs u h. (omega (arith, h.0, n_pos), omega (arith, h.1, n_pos, items_nodes 0 tc (default_of t) w (built_list xs) (default_nodes t), total_one w xs))))
  read1_costs (map_of bound kc k vc t) s l o =
      let v = weight k in
      let w = weight t in
      let lk = left (nat_le v 128 && light k) (nat_le w 128 && light t) l in
      let lt = right (nat_le v 128 && light k) (nat_le w 128 && light t) l in
      let g = λ (z : Spot). read1 false o k z in
      let h = λ (z : Spot). read1 false o t z in
      let f = pair_reading g h in
      let e = entry_costs g h v w (heavy v (light k) lk) (heavy w (light t) lt) (read1_costs k (left (sound k) (sound t) s) (right (nat_le v 128) (light k) lk) o).0 (read1_costs t (right (sound k) (sound t) s) (right (nat_le w 128) (light t) lt) o).0 in
      closed_costs o (map_of bound kc k vc t) refl (done_costs (whole_entries bound kc (default_of k) vc (default_of t)) (counted_at o f) (ListIn (two v w)) (λ x u. Within 1 x u) (counted_costs o f (two v w) e)
      (λ xs u h. (h.0, omega (arith, h.1, entries_nodes bound kc (default_of k) vc (default_of t) v w (map (λ x. (x.0.0, x.1.0)) xs) (default_nodes k) (default_nodes t), total_two v w xs))))
  read1_costs (structure Final ms) s l o =
      let a = and_parts (some_member ms) (distinct_members ms && sound_members ms) s in
      let d = and_parts (distinct_members ms) (sound_members ms) a.1 in
      let some = some_count ms a.0 in
      closed_costs o (structure Final ms) refl (done_costs (λ ps. whole_structure ms ps false) (λ s1. read_members1 o false ms s1) (InOrder false (excess_at ms) (count ms)) (λ x u. Within (1 + weights ms) x u) (members1_in (excess_at ms) o false ms (each1_in ms ms d.0 d.1 l o (λ id h t e. e)))
      (λ ps u h. let m = h.1 refl in (omega (arith, m, some), omega (arith, m, some, structure_nodes ms ps d.0))))
  read1_costs (structure Appendable ms) s l o =
      let a = and_parts (some_member ms) (distinct_members ms && sound_members ms) s in
      let d = and_parts (distinct_members ms) (sound_members ms) a.1 in
      let some = some_count ms a.0 in
      let g = λ (ps : List (ℕ × Part)). whole_structure ms ps false in
      let R = λ (x : Part) (u : ℕ). nodes_built x.0 ≤ 1 + weights ms + 128 * u in
      let inner = done_costs g (λ s1. read_members1 o false ms s1) (InOrder false (excess_at ms) (count ms)) (λ x u. Within (1 + weights ms) x u) (members1_in (excess_at ms) o false ms (each1_in ms ms d.0 d.1 l o (λ id h t e. e))) (λ ps u h. let m = h.1 refl in (omega (arith, m, some), omega (arith, m, some, structure_nodes ms ps d.0))) in
      let tail = done_costs g (λ s1. read_members1 o true ms s1) (InOrder true (excess_at ms) (count ms)) R (members1_in (excess_at ms) o true ms (each1_in ms ms d.0 d.1 l o (λ id h t e. e))) (λ ps u h. omega (arith, h.0, structure_nodes ms ps d.0)) in (
        (λ q1 q2 x e.
            let b = bind_ok (done g (read_members1 o false ms q1)) (λ z. reading z.0 z.1) (x, q2) e in
            let p = ok_parts b.0.0 x b.0.1 q2 b.2 in
            inner q1 q2 x (b.1 ∙ b.2)),
        (λ q1 q2 x e.
            let b = bind_ok (done g (read_members1 o true ms q1)) (λ z. at_end_of z.0 z.1) (x, q2) e in
            let p = passed_costs b.0.0 x b.0.1 q2 b.2 in
            let k = tail q1 b.0.1 b.0.0 b.1 in
            (length q1.rest, omega (arith, p.1), omega (arith, k.1, k.2, ap (λ (z : Part). nodes_built z.0) p.0))),
      )
  read1_costs (structure Mutable ms) s l o =
      let d = and_parts (distinct_members ms) (sound_members ms) (right (some_member ms) (distinct_members ms && sound_members ms) s) in
      let known = λ (id : ℕ). read_named1 o ms id in
      closed_costs o (structure Mutable ms) refl (done_costs (λ r. whole_structure ms r.0 r.1) (params_read o known) (λ r u. (1 ≤ u) × (total_parts (excess_at ms) r.0 + 128 ≤ 128 * u)) (λ x u. Within (1 + weights ms) x u)
      (params_read_costs o (excess_at ms) known (named1_in (excess_at ms) o ms (each1_in ms ms d.0 d.1 l o (λ id h t e. e)))) (λ r u h. (h.0, omega (arith, h.1, structure_nodes ms r.0 d.0))))
  read1_costs (union e key disc cs) s l o =
      let c = right (sound disc) (sound_cases cs) (right (not (is_mutable e)) (sound disc && sound_cases cs) s) in
      let lc = right (light disc) (light_cases cs) l in
      let g = greatest cs in (
        union_costs1 o disc g (λ d z. selected_at (select cs d) (λ i s1. read_case1 false o cs i s1) z) (λ d. selected_costs g (select cs d) (λ i s1. read_case1 false o cs i s1) (λ j. case1_in cs c lc o false j)),
        tail_of (λ z. read1 true o (union e key disc cs) z) (2 + g) (union_costs1 o disc g (λ d z. case_read (is_appendable e) (select cs d) (λ i s1. read_case1 true o cs i s1) z) (λ d. case_costs (is_appendable e) g (select cs d) (λ i s1. read_case1 true o cs i s1) (λ j. case1_in cs c lc o true j))),
      )

  each1_in : (ms whole : Members) → distinct_members ms ≡ true → sound_members ms ≡ true → light_members ms ≡ true → (o : Order) → Inside ms whole → EachPaid1 (excess_at whole) o ms
  each1_in no_members whole d s l o a = tt
  each1_in (member h t ms) whole d s l o a =
      let n = and_parts (not (has_member ms h.id)) (distinct_members ms) d in
      let r = read1_costs t (left (sound t) (sound_members ms) s) (left (light t) (light_members ms) l) o in
      let b = first_inside h t ms whole a in (
        paid_nodes whole h t (λ z. read1 false o t z) b r.0,
        weaker (λ z. read1 true o t z) (TailIn (weight t)) (Afforded (excess_at whole) h.id) r.1 (λ x u k. omega (arith, k, ap (λ (z : Option (Head × Shape)). of_member excess z x.0) b)),
        each1_in ms whole n.1 (right (sound t) (sound_members ms) s) (right (light t) (light_members ms) l) o (rest_inside h t ms whole (not-true (has_member ms h.id) n.0) a),
      )

  case1_in : (cs : Cases) → sound_cases cs ≡ true → light_cases cs ≡ true → (o : Order) (tail : Bool) (i : ℕ) → Costs (λ s. read_case1 tail o cs i s) (CaseIn (greatest cs))
  case1_in no_cases s l o tail i s1 s2 x e = absurd cc
  case1_in (one_case h t cs) s l o tail i s1 s2 x e = elim (cases_Bool (h.id == i)) [
    | inl y ↦ (let f : done (λ z. settled_case h t z) (read1 tail o t s1) ≡ reading x s2 = ap (λ (c : Bool). cond c (done (λ z. settled_case h t z) (read1 tail o t s1)) (read_case1 tail o cs i s1)) (sym y) ∙ e in
        by_mode tail (read1_costs t (left (sound t) (sound_cases cs) s) (left (light t) (light_cases cs) l) o) f)
    | inr n ↦ (let f : read_case1 tail o cs i s1 ≡ reading x s2 = ap (λ (c : Bool). cond c (done (λ z. settled_case h t z) (read1 tail o t s1)) (read_case1 tail o cs i s1)) (sym n) ∙ e in
        let k = case1_in cs (right (sound t) (sound_cases cs) s) (right (light t) (light_cases cs) l) o tail i s1 s2 x f in (k.0, k.1, omega (arith, k.2)))
  ]
    where
      by_mode : (m : Bool) → Both1 o t → done (λ z. settled_case h t z) (read1 m o t s1) ≡ reading x s2 → (u : ℕ) × (length s1.rest ≡ u + length s2.rest) × CaseIn (max (weight t) (greatest cs)) x u
      by_mode true b f = done_costs (λ z. settled_case h t z) (λ z. read1 true o t z) (TailIn (weight t)) (CaseIn (max (weight t) (greatest cs))) b.1 (λ z u k. omega (arith, k, case_nodes h.tc t z.0)) s1 s2 x f
      by_mode false b f = done_costs (λ z. settled_case h t z) (λ z. read1 false o t z) (λ z u. Within (weight t) z u) (CaseIn (max (weight t) (greatest cs))) b.0 (λ z u k. omega (arith, k.0, k.1, case_nodes h.tc t z.0)) s1 s2 x f
