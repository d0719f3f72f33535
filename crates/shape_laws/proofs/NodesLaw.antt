-- What is read in XCDR2 has at most its type's weight and 128 nodes for each octet.
use Rattle.std.proofs.Common.{◌≡◌, ℕ, ◌+◌, ◌*◌, ◌≤◌, Bool, true, false, cond, not, map, ◌&&◌, List, [], ◌++◌, length, max, Some, refl, sym, ap, ◌∙◌, arith, inl, inr, nat_lt, nat_le, ◌==◌}
use Rattle.std.proofs.lemmas.Bool.{cases_Bool, and_parts, eqb-true, ltb-true, leb-true, not-true, both_ways}
use Rattle.xt_shapes.specs.declared.leaves.Ext.TheVariants.{Final, Appendable, Mutable}
use Rattle.xt_shapes.specs.declared.leaves.Order.{Order}
use Rattle.xt_shapes.specs.Defaults.{default_of}
use Rattle.xt_shapes.specs.Select.{is_literal, select, has_member}
use Rattle.xt_shapes.specs.Shape.{Shape, prim, str, enumeration, bitmask, sequence, array, map_of, structure, union, Members, no_members, member, Cases, no_cases, one_case, product}
use Rattle.xt_shapes.specs.Vals.{int}
use Rattle.xt_shapes.specs.Weight.{weight, weights, greatest}
use Rattle.xcdr_model.specs.Premises.{sound, sound_members, sound_cases, some_member, distinct_members, light, light_members, light_cases}
use Rattle.xcdr_model.specs.Projection.{got, failed, Part, gather_text, whole_items, whole_entries, whole_structure, built_list, settled_case, whole_union, disc_built}
use Rattle.xcdr_model.specs.Reading.{Spot, Reading, ◌>>=◌, each_at, front, passing, dheader}
use Rattle.xcdr_model.specs.Xcdr2Reading.{done, scalar_at, text_at, is_primitive, collection_at, counted_at, optional_at, selected_at, rest_selected, members_at, read, read_members, read_named, read_case}
use Rattle.shape_laws.proofs.Costs.{reading, Costs, bind_ok, ok_parts, scalar_costs, text_costs, done_costs, total, each_costs, counted_costs, front_length, dheader_costs, collection_costs}
use Rattle.shape_laws.proofs.NodesBuilt.{nodes_built, default_nodes, items_nodes}
use Rattle.shape_laws.proofs.NodesMembers.{Known, members_costs}
use Rattle.shape_laws.proofs.NodesParts.{entries_nodes, structure_nodes, case_nodes, excess_at}
use Rattle.shape_laws.proofs.NodesSteps.{Within, weaker, one, two, total_one, total_two, element_costs, part_costs, pair_reading, entry_costs, ListIn, count, some_count, OnePart, joined, some_same, optional_costs, InOrder, region_costs, any_passing, CaseIn, selected_costs, rest_costs, union_costs, number_nodes, text_nodes, paid_nodes}
use Rattle.shape_laws.proofs.PartCosts.{Measure, Paid, total_parts, Inside, first_inside, rest_inside}
use Rattle.shape_laws.proofs.Rules.{left, right}

abbrev Parts : Type 0
Parts = List (ℕ × Part) × Bool

heavy : (w : ℕ) (l : Bool) → (nat_le w 128 && l) ≡ true → w ≤ 128
heavy w l e = leb-true w 128 (left (nat_le w 128) l e)

-- each member's reading pays
abbrev pub EachPaid : Measure → Order → Members → Type 0
EachPaid E o no_members = Unit {0}
EachPaid E o (member h t ms) = Costs (λ s. read o t s) (Paid E h.id) × EachPaid E o ms

pub members_in : (E : Measure) (o : Order) (cut : Bool) (ms : Members) → EachPaid E o ms → Costs (λ s. read_members o cut ms s) (InOrder cut E (count ms))
unfolding read_members
members_in E o cut no_members c s1 s2 ps e = let p = ok_parts [] ps s1 s2 e in (0, omega (arith, ap (λ (z : Spot). length z.rest) p.1), (omega (arith, ap (total_parts E) p.0), (λ z. omega (arith, ap (total_parts E) p.0))))
members_in E o cut (member h t ms) c s1 s2 ps e = by_end cut (length s1.rest == 0) refl (optional_costs h.optional o E h.id (λ z. read o t z) c.0) (members_in E o cut ms c.1) e
  where
    by_end : (b c : Bool) → cut ≡ b → Costs (λ z. optional_at h.optional o h.id (λ s1. read o t s1) z) (OnePart E) → Costs (λ z. read_members o cut ms z) (InOrder cut E (count ms))
        → cond (b && c) (reading [] s1) (optional_at h.optional o h.id (λ s1. read o t s1) s1 >>= λ x. read_members o cut ms x.1 >>= λ xs. reading (x.0 ++ xs.0) xs.1) ≡ reading ps s2 → (u : ℕ) × (length s1.rest ≡ u + length s2.rest) × InOrder cut E (1 + count ms) ps u
    by_end true true w k more e = let p = ok_parts [] ps s1 s2 e in (0, omega (arith, ap (λ (z : Spot). length z.rest) p.1), (omega (arith, ap (total_parts E) p.0), (λ z. absurd (both_ways cut z w))))
    by_end true false w k more e = joined cut E (count ms) (λ z. optional_at h.optional o h.id (λ s1. read o t s1) z) (λ z. read_members o cut ms z) k more s1 s2 ps e
    by_end false c w k more e = joined cut E (count ms) (λ z. optional_at h.optional o h.id (λ s1. read o t s1) z) (λ z. read_members o cut ms z) k more s1 s2 ps e

pub named_in : (E : Measure) (o : Order) (ms : Members) → EachPaid E o ms → Known E (λ id. read_named o ms id)
unfolding read_named
named_in E o no_members c id f e s1 s2 x r = absurd cc
named_in E o (member h t ms) c id f e s1 s2 x r = elim (cases_Bool (h.id == id)) [
  | inl y ↦ (let z : Some (λ q. read o t q) ≡ Some f = ap (λ (c : Bool). cond c (Some (λ q. read o t q)) (read_named o ms id)) (sym y) ∙ e in
      let same : (λ q. read o t q) ≡ f = some_same z in
      let k = c.0 s1 s2 x (ap (λ (g : Spot → Reading Part). g s1) same ∙ r) in
      omega (arith, k.1, k.2.1, ap (λ (n : ℕ). E n x.0) (eqb-true h.id id y)))
  | inr m ↦ named_in E o ms c.1 id f (ap (λ (c : Bool). cond c (Some (λ q. read o t q)) (read_named o ms id)) (sym m) ∙ e) s1 s2 x r
]

mutual
  unfolding read

  pub read_costs : (t : Shape) → sound t ≡ true → light t ≡ true → (o : Order) → Costs (read o t) (λ x u. Within (weight t) x u)
  read_costs (prim p) s l o q1 q2 qx qe = done_costs (λ i. (got (int i), false)) (scalar_at 4 o (prim p)) (λ i u. 1 ≤ u) (λ x u. Within 1 x u) (scalar_costs 4 o (prim p)) (λ i u h. (h, omega (arith, h))) q1 q2 qx qe
  read_costs (enumeration e bits ls) s l o q1 q2 qx qe = done_costs (λ i. (cond (is_literal ls i) (got (int i)) failed, false)) (scalar_at 4 o (enumeration e bits ls)) (λ i u. 1 ≤ u) (λ x u. Within 1 x u) (scalar_costs 4 o (enumeration e bits ls)) (λ i u h. (h, omega (arith, h, number_nodes (is_literal ls i) i))) q1 q2 qx qe
  read_costs (bitmask bits fs) s l o q1 q2 qx qe = done_costs (λ i. (got (int i), false)) (scalar_at 4 o (bitmask bits fs)) (λ i u. 1 ≤ u) (λ x u. Within 1 x u) (scalar_costs 4 o (bitmask bits fs)) (λ i u h. (h, omega (arith, h))) q1 q2 qx qe
  read_costs (str bound) s l o q1 q2 qx qe = done_costs (λ t. (gather_text bound t, false)) (text_at o) (λ t u. length t + 5 ≤ u) (λ x u. Within 1 x u) (text_costs o) (λ t u h. (omega (arith, h), omega (arith, h, text_nodes bound t))) q1 q2 qx qe
  read_costs (sequence bound tc t) s l o q1 q2 qx qe =
      let w = weight t in
      let e = element_costs (λ s1. read o t s1) w (heavy w (light t) l) (read_costs t s (right (nat_le w 128) (light t) l) o) in
      let c = collection_costs (is_primitive t) o (counted_at o (λ s1. read o t s1)) (ListIn (one w)) (λ x m n h le. (omega (arith, h.0, le), omega (arith, h.1, le))) (counted_costs o (λ s1. read o t s1) (one w) e) in
      done_costs (whole_items bound tc (default_of t)) (λ s1. collection_at (is_primitive t) o (counted_at o (λ s2. read o t s2)) s1) (ListIn (one w)) (λ x u. Within 1 x u) c
      (λ xs u h. (h.0, omega (arith, h.1, items_nodes bound tc (default_of t) w (built_list xs) (default_nodes t), total_one w xs))) q1 q2 qx qe
  read_costs (array dims tc t) s l o q1 q2 qx qe =
      let w = weight t in
      let n = product dims in
      let n_pos = ltb-true 0 n (left (nat_lt 0 n) (sound t) s) in
      let R = λ (xs : List Part) (u : ℕ). (n ≤ u) × (total (one w) xs + 128 * n ≤ n * w + 128 * u) in
      let e = part_costs (λ s1. read o t s1) w (read_costs t (right (nat_lt 0 n) (sound t) s) (right (nat_le w 128) (light t) l) o) in
      let c = collection_costs (is_primitive t) o (each_at n (λ s1. read o t s1)) R (λ x m k h le. (omega (arith, h.0, le), omega (arith, h.1, le))) (each_costs (λ s1. read o t s1) (one w) w e n) in
      done_costs (whole_items 0 tc (default_of t)) (λ s1. collection_at (is_primitive t) o (each_at n (λ s2. read o t s2)) s1) R (λ x u. Within (1 + n * w) x u) c
      (λ xs u h. (omega (arith, h.0, n_pos), omega (arith, h.1, n_pos, items_nodes 0 tc (default_of t) w (built_list xs) (default_nodes t), total_one w xs))) q1 q2 qx qe
  read_costs (map_of bound kc k vc t) s l o q1 q2 qx qe =
      let v = weight k in
      let w = weight t in
      let lk = left (nat_le v 128 && light k) (nat_le w 128 && light t) l in
      let lt = right (nat_le v 128 && light k) (nat_le w 128 && light t) l in
      let f = pair_reading (λ s1. read o k s1) (λ s1. read o t s1) in
      let e = entry_costs (λ s1. read o k s1) (λ s1. read o t s1) v w (heavy v (light k) lk) (heavy w (light t) lt) (read_costs k (left (sound k) (sound t) s) (right (nat_le v 128) (light k) lk) o) (read_costs t (right (sound k) (sound t) s) (right (nat_le w 128) (light t) lt) o) in
      let c = collection_costs (is_primitive k && is_primitive t) o (counted_at o f) (ListIn (two v w)) (λ x m n h le. (omega (arith, h.0, le), omega (arith, h.1, le))) (counted_costs o f (two v w) e) in
      done_costs (whole_entries bound kc (default_of k) vc (default_of t)) (λ s1. collection_at (is_primitive k && is_primitive t) o (counted_at o f) s1) (ListIn (two v w)) (λ x u. Within 1 x u) c
      (λ xs u h. (h.0, omega (arith, h.1, entries_nodes bound kc (default_of k) vc (default_of t) v w (map (λ x. (x.0.0, x.1.0)) xs) (default_nodes k) (default_nodes t), total_two v w xs))) q1 q2 qx qe
  read_costs (structure Final ms) s l o q1 q2 qx qe =
      let a = and_parts (some_member ms) (distinct_members ms && sound_members ms) s in
      let d = and_parts (distinct_members ms) (sound_members ms) a.1 in
      let some = some_count ms a.0 in
      done_costs (λ ps. whole_structure ms ps false) (λ s1. read_members o false ms s1) (InOrder false (excess_at ms) (count ms)) (λ x u. Within (1 + weights ms) x u) (members_in (excess_at ms) o false ms (each_in ms ms d.0 d.1 l o (λ id h t e. e)))
      (λ ps u h. let m = h.1 refl in (omega (arith, m, some), omega (arith, m, some, structure_nodes ms ps d.0))) q1 q2 qx qe
  read_costs (structure Appendable ms) s l o q1 q2 qx qe =
      let d = and_parts (distinct_members ms) (sound_members ms) (right (some_member ms) (distinct_members ms && sound_members ms) s) in
      let f = λ (s1 : Spot). done (λ ps. whole_structure ms ps false) (read_members o true ms s1) in
      let R = λ (x : Part) (u : ℕ). nodes_built x.0 ≤ 1 + weights ms + 128 * u in
      let c = done_costs (λ ps. whole_structure ms ps false) (λ s1. read_members o true ms s1) (InOrder true (excess_at ms) (count ms)) R (members_in (excess_at ms) o true ms (each_in ms ms d.0 d.1 l o (λ id h t e. e))) (λ ps u h. omega (arith, h.0, structure_nodes ms ps d.0)) in
      weaker (λ s1. dheader o s1 >>= λ n. passing n.0 f n.1) (λ x u. (k : ℕ) × R x k × (k + 4 ≤ u)) (λ x u. Within (1 + weights ms) x u) (region_costs o f R c) (λ x u h. (omega (arith, h.2), omega (arith, h.1, h.2))) q1 q2 qx qe
  read_costs (structure Mutable ms) s l o s1 s2 x e =
      let d = and_parts (distinct_members ms) (sound_members ms) (right (some_member ms) (distinct_members ms && sound_members ms) s) in
      let known = λ (id : ℕ). read_named o ms id in
      let g = λ (r : Parts). whole_structure ms r.0 r.1 in
      let f = λ (z : Spot). done g (members_at o known z) in
      let b = bind_ok (dheader o s1) (λ n. passing n.0 f n.1) (x, s2) e in
      let h = dheader_costs o s1 b.0.1 b.0.0 b.1 in
      let r = any_passing b.0.0 f b.0.1 s2 x h.3 b.2 in
      let y = bind_ok (members_at o known (front b.0.0 b.0.1)) (λ z. reading (g z.0) z.1) (x, r.0) r.1 in
      let p = ok_parts (g y.0.0) x y.0.1 r.0 y.2 in
      let m = members_costs o (excess_at ms) known (named_in (excess_at ms) o ms (each_in ms ms d.0 d.1 l o (λ id h t e. e))) (front b.0.0 b.0.1) y.0.1 y.0.0 y.1 in
      (h.0 + b.0.0, omega (arith, h.1, r.2), (omega (arith, h.2), omega (arith, h.2, m, front_length b.0.0 b.0.1 h.3, structure_nodes ms y.0.0.0 d.0, ap (λ (z : Part). nodes_built z.0) p.0)))
  read_costs (union Final key disc cs) s l o q1 q2 qx qe =
      let c = right (sound disc) (sound_cases cs) s in
      let lc = right (light disc) (light_cases cs) l in
      union_costs o disc (greatest cs) (λ d z. selected_at (select cs d) (λ i s1. read_case o cs i s1) z) (λ d. selected_costs (greatest cs) (select cs d) (λ i s1. read_case o cs i s1) (λ j. case_in cs c lc o j)) q1 q2 qx qe
  read_costs (union Appendable key disc cs) s l o q1 q2 qx qe =
      let c = right (sound disc) (sound_cases cs) s in
      let lc = right (light disc) (light_cases cs) l in
      let g = greatest cs in
      let f = λ (s1 : Spot). scalar_at 4 o disc s1 >>= λ d. done (λ b. whole_union (disc_built disc d.0) d.0 b) (rest_selected (select cs d.0) (λ i s2. read_case o cs i s2) d.1) in
      let k = union_costs o disc g (λ d z. rest_selected (select cs d) (λ i s1. read_case o cs i s1) z) (λ d. rest_costs g (select cs d) (λ i s1. read_case o cs i s1) (λ j. case_in cs c lc o j)) in
      weaker (λ s1. dheader o s1 >>= λ n. passing n.0 f n.1) (λ x u. (k : ℕ) × Within (2 + g) x k × (k + 4 ≤ u)) (λ x u. Within (2 + g) x u) (region_costs o f (λ x u. Within (2 + g) x u) k) (λ x u h. (omega (arith, h.2), omega (arith, h.1.1, h.2))) q1 q2 qx qe
  read_costs (union Mutable key disc cs) s l o q1 q2 qx qe = absurd cc

  each_in : (ms whole : Members) → distinct_members ms ≡ true → sound_members ms ≡ true → light_members ms ≡ true → (o : Order) → Inside ms whole → EachPaid (excess_at whole) o ms
  each_in no_members whole d s l o a = tt
  each_in (member h t ms) whole d s l o a =
      let n = and_parts (not (has_member ms h.id)) (distinct_members ms) d in (
        paid_nodes whole h t (λ z. read o t z) (first_inside h t ms whole a) (read_costs t (left (sound t) (sound_members ms) s) (left (light t) (light_members ms) l) o),
        each_in ms whole n.1 (right (sound t) (sound_members ms) s) (right (light t) (light_members ms) l) o (rest_inside h t ms whole (not-true (has_member ms h.id) n.0) a),
      )

  case_in : (cs : Cases) → sound_cases cs ≡ true → light_cases cs ≡ true → (o : Order) (i : ℕ) → Costs (λ s. read_case o cs i s) (CaseIn (greatest cs))
  case_in no_cases s l o i s1 s2 x e = absurd cc
  case_in (one_case h t cs) s l o i s1 s2 x e = elim (cases_Bool (h.id == i)) [
    | inl y ↦ (let f : done (λ z. settled_case h t z) (read o t s1) ≡ reading x s2 = ap (λ (c : Bool). cond c (done (λ z. settled_case h t z) (read o t s1)) (read_case o cs i s1)) (sym y) ∙ e in
        done_costs (λ z. settled_case h t z) (λ z. read o t z) (λ z u. Within (weight t) z u) (CaseIn (max (weight t) (greatest cs))) (read_costs t (left (sound t) (sound_cases cs) s) (left (light t) (light_cases cs) l) o) (λ z u k. omega (arith, k.0, k.1, case_nodes h.tc t z.0)) s1 s2 x f)
    | inr n ↦ (let f : read_case o cs i s1 ≡ reading x s2 = ap (λ (c : Bool). cond c (done (λ z. settled_case h t z) (read o t s1)) (read_case o cs i s1)) (sym n) ∙ e in
        let k = case_in cs (right (sound t) (sound_cases cs) s) (right (light t) (light_cases cs) l) o i s1 s2 x f in (k.0, k.1, omega (arith, k.2)))
  ]
