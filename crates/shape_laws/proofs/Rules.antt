-- What the rules of assignability give.
use Rattle.std.proofs.Common.{◌≡◌, ℕ, ℤ, Bool, true, false, cond, not, ◌||◌, ◌&&◌, List, [], ◌∷◌, Option, Some, None, refl, sym, ap, ap₂, subst, ◌∙◌, inl, inr, ◌==◌, nat_lt, is_some}
use Rattle.std.proofs.lemmas.Bool.{cases_Bool, ne_eqb, eqb-true, eqb-false, or_parts, or_cases, and_parts, and_from, not-true}
use Rattle.std.specs.Ordering.{int_eq}
use Rattle.std.specs.Bool.{beq}
use Rattle.std.proofs.lemmas.Bool.Decides.{Decides-int_eq}
use Rattle.xt_shapes.specs.declared.leaves.Ext.TheVariants.{Final, Appendable, Mutable}
use Rattle.xt_shapes.specs.declared.leaves.Rep.{Rep}
use Rattle.xt_shapes.specs.declared.leaves.Rep.TheVariants.{Xcdr2}
use Rattle.xt_shapes.specs.Lists.{or_else, has, all}
use Rattle.xt_shapes.specs.Select.{select, labelled, default_case, has_member, case_at, shape_at}
use Rattle.xt_shapes.specs.Shape.{Head, Shape, prim, str, enumeration, bitmask, sequence, array, map_of, structure, union, Members, no_members, member, Cases, no_cases, one_case, product, case_heads}
use Rattle.xcdr_model.specs.declared.verdict.Policy.{Policy}
use Rattle.xcdr_model.specs.Assignable.{Strong, Fits, FitInOrder, FitById, FitCases, when, members_match}
use Rattle.xcdr_model.specs.Premises.{sound, sound_members, sound_cases, some_member, distinct_members}
use Rattle.xcdr_model.specs.Rules.{same_case_names, ids_within, labels_within, label_sets, has_label, has_default}
use Rattle.shape_laws.proofs.Agreement.{solid, Agree, same_prim, both_str, same_bits, same_mask, both_sequence, same_dims, both_map, both_final, both_appendable, both_mutable, final_union, appendable_union, AllInOrder, none_left, next_of_all, FrontInOrder, reader_ends, writer_ends, next_of_both}

pub left : (a b : Bool) → (a && b) ≡ true → a ≡ true
left a b e = (and_parts a b e).0

pub right : (a b : Bool) → (a && b) ≡ true → b ≡ true
right a b e = (and_parts a b e).1

pub is_solid : (t : Shape) → sound t ≡ true → solid t ≡ true
is_solid (prim p) e = refl
is_solid (str bound) e = refl
is_solid (enumeration x bits ls) e = refl
is_solid (bitmask bits fs) e = refl
is_solid (sequence bound tc t) e = refl
is_solid (array dims tc t) e = and_from (nat_lt 0 (product dims)) (solid t) (left (nat_lt 0 (product dims)) (sound t) e) (is_solid t (right (nat_lt 0 (product dims)) (sound t) e))
is_solid (map_of bound kc k vc t) e = refl
is_solid (structure x no_members) e = absurd cc
is_solid (structure x (member h t ms)) e = is_solid t (left (sound t) (sound_members ms) (right (not (has_member ms h.id) && distinct_members ms) (sound t && sound_members ms) e))
is_solid (union x key disc cs) e = refl

pub sound_at : (ms : Members) (id : ℕ) (t : Shape) → sound_members ms ≡ true → shape_at ms id ≡ Some t → sound t ≡ true
sound_at no_members id t s e = absurd cc
sound_at (member h u ms) id t s e = elim (cases_Bool (h.id == id)) [
  | inl y ↦ (let f : Some u ≡ Some t = ap (λ (c : Bool). cond c (Some u) (shape_at ms id)) (sym y) ∙ e in
      let same : u ≡ t = cc in ap sound (sym same) ∙ left (sound u) (sound_members ms) s)
  | inr n ↦ sound_at ms id t (right (sound u) (sound_members ms) s) (ap (λ (c : Bool). cond c (Some u) (shape_at ms id)) (sym n) ∙ e)
]

pub sound_case : (cs : Cases) (i : ℕ) (t : Shape) → sound_cases cs ≡ true → case_at cs i ≡ Some t → sound t ≡ true
sound_case no_cases i t s e = absurd cc
sound_case (one_case h u cs) i t s e = elim (cases_Bool (h.id == i)) [
  | inl y ↦ (let f : Some u ≡ Some t = ap (λ (c : Bool). cond c (Some u) (case_at cs i)) (sym y) ∙ e in
      let same : u ≡ t = cc in ap sound (sym same) ∙ left (sound u) (sound_cases cs) s)
  | inr n ↦ sound_case cs i t (right (sound u) (sound_cases cs) s) (ap (λ (c : Bool). cond c (Some u) (case_at cs i)) (sym n) ∙ e)
]

-- ---- a type agrees with itself

mutual
  pub same : (t : Shape) → sound t ≡ true → Agree t t
  same (prim p) s = same_prim p
  same (str bound) s = both_str bound bound
  same (enumeration x bits ls) s = same_bits x x bits ls ls
  same (bitmask bits fs) s = same_mask bits fs fs
  same (sequence bound tc t) s = both_sequence bound bound tc tc t t (same t s)
  same (array dims tc t) s = same_dims dims tc tc t t (same t (right (nat_lt 0 (product dims)) (sound t) s))
  same (map_of bound kc k vc t) s = both_map bound bound kc kc vc vc k k t t (same k (left (sound k) (sound t) s)) (same t (right (sound k) (sound t) s))
  same (structure Final ms) s = let a = right (some_member ms) (distinct_members ms && sound_members ms) s in both_final ms ms (same_all ms (left (distinct_members ms) (sound_members ms) a) (right (distinct_members ms) (sound_members ms) a))
  same (structure Appendable ms) s = let a = right (some_member ms) (distinct_members ms && sound_members ms) s in both_appendable ms ms (same_front ms (left (distinct_members ms) (sound_members ms) a) (right (distinct_members ms) (sound_members ms) a))
  same (structure Mutable ms) s = let a = right (some_member ms) (distinct_members ms && sound_members ms) s in
      both_mutable ms ms (left (distinct_members ms) (sound_members ms) a) (λ id t t2 e f.
      let both : Some t ≡ Some t2 = sym e ∙ f in
      let one : t ≡ t2 = cc in subst (λ (x : Shape). Agree t x) one (same_member ms id t (right (distinct_members ms) (sound_members ms) a) e))
  same (union Final key disc cs) s = final_union key key disc disc cs cs (same disc (left (sound disc) (sound_cases cs) s)) (λ d. refl) (λ d i j t t2 e f g h.
      let ij : Some i ≡ Some j = sym e ∙ f in
      let one : i ≡ j = cc in
      let both : Some t ≡ Some t2 = sym g ∙ ap (case_at cs) one ∙ h in
      let two : t ≡ t2 = cc in subst (λ (x : Shape). Agree t x) two (same_case cs i t (right (sound disc) (sound_cases cs) s) g))
  same (union Appendable key disc cs) s = appendable_union key key disc disc cs cs (λ j t2 e. is_solid t2 (sound_case cs j t2 (right (sound disc) (sound_cases cs) s) e)) (same disc (left (sound disc) (sound_cases cs) s)) (λ d i j t t2 e f g h.
      let ij : Some i ≡ Some j = sym e ∙ f in
      let one : i ≡ j = cc in
      let both : Some t ≡ Some t2 = sym g ∙ ap (case_at cs) one ∙ h in
      let two : t ≡ t2 = cc in subst (λ (x : Shape). Agree t x) two (same_case cs i t (right (sound disc) (sound_cases cs) s) g))
  same (union Mutable key disc cs) s = absurd cc

  same_all : (ms : Members) → distinct_members ms ≡ true → sound_members ms ≡ true → AllInOrder ms ms
  same_all no_members d s = none_left
  same_all (member h t ms) d s = next_of_all h h t t ms ms refl refl (not-true (has_member ms h.id) (left (not (has_member ms h.id)) (distinct_members ms) d)) (same t (left (sound t) (sound_members ms) s)) (same_all ms (right (not (has_member ms h.id)) (distinct_members ms) d) (right (sound t) (sound_members ms) s))

  same_front : (ms : Members) → distinct_members ms ≡ true → sound_members ms ≡ true → FrontInOrder ms ms
  same_front no_members d s = reader_ends no_members
  same_front (member h t ms) d s = next_of_both h h t t ms ms refl refl (not-true (has_member ms h.id) (left (not (has_member ms h.id)) (distinct_members ms) d)) (is_solid t (left (sound t) (sound_members ms) s)) (same t (left (sound t) (sound_members ms) s)) (same_front ms (right (not (has_member ms h.id)) (distinct_members ms) d) (right (sound t) (sound_members ms) s))

  same_member : (ms : Members) (id : ℕ) (t : Shape) → sound_members ms ≡ true → shape_at ms id ≡ Some t → Agree t t
  same_member no_members id t s e = absurd cc
  same_member (member h u ms) id t s e = elim (cases_Bool (h.id == id)) [
    | inl y ↦ (let f : Some u ≡ Some t = ap (λ (c : Bool). cond c (Some u) (shape_at ms id)) (sym y) ∙ e in
        let one : u ≡ t = cc in subst (λ (x : Shape). Agree x x) one (same u (left (sound u) (sound_members ms) s)))
    | inr n ↦ same_member ms id t (right (sound u) (sound_members ms) s) (ap (λ (c : Bool). cond c (Some u) (shape_at ms id)) (sym n) ∙ e)
  ]

  same_case : (cs : Cases) (i : ℕ) (t : Shape) → sound_cases cs ≡ true → case_at cs i ≡ Some t → Agree t t
  same_case no_cases i t s e = absurd cc
  same_case (one_case h u cs) i t s e = elim (cases_Bool (h.id == i)) [
    | inl y ↦ (let f : Some u ≡ Some t = ap (λ (c : Bool). cond c (Some u) (case_at cs i)) (sym y) ∙ e in
        let one : u ≡ t = cc in subst (λ (x : Shape). Agree x x) one (same u (left (sound u) (sound_cases cs) s)))
    | inr n ↦ same_case cs i t (right (sound u) (sound_cases cs) s) (ap (λ (c : Bool). cond c (Some u) (case_at cs i)) (sym n) ∙ e)
  ]

-- ---- what fits agrees

by_strong : (r : Rep) (F : Shape → Type 0) (t u : Shape) → Strong r F t u → Agree t t → (F u → Agree t u) → Agree t u
by_strong r F t u s a f = elim s [ inl e ↦ subst (λ (x : Shape). Agree t x) e a | inr g ↦ f g.1 ]

pub drop_head : (ns : Members) (h : Head) (t : Shape) (ms : Members) → has_member ns h.id ≡ false → ids_within ns (member h t ms) ≡ true → ids_within ns ms ≡ true
drop_head no_members h t ms n e = refl
drop_head (member k u ns) h t ms n e =
    let other = or_parts (k.id == h.id) (has_member ns h.id) n in
    let both = and_parts ((h.id == k.id) || has_member ms k.id) (ids_within ns (member h t ms)) e in
    and_from (has_member ms k.id) (ids_within ns ms)
    (ap (λ (c : Bool). c || has_member ms k.id) (sym (ne_eqb h.id k.id (λ z. eqb-false k.id h.id other.0 (sym z)))) ∙ both.0) (drop_head ns h t ms other.1 both.1)

is-labelled : (cs : Cases) (d : ℤ) → is_some (labelled cs d) ≡ has_label cs d
is-labelled no_cases d = refl
is-labelled (one_case h t cs) d = elim (cases_Bool (has (int_eq d) h.labels)) [
  | inl y ↦ ap (λ (c : Bool). is_some (cond c (Some h.id) (labelled cs d))) y ∙ ap (λ (c : Bool). c || has_label cs d) (sym y)
  | inr n ↦ ap (λ (c : Bool). is_some (cond c (Some h.id) (labelled cs d))) n ∙ is-labelled cs d ∙ ap (λ (c : Bool). c || has_label cs d) (sym n)
]

is-default : (cs : Cases) → is_some (default_case cs) ≡ has_default cs
is-default no_cases = refl
is-default (one_case h t cs) = elim (cases_Bool h.is_default) [
  | inl y ↦ ap (λ (c : Bool). is_some (cond c (Some h.id) (default_case cs))) y ∙ ap (λ (c : Bool). c || has_default cs) (sym y)
  | inr n ↦ ap (λ (c : Bool). is_some (cond c (Some h.id) (default_case cs))) n ∙ is-default cs ∙ ap (λ (c : Bool). c || has_default cs) (sym n)
]

is-or_else : (a b : Option ℕ) → is_some (or_else a b) ≡ (is_some a || is_some b)
is-or_else None b = refl
is-or_else (Some x) b = refl

is-select : (cs : Cases) (d : ℤ) → is_some (select cs d) ≡ (has_label cs d || has_default cs)
is-select cs d = is-or_else (labelled cs d) (default_case cs) ∙ ap₂ (λ (a b : Bool). a || b) (is-labelled cs d) (is-default cs)

of_labels : (ls : List ℤ) (ds : Cases) (d : ℤ) → all (λ l. has_label ds l) ls ≡ true → has (int_eq d) ls ≡ true → has_label ds d ≡ true
of_labels [] ds d a e = absurd cc
of_labels (l ∷ ls) ds d a e = elim (or_cases (int_eq d l) (has (int_eq d) ls) e) [
  | inl y ↦ (let same : d ≡ l = (Decides-int_eq d l).0 y in ap (has_label ds) same ∙ left (has_label ds l) (all (λ l. has_label ds l) ls) a)
  | inr n ↦ of_labels ls ds d (right (has_label ds l) (all (λ l. has_label ds l) ls) a) n
]

of_within : (cs ds : Cases) (d : ℤ) → labels_within cs ds ≡ true → has_label cs d ≡ true → has_label ds d ≡ true
of_within no_cases ds d w e = absurd cc
of_within (one_case h t cs) ds d w e =
    let p = and_parts (all (λ l. has_label ds l) h.labels) (labels_within cs ds) w in
    elim (or_cases (has (int_eq d) h.labels) (has_label cs d) e) [ inl y ↦ of_labels h.labels ds d p.0 y | inr n ↦ of_within cs ds d p.1 n ]

pub beq_same : (a b : Bool) → beq a b ≡ true → a ≡ b
beq_same true true e = refl
beq_same false false e = refl
beq_same true false e = absurd cc
beq_same false true e = absurd cc

pub both_ways_same : (a b : Bool) → (a ≡ true → b ≡ true) → (b ≡ true → a ≡ true) → a ≡ b
both_ways_same true b f g = sym (f refl)
both_ways_same false true f g = g refl
both_ways_same false false f g = refl

-- FINAL unions select on both sides or on neither
pub same_sides : (cs ds : Cases) → label_sets Final cs ds ≡ true → (d : ℤ) → is_some (select cs d) ≡ is_some (select ds d)
same_sides cs ds e d =
    let p = and_parts (labels_within cs ds) (labels_within ds cs && beq (has_default cs) (has_default ds)) e in
    let q = and_parts (labels_within ds cs) (beq (has_default cs) (has_default ds)) p.1 in
    is-select cs d ∙ ap₂ (λ (a b : Bool). a || b) (both_ways_same (has_label cs d) (has_label ds d) (of_within cs ds d p.0) (of_within ds cs d q.0)) (beq_same (has_default cs) (has_default ds) q.1) ∙ sym (is-select ds d)

mutual
  pub agree_from : (q : Policy) (t t2 : Shape) → sound t ≡ true → sound t2 ≡ true → Fits q Xcdr2 t t2 → Agree t t2
  agree_from q (prim p) t2 s s2 f = subst (λ (x : Shape). Agree (prim p) x) (sym f) (same_prim p)
  agree_from q (str a) t2 s s2 f = subst (λ (x : Shape). Agree (str a) x) (sym f.1) (both_str a f.0)
  agree_from q (enumeration e bits ls) t2 s s2 f = subst (λ (x : Shape). Agree (enumeration e bits ls) x) (sym f.1) (same_bits e e bits ls f.0)
  agree_from q (bitmask bits fs) t2 s s2 f = subst (λ (x : Shape). Agree (bitmask bits fs) x) (sym f.1) (same_mask bits fs f.0)
  agree_from q (sequence a tc t) t2 s s2 f =
      let s3 : sound f.2 ≡ true = ap sound (sym f.3) ∙ s2 in
      subst (λ (x : Shape). Agree (sequence a tc t) x) (sym f.3) (both_sequence a f.0 tc f.1 t f.2 (by_strong Xcdr2 (λ x. Fits q Xcdr2 t x) t f.2 f.4 (same t s) (λ g. agree_from q t f.2 s s3 g)))
  agree_from q (array dims tc t) t2 s s2 f =
      let one = right (nat_lt 0 (product dims)) (sound t) s in
      let s3 : sound f.1 ≡ true = right (nat_lt 0 (product dims)) (sound f.1) (ap sound (sym f.2) ∙ s2) in
      subst (λ (x : Shape). Agree (array dims tc t) x) (sym f.2) (same_dims dims tc f.0 t f.1 (by_strong Xcdr2 (λ x. Fits q Xcdr2 t x) t f.1 f.3 (same t one) (λ g. agree_from q t f.1 one s3 g)))
  agree_from q (map_of a kc k vc t) t2 s s2 f =
      let s3 : (sound f.2 && sound f.4) ≡ true = ap sound (sym f.5) ∙ s2 in
      let sk = left (sound k) (sound t) s in
      let st = right (sound k) (sound t) s in
      subst (λ (x : Shape). Agree (map_of a kc k vc t) x) (sym f.5) (both_map a f.0 kc f.1 vc f.3 k f.2 t f.4
      (by_strong Xcdr2 (λ x. Fits q Xcdr2 k x) k f.2 f.6 (same k sk) (λ g. agree_from q k f.2 sk (left (sound f.2) (sound f.4) s3) g))
      (by_strong Xcdr2 (λ x. Fits q Xcdr2 t x) t f.4 f.7 (same t st) (λ g. agree_from q t f.4 st (right (sound f.2) (sound f.4) s3) g)))
  agree_from q (structure Final ms) t2 s s2 f =
      let a = right (some_member ms) (distinct_members ms && sound_members ms) s in
      let c = right (some_member f.0) (distinct_members f.0 && sound_members f.0) (ap sound (sym f.1) ∙ s2) in
      let w = right (members_match q ms f.0) (ids_within ms f.0 && ids_within f.0 ms) f.2 in
      subst (λ (x : Shape). Agree (structure Final ms) x) (sym f.1) (both_final ms f.0 (all_from q ms f.0 (left (distinct_members ms) (sound_members ms) a) (left (distinct_members f.0) (sound_members f.0) c) (right (distinct_members ms) (sound_members ms) a) (right (distinct_members f.0) (sound_members f.0) c)
      (left (ids_within ms f.0) (ids_within f.0 ms) w) (right (ids_within ms f.0) (ids_within f.0 ms) w) f.3))
  agree_from q (structure Appendable ms) t2 s s2 f =
      let a = right (some_member ms) (distinct_members ms && sound_members ms) s in
      let c = right (some_member f.0) (distinct_members f.0 && sound_members f.0) (ap sound (sym f.1) ∙ s2) in
      subst (λ (x : Shape). Agree (structure Appendable ms) x) (sym f.1) (both_appendable ms f.0 (front_from q ms f.0 (left (distinct_members ms) (sound_members ms) a) (right (distinct_members ms) (sound_members ms) a) (right (distinct_members f.0) (sound_members f.0) c) f.3))
  agree_from q (structure Mutable ms) t2 s s2 f =
      let a = right (some_member ms) (distinct_members ms && sound_members ms) s in
      let c = right (some_member f.0) (distinct_members f.0 && sound_members f.0) (ap sound (sym f.1) ∙ s2) in
      subst (λ (x : Shape). Agree (structure Mutable ms) x) (sym f.1) (both_mutable ms f.0 (left (distinct_members ms) (sound_members ms) a)
      (λ id t u e g. by_id_from q ms f.0 (right (distinct_members ms) (sound_members ms) a) (right (distinct_members f.0) (sound_members f.0) c) f.3 id t u e g))
  agree_from q (union Final key disc cs) t2 s s2 f =
      let c : (sound f.1 && sound_cases f.2) ≡ true = ap sound (sym f.3) ∙ s2 in
      let sd = left (sound disc) (sound_cases cs) s in
      subst (λ (x : Shape). Agree (union Final key disc cs) x) (sym f.3) (final_union key f.0 disc f.1 cs f.2
      (by_strong Xcdr2 (λ x. Fits q Xcdr2 disc x) disc f.1 f.4 (same disc sd) (λ g. agree_from q disc f.1 sd (left (sound f.1) (sound_cases f.2) c) g))
      (same_sides cs f.2 (right (q.ignore_member_names || same_case_names (case_heads cs) (case_heads f.2)) (label_sets Final cs f.2) f.5))
      (λ d i j t u e g h k. case_from q cs cs f.2 (right (sound disc) (sound_cases cs) s) (right (sound f.1) (sound_cases f.2) c) f.6 d i j t u e g h k))
  agree_from q (union Appendable key disc cs) t2 s s2 f =
      let c : (sound f.1 && sound_cases f.2) ≡ true = ap sound (sym f.3) ∙ s2 in
      let sd = left (sound disc) (sound_cases cs) s in
      subst (λ (x : Shape). Agree (union Appendable key disc cs) x) (sym f.3) (appendable_union key f.0 disc f.1 cs f.2
      (λ j u e. is_solid u (sound_case f.2 j u (right (sound f.1) (sound_cases f.2) c) e))
      (by_strong Xcdr2 (λ x. Fits q Xcdr2 disc x) disc f.1 f.4 (same disc sd) (λ g. agree_from q disc f.1 sd (left (sound f.1) (sound_cases f.2) c) g))
      (λ d i j t u e g h k. case_from q cs cs f.2 (right (sound disc) (sound_cases cs) s) (right (sound f.1) (sound_cases f.2) c) f.6 d i j t u e g h k))
  agree_from q (union Mutable key disc cs) t2 s s2 f = absurd cc

  all_from : (q : Policy) (ms ns : Members) → distinct_members ms ≡ true → distinct_members ns ≡ true → sound_members ms ≡ true → sound_members ns ≡ true → ids_within ms ns ≡ true → ids_within ns ms ≡ true → FitInOrder q Xcdr2 ms ns → AllInOrder ms ns
  all_from q no_members no_members d d2 s s2 w w2 f = none_left
  all_from q no_members (member h2 t2 ns) d d2 s s2 w w2 f = absurd cc
  all_from q (member h t ms) no_members d d2 s s2 w w2 f = absurd cc
  all_from q (member h t ms) (member h2 t2 ns) d d2 s s2 w w2 f =
      let n1 : has_member ms h.id ≡ false = not-true (has_member ms h.id) (left (not (has_member ms h.id)) (distinct_members ms) d) in
      let n2 : has_member ns h2.id ≡ false = not-true (has_member ns h2.id) (left (not (has_member ns h2.id)) (distinct_members ns) d2) in
      let out : has_member ms h2.id ≡ false = ap (has_member ms) (sym f.0) ∙ n1 in
      let out2 : has_member ns h.id ≡ false = ap (has_member ns) f.0 ∙ n2 in
      let st = left (sound t) (sound_members ms) s in
      next_of_all h h2 t t2 ms ns f.0 f.1 out (by_strong Xcdr2 (λ x. Fits q Xcdr2 t x) t t2 f.2 (same t st) (λ g. agree_from q t t2 st (left (sound t2) (sound_members ns) s2) g))
      (all_from q ms ns (right (not (has_member ms h.id)) (distinct_members ms) d) (right (not (has_member ns h2.id)) (distinct_members ns) d2) (right (sound t) (sound_members ms) s) (right (sound t2) (sound_members ns) s2)
      (drop_head ms h2 t2 ns out (right ((h2.id == h.id) || has_member ns h.id) (ids_within ms (member h2 t2 ns)) w)) (drop_head ns h t ms out2 (right ((h.id == h2.id) || has_member ms h2.id) (ids_within ns (member h t ms)) w2)) f.3)

  front_from : (q : Policy) (ms ns : Members) → distinct_members ms ≡ true → sound_members ms ≡ true → sound_members ns ≡ true → FitInOrder q Xcdr2 ms ns → FrontInOrder ms ns
  front_from q no_members ns d s s2 f = reader_ends ns
  front_from q (member h t ms) no_members d s s2 f = writer_ends h t ms
  front_from q (member h t ms) (member h2 t2 ns) d s s2 f =
      let n1 : has_member ms h.id ≡ false = not-true (has_member ms h.id) (left (not (has_member ms h.id)) (distinct_members ms) d) in
      let st = left (sound t) (sound_members ms) s in
      let st2 = left (sound t2) (sound_members ns) s2 in
      next_of_both h h2 t t2 ms ns f.0 f.1 (ap (has_member ms) (sym f.0) ∙ n1) (is_solid t2 st2) (by_strong Xcdr2 (λ x. Fits q Xcdr2 t x) t t2 f.2 (same t st) (λ g. agree_from q t t2 st st2 g))
      (front_from q ms ns (right (not (has_member ms h.id)) (distinct_members ms) d) (right (sound t) (sound_members ms) s) (right (sound t2) (sound_members ns) s2) f.3)

  by_id_from : (q : Policy) (ms ns : Members) → sound_members ms ≡ true → sound_members ns ≡ true → FitById q Xcdr2 ms ns → (id : ℕ) (t u : Shape) → shape_at ms id ≡ Some t → shape_at ns id ≡ Some u → Agree t u
  by_id_from q no_members ns s s2 f id t u e g = absurd cc
  by_id_from q (member h k ms) ns s s2 f id t u e g = elim (cases_Bool (h.id == id)) [
    | inl y ↦ (let z : Some k ≡ Some t = ap (λ (c : Bool). cond c (Some k) (shape_at ms id)) (sym y) ∙ e in
        let one : k ≡ t = cc in
        let there : shape_at ns h.id ≡ Some u = ap (shape_at ns) (eqb-true h.id id y) ∙ g in
        let fit : Fits q Xcdr2 k u = subst (λ (x : Option Shape). when x (λ t2. Fits q Xcdr2 k t2)) there f.0 in
        subst (λ (x : Shape). Agree x u) one (agree_from q k u (left (sound k) (sound_members ms) s) (sound_at ns id u s2 g) fit))
    | inr n ↦ by_id_from q ms ns (right (sound k) (sound_members ms) s) s2 f.1 id t u (ap (λ (c : Bool). cond c (Some k) (shape_at ms id)) (sym n) ∙ e) g
  ]

  case_from : (q : Policy) (cs whole ds : Cases) → sound_cases cs ≡ true → sound_cases ds ≡ true → FitCases q Xcdr2 whole cs ds → (d : ℤ) (i j : ℕ) (t u : Shape) → select whole d ≡ Some i → select ds d ≡ Some j → case_at cs i ≡ Some t → case_at ds j ≡ Some u → Agree t u
  case_from q no_cases whole ds s s2 f d i j t u e g h k = absurd cc
  case_from q (one_case a x cs) whole ds s s2 f d i j t u e g h k = elim (cases_Bool (a.id == i)) [
    | inl y ↦ (let z : Some x ≡ Some t = ap (λ (c : Bool). cond c (Some x) (case_at cs i)) (sym y) ∙ h in
        let one : x ≡ t = cc in
        let chosen : select whole d ≡ Some a.id = e ∙ ap (λ (n : ℕ). Some n) (sym (eqb-true a.id i y)) in
        let fit : Fits q Xcdr2 x u = subst (λ (o : Option Shape). when o (λ t2. Fits q Xcdr2 x t2)) k (f.0 d j chosen g) in
        subst (λ (z : Shape). Agree z u) one (agree_from q x u (left (sound x) (sound_cases cs) s) (sound_case ds j u s2 k) fit))
    | inr n ↦ case_from q cs whole ds (right (sound x) (sound_cases cs) s) s2 f.1 d i j t u e g (ap (λ (c : Bool). cond c (Some x) (case_at cs i)) (sym n) ∙ h) k
  ]
