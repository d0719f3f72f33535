-- What the rules of assignability give in XCDR1.
use Rattle.std.proofs.Common.{◌≡◌, ℕ, ℤ, Bool, true, false, cond, not, ◌||◌, ◌&&◌, Option, Some, refl, sym, ap, subst, ◌∙◌, inl, inr, ◌==◌, nat_lt}
use Rattle.std.proofs.lemmas.Bool.{cases_Bool, eqb-true, not-true}
use Rattle.xt_shapes.specs.declared.leaves.Ext.TheVariants.{Final, Appendable, Mutable}
use Rattle.xt_shapes.specs.declared.leaves.Rep.{Rep}
use Rattle.xt_shapes.specs.declared.leaves.Rep.TheVariants.{Xcdr1}
use Rattle.xt_shapes.specs.Select.{select, has_member, case_at, shape_at}
use Rattle.xt_shapes.specs.Shape.{Shape, prim, str, enumeration, bitmask, sequence, array, map_of, structure, union, Members, no_members, member, Cases, no_cases, one_case, product, case_heads}
use Rattle.xcdr_model.specs.declared.verdict.Policy.{Policy}
use Rattle.xcdr_model.specs.Assignable.{Strong, Fits, FitInOrder, FitById, FitCases, when, members_match}
use Rattle.xcdr_model.specs.Premises.{sound, sound_members, sound_cases, some_member, distinct_members}
use Rattle.xcdr_model.specs.Rules.{same_case_names, ids_within, label_sets, delimited}
use Rattle.xcdr_model.specs.Xcdr1Reading.{is_open}
use Rattle.shape_laws.proofs.Agreement1.{Inner, in_prim, in_str, in_bits, in_mask, in_sequence, in_array, in_map, in_final, in_appendable, in_mutable, in_union, Tail, of_closed, end_appendable, end_final_union, end_union, AllInner, none_left, next_of_all, FrontInner, reader_ends, writer_ends, next_of_both}
use Rattle.shape_laws.proofs.Rules.{left, right, is_solid, sound_at, sound_case, drop_head, same_sides}

abbrev Both : Shape → Shape → Type 0
Both t t2 = Inner t t2 × Tail t t2

closed_both : (t t2 : Shape) → is_open t ≡ false → is_open t2 ≡ false → Inner t t2 → Both t t2
closed_both t t2 e f g = (g, of_closed t t2 e f g)

one_case_of : (cs : Cases) (d : ℤ) (i j : ℕ) (t t2 : Shape) → select cs d ≡ Some i → select cs d ≡ Some j → case_at cs i ≡ Some t → case_at cs j ≡ Some t2 → t ≡ t2
one_case_of cs d i j t t2 e f g h =
    let ij : Some i ≡ Some j = sym e ∙ f in
    let one : i ≡ j = cc in
    let both : Some t ≡ Some t2 = sym g ∙ ap (case_at cs) one ∙ h in
    cc

-- ---- a type agrees with itself

mutual
  pub same1 : (t : Shape) → sound t ≡ true → Both t t
  same1 (prim p) s = closed_both (prim p) (prim p) refl refl (in_prim p)
  same1 (str bound) s = closed_both (str bound) (str bound) refl refl (in_str bound bound)
  same1 (enumeration x bits ls) s = closed_both (enumeration x bits ls) (enumeration x bits ls) refl refl (in_bits x x bits ls ls)
  same1 (bitmask bits fs) s = closed_both (bitmask bits fs) (bitmask bits fs) refl refl (in_mask bits fs fs)
  same1 (sequence bound tc t) s = closed_both (sequence bound tc t) (sequence bound tc t) refl refl (in_sequence bound bound tc tc t t (same1 t s).0)
  same1 (array dims tc t) s = closed_both (array dims tc t) (array dims tc t) refl refl (in_array dims tc tc t t (same1 t (right (nat_lt 0 (product dims)) (sound t) s)).0)
  same1 (map_of bound kc k vc t) s = closed_both (map_of bound kc k vc t) (map_of bound kc k vc t) refl refl (in_map bound bound kc kc vc vc k k t t (same1 k (left (sound k) (sound t) s)).0 (same1 t (right (sound k) (sound t) s)).0)
  same1 (structure Final ms) s = let a = right (some_member ms) (distinct_members ms && sound_members ms) s in
      closed_both (structure Final ms) (structure Final ms) refl refl (in_final ms ms (same1_all ms (left (distinct_members ms) (sound_members ms) a) (right (distinct_members ms) (sound_members ms) a)))
  same1 (structure Appendable ms) s = let a = right (some_member ms) (distinct_members ms && sound_members ms) s in
      (in_appendable ms ms (same1_all ms (left (distinct_members ms) (sound_members ms) a) (right (distinct_members ms) (sound_members ms) a)), end_appendable ms ms (same1_front ms (left (distinct_members ms) (sound_members ms) a) (right (distinct_members ms) (sound_members ms) a)))
  same1 (structure Mutable ms) s = let a = right (some_member ms) (distinct_members ms && sound_members ms) s in
      closed_both (structure Mutable ms) (structure Mutable ms) refl refl (in_mutable ms ms (left (distinct_members ms) (sound_members ms) a) (λ id t t2 e f.
      let both : Some t ≡ Some t2 = sym e ∙ f in
      let one : t ≡ t2 = cc in subst (λ (x : Shape). Tail t x) one (same1_member ms id t (right (distinct_members ms) (sound_members ms) a) e)))
  same1 (union Final key disc cs) s =
      let d = (same1 disc (left (sound disc) (sound_cases cs) s)).0 in
      let c = right (sound disc) (sound_cases cs) s in (
        in_union Final Final key key disc disc cs cs d (λ d. refl) (λ d i j t t2 e f g h. subst (λ (x : Shape). Inner t x) (one_case_of cs d i j t t2 e f g h) (same1_case cs i t c g).0),
        end_final_union key key disc disc cs cs d (λ d. refl) (λ d i j t t2 e f g h. subst (λ (x : Shape). Tail t x) (one_case_of cs d i j t t2 e f g h) (same1_case cs i t c g).1),
      )
  same1 (union Appendable key disc cs) s =
      let d = (same1 disc (left (sound disc) (sound_cases cs) s)).0 in
      let c = right (sound disc) (sound_cases cs) s in (
        in_union Appendable Appendable key key disc disc cs cs d (λ d. refl) (λ d i j t t2 e f g h. subst (λ (x : Shape). Inner t x) (one_case_of cs d i j t t2 e f g h) (same1_case cs i t c g).0),
        end_union key key disc disc cs cs (λ j t2 e. is_solid t2 (sound_case cs j t2 c e)) d (λ d i j t t2 e f g h. subst (λ (x : Shape). Tail t x) (one_case_of cs d i j t t2 e f g h) (same1_case cs i t c g).1),
      )
  same1 (union Mutable key disc cs) s = absurd cc

  same1_all : (ms : Members) → distinct_members ms ≡ true → sound_members ms ≡ true → AllInner ms ms
  same1_all no_members d s = none_left
  same1_all (member h t ms) d s =
      let st = left (sound t) (sound_members ms) s in
      let g = same1 t st in
      next_of_all h h t t ms ms refl refl (not-true (has_member ms h.id) (left (not (has_member ms h.id)) (distinct_members ms) d)) (is_solid t st) g.0 g.1 (same1_all ms (right (not (has_member ms h.id)) (distinct_members ms) d) (right (sound t) (sound_members ms) s))

  same1_front : (ms : Members) → distinct_members ms ≡ true → sound_members ms ≡ true → FrontInner ms ms
  same1_front no_members d s = reader_ends no_members
  same1_front (member h t ms) d s =
      let st = left (sound t) (sound_members ms) s in
      let g = same1 t st in
      next_of_both h h t t ms ms refl refl (not-true (has_member ms h.id) (left (not (has_member ms h.id)) (distinct_members ms) d)) (is_solid t st) g.0 g.1 (same1_front ms (right (not (has_member ms h.id)) (distinct_members ms) d) (right (sound t) (sound_members ms) s))

  same1_member : (ms : Members) (id : ℕ) (t : Shape) → sound_members ms ≡ true → shape_at ms id ≡ Some t → Tail t t
  same1_member no_members id t s e = absurd cc
  same1_member (member h u ms) id t s e = elim (cases_Bool (h.id == id)) [
    | inl y ↦ (let f : Some u ≡ Some t = ap (λ (c : Bool). cond c (Some u) (shape_at ms id)) (sym y) ∙ e in
        let one : u ≡ t = cc in subst (λ (x : Shape). Tail x x) one (same1 u (left (sound u) (sound_members ms) s)).1)
    | inr n ↦ same1_member ms id t (right (sound u) (sound_members ms) s) (ap (λ (c : Bool). cond c (Some u) (shape_at ms id)) (sym n) ∙ e)
  ]

  same1_case : (cs : Cases) (i : ℕ) (t : Shape) → sound_cases cs ≡ true → case_at cs i ≡ Some t → Both t t
  same1_case no_cases i t s e = absurd cc
  same1_case (one_case h u cs) i t s e = elim (cases_Bool (h.id == i)) [
    | inl y ↦ (let f : Some u ≡ Some t = ap (λ (c : Bool). cond c (Some u) (case_at cs i)) (sym y) ∙ e in
        let one : u ≡ t = cc in subst (λ (x : Shape). Both x x) one (same1 u (left (sound u) (sound_cases cs) s)))
    | inr n ↦ same1_case cs i t (right (sound u) (sound_cases cs) s) (ap (λ (c : Bool). cond c (Some u) (case_at cs i)) (sym n) ∙ e)
  ]

-- ---- what fits agrees

-- the inner law is for what is delimited, and the tail law for all that fits
abbrev Fitted : Shape → Shape → Type 0
Fitted t t2 = (is_open t ≡ false → Inner t t2) × Tail t t2

closed_fitted : (t t2 : Shape) → is_open t ≡ false → is_open t2 ≡ false → Inner t t2 → Fitted t t2
closed_fitted t t2 e f g = ((λ _. g), of_closed t t2 e f g)

delimited_closed : (t : Shape) → delimited Xcdr1 t ≡ true → is_open t ≡ false
delimited_closed (prim p) e = refl
delimited_closed (str bound) e = refl
delimited_closed (enumeration x bits ls) e = refl
delimited_closed (bitmask bits fs) e = refl
delimited_closed (sequence bound tc t) e = refl
delimited_closed (array dims tc t) e = refl
delimited_closed (map_of bound kc k vc t) e = refl
delimited_closed (structure Final ms) e = refl
delimited_closed (structure Appendable ms) e = absurd cc
delimited_closed (structure Mutable ms) e = refl
delimited_closed (union Final key disc cs) e = absurd cc
delimited_closed (union Appendable key disc cs) e = absurd cc
delimited_closed (union Mutable key disc cs) e = absurd cc

open_fits : (q : Policy) (r : Rep) (t t2 : Shape) → Fits q r t t2 → is_open t2 ≡ is_open t
open_fits q r (prim p) t2 f = ap is_open f
open_fits q r (str a) t2 f = ap is_open f.1
open_fits q r (enumeration e bits ls) t2 f = ap is_open f.1
open_fits q r (bitmask bits fs) t2 f = ap is_open f.1
open_fits q r (sequence a tc t) t2 f = ap is_open f.3
open_fits q r (array dims tc t) t2 f = ap is_open f.2
open_fits q r (map_of a kc k vc t) t2 f = ap is_open f.5
open_fits q r (structure Final ms) t2 f = ap is_open f.1
open_fits q r (structure Appendable ms) t2 f = ap is_open f.1
open_fits q r (structure Mutable ms) t2 f = ap is_open f.1
open_fits q r (union e key disc cs) t2 f = ap is_open f.3

pub by_strong1 : (q : Policy) (t u : Shape) → Strong Xcdr1 (λ x. Fits q Xcdr1 t x) t u → Both t t → (Fits q Xcdr1 t u → Fitted t u) → Both t u
by_strong1 q t u s a f = elim s [
  | inl e ↦ subst (λ (x : Shape). Both t x) e a
  | inr g ↦ (let z = f g.1 in (z.0 (sym (open_fits q Xcdr1 t u g.1) ∙ delimited_closed u g.0), z.1))
]

mutual
  pub fitted : (q : Policy) (t t2 : Shape) → sound t ≡ true → sound t2 ≡ true → Fits q Xcdr1 t t2 → Fitted t t2
  fitted q (prim p) t2 s s2 f = subst (λ (x : Shape). Fitted (prim p) x) (sym f) (closed_fitted (prim p) (prim p) refl refl (in_prim p))
  fitted q (str a) t2 s s2 f = subst (λ (x : Shape). Fitted (str a) x) (sym f.1) (closed_fitted (str a) (str f.0) refl refl (in_str a f.0))
  fitted q (enumeration e bits ls) t2 s s2 f = subst (λ (x : Shape). Fitted (enumeration e bits ls) x) (sym f.1) (closed_fitted (enumeration e bits ls) (enumeration e bits f.0) refl refl (in_bits e e bits ls f.0))
  fitted q (bitmask bits fs) t2 s s2 f = subst (λ (x : Shape). Fitted (bitmask bits fs) x) (sym f.1) (closed_fitted (bitmask bits fs) (bitmask bits f.0) refl refl (in_mask bits fs f.0))
  fitted q (sequence a tc t) t2 s s2 f =
      let s3 : sound f.2 ≡ true = ap sound (sym f.3) ∙ s2 in
      subst (λ (x : Shape). Fitted (sequence a tc t) x) (sym f.3) (closed_fitted (sequence a tc t) (sequence f.0 f.1 f.2) refl refl (in_sequence a f.0 tc f.1 t f.2 (by_strong1 q t f.2 f.4 (same1 t s) (λ g. fitted q t f.2 s s3 g)).0))
  fitted q (array dims tc t) t2 s s2 f =
      let one = right (nat_lt 0 (product dims)) (sound t) s in
      let s3 : sound f.1 ≡ true = right (nat_lt 0 (product dims)) (sound f.1) (ap sound (sym f.2) ∙ s2) in
      subst (λ (x : Shape). Fitted (array dims tc t) x) (sym f.2) (closed_fitted (array dims tc t) (array dims f.0 f.1) refl refl (in_array dims tc f.0 t f.1 (by_strong1 q t f.1 f.3 (same1 t one) (λ g. fitted q t f.1 one s3 g)).0))
  fitted q (map_of a kc k vc t) t2 s s2 f =
      let s3 : (sound f.2 && sound f.4) ≡ true = ap sound (sym f.5) ∙ s2 in
      let sk = left (sound k) (sound t) s in
      let st = right (sound k) (sound t) s in
      subst (λ (x : Shape). Fitted (map_of a kc k vc t) x) (sym f.5) (closed_fitted (map_of a kc k vc t) (map_of f.0 f.1 f.2 f.3 f.4) refl refl (in_map a f.0 kc f.1 vc f.3 k f.2 t f.4
      (by_strong1 q k f.2 f.6 (same1 k sk) (λ g. fitted q k f.2 sk (left (sound f.2) (sound f.4) s3) g)).0
      (by_strong1 q t f.4 f.7 (same1 t st) (λ g. fitted q t f.4 st (right (sound f.2) (sound f.4) s3) g)).0))
  fitted q (structure Final ms) t2 s s2 f =
      let a = right (some_member ms) (distinct_members ms && sound_members ms) s in
      let c = right (some_member f.0) (distinct_members f.0 && sound_members f.0) (ap sound (sym f.1) ∙ s2) in
      let w = right (members_match q ms f.0) (ids_within ms f.0 && ids_within f.0 ms) f.2 in
      subst (λ (x : Shape). Fitted (structure Final ms) x) (sym f.1) (closed_fitted (structure Final ms) (structure Final f.0) refl refl (in_final ms f.0 (all1_from q ms f.0 (left (distinct_members ms) (sound_members ms) a) (left (distinct_members f.0) (sound_members f.0) c) (right (distinct_members ms) (sound_members ms) a) (right (distinct_members f.0) (sound_members f.0) c)
      (left (ids_within ms f.0) (ids_within f.0 ms) w) (right (ids_within ms f.0) (ids_within f.0 ms) w) f.3)))
  fitted q (structure Appendable ms) t2 s s2 f =
      let a = right (some_member ms) (distinct_members ms && sound_members ms) s in
      let c = right (some_member f.0) (distinct_members f.0 && sound_members f.0) (ap sound (sym f.1) ∙ s2) in
      ((λ e. absurd cc), subst (λ (x : Shape). Tail (structure Appendable ms) x) (sym f.1) (end_appendable ms f.0 (front1_from q ms f.0 (left (distinct_members ms) (sound_members ms) a) (right (distinct_members ms) (sound_members ms) a) (right (distinct_members f.0) (sound_members f.0) c) f.3)))
  fitted q (structure Mutable ms) t2 s s2 f =
      let a = right (some_member ms) (distinct_members ms && sound_members ms) s in
      let c = right (some_member f.0) (distinct_members f.0 && sound_members f.0) (ap sound (sym f.1) ∙ s2) in
      subst (λ (x : Shape). Fitted (structure Mutable ms) x) (sym f.1) (closed_fitted (structure Mutable ms) (structure Mutable f.0) refl refl (in_mutable ms f.0 (left (distinct_members ms) (sound_members ms) a)
      (λ id t u e g. by_id1_from q ms f.0 (right (distinct_members ms) (sound_members ms) a) (right (distinct_members f.0) (sound_members f.0) c) f.3 id t u e g)))
  fitted q (union Final key disc cs) t2 s s2 f =
      let c : (sound f.1 && sound_cases f.2) ≡ true = ap sound (sym f.3) ∙ s2 in
      let sd = left (sound disc) (sound_cases cs) s in (
        (λ e. absurd cc),
        subst (λ (x : Shape). Tail (union Final key disc cs) x) (sym f.3) (end_final_union key f.0 disc f.1 cs f.2
            (by_strong1 q disc f.1 f.4 (same1 disc sd) (λ g. fitted q disc f.1 sd (left (sound f.1) (sound_cases f.2) c) g)).0
            (same_sides cs f.2 (right (q.ignore_member_names || same_case_names (case_heads cs) (case_heads f.2)) (label_sets Final cs f.2) f.5))
            (λ d i j t u e g h k. case1_from q cs cs f.2 (right (sound disc) (sound_cases cs) s) (right (sound f.1) (sound_cases f.2) c) f.6 d i j t u e g h k)),
      )
  fitted q (union Appendable key disc cs) t2 s s2 f =
      let c : (sound f.1 && sound_cases f.2) ≡ true = ap sound (sym f.3) ∙ s2 in
      let sd = left (sound disc) (sound_cases cs) s in (
        (λ e. absurd cc),
        subst (λ (x : Shape). Tail (union Appendable key disc cs) x) (sym f.3) (end_union key f.0 disc f.1 cs f.2
            (λ j u e. is_solid u (sound_case f.2 j u (right (sound f.1) (sound_cases f.2) c) e))
            (by_strong1 q disc f.1 f.4 (same1 disc sd) (λ g. fitted q disc f.1 sd (left (sound f.1) (sound_cases f.2) c) g)).0
            (λ d i j t u e g h k. case1_from q cs cs f.2 (right (sound disc) (sound_cases cs) s) (right (sound f.1) (sound_cases f.2) c) f.6 d i j t u e g h k)),
      )
  fitted q (union Mutable key disc cs) t2 s s2 f = absurd cc

  all1_from : (q : Policy) (ms ns : Members) → distinct_members ms ≡ true → distinct_members ns ≡ true → sound_members ms ≡ true → sound_members ns ≡ true → ids_within ms ns ≡ true → ids_within ns ms ≡ true → FitInOrder q Xcdr1 ms ns → AllInner ms ns
  all1_from q no_members no_members d d2 s s2 w w2 f = none_left
  all1_from q no_members (member h2 t2 ns) d d2 s s2 w w2 f = absurd cc
  all1_from q (member h t ms) no_members d d2 s s2 w w2 f = absurd cc
  all1_from q (member h t ms) (member h2 t2 ns) d d2 s s2 w w2 f =
      let n1 : has_member ms h.id ≡ false = not-true (has_member ms h.id) (left (not (has_member ms h.id)) (distinct_members ms) d) in
      let n2 : has_member ns h2.id ≡ false = not-true (has_member ns h2.id) (left (not (has_member ns h2.id)) (distinct_members ns) d2) in
      let out : has_member ms h2.id ≡ false = ap (has_member ms) (sym f.0) ∙ n1 in
      let out2 : has_member ns h.id ≡ false = ap (has_member ns) f.0 ∙ n2 in
      let st = left (sound t) (sound_members ms) s in
      let st2 = left (sound t2) (sound_members ns) s2 in
      let g = by_strong1 q t t2 f.2 (same1 t st) (λ g. fitted q t t2 st st2 g) in
      next_of_all h h2 t t2 ms ns f.0 f.1 out (is_solid t2 st2) g.0 g.1
      (all1_from q ms ns (right (not (has_member ms h.id)) (distinct_members ms) d) (right (not (has_member ns h2.id)) (distinct_members ns) d2) (right (sound t) (sound_members ms) s) (right (sound t2) (sound_members ns) s2)
      (drop_head ms h2 t2 ns out (right ((h2.id == h.id) || has_member ns h.id) (ids_within ms (member h2 t2 ns)) w)) (drop_head ns h t ms out2 (right ((h.id == h2.id) || has_member ms h2.id) (ids_within ns (member h t ms)) w2)) f.3)

  front1_from : (q : Policy) (ms ns : Members) → distinct_members ms ≡ true → sound_members ms ≡ true → sound_members ns ≡ true → FitInOrder q Xcdr1 ms ns → FrontInner ms ns
  front1_from q no_members ns d s s2 f = reader_ends ns
  front1_from q (member h t ms) no_members d s s2 f = writer_ends h t ms
  front1_from q (member h t ms) (member h2 t2 ns) d s s2 f =
      let n1 : has_member ms h.id ≡ false = not-true (has_member ms h.id) (left (not (has_member ms h.id)) (distinct_members ms) d) in
      let st = left (sound t) (sound_members ms) s in
      let st2 = left (sound t2) (sound_members ns) s2 in
      let g = by_strong1 q t t2 f.2 (same1 t st) (λ g. fitted q t t2 st st2 g) in
      next_of_both h h2 t t2 ms ns f.0 f.1 (ap (has_member ms) (sym f.0) ∙ n1) (is_solid t2 st2) g.0 g.1
      (front1_from q ms ns (right (not (has_member ms h.id)) (distinct_members ms) d) (right (sound t) (sound_members ms) s) (right (sound t2) (sound_members ns) s2) f.3)

  by_id1_from : (q : Policy) (ms ns : Members) → sound_members ms ≡ true → sound_members ns ≡ true → FitById q Xcdr1 ms ns → (id : ℕ) (t u : Shape) → shape_at ms id ≡ Some t → shape_at ns id ≡ Some u → Tail t u
  by_id1_from q no_members ns s s2 f id t u e g = absurd cc
  by_id1_from q (member h k ms) ns s s2 f id t u e g = elim (cases_Bool (h.id == id)) [
    | inl y ↦ (let z : Some k ≡ Some t = ap (λ (c : Bool). cond c (Some k) (shape_at ms id)) (sym y) ∙ e in
        let one : k ≡ t = cc in
        let there : shape_at ns h.id ≡ Some u = ap (shape_at ns) (eqb-true h.id id y) ∙ g in
        let fit : Fits q Xcdr1 k u = subst (λ (x : Option Shape). when x (λ t2. Fits q Xcdr1 k t2)) there f.0 in
        subst (λ (x : Shape). Tail x u) one (fitted q k u (left (sound k) (sound_members ms) s) (sound_at ns id u s2 g) fit).1)
    | inr n ↦ by_id1_from q ms ns (right (sound k) (sound_members ms) s) s2 f.1 id t u (ap (λ (c : Bool). cond c (Some k) (shape_at ms id)) (sym n) ∙ e) g
  ]

  case1_from : (q : Policy) (cs whole ds : Cases) → sound_cases cs ≡ true → sound_cases ds ≡ true → FitCases q Xcdr1 whole cs ds → (d : ℤ) (i j : ℕ) (t u : Shape) → select whole d ≡ Some i → select ds d ≡ Some j → case_at cs i ≡ Some t → case_at ds j ≡ Some u → Tail t u
  case1_from q no_cases whole ds s s2 f d i j t u e g h k = absurd cc
  case1_from q (one_case a x cs) whole ds s s2 f d i j t u e g h k = elim (cases_Bool (a.id == i)) [
    | inl y ↦ (let z : Some x ≡ Some t = ap (λ (c : Bool). cond c (Some x) (case_at cs i)) (sym y) ∙ h in
        let one : x ≡ t = cc in
        let chosen : select whole d ≡ Some a.id = e ∙ ap (λ (n : ℕ). Some n) (sym (eqb-true a.id i y)) in
        let fit : Fits q Xcdr1 x u = subst (λ (o : Option Shape). when o (λ t2. Fits q Xcdr1 x t2)) k (f.0 d j chosen g) in
        subst (λ (z : Shape). Tail z u) one (fitted q x u (left (sound x) (sound_cases cs) s) (sound_case ds j u s2 k) fit).1)
    | inr n ↦ case1_from q cs whole ds (right (sound x) (sound_cases cs) s) s2 f.1 d i j t u e g (ap (λ (c : Bool). cond c (Some x) (case_at cs i)) (sym n) ∙ h) k
  ]
