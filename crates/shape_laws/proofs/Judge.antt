-- Nothing fails exactly where the types fit.
use Rattle.std.proofs.Common.{◌≡◌, ℕ, ℤ, Bool, true, false, cond, not, ◌&&◌, ◌||◌, List, Option, Some, None, refl, sym, ap, ap₂, subst, ◌∙◌, inl, inr, ◌⊎◌, ◌==◌}
use Rattle.std.proofs.lemmas.Bool.{cases_Bool, and_parts, and_from, eqb-true, eq-eqb, ne_eqb, not-true, or_left, or_right, both_ways}
use Rattle.std.specs.Bool.{beq}
use Rattle.xt_shapes.specs.declared.leaves.Ext.{Ext}
use Rattle.xt_shapes.specs.declared.leaves.Ext.TheVariants.{Final, Appendable, Mutable}
use Rattle.xt_shapes.specs.declared.leaves.Primitive.{Primitive}
use Rattle.xt_shapes.specs.declared.leaves.Rep.{Rep}
use Rattle.xt_shapes.specs.declared.leaves.Step.{Step}
use Rattle.xt_shapes.specs.Kinds.{same_prim, same_ext, as_prim, as_str, as_enum, as_mask, as_sequence, as_array, as_map, as_structure, as_union}
use Rattle.xt_shapes.specs.Select.{select, case_at, shape_at}
use Rattle.xt_shapes.specs.Shape.{Head, Shape, prim, str, enumeration, bitmask, sequence, array, map_of, structure, union, Members, no_members, member, Cases, no_cases, one_case, case_heads, heads}
use Rattle.xcdr_model.specs.declared.verdict.Policy.{Policy}
use Rattle.xcdr_model.specs.declared.verdict.Rule.{Rule}
use Rattle.xcdr_model.specs.Assignable.{members_match, when, Strong, Fits, FitInOrder, FitById, FitCases}
use Rattle.xcdr_model.specs.Equivalence.{same_shape}
use Rattle.xcdr_model.specs.Failure.{First, rule, and_then, step, of_kind, if_some, strong, structure_rules, failure, index_failure, id_failure, case_failure, case_pair}
use Rattle.xcdr_model.specs.Premises.{has_case, cases_apart, in_members_apart, in_cases_apart}
use Rattle.xcdr_model.specs.Rules.{delimited, same_literal_names, literal_sets, label_sets, ids_within, needs_within, common_member, same_places, same_case_names, same_names}
use Rattle.shape_laws.proofs.Labels.{pairs_to, to_pairs, none}
use Rattle.shape_laws.proofs.Rules.{left, right, beq_same}
use Rattle.shape_laws.proofs.Same.{same_is, shape_self, same_ext_is, same_prim_is, same_dims_is, dims_self, beq_self, prim_at, str_at, enum_at, mask_at, sequence_at, array_at, map_at, structure_at, union_at}
use Rattle.xcdr_model.specs.declared.verdict.Rule.TheVariants as rules
use Rattle.xt_shapes.specs.declared.leaves.Step.TheVariants as steps

-- ---- the parts of a verdict

pub rule_to : (r : Rule) (b : Bool) (next : First) → rule r b next ≡ none → (b ≡ true) × (next ≡ none)
unfolding rule
rule_to r true next e = (refl, e)
rule_to r false next e = absurd cc

pub rule_from : (r : Rule) (b : Bool) (next : First) → b ≡ true → next ≡ none → rule r b next ≡ none
unfolding rule
rule_from r b next e f = ap (λ (c : Bool). rule r c next) e ∙ f

step_to : (s : Step) (f : First) → step s f ≡ none → f ≡ none
unfolding step
step_to s None e = refl
step_to s (Some f) e = absurd cc

step_from : (s : Step) (f : First) → f ≡ none → step s f ≡ none
unfolding step
step_from s f e = ap (step s) e

pub then_to : (a b : First) → and_then a b ≡ none → (a ≡ none) × (b ≡ none)
unfolding and_then
then_to None b e = (refl, e)
then_to (Some f) b e = absurd cc

pub then_from : (a b : First) → a ≡ none → b ≡ none → and_then a b ≡ none
unfolding and_then
then_from a b e f = ap (λ (x : First). and_then x b) e ∙ f

pub kind_to : {A : Type 0} (o : Option A) (f : A → First) → of_kind o f ≡ none → (x : A) × (o ≡ Some x) × (f x ≡ none)
unfolding of_kind
kind_to None f e = absurd cc
kind_to (Some x) f e = (x, refl, e)

strong_to : (r : Rep) (t u : Shape) (f : First) → strong r t u f ≡ none → (t ≡ u) ⊎ ((delimited r u ≡ true) × (f ≡ none))
unfolding strong
strong_to r t u f e = elim (cases_Bool (same_shape t u)) [
  | inl y ↦ inl (same_is t u y)
  | inr n ↦ inr (rule_to rules.NotDelimited (delimited r u) f (ap (λ (c : Bool). cond c none (rule rules.NotDelimited (delimited r u) f)) (sym n) ∙ e))
]

strong_from : (r : Rep) (t u : Shape) (f : First) → (t ≡ u) ⊎ ((delimited r u ≡ true) × (f ≡ none)) → strong r t u f ≡ none
unfolding strong
strong_from r t u f s = elim s [
  | inl e ↦ ap (λ (c : Bool). cond c none (rule rules.NotDelimited (delimited r u) f)) (subst (λ (x : Shape). same_shape t x ≡ true) e (shape_self t))
  | inr g ↦ elim (cases_Bool (same_shape t u)) [
    | inl y ↦ ap (λ (c : Bool). cond c none (rule rules.NotDelimited (delimited r u) f)) y
    | inr n ↦ ap (λ (c : Bool). cond c none (rule rules.NotDelimited (delimited r u) f)) n ∙ rule_from rules.NotDelimited (delimited r u) f g.0 g.1
  ]
]

-- ---- no failure: the types fit

strongly : (q : Policy) (r : Rep) (t u : Shape) → (t ≡ u) ⊎ ((delimited r u ≡ true) × (failure q r false t u ≡ none)) → (failure q r false t u ≡ none → Fits q r t u) → Strong r (λ x. Fits q r t x) t u
strongly q r t u s f = elim s [ inl e ↦ inl e | inr g ↦ inr (g.0, f g.1) ]

-- the rules of structures before the descents, all at once
rules_to : (q : Policy) (e e2 : Ext) (ms ns : Members) (next : First) → structure_rules q false e ms e2 ns next ≡ none → (e ≡ e2) × (members_match q ms ns ≡ true) × (next ≡ none)
unfolding structure_rules
rules_to q e e2 ms ns next f =
    let a = rule_to _ _ _ f in
    let b = rule_to _ _ _ a.1 in
    let c = rule_to _ _ _ b.1 in
    let d = rule_to _ _ _ c.1 in
    (same_ext_is e e2 a.0, and_from _ _ b.0 (and_from _ _ c.0 d.0), (then_to _ _ d.1).1)

at_places : (h h2 : Head) (x : Bool) → (((h.id == h2.id) && beq h.optional h2.optional) && x) ≡ true → (h.id ≡ h2.id) × (h.optional ≡ h2.optional) × (x ≡ true)
at_places h h2 x e =
    let p = and_parts ((h.id == h2.id) && beq h.optional h2.optional) x e in
    let q = and_parts (h.id == h2.id) (beq h.optional h2.optional) p.0 in
    (eqb-true h.id h2.id q.0, beq_same h.optional h2.optional q.1, p.1)

one_id : (o : Option Shape) (id : ℕ) (f : Shape → First) (P : Shape → Type 0) → ((u : Shape) → f u ≡ none → P u) → if_some o (λ u. step (steps.Member id) (f u)) ≡ none → when o P
unfolding if_some
one_id None id f P g e = tt
one_id (Some u) id f P g e = g u (step_to (steps.Member id) (f u) e)

mutual
  unfolding failure if_some case_pair

  pub to_fits : (q : Policy) (r : Rep) (t u : Shape) → cases_apart t ≡ true → failure q r false t u ≡ none → Fits q r t u
  to_fits q r (prim p) u d e =
      let x = kind_to (as_prim u) _ e in
      prim_at u x.0 x.1 ∙ ap prim (sym (same_prim_is p x.0 (rule_to _ _ _ x.2).0))
  to_fits q r (str a) u d e = let x = kind_to (as_str u) _ e in (x.0, str_at u x.0 x.1, (rule_to _ _ _ x.2).0)
  to_fits q r (enumeration k bits ls) u d e =
      let x = kind_to (as_enum u) _ e in
      let a = rule_to _ _ _ x.2 in
      let b = rule_to _ _ _ a.1 in
      let c = rule_to _ _ _ b.1 in
      let f = rule_to _ _ _ c.1 in
      (x.0.2, enum_at u x.0 x.1 ∙ ap₂ (λ (y : Ext) (z : ℕ). enumeration y z x.0.2) (sym (same_ext_is k x.0.0 a.0)) (sym (eqb-true bits x.0.1 b.0)), and_from _ _ c.0 f.0)
  to_fits q r (bitmask bits fs) u d e =
      let x = kind_to (as_mask u) _ e in
      let m = mask_at u x.0 x.1 in
      (x.0.1, m ∙ ap (λ (z : ℕ). bitmask z x.0.1) (sym (eqb-true bits x.0.0 (rule_to _ _ _ x.2).0)))
  to_fits q r (sequence a tc t) u d e =
      let x = kind_to (as_sequence u) _ e in
      let m = sequence_at u x.0 x.1 in
      let a = rule_to _ _ _ x.2 in
      (x.0.0, x.0.1, x.0.2, m, strongly q r t x.0.2 (strong_to r t x.0.2 (failure q r false t x.0.2) (step_to steps.Element _ a.1)) (λ z. to_fits q r t x.0.2 d z), a.0)
  to_fits q r (array ds tc t) u d e =
      let x = kind_to (as_array u) _ e in
      let m = array_at u x.0 x.1 in
      let a = rule_to _ _ _ x.2 in
      (x.0.1, x.0.2, m ∙ ap (λ (z : List ℕ). array z x.0.1 x.0.2) (sym (same_dims_is ds x.0.0 a.0)), strongly q r t x.0.2 (strong_to r t x.0.2 (failure q r false t x.0.2) (step_to steps.Element _ a.1)) (λ z. to_fits q r t x.0.2 d z))
  to_fits q r (map_of a kc k vc t) u d e =
      let x = kind_to (as_map u) _ e in
      let m = map_at u x.0 x.1 in
      let b = rule_to _ _ _ x.2 in
      let p = then_to _ _ b.1 in (
        x.0.0,
        x.0.1,
        x.0.2,
        x.0.3,
        x.0.4,
        m,
        strongly q r k x.0.2 (strong_to r k x.0.2 (failure q r false k x.0.2) (step_to steps.Key _ p.0)) (λ z. to_fits q r k x.0.2 (left (cases_apart k) (cases_apart t) d) z),
        strongly q r t x.0.4 (strong_to r t x.0.4 (failure q r false t x.0.4) (step_to steps.Entry _ p.1)) (λ z. to_fits q r t x.0.4 (right (cases_apart k) (cases_apart t) d) z),
        b.0,
      )
  to_fits q r (structure Final ms) u d e =
      let x = kind_to (as_structure u) _ e in
      let p = rules_to q Final x.0.0 ms x.0.1 _ x.2 in
      let a = rule_to _ _ _ p.2 in
      let b = rule_to _ _ _ a.1 in
      (x.0.1, structure_at u x.0 x.1 ∙ ap (λ (z : Ext). structure z x.0.1) (sym p.0), and_from _ _ p.1 a.0, to_places q r ms x.0.1 d b.0 b.1)
  to_fits q r (structure Appendable ms) u d e =
      let x = kind_to (as_structure u) _ e in
      let p = rules_to q Appendable x.0.0 ms x.0.1 _ x.2 in
      let b = rule_to _ _ _ p.2 in
      (x.0.1, structure_at u x.0 x.1 ∙ ap (λ (z : Ext). structure z x.0.1) (sym p.0), p.1, to_places q r ms x.0.1 d b.0 b.1)
  to_fits q r (structure Mutable ms) u d e =
      let x = kind_to (as_structure u) _ e in
      let p = rules_to q Mutable x.0.0 ms x.0.1 _ x.2 in
      (x.0.1, structure_at u x.0 x.1 ∙ ap (λ (z : Ext). structure z x.0.1) (sym p.0), p.1, to_ids q r ms x.0.1 d p.2)
  to_fits q r (union k key disc cs) u d e =
      let x = kind_to (as_union u) _ e in
      let a = rule_to _ _ _ x.2 in
      let b = rule_to _ _ _ a.1 in
      let c = rule_to _ _ _ b.1 in
      let p = then_to _ _ c.1 in
      let l = rule_to _ _ _ p.1 in
      let dd = and_parts (cases_apart disc) (in_cases_apart cs) d in (
        x.0.1,
        x.0.2,
        x.0.3,
        union_at u x.0 x.1 ∙ ap (λ (z : Ext). union z x.0.1 x.0.2 x.0.3) (sym (same_ext_is k x.0.0 a.0)),
        strongly q r disc x.0.2 (strong_to r disc x.0.2 (failure q r false disc x.0.2) (step_to steps.Disc _ p.0)) (λ z. to_fits q r disc x.0.2 dd.0 z),
        and_from _ _ b.0 l.0,
        to_cases q r cs cs x.0.3 dd.1 (λ i y z. refl) (pairs_to (λ i t2. case_failure q r cs i t2) cs x.0.3 l.1),
      )

  to_places : (q : Policy) (r : Rep) (ms ns : Members) → in_members_apart ms ≡ true → same_places ms ns ≡ true → index_failure q r ms ns ≡ none → FitInOrder q r ms ns
  to_places q r no_members ns d s e = tt
  to_places q r (member h t ms) no_members d s e = tt
  to_places q r (member h t ms) (member h2 u ns) d s e =
      let a = at_places h h2 (same_places ms ns) s in
      let p = then_to _ _ e in (
        a.0,
        a.1,
        strongly q r t u (strong_to r t u (failure q r false t u) (step_to (steps.Member h.id) _ p.0)) (λ z. to_fits q r t u (left (cases_apart t) (in_members_apart ms) d) z),
        to_places q r ms ns (right (cases_apart t) (in_members_apart ms) d) a.2 p.1,
      )

  to_ids : (q : Policy) (r : Rep) (ms ns : Members) → in_members_apart ms ≡ true → id_failure q r ms ns ≡ none → FitById q r ms ns
  to_ids q r no_members ns d e = tt
  to_ids q r (member h t ms) ns d e =
      let p = then_to _ _ e in
      (one_id (shape_at ns h.id) h.id (λ u. failure q r false t u) (λ u. Fits q r t u) (λ u z. to_fits q r t u (left (cases_apart t) (in_members_apart ms) d) z) p.0, to_ids q r ms ns (right (cases_apart t) (in_members_apart ms) d) p.1)

  to_cases : (q : Policy) (r : Rep) (cs whole ds : Cases) → in_cases_apart cs ≡ true → ((i : ℕ) (x : Option Shape) → has_case cs i ≡ true → case_failure q r whole i x ≡ case_failure q r cs i x) → ((d : ℤ) → case_pair (λ i t2. case_failure q r whole i t2) whole ds d ≡ none) → FitCases q r whole cs ds
  to_cases q r no_cases whole ds a f e = tt
  to_cases q r (one_case h t cs) whole ds a f e =
      let p = and_parts (not (has_case cs h.id)) (cases_apart t && in_cases_apart cs) a in
      let pq = and_parts (cases_apart t) (in_cases_apart cs) p.1 in (
        (λ d j s1 s2.
            let none_at : case_failure q r whole h.id (case_at ds j) ≡ none = sym (ap₂ (λ (x y : Option ℕ). if_some x (λ i. if_some y (λ k. case_failure q r whole i (case_at ds k)))) s1 s2) ∙ e d in
            let here : if_some (case_at ds j) (λ u. step (steps.Member h.id) (failure q r false t u)) ≡ none =
            sym (ap (λ (c : Bool). cond c (if_some (case_at ds j) (λ u. step (steps.Member h.id) (failure q r false t u))) (case_failure q r cs h.id (case_at ds j))) (eq-eqb h.id h.id refl)) ∙ sym (f h.id (case_at ds j) (or_left (h.id == h.id) (has_case cs h.id) (eq-eqb h.id h.id refl))) ∙ none_at in
            one_id (case_at ds j) h.id (λ u. failure q r false t u) (λ u. Fits q r t u) (λ u z. to_fits q r t u pq.0 z) here),
        to_cases q r cs whole ds pq.1 (λ i x z. f i x (or_right (h.id == i) (has_case cs i) z)
            ∙ ap (λ (c : Bool). cond c (if_some x (λ u. step (steps.Member h.id) (failure q r false t u))) (case_failure q r cs i x)) (ne_eqb h.id i (λ y. both_ways (has_case cs h.id) (not-true (has_case cs h.id) p.0) (ap (has_case cs) y ∙ z)))) e,
      )

-- ---- what fits has no failure

weakly : (q : Policy) (r : Rep) (t u : Shape) → Strong r (λ x. Fits q r t x) t u → (Fits q r t u → failure q r false t u ≡ none) → strong r t u (failure q r false t u) ≡ none
weakly q r t u s f = strong_from r t u (failure q r false t u) (elim s [ inl e ↦ inl e | inr g ↦ inr (g.0, f g.1) ])

ext_self : (e : Ext) → same_ext e e ≡ true
ext_self Final = refl
ext_self Appendable = refl
ext_self Mutable = refl

prim_self : (p : Primitive) → same_prim p p ≡ true
prim_self p = eq-eqb _ _ refl

rules_from : (q : Policy) (e : Ext) (ms ns : Members) (next : First) → members_match q ms ns ≡ true → next ≡ none → structure_rules q false e ms e ns next ≡ none
unfolding structure_rules
rules_from q e ms ns next m f =
    let a = and_parts (q.ignore_member_names || same_names (heads ms) (heads ns)) (common_member ms ns && (needs_within ms ns && needs_within ns ms)) m in
    let b = and_parts (common_member ms ns) (needs_within ms ns && needs_within ns ms) a.1 in
    rule_from _ _ _ (ext_self e) (rule_from _ _ _ a.0 (rule_from _ _ _ b.0 (rule_from _ _ _ b.1 (then_from _ _ refl f))))

id_one : (o : Option Shape) (id : ℕ) (f : Shape → First) (P : Shape → Type 0) → ((u : Shape) → P u → f u ≡ none) → when o P → if_some o (λ u. step (steps.Member id) (f u)) ≡ none
unfolding if_some
id_one None id f P g w = refl
id_one (Some u) id f P g w = step_from (steps.Member id) (f u) (g u w)

places_from : (h h2 : Head) (x : Bool) → h.id ≡ h2.id → h.optional ≡ h2.optional → x ≡ true → (((h.id == h2.id) && beq h.optional h2.optional) && x) ≡ true
places_from h h2 x e f g = and_from _ _ (and_from _ _ (eq-eqb h.id h2.id e) (ap (beq h.optional) (sym f) ∙ beq_self h.optional)) g

fit_places : (q : Policy) (r : Rep) (ms ns : Members) → FitInOrder q r ms ns → same_places ms ns ≡ true
fit_places q r no_members ns f = refl
fit_places q r (member h t ms) no_members f = refl
fit_places q r (member h t ms) (member h2 u ns) f = places_from h h2 (same_places ms ns) f.0 f.1 (fit_places q r ms ns f.3)

by_pair : (a b : Option ℕ) (f : ℕ → ℕ → First) → ((i j : ℕ) → a ≡ Some i → b ≡ Some j → f i j ≡ none) → if_some a (λ i. if_some b (λ j. f i j)) ≡ none
unfolding if_some
by_pair None b f g = refl
by_pair (Some i) None f g = refl
by_pair (Some i) (Some j) f g = g i j refl refl

mutual
  unfolding failure of_kind case_pair

  pub from_fits : (q : Policy) (r : Rep) (t u : Shape) → Fits q r t u → failure q r false t u ≡ none
  from_fits q r (prim p) u f = ap (failure q r false (prim p)) f ∙ rule_from _ _ _ (prim_self p) refl
  from_fits q r (str a) u f = ap (failure q r false (str a)) f.1 ∙ rule_from _ _ _ f.2 refl
  from_fits q r (enumeration k bits ls) u f =
      let p = and_parts (same_literal_names ls f.0) (literal_sets k ls f.0) f.2 in
      ap (failure q r false (enumeration k bits ls)) f.1 ∙ rule_from _ _ _ (ext_self k) (rule_from _ _ _ (eq-eqb bits bits refl) (rule_from _ _ _ p.0 (rule_from _ _ _ p.1 refl)))
  from_fits q r (bitmask bits fs) u f = ap (failure q r false (bitmask bits fs)) f.1 ∙ rule_from _ _ _ (eq-eqb bits bits refl) refl
  from_fits q r (sequence a tc t) u f = ap (failure q r false (sequence a tc t)) f.3 ∙ rule_from _ _ _ f.5 (step_from _ _ (weakly q r t f.2 f.4 (λ g. from_fits q r t f.2 g)))
  from_fits q r (array ds tc t) u f = ap (failure q r false (array ds tc t)) f.2 ∙ rule_from _ _ _ (dims_self ds) (step_from _ _ (weakly q r t f.1 f.3 (λ g. from_fits q r t f.1 g)))
  from_fits q r (map_of a kc k vc t) u f = ap (failure q r false (map_of a kc k vc t)) f.5 ∙ rule_from _ _ _ f.8 (then_from _ _ (step_from _ _ (weakly q r k f.2 f.6 (λ g. from_fits q r k f.2 g))) (step_from _ _ (weakly q r t f.4 f.7 (λ g. from_fits q r t f.4 g))))
  from_fits q r (structure Final ms) u f =
      let p = and_parts (members_match q ms f.0) (ids_within ms f.0 && ids_within f.0 ms) f.2 in
      ap (failure q r false (structure Final ms)) f.1 ∙ rules_from q Final ms f.0 _ p.0 (rule_from _ _ _ p.1 (rule_from _ _ _ (fit_places q r ms f.0 f.3) (from_places q r ms f.0 f.3)))
  from_fits q r (structure Appendable ms) u f = ap (failure q r false (structure Appendable ms)) f.1 ∙ rules_from q Appendable ms f.0 _ f.2 (rule_from _ _ _ (fit_places q r ms f.0 f.3) (from_places q r ms f.0 f.3))
  from_fits q r (structure Mutable ms) u f = ap (failure q r false (structure Mutable ms)) f.1 ∙ rules_from q Mutable ms f.0 _ f.2 (from_ids q r ms f.0 f.3)
  from_fits q r (union k key disc cs) u f =
      let p = and_parts (q.ignore_member_names || same_case_names (case_heads cs) (case_heads f.2)) (label_sets k cs f.2) f.5 in
      ap (failure q r false (union k key disc cs)) f.3 ∙ rule_from _ _ _ (ext_self k) (rule_from _ _ _ p.0 (rule_from _ _ _ refl (then_from _ _ (step_from _ _ (weakly q r disc f.1 f.4 (λ g. from_fits q r disc f.1 g)))
      (rule_from _ _ _ p.1 (to_pairs (λ i t2. case_failure q r cs i t2) cs f.2 (λ d. by_pair (select cs d) (select f.2 d) (λ i j. case_failure q r cs i (case_at f.2 j)) (λ i j e g. from_cases q r cs cs f.2 f.6 d i j e g)))))))

  from_places : (q : Policy) (r : Rep) (ms ns : Members) → FitInOrder q r ms ns → index_failure q r ms ns ≡ none
  from_places q r no_members ns f = refl
  from_places q r (member h t ms) no_members f = refl
  from_places q r (member h t ms) (member h2 u ns) f = then_from _ _ (step_from _ _ (weakly q r t u f.2 (λ g. from_fits q r t u g))) (from_places q r ms ns f.3)

  from_ids : (q : Policy) (r : Rep) (ms ns : Members) → FitById q r ms ns → id_failure q r ms ns ≡ none
  from_ids q r no_members ns f = refl
  from_ids q r (member h t ms) ns f = then_from _ _ (id_one (shape_at ns h.id) h.id (λ u. failure q r false t u) (λ u. Fits q r t u) (λ u g. from_fits q r t u g) f.0) (from_ids q r ms ns f.1)

  from_cases : (q : Policy) (r : Rep) (cs whole ds : Cases) → FitCases q r whole cs ds → (d : ℤ) (i j : ℕ) → select whole d ≡ Some i → select ds d ≡ Some j → case_failure q r cs i (case_at ds j) ≡ none
  from_cases q r no_cases whole ds f d i j e g = refl
  from_cases q r (one_case h t cs) whole ds f d i j e g = elim (cases_Bool (h.id == i)) [
    | inl y ↦ ap (λ (c : Bool). cond c (if_some (case_at ds j) (λ u. step (steps.Member h.id) (failure q r false t u))) (case_failure q r cs i (case_at ds j))) y
        ∙ id_one (case_at ds j) h.id (λ u. failure q r false t u) (λ u. Fits q r t u) (λ u z. from_fits q r t u z) (f.0 d j (e ∙ ap (λ (n : ℕ). Some n) (sym (eqb-true h.id i y))) g)
    | inr n ↦ ap (λ (c : Bool). cond c (if_some (case_at ds j) (λ u. step (steps.Member h.id) (failure q r false t u))) (case_failure q r cs i (case_at ds j))) n ∙ from_cases q r cs whole ds f.1 d i j e g
  ]
