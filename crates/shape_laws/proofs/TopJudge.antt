-- Nothing fails at the top pair exactly where the reader's type is assignable.
use Rattle.std.proofs.Common.{◌≡◌, [], ◌∷◌, Bool, true, false, cond, not, ◌||◌, ◌&&◌, Option, Some, refl, sym, ap, ◌∙◌, inl, inr, ◌⊎◌}
use Rattle.std.proofs.lemmas.Bool.{cases_Bool, and_parts, and_from, or_cases, or_left, or_right}
use Rattle.xt_shapes.specs.declared.leaves.Ext.{Ext}
use Rattle.xt_shapes.specs.declared.leaves.Ext.TheVariants.{Final, Appendable, Mutable}
use Rattle.xt_shapes.specs.declared.leaves.Rep.{Rep}
use Rattle.xt_shapes.specs.Kinds.{as_structure, as_union}
use Rattle.xt_shapes.specs.Lists.{is_some_and}
use Rattle.xt_shapes.specs.Select.{shape_at}
use Rattle.xt_shapes.specs.Shape.{Shape, prim, str, enumeration, bitmask, sequence, array, map_of, structure, union, Members, no_members, member}
use Rattle.xcdr_model.specs.declared.verdict.Policy.{Policy}
use Rattle.xcdr_model.specs.Assignable.{key_members_fit, keys_match, Assignable}
use Rattle.xcdr_model.specs.Equivalence.{same_shape}
use Rattle.xcdr_model.specs.Failure.{First, of_kind, key_failure, structure_rules, failure, first_failure}
use Rattle.xcdr_model.specs.Keys.{key_fit, same_counted}
use Rattle.xcdr_model.specs.Premises.{cases_apart}
use Rattle.shape_laws.proofs.Judge.{rule_to, rule_from, then_to, then_from, kind_to, to_fits, from_fits}
use Rattle.shape_laws.proofs.Labels.{none}
use Rattle.shape_laws.proofs.Same.{same_is, shape_self}
use Rattle.xcdr_model.specs.declared.verdict.Rule.TheVariants as rules
use Rattle.xt_shapes.specs.declared.leaves.Step.TheVariants as steps

kind_from : {A : Type 0} (k : Option A) (f : A → First) (x : A) → k ≡ Some x → f x ≡ none → of_kind k f ≡ none
unfolding of_kind
kind_from k f x e g = ap (λ o. of_kind o f) e ∙ g

some_from : {A : Type 0} (k : Option A) (f : A → Bool) (x : A) → k ≡ Some x → f x ≡ true → is_some_and k f ≡ true
some_from k f x e g = ap (λ o. is_some_and o f) e ∙ g

some_to : {A : Type 0} (k : Option A) (f : A → Bool) (x : A) → k ≡ Some x → is_some_and k f ≡ true → f x ≡ true
some_to k f x e g = sym (ap (λ o. is_some_and o f) e) ∙ g

key_to : (ms ns : Members) → key_failure ms ns ≡ none → key_members_fit ms ns ≡ true
unfolding key_failure
key_to no_members ns e = refl
key_to (member h t ms) ns e = elim (cases_Bool (not h.key || is_some_and (shape_at ns h.id) (λ u. key_fit t u))) [
  | inl y ↦ and_from (not h.key || is_some_and (shape_at ns h.id) (λ u. key_fit t u)) (key_members_fit ms ns) y (key_to ms ns (sym (ap (λ (c : Bool). cond c (key_failure ms ns) (Some (rules.KeyFit, steps.Member h.id ∷ []))) y) ∙ e))
  | inr n ↦ (let f : Some (rules.KeyFit, steps.Member h.id ∷ []) ≡ none = sym (ap (λ (c : Bool). cond c (key_failure ms ns) (Some (rules.KeyFit, steps.Member h.id ∷ []))) n) ∙ e in absurd cc)
]

key_from : (ms ns : Members) → key_members_fit ms ns ≡ true → key_failure ms ns ≡ none
unfolding key_failure
key_from no_members ns e = refl
key_from (member h t ms) ns e =
    let p = and_parts (not h.key || is_some_and (shape_at ns h.id) (λ u. key_fit t u)) (key_members_fit ms ns) e in
    ap (λ (c : Bool). cond c (key_failure ms ns) (Some (rules.KeyFit, steps.Member h.id ∷ []))) p.0 ∙ key_from ms ns p.1

keys_to : (q : Policy) (e e2 : Ext) (ms ns : Members) (next : First) → structure_rules q true e ms e2 ns next ≡ none → (structure_rules q false e ms e2 ns next ≡ none) × ((same_counted true ms true ns && key_members_fit ms ns) ≡ true)
unfolding structure_rules
keys_to q e e2 ms ns next f =
    let a = rule_to _ _ _ f in
    let b = rule_to _ _ _ a.1 in
    let c = rule_to _ _ _ b.1 in
    let d = rule_to _ _ _ c.1 in
    let k = then_to _ _ d.1 in
    let i = rule_to _ _ _ k.0 in
    (rule_from _ _ _ a.0 (rule_from _ _ _ b.0 (rule_from _ _ _ c.0 (rule_from _ _ _ d.0 (then_from _ _ refl k.1)))), and_from _ _ i.0 (key_to ms ns i.1))

keys_from : (q : Policy) (e e2 : Ext) (ms ns : Members) (next : First) → structure_rules q false e ms e2 ns next ≡ none → (same_counted true ms true ns && key_members_fit ms ns) ≡ true → structure_rules q true e ms e2 ns next ≡ none
unfolding structure_rules
keys_from q e e2 ms ns next f g =
    let a = rule_to _ _ _ f in
    let b = rule_to _ _ _ a.1 in
    let c = rule_to _ _ _ b.1 in
    let d = rule_to _ _ _ c.1 in
    let p = and_parts (same_counted true ms true ns) (key_members_fit ms ns) g in
    rule_from _ _ _ a.0 (rule_from _ _ _ b.0 (rule_from _ _ _ c.0 (rule_from _ _ _ d.0 (then_from _ _ (rule_from _ _ _ p.0 (key_from ms ns p.1)) (then_to _ _ d.1).1))))

abbrev Parted : Policy → Rep → Shape → Shape → Type 0
Parted q r t u = (failure q r false t u ≡ none) × (keys_match t u ≡ true)

top_to : (q : Policy) (r : Rep) (t u : Shape) → failure q r true t u ≡ none → Parted q r t u
unfolding failure
top_to q r (prim p) u f = (f, refl)
top_to q r (str a) u f = (f, refl)
top_to q r (enumeration e bits ls) u f = (f, refl)
top_to q r (bitmask bits fs) u f = (f, refl)
top_to q r (sequence a tc t) u f = (f, refl)
top_to q r (array ds tc t) u f = (f, refl)
top_to q r (map_of a kc k vc t) u f = (f, refl)
top_to q r (structure Final ms) u f =
    let x = kind_to (as_structure u) _ f in
    let p = keys_to q Final x.0.0 ms x.0.1 _ x.2 in
    (kind_from (as_structure u) _ x.0 x.1 p.0, some_from (as_structure u) _ x.0 x.1 p.1)
top_to q r (structure Appendable ms) u f =
    let x = kind_to (as_structure u) _ f in
    let p = keys_to q Appendable x.0.0 ms x.0.1 _ x.2 in
    (kind_from (as_structure u) _ x.0 x.1 p.0, some_from (as_structure u) _ x.0 x.1 p.1)
top_to q r (structure Mutable ms) u f =
    let x = kind_to (as_structure u) _ f in
    let p = keys_to q Mutable x.0.0 ms x.0.1 _ x.2 in
    (kind_from (as_structure u) _ x.0 x.1 p.0, some_from (as_structure u) _ x.0 x.1 p.1)
top_to q r (union e key d cs) u f =
    let x = kind_to (as_union u) _ f in
    let a = rule_to _ _ _ x.2 in
    let b = rule_to _ _ _ a.1 in
    let c = rule_to _ _ _ b.1 in
    (kind_from (as_union u) _ x.0 x.1 (rule_from _ _ _ a.0 (rule_from _ _ _ b.0 (rule_from _ _ _ refl c.1))), some_from (as_union u) _ x.0 x.1 c.0)

top_from : (q : Policy) (r : Rep) (t u : Shape) → failure q r false t u ≡ none → keys_match t u ≡ true → failure q r true t u ≡ none
unfolding failure
top_from q r (prim p) u f g = f
top_from q r (str a) u f g = f
top_from q r (enumeration e bits ls) u f g = f
top_from q r (bitmask bits fs) u f g = f
top_from q r (sequence a tc t) u f g = f
top_from q r (array ds tc t) u f g = f
top_from q r (map_of a kc k vc t) u f g = f
top_from q r (structure Final ms) u f g = let x = kind_to (as_structure u) _ f in kind_from (as_structure u) _ x.0 x.1 (keys_from q Final x.0.0 ms x.0.1 _ x.2 (some_to (as_structure u) _ x.0 x.1 g))
top_from q r (structure Appendable ms) u f g = let x = kind_to (as_structure u) _ f in kind_from (as_structure u) _ x.0 x.1 (keys_from q Appendable x.0.0 ms x.0.1 _ x.2 (some_to (as_structure u) _ x.0 x.1 g))
top_from q r (structure Mutable ms) u f g = let x = kind_to (as_structure u) _ f in kind_from (as_structure u) _ x.0 x.1 (keys_from q Mutable x.0.0 ms x.0.1 _ x.2 (some_to (as_structure u) _ x.0 x.1 g))
top_from q r (union e key d cs) u f g =
    let x = kind_to (as_union u) _ f in
    let a = rule_to _ _ _ x.2 in
    let b = rule_to _ _ _ a.1 in
    let c = rule_to _ _ _ b.1 in
    kind_from (as_union u) _ x.0 x.1 (rule_from _ _ _ a.0 (rule_from _ _ _ b.0 (rule_from _ _ _ (some_to (as_union u) _ x.0 x.1 g) c.1)))

pub to_assignable : (q : Policy) (r : Rep) (t u : Shape) → cases_apart t ≡ true → first_failure q r t u ≡ none → Assignable q r t u
to_assignable q r t u d e =
    let a = rule_to rules.Coercion (q.coercion || same_shape t u) (failure q r true t u) e in
    let p = top_to q r t u a.1 in
    let c : (q.coercion ≡ true) ⊎ (t ≡ u) = elim (or_cases q.coercion (same_shape t u) a.0) [ inl y ↦ inl y | inr n ↦ inr (same_is t u n) ] in
    record { coerced = c; keys = p.1; fits = to_fits q r t u d p.0 }

pub from_assignable : (q : Policy) (r : Rep) (t u : Shape) → Assignable q r t u → first_failure q r t u ≡ none
from_assignable q r t u a =
    let c : (q.coercion || same_shape t u) ≡ true = elim a.coerced [ inl y ↦ or_left q.coercion (same_shape t u) y | inr n ↦ or_right q.coercion (same_shape t u) (ap (same_shape t) (sym n) ∙ shape_self t) ] in
    rule_from rules.Coercion (q.coercion || same_shape t u) (failure q r true t u) c (top_from q r t u (from_fits q r t u a.fits) a.keys)
