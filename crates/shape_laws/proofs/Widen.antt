-- What fits under XCDR1 fits under XCDR2.
use Rattle.std.proofs.Common.{◌≡◌, true, Option, Some, None, refl, inl, inr}
use Rattle.std.proofs.lemmas.Bool.{and_parts, and_from}
use Rattle.xt_shapes.specs.declared.leaves.Ext.TheVariants.{Final, Appendable, Mutable}
use Rattle.xt_shapes.specs.declared.leaves.Rep.TheVariants.{Xcdr1, Xcdr2}
use Rattle.xt_shapes.specs.Select.{case_at, shape_at}
use Rattle.xt_shapes.specs.Shape.{Shape, prim, str, enumeration, bitmask, sequence, array, map_of, structure, union, Members, no_members, member, Cases, no_cases, one_case}
use Rattle.xcdr_model.specs.declared.verdict.Policy.{Policy}
use Rattle.xcdr_model.specs.Assignable.{when, Strong, Fits, FitInOrder, FitById, FitCases}
use Rattle.xcdr_model.specs.Rules.{delimited}

wide : (t : Shape) → delimited Xcdr1 t ≡ true → delimited Xcdr2 t ≡ true
wide (prim p) e = refl
wide (str bound) e = refl
wide (enumeration x bits ls) e = refl
wide (bitmask bits fs) e = refl
wide (sequence bound tc t) e = wide t e
wide (array dims tc t) e = wide t e
wide (map_of bound kc k vc t) e = let p = and_parts (delimited Xcdr1 k) (delimited Xcdr1 t) e in and_from (delimited Xcdr2 k) (delimited Xcdr2 t) (wide k p.0) (wide t p.1)
wide (structure Final ms) e = absurd cc
wide (structure Appendable ms) e = refl
wide (structure Mutable ms) e = refl
wide (union Final key disc cs) e = absurd cc
wide (union Appendable key disc cs) e = refl
wide (union Mutable key disc cs) e = absurd cc

by_parts : (F G : Shape → Type 0) (t u : Shape) → Strong Xcdr1 F t u → (F u → G u) → Strong Xcdr2 G t u
by_parts F G t u s f = elim s [ inl e ↦ inl e | inr g ↦ inr (wide u g.0, f g.1) ]

at_some : (o : Option Shape) (F G : Shape → Type 0) → when o F → ((u : Shape) → F u → G u) → when o G
at_some None F G w f = tt
at_some (Some u) F G w f = f u w

mutual
  pub widen : (q : Policy) (t u : Shape) → Fits q Xcdr1 t u → Fits q Xcdr2 t u
  widen q (prim p) u f = f
  widen q (str a) u f = f
  widen q (enumeration e bits ls) u f = f
  widen q (bitmask bits fs) u f = f
  widen q (sequence a tc t) u f = (f.0, f.1, f.2, f.3, by_parts (λ x. Fits q Xcdr1 t x) (λ x. Fits q Xcdr2 t x) t f.2 f.4 (λ g. widen q t f.2 g), f.5)
  widen q (array dims tc t) u f = (f.0, f.1, f.2, by_parts (λ x. Fits q Xcdr1 t x) (λ x. Fits q Xcdr2 t x) t f.1 f.3 (λ g. widen q t f.1 g))
  widen q (map_of a kc k vc t) u f = (
    f.0,
    f.1,
    f.2,
    f.3,
    f.4,
    f.5,
    by_parts (λ x. Fits q Xcdr1 k x) (λ x. Fits q Xcdr2 k x) k f.2 f.6 (λ g. widen q k f.2 g),
    by_parts (λ x. Fits q Xcdr1 t x) (λ x. Fits q Xcdr2 t x) t f.4 f.7 (λ g. widen q t f.4 g),
    f.8,
  )
  widen q (structure Final ms) u f = (f.0, f.1, f.2, widen_order q ms f.0 f.3)
  widen q (structure Appendable ms) u f = (f.0, f.1, f.2, widen_order q ms f.0 f.3)
  widen q (structure Mutable ms) u f = (f.0, f.1, f.2, widen_ids q ms f.0 f.3)
  widen q (union e key disc cs) u f = (f.0, f.1, f.2, f.3, by_parts (λ x. Fits q Xcdr1 disc x) (λ x. Fits q Xcdr2 disc x) disc f.1 f.4 (λ g. widen q disc f.1 g), f.5, widen_cases q cs cs f.2 f.6)

  widen_order : (q : Policy) (ms ns : Members) → FitInOrder q Xcdr1 ms ns → FitInOrder q Xcdr2 ms ns
  widen_order q no_members ns f = tt
  widen_order q (member h t ms) no_members f = tt
  widen_order q (member h t ms) (member h2 u ns) f = (f.0, f.1, by_parts (λ x. Fits q Xcdr1 t x) (λ x. Fits q Xcdr2 t x) t u f.2 (λ g. widen q t u g), widen_order q ms ns f.3)

  widen_ids : (q : Policy) (ms ns : Members) → FitById q Xcdr1 ms ns → FitById q Xcdr2 ms ns
  widen_ids q no_members ns f = tt
  widen_ids q (member h t ms) ns f = (at_some (shape_at ns h.id) (λ u. Fits q Xcdr1 t u) (λ u. Fits q Xcdr2 t u) f.0 (λ u g. widen q t u g), widen_ids q ms ns f.1)

  widen_cases : (q : Policy) (cs whole ds : Cases) → FitCases q Xcdr1 whole cs ds → FitCases q Xcdr2 whole cs ds
  widen_cases q no_cases whole ds f = tt
  widen_cases q (one_case h t cs) whole ds f = ((λ d j e g. at_some (case_at ds j) (λ u. Fits q Xcdr1 t u) (λ u. Fits q Xcdr2 t u) (f.0 d j e g) (λ u z. widen q t u z)), widen_cases q cs whole ds f.1)
