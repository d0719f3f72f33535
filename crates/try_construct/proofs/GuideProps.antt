-- What is so of a guide is a proposition, as what a struct holds beside its fields has to be.
use Rattle.std.proofs.Common.{ℕ, suc, List}
use Rattle.std.proofs.Props.{props}
use Rattle.xt_shapes.specs.Shape.{Literal, Shape, prim, str, enumeration, bitmask, sequence, array, map_of, structure, union, Members, no_members, member, Cases, no_cases, one_case}
use Rattle.try_construct.specs.declared.guides.Known.{Known}
use Rattle.try_construct.specs.declared.guides.Known.TheVariants as known
use Rattle.try_construct.specs.declared.guides.Guide.{Guide, out-Guide}
use Rattle.try_construct.specs.Guides.{IsGuide, AreGuides, AreCaseGuides, knows_literals, knows_cases, part_at}

literals_prop : (ls : List Literal) (k : Known) → IsProp (knows_literals ls k)
literals_prop ls known.Nothing = hlevel props
literals_prop ls (known.Literals values) = hlevel props
literals_prop ls (known.Cases index) = hlevel props

cases_prop : (cs : Cases) (k : Known) → IsProp (knows_cases cs k)
cases_prop cs known.Nothing = hlevel props
cases_prop cs (known.Literals values) = hlevel props
cases_prop cs (known.Cases index) = hlevel props

×_prop : {A B : Type 0} → IsProp A → IsProp B → IsProp (A × B)
×_prop a b x y = λ i. (a x.0 y.0 i, b x.1 y.1 i)

mutual
  pub guide_prop : (t : Shape) (g : Guide) → IsProp (IsGuide t g)
  guide_prop (prim p) g = hlevel props
  guide_prop (str bound) g = hlevel props
  guide_prop (enumeration ext bits ls) g = let x = out-Guide g in literals_prop ls x.known
  guide_prop (bitmask bits flags) g = hlevel props
  guide_prop (sequence bound tc t) g = guide_prop t (part_at g 0)
  guide_prop (array dims tc t) g = guide_prop t (part_at g 0)
  guide_prop (map_of bound kc k vc v) g = ×_prop (guide_prop k (part_at g 0)) (guide_prop v (part_at g 1))
  guide_prop (structure ext ms) g = members_prop ms g 0
  guide_prop (union ext disc_key disc cs) g = let x = out-Guide g in ×_prop (cases_prop cs x.known) (×_prop (guide_prop disc (part_at g 0)) (case_guides_prop cs g 1))

  members_prop : (ms : Members) (g : Guide) (i : ℕ) → IsProp (AreGuides ms g i)
  members_prop no_members g i = hlevel props
  members_prop (member h t ms) g i = ×_prop (guide_prop t (part_at g i)) (members_prop ms g (suc i))

  case_guides_prop : (cs : Cases) (g : Guide) (i : ℕ) → IsProp (AreCaseGuides cs g i)
  case_guides_prop no_cases g i = hlevel props
  case_guides_prop (one_case h t cs) g i = ×_prop (guide_prop t (part_at g i)) (case_guides_prop cs g (suc i))
