-- The guides of members and cases as they are passed on.
use Rattle.std.proofs.Common.{◌≡◌, sym, ℕ, ◌+◌, ◌<◌, List, length, get_or, arith, subst}
use Rattle.type_trees.specs.declared.types.Member.{Member}
use Rattle.type_trees.specs.declared.types.Case.{Case}
use Rattle.type_trees.specs.Bridge.{type_shape, members_shape, cases_shape}
use Rattle.try_construct.specs.declared.guides.Guide.{Guide}
use Rattle.try_construct.specs.Guides.{IsGuide, AreGuides, AreCaseGuides, part_at}
use Rattle.try_construct.proofs.GuideSteps.{guide_of_member, guide_of_case}

-- the part at a member's position is the guide of its type
pub member_guided : (ms : List Member) (g p : Guide) (i : ℕ) (d : Member) → d ≡ get_or ms i d → i < length ms → AreGuides (members_shape ms) g 0 → p ≡ part_at g i → IsGuide (type_shape d.ty) p
member_guided ms g p i d is within are e =
    let same : (0 + i) ≡ i = omega arith in
    let whole = subst (λ (n : ℕ). IsGuide (type_shape (get_or ms i d).ty) (part_at g n)) same (guide_of_member ms g 0 i d within are) in
    subst (λ (q : Guide). IsGuide (type_shape d.ty) q) (sym e) (subst (λ (m : Member). IsGuide (type_shape m.ty) (part_at g i)) (sym is) whole)

-- the part behind a case's position is the guide of its type
pub case_guided : (cs : List Case) (g p : Guide) (i : ℕ) (d : Case) → d ≡ get_or cs i d → i < length cs → AreCaseGuides (cases_shape cs) g 1 → p ≡ part_at g (i + 1) → IsGuide (type_shape d.ty) p
case_guided cs g p i d is within are e =
    let next : (1 + i) ≡ (i + 1) = omega arith in
    let whole = subst (λ (n : ℕ). IsGuide (type_shape (get_or cs i d).ty) (part_at g n)) next (guide_of_case cs g 1 i d within are) in
    subst (λ (q : Guide). IsGuide (type_shape d.ty) q) (sym e) (subst (λ (c : Case). IsGuide (type_shape c.ty) (part_at g (i + 1))) (sym is) whole)
