use Rattle.std.proofs.Common.{get_or}
use Rattle.type_trees.specs.declared.types.UnionType.{out-UnionType}
use Rattle.type_trees.specs.Bridge.{type_shape}
use Rattle.try_construct.specs.declared.guides.Guide.{Guide}
use Rattle.try_construct.specs.Guides.{IsGuide, HasGuides}
use Rattle.try_construct.proofs.guiding.+guiding.Given as goal

-- the members so far have their guides
abbrev pub invariant-members_guide-loop-member : goal.invariant-members_guide-loop-member
invariant-members_guide-loop-member l = HasGuides (λ m. type_shape m.ty) l.members l.member-index 0 l.parts

-- the discriminator and the cases so far have their guides
abbrev pub invariant-union_parts-loop-case : goal.invariant-union_parts-loop-case
invariant-union_parts-loop-case l =
    ((e : Guide) → IsGuide (type_shape (out-UnionType l.kind).disc) (get_or l.parts 0 e))
    × HasGuides (λ c. type_shape c.ty) l.case-items l.case-index 1 l.parts
