use Rattle.std.proofs.Common.{◌≡◌, ℕ, length, subst, arith}
use Rattle.type_trees.specs.declared.types.UnionType.{out-UnionType}
use Rattle.type_trees.specs.Bridge.{type_shape, members_shape}
use Rattle.type_trees.proofs.Views.{union_tree_is}
use Rattle.try_construct.specs.declared.guides.Known.TheVariants.{Nothing}
use Rattle.try_construct.specs.Guides.{HasGuides}
use Rattle.try_construct.proofs.GuideSteps.{nothing_members, members_built, union_built}
use Rattle.try_construct.proofs.guiding.+guiding.Goals as goal

pub members_guide-returns-then-not-tell : goal.members_guide-returns-then-not-tell
members_guide-returns-then-not-tell t c = nothing_members (members_shape c.args.members.now) c.nothing.result 0 c.nothing.ensures

pub members_guide-returns : goal.members_guide-returns
members_guide-returns t c =
    let ms = c.args.members.now in
    let all : c.loop-member.member-index ≡ length ms = omega (arith, c.loop-member.auto.member-index-end, c.loop-member-test.false) in
    members_built ms Nothing c.loop-member.parts (subst (λ (n : ℕ). HasGuides (λ m. type_shape m.ty) ms n 0 c.loop-member.parts) all c.loop-member.invariant)

pub union_guide-returns : goal.union_guide-returns
union_guide-returns t c =
    let u = out-UnionType c.args.kind.now in
    rw (union_tree_is c.args.kind.now) (union_built u.ext u.disc_key (type_shape u.disc) u.cases c.in_ok-known.known c.in_ok-parts.parts (rw c.as_slice.ensures at c.in_ok-known.ensures) c.in_ok-parts.ensures)
