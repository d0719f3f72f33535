use Rattle.std.proofs.Common.{◌≡◌, sym, ap, ◌∙◌, drop, subst, arith}
use Rattle.type_trees.specs.Bridge.{members_shape}
use Rattle.key_instances.specs.octets.Orders.{IsNext}
use Rattle.key_instances.proofs.OfOctets.Least.{least, least_next}
use Rattle.key_instances.proofs.OfOctets.Members.{next_within}
use Rattle.key_instances.proofs.octets.order.next_counted.Goals as goal

pub returns-clause-next : goal.returns-clause-next
returns-clause-next c =
    let ms = c.args.members.now in
    let first : c.members.at ≡ 0 = omega (arith, c.members-test.false) in
    let all : c.members.next ≡ least c.args.keyed c.args.from 0 (members_shape ms) = c.members.invariant.1 ∙ ap (λ k. least c.args.keyed c.args.from k (members_shape (drop k ms))) first in
    subst (IsNext c.args.keyed (members_shape ms) c.args.from) (sym all) (least_next c.args.keyed (members_shape ms) c.args.from)

pub returns-clause-within : goal.returns-clause-within
returns-clause-within c =
    let ms = c.args.members.now in
    let first : c.members.at ≡ 0 = omega (arith, c.members-test.false) in
    let all : c.members.next ≡ least c.args.keyed c.args.from 0 (members_shape ms) = c.members.invariant.1 ∙ ap (λ k. least c.args.keyed c.args.from k (members_shape (drop k ms))) first in
    next_within c.args.keyed ms c.args.from c.members.next (subst (IsNext c.args.keyed (members_shape ms) c.args.from) (sym all) (least_next c.args.keyed (members_shape ms) c.args.from))
