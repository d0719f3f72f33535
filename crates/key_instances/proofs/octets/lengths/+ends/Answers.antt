use denote.Param.Weighed.{at_most}
use Rattle.std.proofs.Common.{rules, ◌≡◌, ◌∙◌, ◌≤◌, ◌+◌, suc, min, sym, ap, ap₂, subst, arith}
use Rattle.type_trees.proofs.types.Member.TheLaws as member_laws
use Rattle.type_trees.specs.Bridge.{type_shape, members_shape}
use Rattle.xcdr_model.specs.KeyOctets.{key_type, key_types, end_of}
use Rattle.key_instances.specs.octets.Ends.{past, ends}
use Rattle.key_instances.proofs.OfOctets.From.{from, from_first}
use Rattle.key_instances.proofs.OfOctets.Members.{here, no_more_types}
use Rattle.key_instances.proofs.OfOctets.Stays.{past_most, ends_past, ends_next}
use Rattle.key_instances.proofs.octets.lengths.+ends.Goals as goal

pub end_of_counted-members-init : goal.end_of_counted-members-init
end_of_counted-members-init t c = (c.requires.place, ap (λ xs. past (ends xs c.args.place)) (from_first (key_types c.args.keyed (members_shape c.args.members.now))))

pub end_of_counted-returns-then-end-eq-PAST : goal.end_of_counted-returns-then-end-eq-PAST
end_of_counted-returns-then-end-eq-PAST t c =
    let rest = from c.members.from (key_types c.args.keyed (members_shape c.args.members.now)) in
    let far : c.members.end ≡ 17 = c.if-end-eq-PAST.true in
    sym (ap (λ k. past (ends rest k)) far ∙ ends_past rest 17 (omega arith)) ∙ c.members.invariant.1

pub end_of_counted-end_of_member-end-requires : goal.end_of_counted-end_of_member-end-requires
end_of_counted-end_of_member-end-requires t c =
    let m = c.index-members-at.result in
    let ms = c.args.members.now in
    let own = here c.args.keyed ms c.members.from c.in-Some.field-0 m c.in-Some.ensures.next c.in-Some.ensures.within c.index-members-at.is c.requires.distinct c.requires.sound c.requires.keyable in
    let smaller = rw (← c.index-members-at.is) at (at_most member_laws.the_size ms c.in-Some.field-0.at m c.in-Some.ensures.within) in
    search rules

pub end_of_counted-members-smaller : goal.end_of_counted-members-smaller
end_of_counted-members-smaller t c =
    let own = here c.args.keyed c.args.members.now c.members.from c.in-Some.field-0 c.index-members-at.result c.in-Some.ensures.next c.in-Some.ensures.within c.index-members-at.is c.requires.distinct c.requires.sound c.requires.keyable in
    own.fewer c.from-from.result c.from-from.ensures

pub end_of_counted-members-preserved : goal.end_of_counted-members-preserved
end_of_counted-members-preserved t c =
    let at = c.in-Some.field-0 in
    let types = key_types c.args.keyed (members_shape c.args.members.now) in
    let part = key_type (type_shape c.index-members-at.result.ty) in
    let own = here c.args.keyed c.args.members.now c.members.from at c.index-members-at.result c.in-Some.ensures.next c.in-Some.ensures.within c.index-members-at.is c.requires.distinct c.requires.sound c.requires.keyable in
    let end : c.end_of_member-end.result ≡ past (end_of part c.members.end) = c.end_of_member-end.ensures in
    let behind : c.from-from.result + 1 ≡ suc at.id = omega (arith, c.from-from.ensures) in (
      subst (λ k. k ≤ 17) (sym end) (past_most (end_of part c.members.end)),
      ap₂ (λ n k. past (ends (from n types) k)) behind end ∙ sym (ends_next at.id part (from (suc at.id) types) c.members.end) ∙ ap (λ xs. past (ends xs c.members.end)) (sym own.next) ∙ c.members.invariant.1,
    )

pub end_of_counted-returns : goal.end_of_counted-returns
end_of_counted-returns t c =
    let none = no_more_types c.args.keyed (members_shape c.args.members.now) c.members.from c.in_default.ensures.next c.requires.distinct in
    let end : c.members.end ≡ min c.members.end 17 = omega (arith, c.members.invariant.0) in
    end ∙ ap (λ xs. past (ends xs c.members.end)) (sym none) ∙ c.members.invariant.1
