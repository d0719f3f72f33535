use Rattle.std.proofs.Common.{◌∙◌, ◌&&◌, sym, ap, subst, map, take, arith}
use Rattle.idl_types.specs.Definitions.{declared, members_before}
use Rattle.xt_idl.specs.Numbers.{own_numbers, numbers_in, lacks, apart_behind, Holds}
use Rattle.xt_idl.proofs.Numbering.{behind_more}
use Rattle.xt_idl.proofs.Keeping.{own_more}
use Rattle.xt_idl.proofs.numbers.own_sets.Goals as goal

pub loop-member-preserved : goal.loop-member-preserved
loop-member-preserved c =
    let so_far = map own_numbers (take c.loop-member.member-index c.args.own.now) in
    let before = numbers_in (members_before (declared c.args.known.now.types.now) c.args.base) in
    let one = c.numbers_of-numbers.result in
    let more = own_more c.args.own.now c.loop-member.member-index c.member-item.result one (omega (arith, c.loop-member-test.true)) c.member-item.is c.numbers_of-numbers.ensures in
    let new = c.in_ok-are_new.ensures.new so_far c.loop-member.invariant.0 in
    let kept = ap (λ b. b && (c.in_ok-are_new.are_new && lacks one before)) c.loop-member.invariant.1 ∙ ap (λ b. apart_behind before so_far && (b && lacks one before)) new in (
      subst (λ ns. Holds ns c.add.new.self) (sym more) (c.in_ok-are_new.ensures.holds so_far c.loop-member.invariant.0),
      c.stay_apart-are_apart.ensures ∙ kept ∙ sym (behind_more before so_far one) ∙ sym (ap (apart_behind before) more),
    )
