use Rattle.std.proofs.Common.{rules, ◌∙◌, sym, ap, map}
use Rattle.std.proofs.lemmas.List.{take_all}
use Rattle.xt_shapes.specs.Vals.{slots_of}
use Rattle.type_values.proofs.DefaultSteps.{default_slots_is, slot_default}
use Rattle.type_values.proofs.defaults.+default_value.Goals as goal

pub default_slots-returns : goal.default_slots-returns
default_slots-returns t c =
    let whole = take_all c.loop-member.member-index c.args.members.now (search rules) in
    ap slots_of (c.loop-member.invariant ∙ ap (map slot_default) whole) ∙ sym (default_slots_is c.args.members.now)
