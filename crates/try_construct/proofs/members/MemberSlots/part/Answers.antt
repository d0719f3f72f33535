use Rattle.std.proofs.Common.{◌∙◌, sym, ap, Bool, cond, [], Some, None, map, false, is_some}
use Rattle.std.specs.Option.{option_map}
use Rattle.type_trees.specs.Bridge.{members_shape}
use Rattle.type_trees.specs.View.{body_val}
use Rattle.settled_parts.specs.Parts.{part_of}
use Rattle.try_construct.specs.Members.{filled_then, filled_of}
use Rattle.try_construct.proofs.StructureSteps.{filled_all}
use Rattle.try_construct.proofs.members.MemberSlots.part.Goals as goal

pub returns : goal.returns
returns c =
    let ms = members_shape c.args.members.now in
    let bs = map (option_map body_val) c.args.self.slots.items in
    let flags = map is_some c.args.self.slots.items in
    c.with_unseen.ensures
    ∙ filled_all ms bs flags c.args.self.unseen (part_of c.in_ok-fill.field-0) (c.in_ok-fill.ensures ∙ ap (λ s. filled_then ms (Some [], false) (map (option_map body_val) s)) c.as_mut_slice.ensures.value)
    ∙ ap (λ (b : Bool). filled_of ms (cond b None (Some bs), flags, c.args.self.unseen)) (sym c.if-failed.false)
