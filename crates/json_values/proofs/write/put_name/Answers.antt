use Rattle.std.proofs.Common.{◌≡◌, sym, ap, ◌∙◌, arith}
use Rattle.type_trees.specs.declared.types.Member.{Member}
use Rattle.serde_json.specs.Data.{put}
use Rattle.json_values.specs.Names.{name_text}
use Rattle.json_values.specs.Order.{entries_data, at_data}
use Rattle.json_values.proofs.Order.{named_member, put_absent, put_present, entries_insert}
use Rattle.json_values.proofs.write.put_name.Goals as goal

pub name_in-name-requires-clause-text : goal.name_in-name-requires-clause-text
name_in-name-requires-clause-text c = (named_member c.args.members.now c.args.at c.index-members-at.result c.requires.within c.requires.named).0

pub returns-in-Absent : goal.returns-in-Absent
returns-in-Absent c = sym (put_absent c.args.members.now c.args.slots.now c.args.at c.index-slots-at.result _ (omega arith) c.index-slots-at.is c.in-Absent.is)

pub returns-in_ok-insert-in-Present : goal.returns-in_ok-insert-in-Present
returns-in_ok-insert-in-Present c =
    let ms = c.args.members.now in
    let ss = c.args.slots.now in
    let before = entries_data ms ss c.args.order.now.entries in
    let named : c.name_in-name.result.now ≡ name_text c.index-members-at.result.name = c.name_in-name.ensures ∙ ap (λ (m : Member). name_text m.name) (sym c.index-members-at.is) in
    ap (entries_data ms ss) c.in_ok-insert-in-Present.ensures.entries ∙ entries_insert ms ss c.args.order.now.entries c.name_in-name.result c.args.at
    ∙ ap (λ k. put k (at_data ms ss c.args.at) before) named
    ∙ sym (put_present ms ss c.args.at c.index-members-at.result c.index-slots-at.result _ before c.requires.within (omega arith) c.index-members-at.is c.index-slots-at.is c.in-Present.is)
