use Rattle.std.proofs.Common.{◌∙◌, ap, arith}
use Rattle.type_trees.specs.View.{body_val}
use Rattle.type_trees.proofs.Views.{body_val_absent, body_val_present}
use Rattle.packed_json.proofs.ListLaws.{slot_there, slot_past}
use Rattle.packed_json.proofs.trees.tree_at.Goals as goal

pub returns-then-at-slots : goal.returns-then-at-slots
returns-then-at-slots c = slot_past body_val c.args.slots.now c.args.at (omega arith)

pub returns-in-Absent : goal.returns-in-Absent
returns-in-Absent c = slot_there body_val c.args.slots.now c.args.at c.index-slots-at.result (omega arith) c.index-slots-at.is ∙ ap body_val c.in-Absent.is ∙ body_val_absent

pub returns-in-Present : goal.returns-in-Present
returns-in-Present c = slot_there body_val c.args.slots.now c.args.at c.index-slots-at.result (omega arith) c.index-slots-at.is ∙ ap body_val c.in-Present.is ∙ body_val_present c.in-Present.value
