use Rattle.std.proofs.Common.{◌∙◌, ap, arith}
use Rattle.packed_reader.specs.View.{packed_slot}
use Rattle.packed_reader.proofs.Views.{packed_absent, packed_present}
use Rattle.packed_json.proofs.ListLaws.{slot_there, slot_past}
use Rattle.packed_json.proofs.writing.value_at.Goals as goal

pub returns-then-at-slots : goal.returns-then-at-slots
returns-then-at-slots c = slot_past packed_slot c.args.slots.now c.args.at (omega arith)

pub returns-in-Absent : goal.returns-in-Absent
returns-in-Absent c = slot_there packed_slot c.args.slots.now c.args.at c.index-slots-at.result (omega arith) c.index-slots-at.is ∙ ap packed_slot c.in-Absent.is ∙ packed_absent

pub returns-in-Present : goal.returns-in-Present
returns-in-Present c = slot_there packed_slot c.args.slots.now c.args.at c.index-slots-at.result (omega arith) c.index-slots-at.is ∙ ap packed_slot c.in-Present.is ∙ packed_present c.in-Present.value
