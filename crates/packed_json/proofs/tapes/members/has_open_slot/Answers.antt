use Rattle.std.proofs.Common.{◌+◌, ◌||◌, Bool, map, drop, sym, ap, ◌∙◌, arith}
use Rattle.type_trees.specs.View.{members_tree}
use Rattle.packed_reader.specs.View.{packed_slot}
use Rattle.packed_json.specs.Tapes.{has_open}
use Rattle.packed_json.proofs.OfTapes.Slots.{open_past, open_next}
use Rattle.packed_json.proofs.tapes.members.has_open_slot.Goals as goal

pub returns-then-at-slots : goal.returns-then-at-slots
returns-then-at-slots c = open_past c.args.members.now c.args.slots.now c.loop-at.at (omega arith) (omega arith) ∙ c.loop-at.invariant

pub returns-then-is_open : goal.returns-then-is_open
returns-then-is_open c =
    let ms = c.args.members.now in
    let ss = c.args.slots.now in
    let at = c.loop-at.at in
    let rest = has_open (members_tree (drop (at + 1) ms)) (map packed_slot (drop (at + 1) ss)) in
    let step = open_next ms ss at c.index-members-at.result c.index-slots-at.result (omega arith) (omega arith) c.index-members-at.is c.index-slots-at.is in
    sym (step ∙ ap (λ (x : Bool). x || rest) (sym c.is_open.ensures ∙ c.if-is_open.true)) ∙ c.loop-at.invariant

pub loop-at-preserved : goal.loop-at-preserved
loop-at-preserved c =
    let ms = c.args.members.now in
    let ss = c.args.slots.now in
    let at = c.loop-at.at in
    let rest = has_open (members_tree (drop (at + 1) ms)) (map packed_slot (drop (at + 1) ss)) in
    let step = open_next ms ss at c.index-members-at.result c.index-slots-at.result (omega arith) (omega arith) c.index-members-at.is c.index-slots-at.is in
    sym (step ∙ ap (λ (x : Bool). x || rest) (sym c.is_open.ensures ∙ c.if-is_open.false)) ∙ c.loop-at.invariant
