use Rattle.std.proofs.Common.{◌∙◌, ap, sym, Some}
use Rattle.type_trees.specs.declared.types.Member.{Member}
use Rattle.type_trees.specs.Bridge.{members_shape, type_shape, member_head}
use Rattle.settled_parts.specs.Parts.{part_of}
use Rattle.try_construct.specs.Members.{by_member, and_slot_at}
use Rattle.try_construct.proofs.GatherSteps.{or_false}
use Rattle.xcdr_reader.proofs.Indexed.{indexed}
use Rattle.xcdr_reader.proofs.PieceSteps.{kept_slots}
use Rattle.xcdr_reader.proofs.known.Known.keep.Goals as goal

pub put-requires : goal.put-requires
put-requires c = rw c.requires.count (rw c.in-Came.is at c.requires.within)

pub returns-in_ok-went_on-in-Came : goal.returns-in_ok-went_on-in-Came
returns-in_ok-went_on-in-Came c =
    let ms = members_shape c.args.members.now in
    let k = c.args.self.now in
    let at = c.in-Came.at in
    let m = c.index-members-at.result in
    let new = rw c.in-Came.is at c.requires.new in
    let there = indexed c.args.members.now at m (rw c.in-Came.is at c.requires.within) ∙ ap (λ (n : Member). Some (member_head n, type_shape n.ty)) (sym c.index-members-at.is) in
    λ ps h. rw c.in-Came.is (record {
      slots = ap by_member c.in_ok-went_on-in-Came.ensures.slots ∙ c.put.ensures ∙ ap (and_slot_at (by_member k.slots) at) c.in_ok-settled-in-Came.ensures ∙ kept_slots ms k ps at c.in-Came.field-1 (part_of c.in-Came.part) (member_head m) (type_shape m.ty) c.requires.apart h new.0 new.1 there;
      unseen = c.in_ok-went_on-in-Came.ensures.unseen ∙ h.unseen ∙ sym (or_false ps.1);
      indexed = c.in_ok-went_on-in-Came.ensures.indexed h.indexed;
    })
