use Rattle.packed_json.proofs.OfTapes.Slots.{filled}
use Rattle.packed_json.proofs.tapes.members.fill.Goals as goal

pub returns : goal.returns
returns c = filled c.args.slots.now c.items-places.result.now c.args.at c.args.value c.items-places.ensures.value
