use Rattle.tool_types.proofs.OfNames.Places.{identified_at, identified_within}
use Rattle.tool_types.proofs.names.meanings.in_text.Goals as goal

pub bounds-ids-at : goal.bounds-ids-at
bounds-ids-at c = identified_within c.args.types.now c.args.ids.now c.in-Some.at c.requires c.in-Some.ensures.within

pub returns-in-Some-clause-sound : goal.returns-in-Some-clause-sound
returns-in-Some-clause-sound c = identified_at c.args.types.now c.args.ids.now c.in-Some.at _ c.requires c.in-Some.ensures.within
