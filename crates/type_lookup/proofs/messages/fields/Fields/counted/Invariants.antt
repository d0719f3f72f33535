use Rattle.type_lookup.proofs.OfMessages.ListReading.{HasRead}
use Rattle.type_lookup.proofs.messages.fields.Fields.counted.Given as goal

-- The items so far were read.
abbrev pub invariant-items : goal.invariant-items
invariant-items g l = HasRead g.T.Item.read_at l.n l.counter l.initial.self.rest.now l.items l.self.rest.now
