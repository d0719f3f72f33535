use Rattle.type_lookup.specs.messages.Fields.{outcome_at}
use Rattle.type_lookup.proofs.OfMessages.ListReading.{HasRead}
use Rattle.type_lookup.proofs.messages.fields.Fields.outcomes.Given as goal

-- The items so far were read.
abbrev pub invariant-items : goal.invariant-items
invariant-items l = HasRead outcome_at l.n l.counter l.initial.self.rest.now l.outcomes l.self.rest.now
