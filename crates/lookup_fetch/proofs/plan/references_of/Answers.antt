use Rattle.std.proofs.Common.{◌∙◌, ap, sym, subst}
use Rattle.std.specs.List.{All}
use Rattle.std.proofs.lemmas.List.Elements.{All-nil}
use Rattle.type_lookup.specs.messages.Spelling.{IsKnownId}
use Rattle.type_object.specs.visits.Visits.{references_in}
use Rattle.lookup_fetch.proofs.plan.references_of.Goals as goal

pub returns-in_ok-references-in-Some-clause-refers : goal.returns-in_ok-references-in-Some-clause-refers
returns-in_ok-references-in-Some-clause-refers c = c.in_ok-references-in-Some.ensures.ids ∙ ap references_in c.in-Some.ensures.found

pub returns-in_ok-references-in-Some-clause-kinds : goal.returns-in_ok-references-in-Some-clause-kinds
returns-in_ok-references-in-Some-clause-kinds c = c.in_ok-references-in-Some.ensures.kinds c.in-Some.ensures.well_formed

pub returns-in-None-clause-refers : goal.returns-in-None-clause-refers
returns-in-None-clause-refers c = c.new.ensures ∙ ap references_in c.in-None.ensures.found

pub returns-in-None-clause-kinds : goal.returns-in-None-clause-kinds
returns-in-None-clause-kinds c = subst (All IsKnownId) (sym c.new.ensures) (All-nil IsKnownId)
