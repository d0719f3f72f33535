use Rattle.std.proofs.Common.{refl}
use Rattle.std.proofs.lemmas.Result.{err_from_is_err_and}
use Rattle.type_lookup.specs.messages.Fields.{outcome_at}
use Rattle.type_lookup.proofs.OfMessages.ListReading.{read-one, read-stopped}
use Rattle.type_lookup.proofs.messages.fields.Fields.outcomes.Goals as goal

pub returns-in_err-outcome : goal.returns-in_err-outcome
returns-in_err-outcome c =
    let p = err_from_is_err_and c.from_residual-in_err-outcome.result c.from_residual-in_err-outcome.ensures.1 in
    rw (p.1, p.2) (read-stopped outcome_at _ _ c.args.self.now.rest.now _ _ c.outcome.new.self.rest.now c.outcome.new.self.rest.now _ c.in_err-outcome.field-0.0 c.in_ok-n.ensures c.items.invariant c.items-test.true c.in_err-outcome.ensures)

pub items-preserved : goal.items-preserved
items-preserved c = read-one outcome_at _ _ _ _ _ _ _ _ _ c.items.invariant c.items-test.true refl c.in_ok-outcome.ensures c.in_ok-push.ensures.ok
