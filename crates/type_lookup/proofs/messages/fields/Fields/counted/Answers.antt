use Rattle.std.proofs.Common.{refl}
use Rattle.std.proofs.lemmas.Result.{err_from_is_err_and}
use Rattle.type_lookup.proofs.OfMessages.ListReading.{read-one, read-stopped}
use Rattle.type_lookup.proofs.messages.fields.Fields.counted.Goals as goal

pub returns-in_err-item : goal.returns-in_err-item
returns-in_err-item g c =
    let p = err_from_is_err_and c.from_residual-in_err-item.result c.from_residual-in_err-item.ensures.1 in
    rw (p.1, p.2) (read-stopped g.T.Item.read_at _ _ c.args.self.now.rest.now _ _ c.read.new.fields.rest.now c.read.new.fields.rest.now _ c.in_err-item.field-0.0 c.in_ok-n.ensures c.items.invariant c.items-test.true c.in_err-item.ensures)

pub items-preserved : goal.items-preserved
items-preserved g c = read-one g.T.Item.read_at _ _ _ _ _ _ _ _ _ c.items.invariant c.items-test.true refl c.in_ok-item.ensures c.in_ok-push.ensures.ok
