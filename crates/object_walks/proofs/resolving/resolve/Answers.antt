use Rattle.object_walks.proofs.Resolved.{resolved_ok, resolved_err, refused_so}
use Rattle.object_walks.proofs.resolving.resolve.Goals as goal

pub returns-in-Ok-clause-ok : goal.returns-in-Ok-clause-ok
returns-in-Ok-clause-ok c = resolved_ok c.args.pool.now c.args.id.now c.checked.result _ c.in-Ok.ensures c.checked.ensures.ok

pub returns-in-Ok-clause-err : goal.returns-in-Ok-clause-err
returns-in-Ok-clause-err c = resolved_err c.args.pool.now c.args.id.now c.checked.result _ c.in-Ok.ensures c.checked.ensures.err

pub returns-in-Err-clause-err : goal.returns-in-Err-clause-err
returns-in-Err-clause-err c = refused_so c.args.pool.now c.args.id.now c.refused.result c.in-Err.stop c.in-Err.ensures c.refused.ensures
