use Rattle.std.proofs.Common.{sym, subst, arith}
use Rattle.type_object.specs.Names.{hash_of}
use Rattle.type_mirror.specs.told.Pushes.{MayPush}
use Rattle.tool_nets.proofs.OfClients.Pooled.{all_objects, object_more, pool_pushes}
use Rattle.tool_nets.proofs.clients.mirroring.objects_of.Goals as goal

pub loop-index-preserved : goal.loop-index-preserved
loop-index-preserved c =
    object_more c.args.pool.now c.loop-index.index c.at-entry.result.id c.at-entry.result.octets.now c.in_ok-octets.octets c.loop-index.objects c.push.new.self c.at-entry.ensures.entry c.in_ok-octets.ensures c.loop-index.invariant c.in_ok-push.ensures.ok

pub returns-clause-may_push : goal.returns-clause-may_push
returns-clause-may_push c =
    let pool = c.args.pool.now in
    let all = all_objects pool c.loop-index.index c.loop-index.objects (omega (arith, c.len-index-end.ensures.count, c.loop-index-test.false)) c.loop-index.invariant in
    subst (MayPush hash_of) (sym all) (pool_pushes pool c.len-index-end.ensures.pool)
