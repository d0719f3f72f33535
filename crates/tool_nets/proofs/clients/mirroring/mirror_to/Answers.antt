use Rattle.type_object.specs.Names.{hash_of}
use Rattle.type_object.specs.Pools.{Texts}
use Rattle.tool_runs.specs.output.Outputs.{Output}
use Rattle.tool_nets.specs.Nets.{net_of}
use Rattle.tool_nets.specs.clients.Clients.{PushAllows, objects_in}
use Rattle.tool_nets.proofs.OfClients.Ended.{behind_pool, behind_stop}
use Rattle.tool_nets.proofs.clients.mirroring.mirror_to.Goals as goal

pub returns-in-Ok-clause-output : goal.returns-in-Ok-clause-output
returns-in-Ok-clause-output g c =
    let before = c.args.net.now in
    let after = c.mirror_pool.new.net in
    let net = net_of (g.N.Net.faults before) (g.N.Net.faults after) (g.N.Net.address after) (g.N.Net.heard after) (g.N.Net.held after) in
    let Allowed : Texts → Output → Type 0 = λ pool. PushAllows hash_of c.args.to.now (objects_in pool) net in
    behind_pool (g.S.Source.left c.args.input.now) Allowed c.in-Ok.pool c.mirror_pool.result (g.K.Sink.taken c.args.sink.now) (g.K.Sink.taken c.mirror_pool.new.sink) c.in-Ok.ensures.opened c.mirror_pool.ensures.output

pub returns-in-Err-clause-output : goal.returns-in-Err-clause-output
returns-in-Err-clause-output g c =
    let now = c.args.net.now in
    let net = net_of (g.N.Net.faults now) (g.N.Net.faults now) (g.N.Net.address now) (g.N.Net.heard now) (g.N.Net.held now) in
    let Allowed : Texts → Output → Type 0 = λ pool. PushAllows hash_of c.args.to.now (objects_in pool) net in
    behind_stop (g.S.Source.left c.args.input.now) Allowed c.in-Err.stop c.stopped.result (g.K.Sink.taken c.args.sink.now) (g.K.Sink.taken c.stopped.new.sink) c.in-Err.ensures.opened c.in-Err.ensures.cause c.stopped.ensures.concludes
