use Rattle.type_object.specs.Names.{hash_of}
use Rattle.type_object.specs.Pools.{Texts}
use Rattle.tool_runs.specs.output.Outputs.{Output}
use Rattle.tool_nets.specs.Nets.{net_of}
use Rattle.tool_nets.specs.Opened.{Behind}
use Rattle.tool_nets.specs.serving.Serving.{ServeAllows}
use Rattle.tool_nets.proofs.OfServing.Allowed.{bundle_opened, bundle_stopped}
use Rattle.tool_nets.proofs.OfServing.Told.{ends_more}
use Rattle.tool_nets.proofs.serving.serving.serve_at.Goals as goal

pub returns-in-Ok-clause-output : goal.returns-in-Ok-clause-output
returns-in-Ok-clause-output g c =
    let left = c.serve_pool.new.net in
    let net = net_of (g.N.Net.faults c.args.net.now) (g.N.Net.faults left) (g.N.Net.address left) (g.N.Net.heard left) (g.N.Net.held left) in
    let told = g.S.Source.left c.args.input.now in
    let Allowed : Texts → Output → Type 0 = λ pool. ServeAllows hash_of c.args.to.now c.args.workers c.args.turns pool net in
    let pool = c.in-Ok.pool in
    ends_more (Allowed pool) (Behind told Allowed) c.serve_pool.result (g.K.Sink.taken c.args.sink.now) (g.K.Sink.taken c.serve_pool.new.sink) (λ o allowed. bundle_opened told Allowed pool o c.in-Ok.ensures.opened allowed) c.serve_pool.ensures.output

pub returns-in-Err-clause-output : goal.returns-in-Err-clause-output
returns-in-Err-clause-output g c =
    let now = c.args.net.now in
    let net = net_of (g.N.Net.faults now) (g.N.Net.faults now) (g.N.Net.address now) (g.N.Net.heard now) (g.N.Net.held now) in
    let told = g.S.Source.left c.args.input.now in
    let Allowed : Texts → Output → Type 0 = λ pool. ServeAllows hash_of c.args.to.now c.args.workers c.args.turns pool net in
    bundle_stopped told Allowed c.in-Err.stop c.stopped.result (g.K.Sink.taken c.args.sink.now) (g.K.Sink.taken c.stopped.new.sink) c.in-Err.ensures.opened c.in-Err.ensures.cause c.stopped.ensures.concludes
