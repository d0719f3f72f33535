use Rattle.std.proofs.Common.{inl, subst}
use Rattle.std.specs.Prelude.{OnOk}
use Rattle.type_object.specs.Names.{hash_of}
use Rattle.type_object.specs.Pools.{Texts}
use Rattle.tool_nets.specs.Nets.{net_of}
use Rattle.tool_nets.specs.serving.Lines.{clash_output, full_output}
use Rattle.tool_nets.specs.serving.Registering.{IsUnregistered}
use Rattle.tool_nets.specs.serving.Seats.{IsSaid}
use Rattle.tool_nets.specs.serving.Serving.{DoorsHeld, ServeAllows}
use Rattle.tool_nets.proofs.OfServing.Allowed.{clash_allowed, full_allowed, served_allowed}
use Rattle.tool_nets.proofs.OfServing.Told.{ends_more}
use Rattle.tool_nets.proofs.serving.serving.serve_pool.Goals as goal

pub returns-in-Ok-clause-output : goal.returns-in-Ok-clause-output
returns-in-Ok-clause-output g c =
    let to = c.args.to.now in
    let workers = c.args.workers in
    let turns = c.args.turns in
    let pool = c.args.pool.now in
    let served = c.serve_net-served.result in
    let left = c.serve_net-served.new.net in
    let net = net_of (g.N.Net.faults c.args.net.now) (g.N.Net.faults left) (g.N.Net.address left) (g.N.Net.heard left) (g.N.Net.held left) in
    let does = c.serve_net-served.ensures in
    let held = subst (λ (p : Texts). OnOk served (DoorsHeld hash_of p workers turns (g.N.Net.held left))) c.in-Ok.ensures.known.entries does.held in
    ends_more (IsSaid served) (ServeAllows hash_of to workers turns pool net) c.say_served.result (g.K.Sink.taken c.args.sink.now) (g.K.Sink.taken c.say_served.new.sink)
    (λ o said. served_allowed hash_of to workers turns pool net served o does.count does.address held does.fault said) c.say_served.ensures.output

pub returns-in-Err-Clash-clause-output : goal.returns-in-Err-Clash-clause-output
returns-in-Err-Clash-clause-output g c =
    let now = c.args.net.now in
    let net = net_of (g.N.Net.faults now) (g.N.Net.faults now) (g.N.Net.address now) (g.N.Net.heard now) (g.N.Net.held now) in
    let f = c.in-Err-Clash.finding in
    let was = subst (IsUnregistered c.args.pool.now) c.in-Err-Clash.field-0-is c.in-Err-Clash.ensures.refused in
    inl (clash_output f.id f.octets, clash_allowed hash_of c.args.to.now c.args.workers c.args.turns c.args.pool.now net f was c.say_clash.ensures.named, c.say_clash.ensures.ends)

pub returns-in-Err-Full-clause-output : goal.returns-in-Err-Full-clause-output
returns-in-Err-Full-clause-output g c =
    let now = c.args.net.now in
    let net = net_of (g.N.Net.faults now) (g.N.Net.faults now) (g.N.Net.address now) (g.N.Net.heard now) (g.N.Net.held now) in
    let id = c.in-Err-Full.id in
    let trail = c.in-Err-Full.trail in
    let was = subst (IsUnregistered c.args.pool.now) c.in-Err-Full.field-0-is c.in-Err-Full.ensures.refused in
    inl (full_output id trail.held, full_allowed hash_of c.args.to.now c.args.workers c.args.turns c.args.pool.now net id trail was c.say_full.ensures.full, c.say_full.ensures.ends)
