use Rattle.std.proofs.Common.{length, map}
use Rattle.type_object.specs.Names.{hash_of}
use Rattle.tool_nets.specs.serving.Registering.{entry_of}
use Rattle.tool_nets.proofs.OfServing.Worked.{net_held_if}
use Rattle.tool_nets.proofs.serving.doors.serve_net.Goals as goal

pub returns-in-Ok-served-clause-held : goal.returns-in-Ok-served-clause-held
returns-in-Ok-served-clause-held g c =
    let findings = c.args.known.now.findings in
    let ended = c.in-Ok-serve_doors in
    net_held_if hash_of (map entry_of findings) c.args.workers c.args.turns (length c.in-Ok.doors) ended.served c.in-Ok-served.count (g.N.Net.held c.end_doors.new.self) (map (λ d. g.N.D.Door.held d) ended.doors) c.in-Ok-served.is c.in-Ok.ensures.count ended.ensures.held c.end_doors.ensures.held
