use Rattle.std.proofs.Common.{length, map}
use Rattle.type_object.specs.Names.{hash_of}
use Rattle.tool_nets.specs.serving.Registering.{entry_of}
use Rattle.tool_nets.proofs.OfServing.Worked.{doors_failed, held_if}
use Rattle.tool_nets.proofs.serving.doors.serve_doors.Goals as goal

pub returns-clause-held : goal.returns-clause-held
returns-clause-held g c =
    let known = c.args.known.now in
    let seats = c.in_ok-seats in
    let served = c.serve_workers-served in
    let doors = c.in_ok-doors in
    held_if hash_of known.registry.now (map entry_of known.findings) c.args.turns g.D.Door.held g.D.Door.faults g.D.Door.out (λ s. s.door) (λ s. s.pass) (length c.args.doors) seats.seats served.new.seats doors.doors served.result seats.ensures.count seats.ensures.ready served.ensures.served doors.ensures

pub returns-clause-fault : goal.returns-clause-fault
returns-clause-fault g c fault =
    let known = c.args.known.now in
    let seats = c.in_ok-seats in
    let served = c.serve_workers-served in
    let doors = c.in_ok-doors in
    doors_failed hash_of known.registry.now (map entry_of known.findings) c.args.turns g.D.Door.held g.D.Door.faults g.D.Door.out (λ s. s.door) (λ s. s.pass) seats.seats served.new.seats doors.doors seats.ensures.ready (served.ensures.cause fault) doors.ensures
