use Rattle.std.proofs.Common.{map, refl}
use Rattle.xt_io.specs.Links.{IsNewDoor}
use Rattle.type_object.specs.Names.{hash_of}
use Rattle.tool_nets.specs.serving.Registering.{entry_of}
use Rattle.tool_nets.specs.serving.Seats.{Knows}
use Rattle.tool_nets.proofs.OfServing.Reversed.{all_before}
use Rattle.tool_nets.proofs.OfServing.Seated.{both_fewer, moved_count, popped, ready_more}
use Rattle.tool_nets.proofs.serving.doors.seats_at.Goals as goal

pub doors-preserved : goal.doors-preserved
doors-preserved g c =
    let known = c.args.known.now in
    let doors = c.doors.doors in
    let left = c.pop.new.self in
    let door = c.in-Some.door in
    let passes = c.doors.passes in
    let fewer = c.pop-in-Some.new.self in
    let pass = c.unwrap-pass.result in
    let taken = popped passes fewer c.pop-in-Some.result pass c.unwrap-pass.ensures c.pop-in-Some.ensures in
    let seats = c.doors.seats in
    let more = c.push.new.self in
    let knowing = all_before (Knows hash_of known.registry.now (map entry_of known.findings)) passes fewer pass taken c.doors.invariant.knows in
    let parts = all_before (λ d. IsNewDoor (g.D.Door.held d) (g.D.Door.out d) (g.D.Door.faults d)) doors left door c.in-Some.ensures c.doors.invariant.new in
    record {
      count = moved_count doors left door seats more _ _ c.in-Some.ensures c.in_ok-push.ensures.ok c.doors.invariant.count;
      same = both_fewer passes fewer pass doors left door taken c.in-Some.ensures c.doors.invariant.same;
      knows = knowing.0;
      new = parts.0;
      ready = ready_more hash_of known.registry.now (map entry_of known.findings) g.D.Door.held g.D.Door.faults g.D.Door.out (λ s. s.door) (λ s. s.pass) seats more _ door c.in_ok-push.ensures.ok refl knowing.1 parts.1 c.doors.invariant.ready;
    }
