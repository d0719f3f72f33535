use Rattle.std.proofs.Common.{map}
use Rattle.type_object.specs.Names.{hash_of}
use Rattle.tool_nets.specs.serving.Registering.{entry_of}
use Rattle.tool_nets.specs.serving.Seats.{Knows}
use Rattle.tool_nets.proofs.OfServing.Seated.{all_more, counted_more}
use Rattle.tool_nets.proofs.serving.doors.passes_of.Goals as goal

pub loop-seat-preserved : goal.loop-seat-preserved
loop-seat-preserved c =
    let known = c.args.known.now in
    let passes = c.loop-seat.passes in
    let all = c.push.new.self in
    let pass = c.in_ok-pass.pass in
    record {
      count = counted_more passes all pass c.loop-seat._seat c.in_ok-push.ensures.ok c.loop-seat.invariant.count;
      knows = all_more (Knows hash_of known.registry.now (map entry_of known.findings)) passes all pass c.in_ok-push.ensures.ok c.in_ok-pass.ensures c.loop-seat.invariant.knows;
    }
