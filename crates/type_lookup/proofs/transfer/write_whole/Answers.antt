use Rattle.std.proofs.Common.{◌++◌, arith, take, ◌∙◌}
use Rattle.type_lookup.proofs.Taking.{appended-more, moves_front}
use Rattle.type_lookup.proofs.transfer.write_whole.Goals as goal

pub loop-rest-preserved : goal.loop-rest-preserved
loop-rest-preserved g c =
    let (done, split, appended) = c.loop-rest.invariant.written in
    let rest = c.loop-rest.rest.now in
    let n = c.in_ok-count.count in
    record {
      written = (done ++ take n rest, moves_front _ done rest n split, appended-more _ _ _ _ _ appended c.in_ok-count.ensures.octets);
      got = c.in_ok-count.ensures.got ∙ c.loop-rest.invariant.got;
      left = c.in_ok-count.ensures.left ∙ c.loop-rest.invariant.left;
      later = omega (arith, c.in_ok-count.ensures.cause.later);
      same = c.in_ok-count.ensures.same ∙ c.loop-rest.invariant.same;
    }
