use Rattle.std.proofs.Common.{arith, ◌≤◌, length}
use Rattle.xcdr_steps.proofs.OfAgain.Passed.{advanced, nothing_after, on_both}
use Rattle.xcdr_steps.proofs.again.rereading.Rereading.read_behind.Goals as goal

pub returns-clause-octets : goal.returns-clause-octets
returns-clause-octets g c =
    let within : c.take_held-count.result ≤ length c.take_held-count.new.into = omega (arith, c.take_held-count.ensures.count) in
    on_both c.read.result (λ octets rest. advanced c.take_held-count.result _ _ c.take_held-count.new.into c.read.new.into _ within (nothing_after c.take_held-count.result c.take_held-count.new.into within) c.take_held-count.ensures.moved.ahead c.take_held-count.ensures.octets octets) c.read.ensures.octets c.read.ensures.octets
