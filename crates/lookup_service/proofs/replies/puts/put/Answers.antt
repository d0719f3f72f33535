use Rattle.std.proofs.Common.{ℕ, List, subst}
use Rattle.type_registry.specs.Passed.{known}
use Rattle.lookup_service.specs.replies.Replies.{IsOutcome}
use Rattle.lookup_service.proofs.OfReplies.Putting.{put_clash_of, put_full}
use Rattle.lookup_service.proofs.replies.puts.put.Goals as goal

pub returns-in-Err-Clash-clause-outcome : goal.returns-in-Err-Clash-clause-outcome
returns-in-Err-Clash-clause-outcome g c =
    let is = rw c.in-Err-Clash.field-0-is at c.in-Err-Clash.ensures.refused in
    put_clash_of g.N.Naming.name c.args.pass.now c.remember.new.pass c.octets.result.now c.args.object.now c.in-Err-Clash.other c.octets.ensures is.0 is.1.1 is.2 c.in_ok-remember-in-Err-Clash.ensures.ok.known_now

pub returns-in-Err-Full-clause-outcome : goal.returns-in-Err-Full-clause-outcome
returns-in-Err-Full-clause-outcome g c =
    let is = rw c.in-Err-Full.field-0-is at c.in-Err-Full.ensures.refused in
    subst (λ (octets : List ℕ). IsOutcome g.N.Naming.name (known c.args.pass.now) c.register.new.pass octets 4) c.octets.ensures
    (put_full g.N.Naming.name c.args.pass.now c.register.new.pass c.octets.result.now c.in-Err-Full.field-0-0.held is.0 is.4 is.5)
