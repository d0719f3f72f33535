use Rattle.std.proofs.Common.{arith, List, map, subst, ◌∙◌, take_all}
use Rattle.std.specs.List.{All}
use Rattle.type_registry.specs.Found.{Found}
use Rattle.tool_nets.specs.serving.Registering.{entry_of}
use Rattle.tool_nets.specs.serving.Serving.{HasPool}
use Rattle.tool_nets.proofs.OfServing.Entered.{HasFound, found_more, has_pool}
use Rattle.tool_nets.proofs.serving.doors.pass_of.Goals as goal

pub loop-finding-preserved : goal.loop-finding-preserved
loop-finding-preserved c =
    let learns = c.in_ok-remember.ensures.ok in
    let found = c.loop-finding.invariant.found in
    record {
      registry = learns.grows.registry ∙ c.loop-finding.invariant.registry;
      found = found_more c.loop-finding.pass c.remember.new.pass c.as_slice-findings.result.now c.loop-finding.finding-index c.finding-item.result c.loop-finding-test.true c.finding-item.is learns found;
    }

pub returns : goal.returns
returns c =
    let pass = c.loop-finding.pass in
    let findings = c.as_slice-findings.result.now in
    let all = take_all c.loop-finding.finding-index findings (omega (arith, c.loop-finding-test.false)) in
    let found = subst (All (HasFound pass)) all c.loop-finding.invariant.found in
    record {
      registry_is = c.loop-finding.invariant.registry;
      sound = c.holds.ensures;
      has_pool = subst (λ (l : List Found). HasPool pass (map entry_of l)) c.as_slice-findings.ensures (has_pool pass findings found);
    }
