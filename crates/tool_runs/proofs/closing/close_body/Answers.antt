use Rattle.std.proofs.Common.{Result, arith, ◌∙◌, subst}
use Rattle.tool_runs.specs.declared.output.stop.Stop.{Stop}
use Rattle.tool_runs.specs.declared.output.turns.Next.{Next}
use Rattle.tool_runs.specs.declared.output.turns.Next.TheVariants.{Record}
use Rattle.tool_runs.specs.output.Runs.{PassesOther, coming}
use Rattle.tool_runs.proofs.Ended.{EndAlike, ends, halts, is_broken, passes, refuses}
use Rattle.tool_runs.proofs.closing.close_body.Goals as goal

pub returns-in-End-clause-closed : goal.returns-in-End-clause-closed
returns-in-End-clause-closed g c =
    let first = coming c.args.begun c.args.reader in
    ends first (subst (λ (n : Next). EndAlike first (coming n c.records.reader)) c.in-End.is c.records.invariant.alike)

pub returns-in-Broken-clause-closed : goal.returns-in-Broken-clause-closed
returns-in-Broken-clause-closed g c =
    let first = coming c.args.begun c.args.reader in
    let alike = subst (λ (n : Next). EndAlike first (coming n c.records.reader)) c.in-Broken.is c.records.invariant.alike in
    is_broken first c.in-Broken.fault c.refuse_fault.result alike c.refuse_fault.ensures

pub returns-in-Err-clause-closed : goal.returns-in-Err-clause-closed
returns-in-Err-clause-closed g c =
    let first = coming c.args.begun c.args.reader in
    let now = coming (Record c.in-Record.head) c.records.reader in
    let alike = subst (λ (n : Next). EndAlike first (coming n c.records.reader)) c.in-Record.is c.records.invariant.alike in
    let other = subst (λ (r : Result (Unit {0}) Stop). PassesOther {T = Unit {0}} c.in-Record.head now c.pass_other-back.result.0.ahead r) c.in-Err.is c.pass_other-back.ensures.passes in
    refuses first now c.pass_other-back.result.0.ahead c.in-Record.head c.in-Err.stop alike other

pub returns-in-Err-next_of-clause-closed : goal.returns-in-Err-next_of-clause-closed
returns-in-Err-next_of-clause-closed g c = halts (coming c.args.begun c.args.reader) c.in-Err-next_of.halt

pub records-preserved : goal.records-preserved
records-preserved g c =
    let first = coming c.args.begun c.args.reader in
    let now = coming (Record c.in-Record.head) c.records.reader in
    let alike = subst (λ (n : Next). EndAlike first (coming n c.records.reader)) c.in-Record.is c.records.invariant.alike in
    let other = subst (λ (r : Result (Unit {0}) Stop). PassesOther {T = Unit {0}} c.in-Record.head now c.pass_other-back.result.0.ahead r) c.in_default.is c.pass_other-back.ensures.passes in
    record {
      ready = c.in-Ok.ensures.ready;
      alike = passes first now c.pass_other-back.result.0.ahead (coming c.in-Ok.next c.next_of.new.reader) c.in-Record.head alike other c.in-Ok.ensures.coming;
      later = omega (arith, c.records.invariant.later, c.pass_other-back.ensures.stops.source_later, c.in-Ok.ensures.halts.source_later);
      same = c.in-Ok.ensures.same ∙ c.pass_other-back.ensures.same ∙ c.records.invariant.same;
    }
