use Rattle.std.proofs.Common.{◌≡◌, ℕ, ◌+◌, List, None, Some, sym, subst}
use Rattle.xt_io.specs.Bundles.{Bundle, with_payload}
use Rattle.xt_io.specs.Readers.{inside}
use Rattle.tool_runs.specs.output.Blocks.{held}
use Rattle.tool_runs.specs.output.Outputs.{Output}
use Rattle.tool_runs.specs.output.Runs.{TakesRecord, both}
use Rattle.tool_runs.proofs.OfOutput.Turning.{payload_stops, payload_goes}
use Rattle.tool_runs.proofs.output.payloads.AnyTurns.turn.Goals as goal

pub returns-in-Err-clause-steps : goal.returns-in-Err-clause-steps
returns-in-Err-clause-steps g c =
    let f : Bundle → Output = λ b. g.T.Payloads.to_write c.args.self.now c.args.number b in
    let before = both (with_payload c.args.head) (inside c.args.reader) c.args.reader.ahead in
    let P : (Unit {0}) → List ℕ → Type 0 = λ u octets. octets ≡ c.payload_into.new.payload in
    payload_stops (Unit {0}) (Unit {0}) g.T.Payloads.style f c.args.head P before c.payload_into.new.reader.ahead None c.in-Err.stop (Some (held c.args.block.now)) (λ fault. g.met.T.Payloads.at_fault c.args.self.now c.args.number fault) c.in-Err.ensures.takes

pub returns-in-Ok-clause-steps : goal.returns-in-Ok-clause-steps
returns-in-Ok-clause-steps g c =
    let f : Bundle → Output = λ b. g.T.Payloads.to_write c.args.self.now c.args.number b in
    let h : Bundle → Output = λ b. g.T.Payloads.to_write c.take-taken.new.self (c.args.number + 1) b in
    let before = both (with_payload c.args.head) (inside c.args.reader) c.args.reader.ahead in
    let after = c.payload_into.new.reader.ahead in
    let takes = subst (λ (l : List ℕ). TakesRecord c.args.head (λ octets. octets ≡ l) before after) (sym c.octets.ensures) c.in-Ok.ensures.takes in
    payload_goes g.T.Payloads.style f h c.args.head c.octets.result.now before after c.take-taken.result (Some (held c.args.block.now)) (Some (held c.take-taken.new.sink)) takes c.take-taken.ensures.steps
