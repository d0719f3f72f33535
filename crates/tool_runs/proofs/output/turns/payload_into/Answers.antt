use Rattle.std.proofs.Common.{◌≡◌, ℕ, List, Err, take, ap, sym, ◌∙◌, subst}
use Rattle.std.specs.declared.option.Option.{Option}
use Rattle.std.specs.Option.{option_map}
use Rattle.xt_io.specs.declared.bundle.Pending.{Pending}
use Rattle.xt_io.specs.Bundles.{with_payload}
use Rattle.xt_io.specs.Readers.{CutsPayload, rest_of, inside}
use Rattle.tool_runs.specs.output.Runs.{TakesPayload, both}
use Rattle.tool_runs.proofs.OfOutput.Turning.{takes_whole, fault_takes}
use Rattle.tool_runs.proofs.output.turns.payload_into.Goals as goal

pub returns-in-Ok-clause-takes : goal.returns-in-Ok-clause-takes
returns-in-Ok-clause-takes g c =
    takes_whole c.args.head (inside c.args.reader.now) c.args.reader.now.ahead c.payload_into.new.self.ahead c.payload_into.new.payload (c.in-Ok.ensures.whole ∙ ap rest_of c.requires.pending) c.in-Ok.ensures.octets c.in-Ok.ensures.ahead

pub returns-in-Err-clause-takes : goal.returns-in-Err-clause-takes
returns-in-Err-clause-takes g c =
    let P : (Unit {0}) → List ℕ → Type 0 = λ u octets. octets ≡ c.payload_into.new.payload in
    let head = c.args.head in
    let reader = c.args.reader.now in
    let cut = subst (λ (p : Option Pending). CutsPayload p reader.left c.in-Err.fault) c.requires.pending (c.in-Err.ensures.cut c.requires.good) in
    subst (λ (p : Option Pending). TakesPayload {T = Unit {0}} head P (both (with_payload head) (option_map (take (rest_of p)) reader.left) reader.ahead) c.payload_into.new.self.ahead (Err c.stop_for.result)) (sym c.requires.pending)
    (fault_takes (Unit {0}) head P reader.left reader.ahead c.payload_into.new.self.ahead c.in-Err.fault c.stop_for.result cut c.stop_for.ensures)
