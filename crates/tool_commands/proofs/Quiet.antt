-- Nothing is written before a body, and nothing at its end.
use Rattle.std.proofs.Common.{ℕ, List, [], Some, Ok, refl}
use Rattle.std.specs.declared.option.Option.{Option}
use Rattle.std.proofs.KnownBytes.{Appends-nil}
use Rattle.xt_io.specs.declared.Item.{Item}
use Rattle.xt_io.specs.Bundles.{nothing}
use Rattle.tool_runs.specs.declared.output.ending.Style.{Style}
use Rattle.tool_runs.specs.output.Outputs.{Output, Turn, after_pieces, finished, run}
use Rattle.tool_runs.specs.output.Runs.{Steps}
use Rattle.tool_runs.proofs.OfOutput.Turning.{run_at_end}

pub before : (style : Style) (rest : Output) (now : Option (List ℕ)) → Steps {T = Unit {0}} style (Some (after_pieces [] rest)) (Some rest) (Ok tt) now now
before style rest now = ([], refl, Appends-nil now)

pub behind : {S : Type 0} (style : Style) (turn : ℕ → Item → S → Turn S) (state : S) (number : ℕ) (now : Option (List ℕ)) → Steps {T = Unit {0}} style (Some (run style turn (λ s. finished) state number nothing)) (Some finished) (Ok tt) now now
behind style turn state number now = ([], run_at_end style turn (λ s. finished) state number, Appends-nil now)
