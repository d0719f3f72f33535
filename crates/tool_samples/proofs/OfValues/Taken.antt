-- A value whose record was written, or that was refused.
use Rattle.std.proofs.Common.{◌≡◌, ℕ, List, [], ◌∷◌, Some, Ok, Err, sym, ap, subst}
use Rattle.std.specs.declared.option.Option.{Option}
use Rattle.std.specs.Io.KnownBytes.{Appends}
use Rattle.std.proofs.KnownBytes.{Appends-nil}
use Rattle.xt_io.specs.Outside.{AppendsPrefix}
use Rattle.tool_runs.specs.declared.output.ending.Style.{Style}
use Rattle.tool_runs.specs.declared.output.halt.Halt.{Halt}
use Rattle.tool_runs.specs.declared.output.halt.Halt.TheVariants as halts
use Rattle.tool_runs.specs.declared.output.stop.Stop.{Stop}
use Rattle.tool_runs.specs.declared.output.stop.Stop.TheVariants as stops
use Rattle.tool_runs.specs.output.Outputs.{Output, Turn, goes_on, over, after_pieces, after_turn, refused}
use Rattle.tool_runs.specs.output.Runs.{Leads, Steps, Writes}
use Rattle.tool_runs.proofs.OfOutput.Written.{leads_piece, piece_is_cut, stops_here}
use Rattle.tool_samples.specs.values.Values.{Turned}

piece_is : (style : Style) (turn : Turn (Unit {0})) (piece : List ℕ) (rest : Output) → Turned turn (Ok piece) → after_turn style turn (λ u. rest) ≡ after_pieces (piece ∷ []) rest
piece_is style (goes_on pieces u) piece rest p = ap (λ (l : List (List ℕ)). after_pieces l rest) p
piece_is style (over said) piece rest p = absurd p

-- the piece was written
pub piece_went : (style : Style) (turn : Turn (Unit {0})) (piece : List ℕ) (rest : Output) (old new : Option (List ℕ)) → Turned turn (Ok piece) → Appends old new piece → Leads (Some (after_turn style turn (λ u. rest))) (Some rest) old new
piece_went style turn piece rest old new p q = subst (λ (o : Output). Leads (Some o) (Some rest) old new) (sym (piece_is style turn piece rest p)) (leads_piece rest piece old new q)

-- it was not written whole
pub piece_stayed : (style : Style) (turn : Turn (Unit {0})) (piece : List ℕ) (rest : Output) (halt : Halt) (old new : Option (List ℕ)) → Turned turn (Ok piece) → AppendsPrefix old new piece → (halt ≡ halts.ReadFault → ⊥) → Writes (Some (after_turn style turn (λ u. rest))) (Err halt) old new
piece_stayed style turn piece rest halt old new p q no_read = subst (λ (o : Output). Writes (Some o) (Err halt) old new) (sym (piece_is style turn piece rest p)) (piece_is_cut rest piece halt old new q no_read)

-- the text is refused
pub no_piece : (T : Type 0) (style : Style) (turn : Turn (Unit {0})) (rest : Output) (stop : Stop) (a : Option (List ℕ)) → Turned turn (Err stop) → Steps {T = T} style (Some (after_turn style turn (λ u. rest))) (Some rest) (Err stop) a a
no_piece T style turn rest (stops.Halted halt) a p = stops_here (Some (after_turn style turn (λ u. rest))) halt a
no_piece T style (goes_on pieces u) rest (stops.Refused r) a p = absurd p
no_piece T style (over said) rest (stops.Refused r) a p = ([], ap (refused style) (sym p), Appends-nil a)
