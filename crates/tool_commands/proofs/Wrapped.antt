-- An input that was written as one record, or was too long.
use Rattle.std.proofs.Common.{◌≡◌, ℕ, ◌+◌, ◌<◌, ◌≤◌, List, [], ◌∷◌, Bool, append-nil, length, take_all, None, Some, Result, Ok, Err, refl, sym, ap, ◌∙◌, subst, arith, true, false, nat_lt, if◌then◌else◌, codes}
use Rattle.std.proofs.lemmas.Bool.{le-ltb, lt-ltb}
use Rattle.std.proofs.lemmas.List.{length-take}
use Rattle.std.specs.declared.option.Option.{Option}
use Rattle.std.specs.Option.{option_map}
use Rattle.std.specs.Io.KnownBytes.{Appends}
use Rattle.xt_io.specs.declared.Kind.{Kind}
use Rattle.xt_io.specs.Bundles.{limit_of}
use Rattle.xt_io.specs.Outside.{AppendsPrefix, TakesUpTo}
use Rattle.xt_io.specs.Records.{record_octets}
use Rattle.tool_runs.specs.declared.output.ending.Ending.{Ending}
use Rattle.tool_runs.specs.declared.output.ending.Ending.TheVariants.{Done}
use Rattle.tool_runs.specs.declared.output.ending.Style.{Style}
use Rattle.tool_runs.specs.declared.output.ending.Style.TheVariants.{Lines}
use Rattle.tool_runs.specs.declared.output.halt.Halt.{Halt}
use Rattle.tool_runs.specs.declared.output.halt.Halt.TheVariants as halts
use Rattle.tool_runs.specs.declared.output.stop.Stop.{Stop}
use Rattle.tool_runs.specs.declared.output.stop.Stop.TheVariants as stops
use Rattle.tool_runs.specs.output.Texts.{bundle_text}
use Rattle.tool_runs.specs.output.Outputs.{Output, Refusal, bundle_refusal, finished, refused}
use Rattle.tool_runs.specs.output.Runs.{Ends, Refuses, Writes}
use Rattle.tool_runs.proofs.OfOutput.Written.{piece_is_cut, stops_here}
use Rattle.tool_runs.specs.Commands.{only}
use Rattle.tool_runs.specs.Stopping.{Concludes}
use Rattle.tool_commands.specs.Wrapping.{wrapped}

-- ---- one piece alone

pub only_is_whole : (piece : List ℕ) (old new : Option (List ℕ)) → Appends old new piece → Ends (only (piece ∷ [])) (Ok Done) old new
only_is_whole piece old new p = record { ending = refl; text = subst (Appends old new) (sym (append-nil piece)) p }

pub only_is_cut : (piece : List ℕ) (e : Halt) (old new : Option (List ℕ)) → AppendsPrefix old new piece → (e ≡ halts.ReadFault → ⊥) → Ends (only (piece ∷ [])) (Err e) old new
only_is_cut piece e old new p no_read = piece_is_cut finished piece e old new p no_read

-- memory was wanting for it
pub only_is_wanted : (output : Output) (a : Option (List ℕ)) → Ends output (Err halts.OutOfMemory) a a
only_is_wanted output a = stops_here (Some output) halts.OutOfMemory a

-- ---- a refusal

pub refusal_ends : (style : Style) (said : Refusal) (stop : Stop) (result : Result Ending Halt) (old new : Option (List ℕ)) → Refuses said stop → Concludes style stop result old new → Ends (refused style said) result old new
refusal_ends style said (stops.Refused r) result old new p q = subst (λ (x : Refusal). Ends (refused style x) result old new) p q
refusal_ends style said (stops.Halted halt) result old new p q = rw (q.0, q.1) (stops_here (Some (refused style said)) halt old)

-- ---- the input

abbrev too_long : Output
too_long = refused Lines (bundle_refusal (bundle_text 0 (codes "too-long")))

abbrev by_length : Kind → List ℕ → Bool → Output
by_length kind octets long = if long then too_long else only (record_octets kind octets ∷ [])

-- it is within the limit
pub wraps : (kind : Kind) (told after : Option (List ℕ)) (text : List ℕ) (result : Result Ending Halt) (old new : Option (List ℕ)) → TakesUpTo (limit_of kind + 1) told after text → length text ≤ limit_of kind → Ends (only (record_octets kind text ∷ [])) result old new
    → Writes (option_map (wrapped kind) told) result old new
wraps kind None after text result old new takes fits ends = tt
wraps kind (Some all) after text result old new takes fits ends =
    let short : length all ≤ limit_of kind + 1 = omega (arith, ap length takes.0, length-take (limit_of kind + 1) all, fits) in
    let whole : text ≡ all = takes.0 ∙ take_all (limit_of kind + 1) all short in
    let within : length all ≤ limit_of kind = subst (λ (l : List ℕ). length l ≤ limit_of kind) whole fits in
    let small : nat_lt (limit_of kind) (length all) ≡ false = le-ltb (limit_of kind) (length all) within in
    subst (λ (o : Output). Ends o result old new) (ap (λ (l : List ℕ). only (record_octets kind l ∷ [])) whole ∙ sym (ap (by_length kind all) small)) ends

-- it passes the limit
pub passes_limit : (kind : Kind) (told after : Option (List ℕ)) (text : List ℕ) (result : Result Ending Halt) (old new : Option (List ℕ)) → TakesUpTo (limit_of kind + 1) told after text → limit_of kind < length text → Ends too_long result old new
    → Writes (option_map (wrapped kind) told) result old new
passes_limit kind None after text result old new takes over ends = tt
passes_limit kind (Some all) after text result old new takes over ends =
    let more : limit_of kind < length all = omega (arith, ap length takes.0, length-take (limit_of kind + 1) all, over) in
    let large : nat_lt (limit_of kind) (length all) ≡ true = lt-ltb (limit_of kind) (length all) more in
    subst (λ (o : Output). Ends o result old new) (sym (ap (by_length kind all) large)) ends
