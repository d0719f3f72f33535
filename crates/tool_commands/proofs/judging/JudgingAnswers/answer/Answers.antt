use Rattle.std.proofs.Common.{ℕ, List, [], ◌∷◌, Some, Result, Ok, refl, sym, ap, subst, codes}
use Rattle.type_trees.specs.Trees.{Tree}
use Rattle.tool_runs.specs.declared.output.ending.Style.TheVariants.{Lines}
use Rattle.tool_runs.specs.output.Outputs.{Output, Refusal, ◌>>=◌, finished, unless_refused}
use Rattle.tool_runs.specs.output.Runs.{Leads, Steps, at_ending}
use Rattle.tool_runs.specs.Commands.{only}
use Rattle.tool_runs.specs.declared.output.ending.Ending.{Ending}
use Rattle.tool_commands.proofs.Told.{hands_on}
use Rattle.tool_commands.proofs.judging.JudgingAnswers.answer.Goals as goal

abbrev yes : List (List ℕ)
yes = codes "yes\n" ∷ []

-- what is written, by what was found
abbrev written : Result Tree Refusal → Output
written found = unless_refused Lines ((found >>= λ t. Ok yes) >>= λ ps. Ok (only ps))

pub returns-clause-steps : goal.returns-clause-steps
returns-clause-steps g c =
    subst (λ (o : Output). Leads (Some o) (Some finished) (g.K.Sink.taken c.args.sink.now) (g.K.Sink.taken c.say_pieces.new.sink)) (sym (ap written c.in_ok-reader_type.ensures.comes)) (c.in_ok-say_pieces.ensures.steps Lines yes finished refl)

pub returns-in_err-say_pieces-clause-steps : goal.returns-in_err-say_pieces-clause-steps
returns-in_err-say_pieces-clause-steps g c =
    let result = c.from_residual-in_err-say_pieces.result in
    let old = g.K.Sink.taken c.args.sink.now in
    let new = g.K.Sink.taken c.say_pieces.new.sink in
    let stops = hands_on (Unit {0}) Ending Lines (Some (only yes)) (Some finished) at_ending c.in_err-say_pieces.field-0.0 result old new c.from_residual-in_err-say_pieces.ensures.1 (c.in_err-say_pieces.ensures.steps Lines yes finished refl) in
    subst (λ (o : Output). Steps {T = Ending} Lines (Some o) (at_ending result) result old new) (sym (ap written c.in_ok-reader_type.ensures.comes)) stops
