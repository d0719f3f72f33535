use Rattle.std.proofs.Common.{[], ◌∷◌, append-nil, sym, ◌∙◌}
use Rattle.type_registry.specs.Held.{held}
use Rattle.tool_runs.specs.declared.output.ending.Style.TheVariants.{Lines}
use Rattle.tool_nets.specs.serving.Lines.{held_line}
use Rattle.tool_nets.proofs.serving.lines.say_cell.Goals as goal

pub returns-in-Ok-clause-steps : goal.returns-in-Ok-clause-steps
returns-in-Ok-clause-steps g c rest =
    let line = held_line (held c.args.id c.args.octets.now) in
    c.say_pieces.ensures.steps Lines (line ∷ []) rest (c.octets.ensures ∙ c.in-Ok.ensures ∙ sym (append-nil line))
