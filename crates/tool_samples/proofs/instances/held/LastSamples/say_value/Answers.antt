use Rattle.std.proofs.Common.{[], ◌∷◌, append-nil, sym, ◌∙◌}
use Rattle.type_trees.specs.View.{tree}
use Rattle.tool_runs.specs.declared.output.ending.Style.TheVariants.{Lines}
use Rattle.tool_samples.specs.instances.Holding.{held_val}
use Rattle.tool_samples.specs.instances.Instancing.{value_line}
use Rattle.tool_samples.proofs.instances.held.LastSamples.say_value.Goals as goal

pub returns-in-Ok-clause-steps : goal.returns-in-Ok-clause-steps
returns-in-Ok-clause-steps g c rest =
    let line = value_line (tree c.args.self.now.ty) (held_val c.args.self.now.rep (tree c.args.self.now.ty) c.args.held.now) in
    c.say_pieces.ensures.steps Lines (line ∷ []) rest (c.octets.ensures ∙ c.in-Ok.ensures ∙ sym (append-nil line))
