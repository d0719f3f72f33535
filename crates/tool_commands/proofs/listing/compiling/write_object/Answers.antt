use Rattle.std.proofs.Common.{[], ◌∷◌, append-nil, sym, ◌∙◌}
use Rattle.xt_io.specs.declared.Kind.TheVariants as kinds
use Rattle.xt_io.specs.Records.{record_octets}
use Rattle.tool_runs.specs.declared.output.ending.Style.TheVariants.{Records}
use Rattle.tool_commands.proofs.listing.compiling.write_object.Goals as goal

pub returns-in-Ok-clause-steps : goal.returns-in-Ok-clause-steps
returns-in-Ok-clause-steps g c rest =
    let piece = record_octets kinds.Object c.args.octets.now in
    c.say_pieces.ensures.steps Records (piece ∷ []) rest (c.octets.ensures ∙ c.in-Ok.ensures ∙ sym (append-nil piece))
