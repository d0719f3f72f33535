use Rattle.std.proofs.Common.{Some, None, sym, ◌∙◌}
use Rattle.idl_types.specs.Definitions.{declared}
use Rattle.type_resolve.proofs.Places.{named_at}
use Rattle.type_resolve.proofs.uses.sides_at.Goals as goal

pub returns-in-Some : goal.returns-in-Some
returns-in-Some c = c.of_hashes.ensures ∙ sym (named_at (declared c.args.types.now) c.args.ids.now c.args.at (Some c.in-Some.ids) c.requires (sym c.in-Some.is ∙ c.ids_at.ensures))

pub returns-in-None : goal.returns-in-None
returns-in-None c = c.of_prim.ensures ∙ sym (named_at (declared c.args.types.now) c.args.ids.now c.args.at None c.requires (sym c.in-None.is ∙ c.ids_at.ensures))
