use Rattle.std.proofs.Common.{◌∙◌, rules}
use Rattle.std.specs.Int.{w128}
use Rattle.std.proofs.lemmas.Int.{to_z-of_z}
use Rattle.try_construct.proofs.guides.Guide.is_literal.Goals as goal

pub returns-in-Literals : goal.returns-in-Literals
returns-in-Literals c = rw (to_z-of_z w128 c.args.number (search rules)) at c.contains.ensures ∙ (rw c.in-Literals.is at c.requires) c.args.number
