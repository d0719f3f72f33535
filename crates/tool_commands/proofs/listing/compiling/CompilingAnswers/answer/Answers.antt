use Rattle.std.proofs.Common.{List, map, sym, subst}
use Rattle.tool_types.specs.declared.declaring.Declared.{Declared as Record}
use Rattle.tool_types.specs.Declaring.{declared_view}
use Rattle.tool_commands.specs.listing.Listing.{HasCompiled}
use Rattle.tool_commands.proofs.listing.compiling.CompilingAnswers.answer.Goals as goal

pub compile_all-requires-clause-front : goal.compile_all-requires-clause-front
compile_all-requires-clause-front g c =
    let pool = c.in_ok-declared.pool in
    subst (λ (l : List Record). HasCompiled (map declared_view l, pool)) (sym c.as_slice.ensures) (c.front_has_compiled.ensures c.args.records.now (map declared_view c.in_ok-declared.declared, pool) c.in_ok-declared.ensures.declared)
