use Rattle.std.proofs.Common.{◌≡◌, map, drop}
use Rattle.tool_types.specs.Declaring.{declared_view}
use Rattle.tool_commands.specs.listing.Listing.{are_texts}
use Rattle.tool_commands.proofs.listing.compiling.are_texts.Given as goal

-- So far all were texts.
abbrev pub invariant-loop-declared : goal.invariant-loop-declared
invariant-loop-declared l = are_texts (map declared_view l.records) ≡ are_texts (map declared_view (drop l.declared-index l.records))
