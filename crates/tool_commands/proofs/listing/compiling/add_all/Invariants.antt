use Rattle.std.proofs.Common.{◌≡◌, map, drop}
use Rattle.type_resolve.specs.Adding.{all_added}
use Rattle.tool_types.specs.Declaring.{AllGood, declared_view}
use Rattle.tool_commands.specs.listing.Listing.{all_texts}
use Rattle.tool_commands.proofs.listing.compiling.add_all.Given as goal

abbrev pub invariant-loop-declared : goal.invariant-loop-declared
invariant-loop-declared l = AllGood (drop l.declared-index l.records) × (all_added l.initial.pool (all_texts (map declared_view l.records)) ≡ all_added l.pool (all_texts (map declared_view (drop l.declared-index l.records))))
