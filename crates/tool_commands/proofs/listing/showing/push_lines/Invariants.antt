use Rattle.std.proofs.Common.{◌≡◌, ◌++◌, map, drop}
use Rattle.tool_commands.specs.listing.Listing.{named_lines}
use Rattle.tool_commands.proofs.listing.showing.push_lines.Given as goal

abbrev pub invariant-loop-at : goal.invariant-loop-at
invariant-loop-at l = l.initial.text ++ named_lines (map (λ d. d.name) l.types) l.ids ≡ l.text ++ named_lines (map (λ d. d.name) (drop l.at l.types)) (drop l.at l.ids)
