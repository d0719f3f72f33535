use Rattle.std.proofs.Common.{◌∙◌, ◌+◌, ◌<◌, ◌++◌, length, ℕ, List, ap, arith, drop, map, sym}
use Rattle.tool_commands.specs.listing.Listing.{named_lines}
use Rattle.tool_commands.proofs.OfListing.Lines.{line_on, lines_end, ids_end}
use Rattle.tool_commands.proofs.listing.showing.push_lines.Goals as goal

pub loop-at-preserved : goal.loop-at-preserved
loop-at-preserved c =
    let at = c.loop-at.at in
    let within : at < length c.args.types.now = omega (arith, c.loop-at-test.true) in
    let rest = named_lines (map (λ d. d.name) (drop (at + 1) c.args.types.now)) (drop (at + 1) c.args.ids.now) in
    let next = line_on c.loop-at.text c.octets.result.now c.args.types.now c.args.ids.now at c.index-types-at.result c.in-Some.own within c.index-types-at.is (sym c.ids_at.ensures ∙ c.in-Some.is) (c.octets.ensures ∙ c.in_ok-line.ensures) in
    c.loop-at.invariant ∙ next ∙ ap (λ (t : List ℕ). t ++ rest) (sym c.in_ok-append.ensures.ok)

pub returns : goal.returns
returns c = sym (c.loop-at.invariant ∙ lines_end c.loop-at.text c.args.types.now c.args.ids.now c.loop-at.at (omega (arith, c.loop-at-test.false)))

pub returns-in_default : goal.returns-in_default
returns-in_default c =
    let names = map (λ d. d.name) (drop c.loop-at.at c.args.types.now) in
    sym (c.loop-at.invariant ∙ ids_end c.loop-at.text names c.args.ids.now c.loop-at.at (sym c.ids_at.ensures ∙ c.in_default.is))
