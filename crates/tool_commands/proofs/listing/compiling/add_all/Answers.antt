use Rattle.std.proofs.Common.{◌+◌, List, map, drop, drop_of_length-le, ap, ◌∙◌}
use Rattle.type_resolve.specs.Adding.{all_added}
use Rattle.tool_types.specs.declared.declaring.Declared.{Declared as Record}
use Rattle.tool_types.specs.Declaring.{declared_view}
use Rattle.tool_commands.specs.listing.Listing.{all_texts}
use Rattle.tool_commands.proofs.OfListing.Listed.{good_record, next_record, none_added, record_added}
use Rattle.tool_commands.proofs.listing.compiling.add_all.Goals as goal

pub loop-declared-preserved : goal.loop-declared-preserved
loop-declared-preserved c =
    let next = next_record c.args.records.now c.loop-declared.declared-index c.declared-item.result c.loop-declared-test.true c.declared-item.is in
    let rest = drop (c.loop-declared.declared-index + 1) c.args.records.now in
    ((good_record c.args.records.now c.loop-declared.declared-index c.declared-item.result next c.loop-declared.invariant.0).1, c.loop-declared.invariant.1 ∙ ap (λ (ds : List Record). all_added c.loop-declared.pool (all_texts (map declared_view ds))) next ∙ record_added c.loop-declared.pool c.add_record.new.pool c.declared-item.result rest c.in-Ok.ensures)

pub returns : goal.returns
returns c = c.loop-declared.invariant.1 ∙ ap (λ (ds : List Record). all_added c.loop-declared.pool (all_texts (map declared_view ds))) (drop_of_length-le c.args.records.now c.loop-declared-test.false) ∙ none_added c.loop-declared.pool
