use Rattle.std.proofs.Common.{sym}
use Rattle.json.specs.Value.{value_view}
use Rattle.dynamic_data.proofs.OfNumbers.JsonViews.{part_is_writable}
use Rattle.dynamic_data.proofs.numbers.cases.case_in.Goals as goal

pub disc_in-requires-clause-writable : goal.disc_in-requires-clause-writable
disc_in-requires-clause-writable c = part_is_writable _ (value_view c.args.part.now) _ c.requires.writable (sym c.in-Some.ensures)
