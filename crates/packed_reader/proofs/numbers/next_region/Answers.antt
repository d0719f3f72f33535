use Rattle.packed_reader.proofs.Steps.{region_is}
use Rattle.packed_reader.proofs.numbers.next_region.Goals as goal

pub returns : goal.returns
returns c = region_is _ _ _ _ _ _ c.in_ok-count.ensures.value c.in_ok-inside.ensures
