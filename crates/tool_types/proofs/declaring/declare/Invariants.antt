use Rattle.std.proofs.Common.{◌≡◌, [], map, drop}
use Rattle.tool_types.specs.Types as spec
use Rattle.tool_runs.specs.front.Reading.{AreWithin}
use Rattle.tool_types.specs.Declaring.{AllGood, declared_view}
use Rattle.tool_types.proofs.Declares.{after_declared}
use Rattle.tool_types.proofs.declaring.declare.Given as goal

abbrev pub invariant-loop-item : goal.invariant-loop-item
invariant-loop-item l = record {
  within : AreWithin (drop l.item-index l.items);
  good : AllGood l.records;
  count : l.number ≡ l.item-index;
  all : spec.declare 0 [] l.items ≡ after_declared (map declared_view l.records) (spec.declare l.number l.pool (drop l.item-index l.items));
}
