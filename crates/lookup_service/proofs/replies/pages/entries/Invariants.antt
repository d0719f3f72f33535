use Rattle.std.proofs.Common.{◌≡◌, take, map, length}
use Rattle.std.specs.List.{All}
use Rattle.type_registry.specs.Passed.{known}
use Rattle.type_lookup.specs.messages.Spelling.{IsNeeded, IsNeededInRange}
use Rattle.lookup_service.specs.replies.Replies.{needed}
use Rattle.lookup_service.proofs.replies.pages.entries.Given as goal

abbrev pub invariant-entries : goal.invariant-entries
invariant-entries g l = record {
  entries : l.entries ≡ map (needed (known l.pass)) (take l.id-index l.ids);
  good : All IsNeeded l.entries;
  range : All IsNeededInRange l.entries;
  count : length l.entries ≡ l.id-index;
}
