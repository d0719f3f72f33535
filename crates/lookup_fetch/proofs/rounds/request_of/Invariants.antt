use Rattle.std.proofs.Common.{◌≡◌, take}
use Rattle.std.specs.List.{All}
use Rattle.type_lookup.specs.messages.Spelling.{HasHash}
use Rattle.lookup_fetch.proofs.rounds.request_of.Given as goal

abbrev pub invariant-asked : goal.invariant-asked
invariant-asked l = record {
  ids : l.ids ≡ take l.id-index l.asked;
  hashes : All HasHash l.ids;
}
