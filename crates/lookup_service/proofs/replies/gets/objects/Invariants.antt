use Rattle.std.proofs.Common.{◌≡◌, ◌≤◌, ◌+◌, length, drop}
use Rattle.std.specs.List.{All}
use Rattle.type_registry.specs.Passed.{known, Grows}
use Rattle.type_lookup.specs.messages.Spelling.{IsFetched, fetched_octets, all_octets}
use Rattle.lookup_service.proofs.OfReplies.Getting.{ServesFrom}
use Rattle.lookup_service.proofs.replies.gets.objects.Given as goal

abbrev pub invariant-asked : goal.invariant-asked
invariant-asked g l = record {
  registry : l.pass.registry ≡ l.initial.pass.registry;
  serves : ServesFrom (known l.pass) l.tried l.ids l.objects l.room (drop l.id-index l.ids);
  grows : Grows l.initial.pass l.pass;
  fetched : All IsFetched l.objects;
  few : length l.objects ≤ l.id-index;
  fits : length (all_octets fetched_octets l.objects) + l.room ≡ 262131;
}
