use Rattle.std.proofs.Common.{◌≡◌, map, take}
use Rattle.type_mirror.specs.told.Rounds.{octets_of}
use Rattle.type_mirror.proofs.requests.put_request.Given as goal

abbrev pub invariant-objects : goal.invariant-objects
invariant-objects l = record { copied : l.texts ≡ map octets_of (take l.object-index l.objects) }
