use Rattle.std.proofs.Common.{◌≡◌, ◌≤◌, ◌+◌, ◌-◌, drop}
use Rattle.type_mirror.specs.told.Rounds.{count_of, fitting}
use Rattle.type_mirror.proofs.requests.count_of.Given as goal

-- Those so far have room, and the rest is counted from here.
abbrev pub invariant-objects : goal.invariant-objects
invariant-objects l = record {
  so : count_of l.objects ≡ l.count + fitting (1024 - l.count) l.room (drop l.count l.objects);
  same : l.count ≡ l.object-index;
  most : l.count ≤ 1024;
}
