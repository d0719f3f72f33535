use Rattle.std.proofs.Common.{◌≡◌, ◌≤◌, ◌++◌, length, drop, filter, not}
use Rattle.type_object.specs.References.{is_among}
use Rattle.lookup_service.proofs.replies.pages.left_out.Given as goal

abbrev pub invariant-ids : goal.invariant-ids
invariant-ids l = record {
  left : filter (λ id. not (is_among id l.set)) l.ids ≡ l.left ++ filter (λ id. not (is_among id l.set)) (drop l.id-index l.ids);
  few : length l.left ≤ 4096;
}
