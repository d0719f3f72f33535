use Rattle.std.proofs.Common.{◌≡◌, map, take}
use Rattle.std.specs.Prelude.{false, true}
use Rattle.object_formats.specs.View as view
use Rattle.idl_types.specs.Definitions.{declared}
use Rattle.type_resolve.specs.Definitions.{used_member_part}
use Rattle.type_resolve.proofs.uses.own_members.Given as goal

abbrev pub invariant-loop-member : goal.invariant-loop-member
invariant-loop-member l = record {
  minimal : map view.member l.parts.minimal ≡ map (used_member_part false (declared l.types)) (take l.member-index l.members);
  complete : map view.member l.parts.complete ≡ map (used_member_part true (declared l.types)) (take l.member-index l.members);
}
