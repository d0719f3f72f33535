use Rattle.std.proofs.Common.{◌≡◌, drop, map}
use Rattle.object_formats.specs.View.{member}
use Rattle.type_object.specs.References.{noted, member_hashes}
use Rattle.type_object.proofs.gathering.gather_members.Given as goal

abbrev pub invariant-loop-member : goal.invariant-loop-member
invariant-loop-member l = noted l.seen.keys (member_hashes (map member (drop l.member-index l.members))) ≡ noted l.fn.seen.keys (member_hashes (map member l.members))
