use Rattle.std.proofs.Common.{ap, map}
use Rattle.object_formats.specs.View.{identifier, member, case}
use Rattle.type_object.specs.References as spec
use Rattle.type_object.proofs.Noted.{then_noted}
use Rattle.type_object.proofs.gathering.gather.Goals as goal

pub returns-in_ok-gather_in-in-Struct : goal.returns-in_ok-gather_in-in-Struct
returns-in_ok-gather_in-in-Struct c = rw c.in-Struct.is (then_noted c.gather_members.result _ _ _ (spec.hashes (identifier c.in-Struct.base)) _ _ c.in_ok-gather_in-in-Struct.ensures (ap (λ ms. spec.member_hashes (map member ms)) c.as_slice.ensures) c.gather_members.ensures)

pub returns-in_ok-gather_in-in-Union : goal.returns-in_ok-gather_in-in-Union
returns-in_ok-gather_in-in-Union c = rw c.in-Union.is (then_noted c.gather_cases.result _ _ _ (spec.hashes (identifier c.in-Union.disc)) _ _ c.in_ok-gather_in-in-Union.ensures (ap (λ cs. spec.case_hashes (map case cs)) c.as_slice-in-Union.ensures) c.gather_cases.ensures)
