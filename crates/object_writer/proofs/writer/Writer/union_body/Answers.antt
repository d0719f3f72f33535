use Rattle.object_formats.specs.Format.{both, behind, counted}
use Rattle.object_formats.specs.Tables as spec
use Rattle.object_writer.proofs.Writes.{both_written}
use Rattle.object_writer.proofs.writer.Writer.union_body.Goals as goal

pub returns : goal.returns
unfolding spec.union_body
returns c =
    let F = spec.flags_of (spec.type_flags c.args.complete) in
    let D = counted (spec.detail c.args.complete) in
    let B = counted (both (spec.flags_of spec.disc_flags) (behind (spec.identifier c.args.complete) (spec.closing c.args.complete))) in
    let L = spec.listed (spec.case c.args.complete) in
    both_written c.listed.result F (both D (both B L)) _ _ _ _ _ c.in_ok-half.ensures
    (both_written c.listed.result D (both B L) _ _ _ _ _ c.in_ok-detail_region.ensures
    (both_written c.listed.result B L _ _ _ _ _ c.in_ok-disc_region.ensures c.listed.ensures))
