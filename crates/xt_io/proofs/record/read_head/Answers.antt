use Rattle.std.proofs.Common.{rules}
use Rattle.xt_io.proofs.Records.{headed-one, reads_end, reads_unknown, reads_known, reads_cut, reads_sized, sized_too_long, sized_head}
use Rattle.xt_io.proofs.record.read_head.Goals as goal

pub returns-then-branch-lt1-clause-octets : goal.returns-then-branch-lt1-clause-octets
returns-then-branch-lt1-clause-octets g c = reads_end _ _ _ _ _ c.in_ok-fill.ensures.octets (search rules) c.if-branch-lt1.true

pub returns-in_default-clause-octets : goal.returns-in_default-clause-octets
returns-in_default-clause-octets g c =
    reads_unknown _ _ _ _ (headed-one _ _ _ _ c.in_ok-fill.ensures.octets (search rules) c.if-branch-lt1.false) (search rules)

pub returns-then-branch-lt4-clause-octets : goal.returns-then-branch-lt4-clause-octets
returns-then-branch-lt4-clause-octets g c =
    reads_known _ _ c.in-Some.kind _ _ _ _ (headed-one _ _ _ _ c.in_ok-fill.ensures.octets (search rules) c.if-branch-lt1.false) (search rules)
    (reads_cut _ _ _ _ _ _ c.in_ok-fill-2.ensures.octets (search rules) c.if-branch-lt4.true)

pub returns-then-length-limit-clause-octets : goal.returns-then-length-limit-clause-octets
returns-then-length-limit-clause-octets g c =
    let size = c.length_of-length.ensures in
    reads_known _ _ c.in-Some.kind _ _ _ _ (headed-one _ _ _ _ c.in_ok-fill.ensures.octets (search rules) c.if-branch-lt1.false) (search rules)
    (reads_sized _ _ _ _ _ _ _ _ c.in_ok-fill-2.ensures.octets (search rules) c.if-branch-lt4.false (rw (← size) (sized_too_long _ _ _ _ _ (search rules))))

pub returns-clause-octets : goal.returns-clause-octets
returns-clause-octets g c =
    let size = c.length_of-length.ensures in
    reads_known _ _ c.in-Some.kind _ _ _ _ (headed-one _ _ _ _ c.in_ok-fill.ensures.octets (search rules) c.if-branch-lt1.false) (search rules)
    (reads_sized _ _ _ _ _ _ _ _ c.in_ok-fill-2.ensures.octets (search rules) c.if-branch-lt4.false (rw (← size) (sized_head _ _ _ _ (search rules))))
