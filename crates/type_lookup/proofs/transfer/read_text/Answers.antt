use Rattle.std.proofs.Common.{◌++◌}
use Rattle.type_lookup.proofs.Taking.{took-more, on-err}
use Rattle.type_lookup.proofs.transfer.read_text.Goals as goal

pub returns-in_err-count-clause-some : goal.returns-in_err-count-clause-some
returns-in_err-count-clause-some g c =
    let more = c.in_err-count.ensures.some in
    on-err c.from_residual.result (c.chunks.text ++ more.0, took-more _ _ _ _ _ _ c.chunks.text more.0 c.chunks.invariant.octets more.1)

pub returns-in_err-append-clause-some : goal.returns-in_err-append-clause-some
returns-in_err-append-clause-some g c =
    on-err c.from_residual-in_err-append.result (c.chunks.text ++ _, took-more _ _ _ _ _ _ c.chunks.text _ c.chunks.invariant.octets c.in_ok-count.ensures.octets)
