use Rattle.xt_io.proofs.Steps.{passed-behind, cut-ends}
use Rattle.xt_io.proofs.bundle.BundleReader.pass_payload.Goals as goal

pub returns-in-Ok-clause-ahead : goal.returns-in-Ok-clause-ahead
returns-in-Ok-clause-ahead g c = rw (← c.self.view_is, c.in_default.is) (passed-behind _ _ _ _ _ c.in-Ok.ensures.octets)

pub returns-in-Err-clause-ends : goal.returns-in-Err-clause-ends
returns-in-Err-clause-ends g c = rw (← c.self.view_is, c.in_default.is) (cut-ends _ _ _ _ _ c.in-Err.ensures.cut)
