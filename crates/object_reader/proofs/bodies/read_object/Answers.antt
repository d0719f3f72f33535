use Rattle.std.proofs.Common.{arith}
use Rattle.object_formats.proofs.Whole.{answered_is_well_formed, answered_is_text, answered_is_short}
use Rattle.object_formats.proofs.OwnKinds.{answered_has_kind}
use Rattle.object_reader.proofs.bodies.read_object.Goals as goal

pub returns-clause-well_formed : goal.returns-clause-well_formed
returns-clause-well_formed c = answered_is_well_formed c.args.octets.now (λ i. omega (arith, c.type_inv.octets i)) c.read.result c.read.ensures

pub returns-clause-written : goal.returns-clause-written
returns-clause-written c = answered_is_text c.args.octets.now (λ i. omega (arith, c.type_inv.octets i)) c.read.result c.read.ensures

pub returns-clause-short : goal.returns-clause-short
returns-clause-short c = answered_is_short c.args.octets.now (λ i. omega (arith, c.type_inv.octets i)) c.read.result c.read.ensures

pub returns-clause-kind : goal.returns-clause-kind
returns-clause-kind c = answered_has_kind c.args.octets.now c.read.result c.read.ensures
