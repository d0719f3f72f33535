use Rattle.std.proofs.Common.{arith}
use Rattle.std.proofs.lemmas.Nat.{be_bytes_4}
use Rattle.type_lookup.proofs.frame.length_of.Goals as goal

pub returns-clause-number : goal.returns-clause-number
returns-clause-number c = let e = c.read_u32.ensures in omega (arith, e)

pub returns-clause-size : goal.returns-clause-size
returns-clause-size c = be_bytes_4 c.args.size.now c.read_u32.result c.told-size c.fits-size (returns-clause-number c)
