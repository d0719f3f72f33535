use Rattle.std.proofs.Common.{arith, refl}
use Rattle.xcdr_model.specs.Numbers.{padding}
use Rattle.xt_wire.proofs.OfNumbers.UnitSteps.{unit_last}
use Rattle.xt_wire.proofs.numbers.units.padding.Goals as goal

pub returns-then-unit-eq1-clause-octets : goal.returns-then-unit-eq1-clause-octets
unfolding padding
returns-then-unit-eq1-clause-octets c = rw c.if-unit-eq1.true (omega arith)

pub returns-then-unit-eq2-clause-octets : goal.returns-then-unit-eq2-clause-octets
unfolding padding
returns-then-unit-eq2-clause-octets c = rw c.if-unit-eq2.true refl

pub returns-then-unit-eq4-clause-octets : goal.returns-then-unit-eq4-clause-octets
unfolding padding
returns-then-unit-eq4-clause-octets c = rw c.if-unit-eq4.true refl

pub returns-clause-octets : goal.returns-clause-octets
unfolding padding
returns-clause-octets c = rw (unit_last c.args.unit c.requires c.if-unit-eq1.false c.if-unit-eq2.false c.if-unit-eq4.false) refl
