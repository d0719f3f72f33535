use Rattle.std.proofs.Common.{arith}
use Rattle.json_values.proofs.Digits.{one_digit, two_digits, three_digits}
use Rattle.json_values.proofs.write.write_octet.Goals as goal

pub write_digits-requires : goal.write_digits-requires
write_digits-requires c = (c.args.octet, omega arith, one_digit c.args.octet c.if-octet-lt10.true)

pub returns-then-octet-lt10-clause-ok : goal.returns-then-octet-lt10-clause-ok
returns-then-octet-lt10-clause-ok c = rw (← one_digit c.args.octet c.if-octet-lt10.true) c.write_digits.ensures.ok

pub write_digits-requires-then-octet-lt100 : goal.write_digits-requires-then-octet-lt100
write_digits-requires-then-octet-lt100 c = (c.args.octet, omega arith, two_digits c.args.octet c.if-octet-lt10.false c.if-octet-lt100.true)

pub returns-then-octet-lt100-clause-ok : goal.returns-then-octet-lt100-clause-ok
returns-then-octet-lt100-clause-ok c = rw (← two_digits c.args.octet c.if-octet-lt10.false c.if-octet-lt100.true) c.write_digits-then-octet-lt100.ensures.ok

pub write_digits-requires-2 : goal.write_digits-requires-2
write_digits-requires-2 c = (c.args.octet, omega arith, three_digits c.args.octet c.if-octet-lt100.false (omega arith))

pub returns-clause-ok : goal.returns-clause-ok
returns-clause-ok c = rw (← three_digits c.args.octet c.if-octet-lt100.false (omega arith)) c.write_digits-2.ensures.ok
