use Rattle.std.proofs.Common.{sym, arith}
use Rattle.idl_types.specs.Definitions.{declared}
use Rattle.idl_types.proofs.NameLoops.{declared_length, place_there, place_past}
use Rattle.idl_types.proofs.reader.within.Goals as goal

pub returns-then-at-types : goal.returns-then-at-types
returns-then-at-types c = sym (place_there (declared c.args.types.now) c.args.at (omega (arith, declared_length c.args.types.now, c.if-at-types.true)))

pub returns-else-at-types : goal.returns-else-at-types
returns-else-at-types c = sym (place_past (declared c.args.types.now) c.args.at (omega (arith, declared_length c.args.types.now, c.if-at-types.false)))
