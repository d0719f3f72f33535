use Rattle.std.proofs.Common.{◌<◌, length, arith}
use Rattle.idl_types.proofs.NameLoops.{declared_length}
use Rattle.xt_idl.proofs.Keeping.{there}
use Rattle.xt_idl.proofs.numbers.sets_at.Goals as goal

pub bounds-known-at : goal.bounds-known-at
bounds-known-at c = omega (arith, c.requires, c.args.known.now.sets.0, declared_length c.args.known.now.types.now)

pub returns : goal.returns
returns c =
    let within : c.args.at < length c.args.known.now.numbers.now = omega (arith, c.requires, c.args.known.now.sets.0, declared_length c.args.known.now.types.now) in
    c.args.known.now.sets.1 c.args.at _ (there c.args.known.now.numbers.now c.args.at c.index-known-at.result within)
