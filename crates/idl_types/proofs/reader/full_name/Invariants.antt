use Rattle.std.proofs.Common.{◌≡◌, ◌++◌, drop}
use Rattle.idl_types.specs.Names.{full_name}
use Rattle.idl_types.proofs.reader.full_name.Given as goal

abbrev pub invariant-loop-module : goal.invariant-loop-module
invariant-loop-module l = full_name l.opened l.name ≡ l.full ++ full_name (drop l.module-index l.opened) l.name
