use Rattle.std.proofs.Common.{length, arith}
use Rattle.idl_types.specs.Views.{scoped_name}
use Rattle.idl_types.proofs.Inhabited.{outward_from}
use Rattle.idl_types.proofs.places.outward.Goals as goal

pub loop-inside-init : goal.loop-inside-init
loop-inside-init c =
    let s = c.args.scopes.now in
    (outward_from s.inhabited s.highest (length s.opened) s.names s.opened (scoped_name c.args.name.now) s.types s.leads s.above s.within (omega arith), s.within)
