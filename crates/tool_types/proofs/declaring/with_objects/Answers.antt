use Rattle.std.proofs.Common.{List, subst}
use Rattle.idl_types.specs.declared.declarations.Declaration.{Declaration}
use Rattle.idl_types.specs.Definitions.{declared}
use Rattle.type_resolve.specs.Adding.{Adds, Halts}
use Rattle.type_resolve.specs.Definitions.{types_texts}
use Rattle.type_resolve.specs.declared.sides.Identifiers.{Identifiers}
use Rattle.tool_types.proofs.Declares.{together_added, together_refused}
use Rattle.tool_types.proofs.declaring.with_objects.Goals as goal

pub returns-in-Ok-clause-joins : goal.returns-in-Ok-clause-joins
returns-in-Ok-clause-joins c =
    let adds = subst (λ (ds : List Declaration). Adds c.args.pool.now (types_texts (declared ds)) c.objects_declared.new.pool) c.as_slice.ensures.same c.in-Ok.ensures.0 in
    together_added c.args.number c.args.pool.now c.objects_declared.new.pool (declared c.args.types.now) adds

pub returns-in-Err-clause-joins : goal.returns-in-Err-clause-joins
returns-in-Err-clause-joins c =
    let halts = subst (λ (ds : List Declaration). Halts c.in-Err.fault c.args.pool.now (types_texts (declared ds)) c.objects_declared.new.pool) c.as_slice.ensures.same c.in-Err.ensures in
    together_refused (List Identifiers) c.args.number c.args.pool.now c.objects_declared.new.pool (declared c.args.types.now) c.in-Err.fault c.refuse_pool.result halts c.refuse_pool.ensures
