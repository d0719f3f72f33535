use Rattle.tool_types.proofs.Declares.{idl_stops}
use Rattle.tool_types.proofs.refusals.refuse_idl.Goals as goal

pub returns : goal.returns
returns c = idl_stops c.args.number c.args.fault c.idl_line.result c.refuse_types.result c.refuse_types.ensures c.idl_line.ensures.text c.idl_line.ensures.want
