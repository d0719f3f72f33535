use Rattle.xt_idl.specs.Whole.{idl}
use Rattle.idl_types.specs.Definitions.{declared}
use Rattle.tool_types.proofs.Declares.{text_good, text_refused}
use Rattle.tool_types.proofs.declaring.declare_text.Goals as goal

pub returns-in-Err-clause-declared : goal.returns-in-Err-clause-declared
returns-in-Err-clause-declared c = text_refused c.args.number c.args.pool.now c.args.pool.now c.in-Err.fault c.refuse_idl.result (idl c.args.text.now) c.in-Err.ensures c.refuse_idl.ensures

pub returns-in-Ok-with_objects-clause-good : goal.returns-in-Ok-with_objects-clause-good
returns-in-Ok-with_objects-clause-good c =
    (text_good c.args.text.now (declared c.in-Ok.types) c.parsed_has_objects.ensures c.parsed_is_printable.ensures c.in-Ok.ensures, c.in-Ok-with_objects.ensures.identified)
