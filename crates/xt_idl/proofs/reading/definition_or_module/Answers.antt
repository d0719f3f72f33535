use Rattle.idl_types.specs.Definitions.{declared}
use Rattle.xt_idl.proofs.Keeping.{still_kept}
use Rattle.xt_idl.proofs.reading.definition_or_module.Goals as goal

pub returns-in-Module-clause-kept : goal.returns-in-Module-clause-kept
returns-in-Module-clause-kept c = still_kept c.module_def.result (declared c.args.reader.now.types) (declared c.module_def.new.reader.types) c.args.kept.now c.module_def.ensures.same c.requires.kept
