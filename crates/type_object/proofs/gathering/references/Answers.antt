use Rattle.std.proofs.Common.{rules}
use Rattle.object_formats.specs.View.{object}
use Rattle.type_object.proofs.Noted.{references_are}
use Rattle.type_object.proofs.HashKinds.{kinds_of_references}
use Rattle.type_object.proofs.gathering.references.Goals as goal

pub returns-clause-ids : goal.returns-clause-ids
returns-clause-ids c = references_are c.row_of.result c.new-seen.result.keys _ _ (object c.args.ty.now) (search rules) c.in_ok-gather.ensures c.as_slice.ensures.keys c.row_of.ensures

pub returns-clause-kinds : goal.returns-clause-kinds
returns-clause-kinds c good = kinds_of_references c.row_of.result (object c.args.ty.now) good (references_are c.row_of.result c.new-seen.result.keys _ _ (object c.args.ty.now) (search rules) c.in_ok-gather.ensures c.as_slice.ensures.keys c.row_of.ensures)
