use Rattle.std.proofs.Common.{rules}
use Rattle.object_formats.specs.Tables as spec
use Rattle.object_formats.specs.View as view
use Rattle.object_formats.proofs.Whole.{again}
use Rattle.object_writer.proofs.bodies.write_object.Goals as goal

pub returns-clause-read_again : goal.returns-clause-read_again
unfolding spec.text_of
returns-clause-read_again c = again (view.object c.args.object.now) _ (search rules)
