use Rattle.std.proofs.Common.{◌∷◌, []}
use Rattle.object_formats.specs.Tables.{text_of}
use Rattle.object_formats.specs.View as view
use Rattle.type_resolve.proofs.Added.{begins_none, stores_one}
use Rattle.type_resolve.proofs.adding.add_object.Goals as goal

pub returns-in_default : goal.returns-in_default
returns-in_default c = begins_none c.args.pool.now (text_of (view.object c.args.object) ∷ [])

pub returns : goal.returns
returns c = stores_one c.add_made.result c.args.pool.now c.add_made.new.self c.in-Ok.text (text_of (view.object c.args.object)) c.in-Ok.ensures.text c.add_made.ensures.ok c.add_made.ensures.err c.add_made.ensures.unchanged
