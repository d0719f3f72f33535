use Rattle.std.proofs.Common.{map, ap, ◌∙◌}
use Rattle.type_object.specs.Entries.{held}
use Rattle.type_object.proofs.Founds.{stored}
use Rattle.type_object.proofs.pool.store.Goals as goal

pub returns-clause-ok : goal.returns-clause-ok
returns-clause-ok c = ap (map held) c.in_ok-insert.ensures.entries ∙ stored c.args.entries.now c.args.id c.args.entry c.requires
