use Rattle.std.proofs.Common.{ap, ◌∙◌}
use Rattle.idl_tokens.specs.names.Held.{spelled}
use Rattle.idl_tokens.proofs.OfNames.Lookups.{taken}
use Rattle.idl_tokens.proofs.names.sets.store.Goals as goal

pub returns : goal.returns
returns c = ap spelled c.in_ok-insert.ensures.keys ∙ taken c.args.word c.args.names.now.keys c.requires
