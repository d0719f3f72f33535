use Rattle.std.proofs.Common.{map, ap, ◌∙◌}
use Rattle.idl_tokens.specs.names.Held.{held}
use Rattle.idl_tokens.proofs.OfNames.Lookups.{added}
use Rattle.idl_tokens.proofs.names.scopes.store.Goals as goal

pub returns : goal.returns
returns c = ap (map held) c.in_ok-insert.ensures.entries ∙ added c.args.entries.now c.args.key c.args.meaning c.requires
