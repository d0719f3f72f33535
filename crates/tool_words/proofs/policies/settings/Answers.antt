use Rattle.std.proofs.Common.{◌∙◌}
use Rattle.tool_words.proofs.Settled.{settled}
use Rattle.tool_words.proofs.policies.settings.Goals as goal

pub returns : goal.returns
returns c = c.settings_end.ensures ∙ settled c.args.coercion c.args.text.now _ _ _ c.told-strings.ensures c.told-sequences.ensures c.told.ensures
