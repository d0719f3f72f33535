use Rattle.type_lookup.proofs.OfMessages.Limits.{message_limits}
use Rattle.type_lookup.proofs.messages.laws.payloads_are_spellings.Goals as goal

pub returns : goal.returns
returns c = message_limits
