use Rattle.lookup_service.proofs.sessions.reply_to.Goals as goal

pub returns-clause-step : goal.returns-clause-step
returns-clause-step g c = let a = c.in_ok-message.ensures in record { grows = a.grows; sound = c.holds.ensures; replies = a.reply; frame = a.frame }
