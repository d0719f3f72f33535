use Rattle.std.proofs.Common.{refl}
use Rattle.std.proofs.lemmas.List.Elements.{All-push}
use Rattle.type_lookup.specs.messages.Spelling.{IsKnownId}
use Rattle.library_tests.proofs.fetches.strangers.Goals as goal

pub loop-number-preserved : goal.loop-number-preserved
loop-number-preserved c = rw c.in_ok-push.ensures.ok (All-push IsKnownId _ _ c.loop-number.invariant refl)
