use Rattle.std.specs.List.{All}
use Rattle.type_lookup.specs.messages.Spelling.{IsKnownId}
use Rattle.library_tests.proofs.fetches.strangers.Given as goal

abbrev pub invariant-loop-number : goal.invariant-loop-number
invariant-loop-number l = All IsKnownId l.ids
