use Rattle.library_tests.proofs.pairs.said.Given as goal

-- The ledger of the steps is the one that is handed over.
abbrev pub ghosts-judged : goal.ghosts-judged
ghosts-judged a = record { name = a.blank.name; parts = a.blank.parts }
