use Rattle.pair_judge.proofs.judge.judge_ids.Given as goal

-- The ledger of the steps is the one that is handed over.
abbrev pub ghosts-from_blank : goal.ghosts-from_blank
ghosts-from_blank a = record { name = a.blank.name; parts = a.blank.parts }
