use Rattle.pair_judge.proofs.question.Question.note.Goals as goal

pub returns-clause-so : goal.returns-clause-so
returns-clause-so g c = c.note.ensures.so _ _ _ c.requires.so c.requires.is
