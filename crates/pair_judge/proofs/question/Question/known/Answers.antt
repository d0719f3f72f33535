use Rattle.pair_judge.proofs.question.Question.known.Goals as goal

pub returns : goal.returns
returns c = c.state.ensures _ _ _ _ _ c.requires
