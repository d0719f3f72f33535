use Rattle.type_mirror.proofs.OfCompletes.Ending.{end_well, some_end}
use Rattle.type_mirror.proofs.OfCompletes.Answering.{answers_objects, answers_over}
use Rattle.type_mirror.proofs.OfCompletes.Session.{session_ends}
use Rattle.type_mirror.proofs.OfCompletes.Closing.{answers_session, comes_to_objects}
use Rattle.type_mirror.proofs.completes.laws.fetches_complete.Goals as goal

pub returns-clause-ends : goal.returns-clause-ends
returns-clause-ends c = end_well

pub returns-clause-some : goal.returns-clause-some
returns-clause-some c = some_end

pub returns-clause-answers : goal.returns-clause-answers
returns-clause-answers c = answers_objects

pub returns-clause-over : goal.returns-clause-over
returns-clause-over c = answers_over

pub returns-clause-session : goal.returns-clause-session
returns-clause-session c = session_ends

pub returns-clause-faces : goal.returns-clause-faces
returns-clause-faces c = answers_session

pub returns-clause-comes : goal.returns-clause-comes
returns-clause-comes c = comes_to_objects
