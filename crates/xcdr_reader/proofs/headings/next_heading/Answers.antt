use Rattle.xcdr_steps.proofs.OfAgain.Unheld.{settled}
use Rattle.xcdr_reader.proofs.headings.next_heading.Goals as goal

pub returns-in-Inner-clause-value : goal.returns-in-Inner-clause-value
returns-in-Inner-clause-value g c = let b = g.C.Cursor.state c.read_parameter.new.cursor in rw c.in-Inner.is (settled b.reach b c.read_parameter.ensures.value)

pub returns-in-Tail-clause-value : goal.returns-in-Tail-clause-value
returns-in-Tail-clause-value g c = let b = g.C.Cursor.state c.read_parameter-in-Tail.new.cursor in rw c.in-Tail.is (settled b.reach b c.read_parameter-in-Tail.ensures.value)
