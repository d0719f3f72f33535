use Rattle.std.proofs.lemmas.Bool.{eqb-true}
use Rattle.xcdr_steps.proofs.OfReading.ByIndex.{at_once}
use Rattle.xcdr_reader.proofs.known.is_at.Goals as goal

pub returns-then-at-members : goal.returns-then-at-members
returns-then-at-members c = λ same. at_once c.args.members.now c.args.at c.args.id c.index-members-at.result c.requires c.if-at-members.true (eqb-true _ _ same)
