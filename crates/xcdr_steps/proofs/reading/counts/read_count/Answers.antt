use Rattle.std.proofs.Common.{refl}
use Rattle.xt_wire.proofs.OfCursor.Ahead.{begins, ends}
use Rattle.xcdr_steps.specs.reading.Counts.{counted}
use Rattle.xcdr_steps.proofs.reading.counts.read_count.Goals as goal

pub returns-in-Some : goal.returns-in-Some
returns-in-Some g c = ends (λ n. n) (λ o. c.in-Some.count) (begins (counted c.args.given) _ (g.C.Cursor.state c.args.cursor.now) (λ s. rw c.in-Some.is refl)) refl
