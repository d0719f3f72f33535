use Rattle.std.proofs.Common.{arith, drop_of_length-le}
use Rattle.xcdr_steps.proofs.OfAgain.Passed.{moved_over}
use Rattle.xcdr_steps.proofs.again.rereading.Rereading.read.Goals as goal

pub returns-in-Ok-clause-moves : goal.returns-in-Ok-clause-moves
returns-in-Ok-clause-moves g c =
    let self = c.args.self.now in
    moved_over _ self.failed _ self.place self.end self.origin self.order (drop_of_length-le self.next (omega (arith, self.sized, c.requires.none))) c.in-Ok.ensures.moves (omega (arith, self.reached, c.requires.none)) (omega arith) self.in_whole
