use Rattle.std.proofs.Common.{rules}
use Rattle.std.proofs.KnownBytes.{Keeps-trans}
use Rattle.tool_runs.specs.output.Blocks.{held}
use Rattle.tool_runs.proofs.OfOutput.Gathering.{some_twice}
use Rattle.tool_runs.proofs.output.turns.next_gathered.Goals as goal

pub returns-in_err-hand_on_unless-2-clause-hands_on : goal.returns-in_err-hand_on_unless-2-clause-hands_on
returns-in_err-hand_on_unless-2-clause-hands_on g c =
    let one = c.in_ok-hand_on_unless.ensures in
    let two = c.in_err-hand_on_unless-2.ensures in
    record {
      some = some_twice _ _ _ (held c.args.block.now) _ one.some one.all two.some;
      all = λ no. absurd (no (search rules));
      none = λ e. two.none;
    }

pub returns-clause-hands_on : goal.returns-clause-hands_on
returns-clause-hands_on g c =
    let one = c.in_ok-hand_on_unless.ensures in
    let two = c.in_ok-hand_on_unless-2.ensures in
    record {
      some = some_twice _ _ _ (held c.args.block.now) _ one.some one.all two.some;
      all = λ no. Keeps-trans _ _ _ one.all two.all;
      none = λ e. absurd (cc);
    }
