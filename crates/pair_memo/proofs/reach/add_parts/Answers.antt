use Rattle.std.proofs.Common.{rules}
use Rattle.object_formats.specs.View as view
use Rattle.pair_memo.proofs.Reaching.{added}
use Rattle.pair_memo.proofs.reach.add_parts.Goals as goal

pub returns-in_ok-parts-in-Some : goal.returns-in_ok-parts-in-Some
returns-in_ok-parts-in-Some c =
    λ asked h r. added c.args.pool.now asked c.add_all.result c.args.id.now (view.object c.in-Some.object.now) c.args.ids.now.keys c.add_all.new.ids.keys c.as_slice.result.now c.in-Some.ensures.found (search rules) c.add_all.ensures h r
