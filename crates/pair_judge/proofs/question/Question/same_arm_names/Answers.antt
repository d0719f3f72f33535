use Rattle.std.proofs.Common.{◌∙◌}
use Rattle.pair_memo.specs.nodes.Seen.{shape_in}
use Rattle.pair_memo.proofs.OfNodes.Heads.{case_names_bare}
use Rattle.pair_judge.proofs.question.Question.same_arm_names.Goals as goal

pub returns : goal.returns
returns c = c.same_case_names.ensures ∙ case_names_bare (λ t. shape_in c.args.self.now.pool.now t) c.args.left.now c.args.right.now
