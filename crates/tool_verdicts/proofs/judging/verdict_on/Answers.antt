use Rattle.type_trees.specs.View.{tree}
use Rattle.object_walks.specs.Resolving.{resolved}
use Rattle.tool_verdicts.proofs.Pairs.{is_resolved, verdicts_are}
use Rattle.tool_verdicts.proofs.judging.verdict_on.Goals as goal

pub judge_ids-requires-clause-reader : goal.judge_ids-requires-clause-reader
judge_ids-requires-clause-reader c = is_resolved (resolved c.args.pool.now c.args.reader.now.id) (tree c.args.reader.now.ty.now) c.requires.reader

pub judge_ids-requires-clause-writer : goal.judge_ids-requires-clause-writer
judge_ids-requires-clause-writer c = is_resolved (resolved c.args.pool.now c.args.writer.now.id) (tree c.args.writer.now.ty.now) c.requires.writer

pub returns : goal.returns
returns c =
    let pool = c.args.pool.now in
    verdicts_are c.args.terms.now.policy c.args.terms.now.rep (resolved pool c.args.reader.now.id) (resolved pool c.args.writer.now.id) (tree c.args.reader.now.ty.now) (tree c.args.writer.now.ty.now) c.judge_ids.result c.requires.reader c.requires.writer c.judge_ids.ensures
