use Rattle.type_trees.specs.View.{tree}
use Rattle.type_trees.specs.Bridge.{type_shape}
use Rattle.xcdr_model.specs.Samples.{read_sample}
use Rattle.tool_samples.specs.lines.Lines.{sample_line}
use Rattle.xt_calls.specs.declared.readers.Reader.{Reader}
use Rattle.xt_calls.specs.Calls.{floats_of, read_answer}
use Rattle.xt_calls.specs.Laws.{line_of}
use Rattle.xt_c.proofs.Told.{shows_line, read_comes_back}
use Rattle.xt_c.proofs.xt_read.Goals as goal

pub returns-clause-as_line : goal.returns-clause-as_line
returns-clause-as_line c =
    shows_line (floats_of c.args.flags) line_of (λ (r : Reader). read_answer (tree r.ty) (read_sample r.rep (type_shape r.ty) c.args.sample.now)) (λ r. sample_line r.rep (tree r.ty) c.args.sample.now) c.args.reader.now.held _ _ _ _
    (λ r. c.lines_are_read.ensures r.rep (tree r.ty) c.args.sample.now) c.read_in.ensures.says

pub returns-clause-comes_back : goal.returns-clause-comes_back
returns-clause-comes_back c = read_comes_back c.values_come_back.ensures c.args.reader.now.held
