use Rattle.xt_shapes.specs.declared.leaves.Rep.{Rep}
use Rattle.type_trees.specs.View.{tree}
use Rattle.type_trees.specs.Bridge.{type_shape}
use Rattle.xcdr_model.specs.Samples.{read_sample}
use Rattle.tool_samples.specs.lines.Lines.{converted}
use Rattle.xt_calls.specs.declared.readers.Reader.{Reader}
use Rattle.xt_calls.specs.Calls.{converted_answer, rep_of}
use Rattle.xt_calls.specs.Laws.{record_of}
use Rattle.xt_c.proofs.Told.{writes}
use Rattle.xt_c.proofs.xt_convert.Goals as goal

pub returns-clause-as_record : goal.returns-clause-as_record
returns-clause-as_record c =
    writes (rep_of c.args.to) record_of (λ (rep : Rep) (r : Reader). converted_answer rep (tree r.ty) (read_sample r.rep (type_shape r.ty) c.args.sample.now)) (λ rep r. converted rep (tree r.ty) (read_sample r.rep (type_shape r.ty) c.args.sample.now)) c.args.reader.now.held _ _ _ _
    (λ rep r. c.conversions_are_records.ensures rep (tree r.ty) (read_sample r.rep (type_shape r.ty) c.args.sample.now)) c.convert_in.ensures.says
