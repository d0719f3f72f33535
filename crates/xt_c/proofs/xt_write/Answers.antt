use Rattle.xt_shapes.specs.declared.leaves.Rep.{Rep}
use Rattle.type_trees.specs.View.{tree}
use Rattle.tool_samples.specs.lines.Lines.{written}
use Rattle.xt_calls.specs.declared.readers.Reader.{Reader}
use Rattle.xt_calls.specs.declared.words.Floats.{Floats}
use Rattle.xt_calls.specs.Calls.{written_answer, written_in, meaning}
use Rattle.xt_calls.specs.Laws.{turn_of}
use Rattle.xt_c.proofs.Told.{writes}
use Rattle.xt_c.proofs.xt_write.Goals as goal

pub returns-clause-as_record : goal.returns-clause-as_record
returns-clause-as_record c = λ k.
    writes (written_in c.args.to c.args.flags) (turn_of k) (λ (form : Rep × Floats) (r : Reader). written_answer form.0 (tree r.ty) (meaning form.1 (tree r.ty) c.args.json.now)) (λ form r. written form.0 (tree r.ty) k (meaning form.1 (tree r.ty) c.args.json.now)) c.args.reader.now.held _ _ _ _
    (λ form r. c.writes_are_records.ensures form.0 (tree r.ty) k (meaning form.1 (tree r.ty) c.args.json.now)) c.write_in.ensures.says
