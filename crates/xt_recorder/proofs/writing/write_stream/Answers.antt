use Rattle.std.proofs.Common.{ap, ap₂, ◌∙◌, ◌++◌, List, ℕ, length, subst, arith}
use Rattle.xt_outside.specs.Outside.{AppendsPrefix}
use Rattle.xt_io.specs.declared.Kind.TheVariants.{Note}
use Rattle.xt_io.specs.Records.{record_octets}
use Rattle.type_trees.specs.declared.types.HashId.{HashId}
use Rattle.xt_recorder.specs.Recordings.{object_records}
use Rattle.xt_recorder.proofs.StreamTexts.{stream_length}
use Rattle.xt_recorder.proofs.writing.write_stream.Goals as goal

pub write_opening-requires : goal.write_opening-requires
write_opening-requires g c = omega (arith, ap (λ (l : List ℕ). length l) (c.octets.ensures ∙ c.in-Ok-stream_text.ensures), stream_length c.args.id.now c.args.rep c.has_hash.ensures)

pub returns-clause-some : goal.returns-clause-some
returns-clause-some g c =
    let pool = c.args.pool.now in
    let same = ap₂ (λ (ids : List HashId) (note : List ℕ). object_records pool ids ++ record_octets Note note) (c.as_slice.ensures ∙ c.in-Ok.ensures) (c.octets.ensures ∙ c.in-Ok-stream_text.ensures) in
    subst (λ (l : List ℕ). AppendsPrefix (g.K.Sink.taken c.args.sink.now) (g.K.Sink.taken c.write_opening.new.sink) l) same c.in-Err.ensures.prefix
