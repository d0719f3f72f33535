use Rattle.std.proofs.lemmas.Result.{err_from_is_err_and}
use Rattle.xt_outside.proofs.Joined.{first_part, second_part}
use Rattle.xt_io.specs.declared.Kind.TheVariants.{Note}
use Rattle.xt_io.specs.Records.{record_octets}
use Rattle.xt_recorder.specs.Recordings.{object_records}
use Rattle.xt_recorder.proofs.writing.write_opening.Goals as goal

pub returns-in_err-write_objects-clause-prefix : goal.returns-in_err-write_objects-clause-prefix
returns-in_err-write_objects-clause-prefix g c =
    let p = err_from_is_err_and c.from_residual.result c.from_residual.ensures.1 in
    rw p.1 (first_part (g.K.Sink.taken c.args.sink.now) (g.K.Sink.taken c.write_objects.new.sink) (object_records c.args.pool.now c.args.ids.now) (record_octets Note c.args.note.now) c.in_err-write_objects.ensures.prefix)

pub returns-clause-prefix : goal.returns-clause-prefix
returns-clause-prefix g c = second_part c.write_record.result (g.K.Sink.taken c.args.sink.now) (g.K.Sink.taken c.write_objects.new.sink) (g.K.Sink.taken c.write_record.new.sink) (object_records c.args.pool.now c.args.ids.now) (record_octets Note c.args.note.now) c.in_ok-write_objects.ensures.whole c.write_record.ensures.prefix
