use Rattle.std.proofs.Common.{◌≡◌, [], sym, ◌∙◌, ◌++◌, ◌+◌, List, ℕ, refl, subst, arith, drop, get_or}
use Rattle.std.proofs.lemmas.Result.{err_from_is_err_and}
use Rattle.std.proofs.KnownBytes.{Appends-trans}
use Rattle.xt_outside.specs.Outside.{AppendsAll, AppendsPrefix}
use Rattle.xt_outside.proofs.Joined.{first_part}
use Rattle.type_object.specs.Pools.{found}
use Rattle.type_trees.specs.declared.types.HashId.{HashId}
use Rattle.xt_recorder.specs.Recordings.{object_record, object_records}
use Rattle.xt_recorder.proofs.Written.{next_record, no_record, none_yet, one_more, all_written, behind_part}
use Rattle.xt_recorder.proofs.writing.write_objects.Goals as goal

pub loop-id-init : goal.loop-id-init
loop-id-init g c = record {
  written = ([], refl, none_yet (g.K.Sink.taken c.args.sink.now));
  same = refl;
  later = omega arith;
}

pub loop-id-preserved : goal.loop-id-preserved
loop-id-preserved g c =
    let pool = c.args.pool.now in
    let ids = c.args.ids.now in
    let i = c.loop-id.id-index in
    let so = c.loop-id.invariant.written in
    let d : HashId = record { kind = 0; hash = [] } in
    let id = get_or ids i d in
    let split : object_records pool (drop i ids) ≡ object_record (found id pool) ++ object_records pool (drop (i + 1) ids) = next_record pool ids i d c.loop-id-test.true in
    record {
      written = (so.0 ++ object_record (found id pool), one_more (object_records pool ids) so.0 (object_record (found id pool)) (object_records pool (drop i ids)) (object_records pool (drop (i + 1) ids)) so.1 split, Appends-trans (g.K.Sink.taken c.args.sink.now) (g.K.Sink.taken c.loop-id.sink) (g.K.Sink.taken c.write_object.new.sink) so.0 (object_record (found id pool)) so.2 c.in_ok-write_object.ensures.whole);
      same = c.in_ok-write_object.ensures.same ∙ c.loop-id.invariant.same;
      later = omega (arith, c.loop-id.invariant.later, c.in_ok-write_object.ensures.cause.later);
    }

pub returns-in_err-write_object-clause-prefix : goal.returns-in_err-write_object-clause-prefix
returns-in_err-write_object-clause-prefix g c =
    let pool = c.args.pool.now in
    let ids = c.args.ids.now in
    let i = c.loop-id.id-index in
    let so = c.loop-id.invariant.written in
    let d : HashId = record { kind = 0; hash = [] } in
    let id = get_or ids i d in
    let a = g.K.Sink.taken c.args.sink.now in
    let e = g.K.Sink.taken c.write_object.new.sink in
    let split : object_records pool (drop i ids) ≡ object_record (found id pool) ++ object_records pool (drop (i + 1) ids) = next_record pool ids i d c.loop-id-test.true in
    let p = err_from_is_err_and c.from_residual.result c.from_residual.ensures.1 in
    let part : AppendsPrefix (g.K.Sink.taken c.loop-id.sink) e (object_records pool (drop i ids)) = subst (λ (l : List ℕ). AppendsPrefix (g.K.Sink.taken c.loop-id.sink) e l) (sym split) (first_part (g.K.Sink.taken c.loop-id.sink) e (object_record (found id pool)) (object_records pool (drop (i + 1) ids)) c.in_err-write_object.ensures.prefix) in
    rw p.1 (subst (λ (l : List ℕ). AppendsPrefix a e l) (sym so.1) (behind_part a (g.K.Sink.taken c.loop-id.sink) e so.0 (object_records pool (drop i ids)) so.2 part))

pub returns-clause-whole : goal.returns-clause-whole
returns-clause-whole g c =
    let pool = c.args.pool.now in
    let ids = c.args.ids.now in
    let so = c.loop-id.invariant.written in
    subst (λ (l : List ℕ). AppendsAll (g.K.Sink.taken c.args.sink.now) (g.K.Sink.taken c.loop-id.sink) l) (all_written (object_records pool ids) so.0 (object_records pool (drop c.loop-id.id-index ids)) so.1 (no_record pool ids c.loop-id.id-index (omega (arith, c.loop-id-test.false)))) so.2
