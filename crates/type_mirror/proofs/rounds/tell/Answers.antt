use Rattle.std.proofs.Common.{◌+◌, ◌<◌, ◌∙◌, refl, arith, drop, length}
use Rattle.std.proofs.lemmas.Result.{err_from_is_err_and}
use Rattle.type_mirror.specs.told.Rounds.{settled, paired}
use Rattle.type_mirror.proofs.Going.{over_none, over_end, over_no_memory}
use Rattle.type_mirror.proofs.Settling.{over_next, over_stopped}
use Rattle.type_mirror.proofs.rounds.tell.Goals as goal

pub objects-init : goal.objects-init
objects-init g c = record {
  going = λ rest. over_none g.N.Naming.name c.args.tag.now (settled c.args.told.now (paired c.args.objects.now c.args.outcomes.now) rest) _ _ _;
  most = omega arith;
  later = omega arith;
  same = refl;
}

pub returns-in_err-what-clause-goes : goal.returns-in_err-what-clause-goes
returns-in_err-what-clause-goes g c = λ rest.
    let p = err_from_is_err_and c.from_residual.result c.from_residual.ensures.1 in
    let i = c.objects.index in
    let inside : i < length c.args.outcomes.now = let n = c.requires.count in let t = c.objects-test.true in omega (arith, n, t) in
    rw (p.1, p.2) (over_stopped g.N.Naming.name c.args.told.now c.objects.told c.args.objects.now c.args.outcomes.now i (i + 1) c.index-objects-index.result _ c.objects-test.true inside (omega arith) c.index-objects-index.is refl rest c.args.tag.now c.objects.tag _ _ _ _ _ _ _ _ _
    (c.objects.invariant.going rest) _ (c.in_err-what.ensures.goes c.objects.told (paired (drop (i + 1) c.args.objects.now) (drop (i + 1) c.args.outcomes.now)) rest))

pub returns-in_err-push-clause-goes : goal.returns-in_err-push-clause-goes
returns-in_err-push-clause-goes g c = λ rest.
    let p = err_from_is_err_and c.from_residual-in_err-push.result c.from_residual-in_err-push.ensures.1 in
    let i = c.objects.index in
    let inside : i < length c.args.outcomes.now = let n = c.requires.count in let t = c.objects-test.true in omega (arith, n, t) in
    let later = over_next g.N.Naming.name c.args.told.now c.objects.told c.args.objects.now c.args.outcomes.now i (i + 1) c.index-objects-index.result _ c.objects-test.true inside (omega arith) c.index-objects-index.is refl rest c.args.tag.now c.objects.tag _ _ _ _ _ _ _ _ _
    (c.objects.invariant.going rest) c.what_of.new.tag _ c.in_ok-what.what refl (c.in_ok-what.ensures.goes c.objects.told (paired (drop (i + 1) c.args.objects.now) (drop (i + 1) c.args.outcomes.now)) rest) in
    rw (p.1, p.2) (over_end g.N.Naming.name c.args.tag.now c.what_of.new.tag _ _ _ _ _ _ _ _ _ _ _ later _ (over_no_memory g.N.Naming.name c.what_of.new.tag _ _ _ _))

pub objects-preserved : goal.objects-preserved
objects-preserved g c =
    let i = c.objects.index in
    let inside : i < length c.args.outcomes.now = let n = c.requires.count in let t = c.objects-test.true in omega (arith, n, t) in
    record {
      going = λ rest. over_next g.N.Naming.name c.args.told.now c.objects.told c.args.objects.now c.args.outcomes.now i (i + 1) c.index-objects-index.result _ c.objects-test.true inside (omega arith) c.index-objects-index.is refl rest c.args.tag.now c.objects.tag _ _ _ _ _ _ _ _ _
          (c.objects.invariant.going rest) c.what_of.new.tag _ c.in_ok-what.what c.in_ok-push.ensures.ok (c.in_ok-what.ensures.goes c.objects.told (paired (drop (i + 1) c.args.objects.now) (drop (i + 1) c.args.outcomes.now)) rest);
      most = omega (arith, c.objects.invariant.most, c.in_ok-what.ensures.most);
      later = omega (arith, c.objects.invariant.later, c.in_ok-what.ensures.cause.later);
      same = c.in_ok-what.ensures.same ∙ c.objects.invariant.same;
    }
