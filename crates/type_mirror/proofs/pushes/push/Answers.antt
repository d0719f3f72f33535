use Rattle.std.proofs.Common.{◌∙◌, sym, ap, refl, subst, length, length-drop, eqb-true, arith}
use Rattle.std.specs.List.{All}
use Rattle.std.proofs.lemmas.Result.{err_from_is_err_and}
use Rattle.std.proofs.lemmas.List.{nil_from_length, take_rest}
use Rattle.std.proofs.lemmas.List.Elements.{All-drop}
use Rattle.type_mirror.specs.told.Pushes.{IsOwn}
use Rattle.type_mirror.proofs.Going.{over_end}
use Rattle.type_mirror.proofs.Settling.{over_start, over_rest, over_told_all}
use Rattle.type_mirror.proofs.pushes.push.Goals as goal

pub batches-init : goal.batches-init
batches-init g c = record {
  going = over_start g.N.Naming.name _ c.args.objects.now _ _ _ _ c.new-told.ensures c.as_slice-rest.ensures;
  own = subst (All (IsOwn g.N.Naming.name)) (sym c.as_slice-rest.ensures) c.requires.own;
  most = let e = ap length c.as_slice-rest.ensures in omega (arith, e);
  later = omega arith;
  same = refl;
}

pub batches-preserved : goal.batches-preserved
batches-preserved g c =
    let i = c.batches.invariant in
    let r = c.in_ok-count.ensures in
    let rest = c.batches.rest.now in
    let n = c.in_ok-count.count in
    let left = take_rest rest n in
    record {
      going = over_rest g.N.Naming.name _ c.batches.tag _ c.batches.told _ rest _ n _ _ _ _ _ _ _ _ _ left i.going r.goes;
      own = subst (All (IsOwn g.N.Naming.name)) (sym left) (All-drop (IsOwn g.N.Naming.name) n rest i.own);
      most = omega (arith, i.most, r.most, r.some, r.within, ap length left, length-drop n rest);
      later = omega (arith, i.later, r.cause.later);
      same = r.same ∙ i.same;
    }

pub returns-in_err-count-clause-pushes : goal.returns-in_err-count-clause-pushes
returns-in_err-count-clause-pushes g c =
    let p = err_from_is_err_and c.from_residual.result c.from_residual.ensures.1 in
    rw (p.1, p.2) (over_end g.N.Naming.name 1 c.batches.tag _ _ _ _ _ _ _ _ _ _ _ c.batches.invariant.going _ c.in_err-count.ensures.goes)

pub returns-clause-pushes : goal.returns-clause-pushes
returns-clause-pushes g c =
    let none = nil_from_length c.batches.rest.now (eqb-true (length c.batches.rest.now) 0 (sym c.is_empty.ensures ∙ c.batches-test.false)) in
    over_told_all g.N.Naming.name _ c.batches.tag c.batches.told c.batches.rest.now _ _ _ _ _ _ none c.batches.invariant.going
