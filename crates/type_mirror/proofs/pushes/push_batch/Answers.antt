use Rattle.std.proofs.Common.{◌∙◌, sym, ap, refl, length, length-take-le, arith}
use Rattle.std.proofs.lemmas.Result.{err_from_is_err_and}
use Rattle.std.proofs.lemmas.List.Elements.{All-take}
use Rattle.type_mirror.proofs.Requesting.{own_short, own_known, HasKnownId, count_within, count_some}
use Rattle.type_mirror.proofs.Settling.{over_batch, over_no_batch}
use Rattle.type_mirror.proofs.pushes.push_batch.Goals as goal

pub put-requires-clause-short : goal.put-requires-clause-short
put-requires-clause-short g c = own_short g.N.Naming.name c.args.objects.now c.requires.own

pub returns-in_err-outcomes-clause-goes : goal.returns-in_err-outcomes-clause-goes
returns-in_err-outcomes-clause-goes g c =
    let p = err_from_is_err_and c.from_residual.result c.from_residual.ensures.1 in
    rw (p.1, p.2) (c.in_err-outcomes.ensures.goes g.N.Naming.name c.args.told.now)

pub tell-requires-clause-known : goal.tell-requires-clause-known
tell-requires-clause-known g c = λ κs lives. All-take HasKnownId _ c.args.objects.now (own_known g.N.Naming.name c.args.objects.now c.requires.own)

pub slice_bounds-tell-end : goal.slice_bounds-tell-end
slice_bounds-tell-end g c = sym (length-take-le c.len-count.result c.args.objects.now (let n = count_within c.args.objects.now in omega (arith, n, c.len-count.ensures, c.in_ok-outcomes.ensures.count)))

pub tell-requires-clause-count : goal.tell-requires-clause-count
tell-requires-clause-count g c = λ κs lives. ap length c.octets.ensures ∙ sym c.len-count.ensures ∙ sym (length-take-le c.len-count.result c.args.objects.now (let n = count_within c.args.objects.now in omega (arith, n, c.len-count.ensures, c.in_ok-outcomes.ensures.count)))

pub returns-in_err-tell-clause-goes : goal.returns-in_err-tell-clause-goes
returns-in_err-tell-clause-goes g c =
    let p = err_from_is_err_and c.from_residual-in_err-tell.result c.from_residual-in_err-tell.ensures.1 in
    rw (p.1, p.2) (over_no_batch g.N.Naming.name c.args.tag.now _ c.args.told.now c.args.objects.now _ c.in_ok-outcomes.outcomes _ c.len-count.result c.in_ok-outcomes.ensures.count c.len-count.ensures refl c.octets.ensures _ _ _ _ _ _ _ _ _
    (c.in_ok-outcomes.ensures.goes g.N.Naming.name c.args.told.now) _ (c.in_err-tell.ensures.goes _))

pub returns-clause-goes : goal.returns-clause-goes
returns-clause-goes g c =
    over_batch g.N.Naming.name c.args.tag.now _ c.args.told.now c.args.objects.now _ c.in_ok-outcomes.outcomes _ c.len-count.result c.in_ok-outcomes.ensures.count c.len-count.ensures refl c.octets.ensures _ _ _ _ _ _ _ _ _
    (c.in_ok-outcomes.ensures.goes g.N.Naming.name c.args.told.now) _ _ (c.in_ok-tell.ensures.goes _)

pub returns-clause-some : goal.returns-clause-some
returns-clause-some g c = let n = count_some c.args.objects.now (own_short g.N.Naming.name c.args.objects.now c.requires.own) c.requires.some in omega (arith, n, c.len-count.ensures, c.in_ok-outcomes.ensures.count)

pub returns-clause-within : goal.returns-clause-within
returns-clause-within g c = let n = count_within c.args.objects.now in omega (arith, n, c.len-count.ensures, c.in_ok-outcomes.ensures.count)
