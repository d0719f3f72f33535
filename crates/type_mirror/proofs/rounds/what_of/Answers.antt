use Rattle.std.proofs.Common.{sym, ap}
use Rattle.std.specs.Prelude.{nat_eq}
use Rattle.std.proofs.lemmas.Bool.{ne_eqb}
use Rattle.std.proofs.lemmas.Result.{err_from_is_err_and}
use Rattle.type_mirror.proofs.Settling.{over_told, over_clash, over_no_clash}
use Rattle.type_mirror.proofs.rounds.what_of.Goals as goal

pub returns-then-outcome-ne3-clause-goes : goal.returns-then-outcome-ne3-clause-goes
returns-then-outcome-ne3-clause-goes g c = λ told later rest.
    over_told told c.args.object.now c.args.outcome later rest g.N.Naming.name _ c.told_at_once.result _ _ _ (ne_eqb _ _ c.if-outcome-ne3.true) (sym c.told_at_once.ensures)

pub returns-in_err-octets-clause-goes : goal.returns-in_err-octets-clause-goes
returns-in_err-octets-clause-goes g c = λ told later rest.
    let p = err_from_is_err_and c.from_residual.result c.from_residual.ensures.1 in
    rw (p.1, p.2) (over_no_clash told c.args.object.now c.args.outcome later rest g.N.Naming.name _ _ _ _ _ _ _ _ (ap (λ n. nat_eq n 3) c.if-outcome-ne3.false) (c.in_err-octets.ensures.goes told c.args.outcome later rest))

pub returns-clause-goes : goal.returns-clause-goes
returns-clause-goes g c = λ told later rest.
    over_clash told c.args.object.now c.args.outcome later rest g.N.Naming.name _ _ _ _ _ _ _ _ _ (ap (λ n. nat_eq n 3) c.if-outcome-ne3.false) (c.in_ok-octets.ensures.goes told c.args.outcome later rest)
