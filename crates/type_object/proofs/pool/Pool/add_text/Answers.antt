use Rattle.std.proofs.lemmas.Result.{err_from_is_err_and}
use Rattle.type_object.proofs.Added.{added_is, refused, put_in}
use Rattle.type_object.proofs.pool.Pool.add_text.Goals as goal

pub returns-in-Present-clause-ok : goal.returns-in-Present-clause-ok
returns-in-Present-clause-ok c = let d = rw c.in-Present.is at c.requires.placed in added_is _ _ c.args.id _ d.0 c.requires.own d.1

pub returns-in_err-expect_object-in-Clash-clause-err : goal.returns-in_err-expect_object-in-Clash-clause-err
returns-in_err-expect_object-in-Clash-clause-err c =
    let p = err_from_is_err_and c.from_residual.result c.from_residual.ensures.1 in
    rw (p.1, p.2) (refused _ c.args.self.now c.args.octets.now c.in_err-expect_object-in-Clash.ensures.err)

pub returns-in_err-expect_object-in-Full-clause-err : goal.returns-in_err-expect_object-in-Full-clause-err
returns-in_err-expect_object-in-Full-clause-err c =
    let r = c.from_residual-in_err-expect_object-in-Full in
    let p = err_from_is_err_and r.result r.ensures.1 in
    rw (p.1, p.2) (refused _ c.args.self.now c.args.octets.now c.in_err-expect_object-in-Full.ensures.err)

pub returns-in_err-object-in-Free-clause-err : goal.returns-in_err-object-in-Free-clause-err
returns-in_err-object-in-Free-clause-err c =
    let r = c.from_residual-in_err-object-in-Free in
    let p = err_from_is_err_and r.result r.ensures.1 in
    rw (p.1, p.2) (refused _ c.args.self.now c.args.octets.now c.in_err-object-in-Free.ensures.err)

pub returns-in_ok-expect_object-in-Clash-clause-err : goal.returns-in_ok-expect_object-in-Clash-clause-err
returns-in_ok-expect_object-in-Clash-clause-err c = added_is _ _ c.args.id _ c.in_ok-expect_object-in-Clash.ensures.ok c.requires.own (rw c.in-Clash.is at c.requires.placed)

pub returns-in_ok-expect_object-in-Full-clause-err : goal.returns-in_ok-expect_object-in-Full-clause-err
returns-in_ok-expect_object-in-Full-clause-err c = added_is _ _ c.args.id _ c.in_ok-expect_object-in-Full.ensures.ok c.requires.own (rw c.in-Full.is at c.requires.placed)

pub returns-in_ok-text-in-Free-clause-ok : goal.returns-in_ok-text-in-Free-clause-ok
returns-in_ok-text-in-Free-clause-ok c = let d = rw c.in-Free.is at c.requires.placed in put_in c.insert.result _ _ c.in_ok-text-in-Free.text c.args.octets.now c.args.id c.in_ok-text-in-Free.ensures.ok c.insert.ensures.ok c.insert.ensures.read c.requires.own d.0
