use Rattle.std.proofs.Common.{◌≡◌, Ok, sym, subst}
use Rattle.std.specs.Prelude.{IfOk}
use Rattle.type_object.specs.Pools.{added}
use Rattle.type_object.proofs.Added.{put_in}
use Rattle.type_object.proofs.pool.Pool.add_made.Goals as goal

pub returns-in-Free-clause-ok : goal.returns-in-Free-clause-ok
returns-in-Free-clause-ok c =
    let r = c.insert.result in
    let same = c.octets-octets.ensures in
    subst (λ t. IfOk r (λ i. added c.args.self.now t ≡ Ok (i, c.insert.new.self))) same (put_in r _ _ c.args.text c.octets-octets.result.now c.named-id.result (sym same) c.insert.ensures.ok c.insert.ensures.read c.named-id.ensures c.in-Free.ensures.0)
