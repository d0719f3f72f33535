use Rattle.std.proofs.Common.{sym, subst}
use Rattle.type_resolve.specs.Known.{AreKnown}
use Rattle.type_resolve.proofs.Known.{known_at}
use Rattle.type_resolve.proofs.making.Making.known.Goals as goal

pub returns : goal.returns
returns c =
    let at = c.in_ok-known.ensures.lookup in
    let known = subst (AreKnown c.self.inside.pool) (sym c.deref.ensures.value) c.self.invariant in
    let held = subst (λ p. AreKnown p c.deref.result.now) c.self.view_is known in
    known_at c.args.self.now c.deref.result.now c.in_ok-place.field-0.now c.in_ok-known.known.now c.ids_of.result _ held at.3.0 (sym at.1) c.ids_of.ensures
