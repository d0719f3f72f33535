use Rattle.std.proofs.Common.{Some, sym, ap, ◌∙◌, arith}
use Rattle.key_instances.specs.Caches.{count_of}
use Rattle.key_instances.proofs.Readings.{count_read}
use Rattle.key_instances.proofs.Within.{entry_within}
use Rattle.key_instances.proofs.instances.LastValues.count_at.Goals as goal

pub overflow_cast-result : goal.overflow_cast-result
overflow_cast-result g c =
    let few = entry_within c.self.inside.depth c.self.inside.entries.entries c.args.i c.in-Some.field-0-0.now c.in-Some.entry.now (sym c.in-Some.ensures.entry) c.self.invariant.within in
    omega (arith, few, c.self.invariant.shallow, c.len.ensures)

pub returns : goal.returns
returns g c =
    ap Some (c.len.ensures ∙ c.in-Some.entry.now.values.ok.0) ∙ count_read c.self.inside.entries.entries c.args.i c.in-Some.field-0-0.now c.in-Some.entry.now c.in-Some.ensures.entry ∙ ap (λ x. count_of x.entries c.args.i) c.self.view_is
