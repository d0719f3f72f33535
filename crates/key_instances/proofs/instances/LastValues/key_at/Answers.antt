use Rattle.std.proofs.Common.{ap, ◌∙◌}
use Rattle.key_instances.specs.Caches.{key_of}
use Rattle.key_instances.proofs.Readings.{key_read}
use Rattle.key_instances.proofs.instances.LastValues.key_at.Goals as goal

pub returns : goal.returns
returns g c = key_read c.self.inside.entries.entries c.args.i c.in-Some.key.now c.in-Some.field-0-1.now c.in-Some.ensures.entry ∙ ap (λ x. key_of x.entries c.args.i) c.self.view_is
