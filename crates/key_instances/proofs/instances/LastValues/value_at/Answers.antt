use Rattle.std.proofs.Common.{◌≡◌, ◌<◌, Some, slice_get, deque_len, ap, ◌∙◌}
use Rattle.std.proofs.lemmas.Option.{slice_get_read}
use Rattle.key_instances.specs.Caches.{value_of}
use Rattle.key_instances.proofs.Readings.{below_count, value_read}
use Rattle.key_instances.proofs.instances.LastValues.value_at.Goals as goal

pub index-requires : goal.index-requires
index-requires g c = below_count c.self.inside.entries.entries c.args.i c.in-Some.field-0-0.now c.in-Some.entry.now c.in-Some.ensures.entry c.args.self.now.entries (ap (λ x. x.entries) c.self.view_is) c.args.j c.requires.j

pub returns : goal.returns
returns g c =
    let values = c.in-Some.entry.now.values in
    let within : c.args.j < deque_len values =
    below_count c.self.inside.entries.entries c.args.i c.in-Some.field-0-0.now c.in-Some.entry.now c.in-Some.ensures.entry c.args.self.now.entries (ap (λ x. x.entries) c.self.view_is) c.args.j c.requires.j in
    let there : slice_get values.items c.args.j ≡ Some c.index.result.now = slice_get_read values.items (deque_len values) c.args.j c.index.result.now values.ok.0 within c.index.ensures in
    value_read c.self.inside.entries.entries c.args.i c.in-Some.field-0-0.now c.in-Some.entry.now c.in-Some.ensures.entry c.args.j c.index.result.now there ∙ ap (λ x. value_of x.entries c.args.i c.args.j) c.self.view_is
