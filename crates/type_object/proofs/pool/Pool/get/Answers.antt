use Rattle.std.proofs.Common.{◌≡◌, map, ap, sym, ◌∙◌}
use Rattle.type_object.specs.Entries.{held}
use Rattle.type_object.specs.Pools.{object_at}
use Rattle.type_object.proofs.Founds.{object_some, object_none}
use Rattle.type_object.proofs.pool.Pool.get.Goals as goal

pub returns-in-Some-clause-found : goal.returns-in-Some-clause-found
returns-in-Some-clause-found c =
    let pool : map held c.self.inside.entries.entries ≡ c.args.self.now = cc c.self.view_is in
    sym (object_some c.args.id.now c.self.inside.entries.entries c.in-Some.entry.now c.in-Some.ensures.value) ∙ ap (object_at c.args.id.now) pool

pub returns-in-None-clause-found : goal.returns-in-None-clause-found
returns-in-None-clause-found c =
    let pool : map held c.self.inside.entries.entries ≡ c.args.self.now = cc c.self.view_is in
    sym (object_none c.args.id.now c.self.inside.entries.entries c.in-None.ensures.value) ∙ ap (object_at c.args.id.now) pool
