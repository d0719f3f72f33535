use Rattle.std.proofs.Common.{◌≡◌, ◌<◌, None, length, map, ap, sym, subst, ◌∙◌}
use Rattle.object_formats.specs.View as view
use Rattle.type_object.specs.Entries.{held}
use Rattle.type_object.specs.Pools.{Texts, found}
use Rattle.type_object.proofs.Founds.{text_is_object}
use Rattle.type_object.proofs.Pooled.{stored_pooled}
use Rattle.type_object.proofs.pool.Pool.insert.Goals as goal

pub returns-clause-read : goal.returns-clause-read
returns-clause-read c = text_is_object (view.object c.args.object) c.args.text c.requires.text c.requires.well_formed c.requires.short

pub invariant_of-self : goal.invariant_of-self
invariant_of-self c =
    let pool = map held c.self.inside.entries.entries in
    let is : c.args.self.now ≡ pool = cc c.self.view_is in
    let absent : found c.args.id pool ≡ None = ap (found c.args.id) (sym is) ∙ c.requires.absent in
    let room : length pool < 4096 = subst (λ (p : Texts). length p < 4096) is c.requires.room in
    stored_pooled c.store.result pool _ c.args.id c.args.text c.store.ensures.ok c.store.ensures.err c.self.invariant absent room c.requires.own (text_is_object (view.object c.args.object) c.args.text c.requires.text c.requires.well_formed c.requires.short)
