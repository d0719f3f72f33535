use Rattle.std.proofs.Common.{◌≡◌, Some, map, ap, sym, ◌∙◌}
use Rattle.type_object.specs.Entries.{held}
use Rattle.type_object.specs.Pools.{found}
use Rattle.type_object.proofs.Founds.{found_some, found_none, entry_is}
use Rattle.type_object.specs.Names.{named}
use Rattle.type_object.proofs.Pooled.{found_own}
use Rattle.type_object.proofs.pool.Pool.octets.Goals as goal

pub returns-in-Some-clause-found : goal.returns-in-Some-clause-found
returns-in-Some-clause-found c =
    let pool : map held c.self.inside.entries.entries ≡ c.args.self.now = cc c.self.view_is in
    ap (λ text. Some text) c.octets.ensures ∙ sym (found_some c.args.id.now c.self.inside.entries.entries c.in-Some.entry.now c.in-Some.ensures.value) ∙ ap (found c.args.id.now) pool

pub returns-in-Some-clause-read : goal.returns-in-Some-clause-read
returns-in-Some-clause-read c = entry_is c.in-Some.entry.now c.octets.result.now c.octets.ensures

pub returns-in-None-clause-found : goal.returns-in-None-clause-found
returns-in-None-clause-found c =
    let pool : map held c.self.inside.entries.entries ≡ c.args.self.now = cc c.self.view_is in
    sym (found_none c.args.id.now c.self.inside.entries.entries c.in-None.ensures.value) ∙ ap (found c.args.id.now) pool

pub returns-in-Some-clause-own : goal.returns-in-Some-clause-own
returns-in-Some-clause-own c =
    found_own (map held c.self.inside.entries.entries) c.args.id.now c.in-Some.entry.now.octets c.self.invariant (found_some c.args.id.now c.self.inside.entries.entries c.in-Some.entry.now c.in-Some.ensures.value) ∙ ap named (sym c.octets.ensures)
