use Rattle.std.proofs.Common.{◌≡◌, map, ap, sym, ◌∙◌}
use Rattle.idl_tokens.specs.declared.names.scopes.Key.{Key}
use Rattle.idl_tokens.specs.names.Held.{held}
use Rattle.idl_tokens.specs.names.Scopes.{meaning}
use Rattle.idl_tokens.proofs.OfNames.Lookups.{meaning_is}
use Rattle.idl_tokens.proofs.names.scopes.ScopedNames.get.Goals as goal

pub returns-in-Some : goal.returns-in-Some
returns-in-Some c =
    let names : map held c.self.inside.entries.entries ≡ c.args.self.now = cc c.self.view_is in
    let key : Key = record { scope = c.args.scope; name = c.args.name } in
    c.in-Some.ensures.value ∙ sym (meaning_is key c.self.inside.entries.entries) ∙ ap (meaning c.args.scope c.args.name.now) names

pub returns-in-None : goal.returns-in-None
returns-in-None c =
    let names : map held c.self.inside.entries.entries ≡ c.args.self.now = cc c.self.view_is in
    let key : Key = record { scope = c.args.scope; name = c.args.name } in
    c.in-None.ensures.value ∙ sym (meaning_is key c.self.inside.entries.entries) ∙ ap (meaning c.args.scope c.args.name.now) names
