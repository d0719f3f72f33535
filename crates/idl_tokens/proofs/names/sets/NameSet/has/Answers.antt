use Rattle.std.proofs.Common.{◌≡◌, ap, sym, ◌∙◌}
use Rattle.idl_tokens.specs.declared.names.sets.Word.{Word}
use Rattle.idl_tokens.specs.names.Held.{spelled}
use Rattle.idl_tokens.specs.names.Sets.{has}
use Rattle.idl_tokens.proofs.OfNames.Lookups.{has_is}
use Rattle.idl_tokens.proofs.names.sets.NameSet.has.Goals as goal

pub returns : goal.returns
returns c =
    let names : spelled c.self.inside.names.keys ≡ c.args.self.now = cc c.self.view_is in
    let word : Word = record { octets = c.args.name } in
    c.contains.ensures ∙ sym (has_is word c.self.inside.names.keys) ∙ ap (has c.args.name.now) names
