use Rattle.std.proofs.Common.{List, [], ◌∷◌, ◌++◌, ap, ◌∙◌}
use Rattle.type_lookup.specs.declared.messages.messages.Fetched.{Fetched}
use Rattle.lookup_fetch.specs.Rounds.{is_object}
use Rattle.type_mirror.proofs.Pushable.{alone, own_object}
use Rattle.library_tests.proofs.objects.alone.Goals as goal

pub returns-in-Ok-push : goal.returns-in-Ok-push
returns-in-Ok-push g c =
    let octets = c.args.octets.now in
    let text = c.in-Ok-from_octets.text in
    let object : Fetched = record { id = c.named-id.result; octets = text } in
    alone _ object c.push.new.self (own_object _ octets text c.named-id.result (ap is_object c.in-Ok.ensures.exact) c.named-id.ensures c.in-Ok-from_octets.ensures) (c.in-Ok-push.ensures.ok ∙ ap (λ (o : List Fetched). o ++ object ∷ []) c.new-objects.ensures)
