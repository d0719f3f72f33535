use Rattle.std.proofs.Common.{◌∙◌, arith, ap, sym, subst, take, length, List}
use Rattle.std.specs.List.{All}
use Rattle.std.proofs.lemmas.List.{length-take}
use Rattle.std.proofs.lemmas.List.Elements.{All-take}
use Rattle.type_trees.specs.declared.types.HashId.{HashId}
use Rattle.type_lookup.specs.messages.Spelling.{IsKnownId}
use Rattle.lookup_fetch.proofs.Asking.{gets_frame}
use Rattle.lookup_fetch.proofs.rounds.request_of.Goals as goal

pub returns-clause-frame : goal.returns-clause-frame
returns-clause-frame c =
    let i = c.asked.invariant in
    let e = ap (λ (o : List HashId). length o) i.ids in
    let few = c.requires.few in
    gets_frame _ _ (subst (All IsKnownId) (sym i.ids) (All-take IsKnownId c.asked.id-index c.args.asked.now c.requires.kinds)) i.hashes (omega (arith, e, few, length-take {A = HashId}))
