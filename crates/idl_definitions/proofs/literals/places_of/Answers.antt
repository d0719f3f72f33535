use Rattle.std.proofs.Common.{ap, ◌∙◌}
use Rattle.idl_tokens.specs.names.Scopes.{meaning}
use Rattle.idl_definitions.proofs.LiteralNames.{indexes_more}
use Rattle.idl_definitions.proofs.literals.places_of.Goals as goal

pub loop-place-preserved : goal.loop-place-preserved
loop-place-preserved c =
    let more = indexes_more c.loop-place.places c.args.literals.now c.loop-place.place c.index-literals-place.result c.loop-place.invariant c.loop-place-test.true in
    λ s. ap (meaning 0 s) c.in_ok-add.ensures ∙ more s
