use Rattle.std.proofs.Common.{◌≡◌, ◌∙◌, ◌++◌, [], ◌∷◌, sym, ap, subst}
use Rattle.idl_types.specs.State.{State, Declared}
use Rattle.idl_types.specs.Definitions.{declared, defined}
use Rattle.xt_idl.specs.Kept.{IsKept}
use Rattle.xt_idl.specs.Measures.{measured}
use Rattle.xt_idl.proofs.Keeping.{kept_more}
use Rattle.xt_idl.proofs.reading.declare.Goals as goal

pub returns-clause-kept : goal.returns-clause-kept
returns-clause-kept c =
    let ts = declared c.args.reader.now.types in
    let full = c.args.found.full in
    let d = c.args.found.definition in
    let grown : declared c.declare.new.self.types ≡ ts ++ (full, defined ts full d) ∷ [] = ap (λ (s : State). s.types) c.in_ok-declare.ensures in
    let measure = c.measure_definition-measure.ensures ∙ ap (λ (l : Declared). measured (defined l full d)) c.types.ensures.same in
    subst (λ (l : Declared). IsKept l c.push.new.self) (sym grown)
    (kept_more ts full d c.args.kept.now c.push.new.self c.measure_definition-measure.result c.in_ok-numbers.numbers c.types.ensures.valid c.requires.kept measure c.in_ok-numbers.ensures.sets c.in_ok-push.ensures.measures c.in_ok-push.ensures.numbers)
