use Rattle.std.proofs.Common.{rules, tests, arith, ◌≡◌, ◌∙◌, ap, sym, ◌+◌, ◌-◌, ◌/◌, ◌<◌, length, true}
use Rattle.std.specs.Ordering.{int_eq}
use Rattle.type_trees.specs.Bridge.{literal_shape}
use Rattle.settled_parts.proofs.LiteralSteps.{literal_at}
use Rattle.settled_parts.proofs.literals.is_met.Goals as goal

pub returns-then-value-number : goal.returns-then-value-number
returns-then-value-number c = λ met.
    let i = c.loop-low.low + (c.loop-low.high - c.loop-low.low) / 2 in
    let l = c.index-literals-middle.result in
    let same : int_eq l.value c.args.number ≡ true = search (rules, tests) in
    let within : i < length c.args.literals.now = omega (arith, c.loop-low.invariant, c.loop-low-test.true) in
    literal_at c.args.literals.now i l c.args.number within (ap (λ x. int_eq (literal_shape x).value c.args.number) (sym c.index-literals-middle.is) ∙ same)
