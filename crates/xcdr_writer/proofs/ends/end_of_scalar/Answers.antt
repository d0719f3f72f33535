use Rattle.std.proofs.Common.{◌∙◌, sym, ap, ℕ, arith}
use Rattle.value_writer.specs.Places.{number_end}
use Rattle.xcdr_writer.specs.Parts.{most_of}
use Rattle.xcdr_writer.proofs.SizeSteps.{number_end_zero}
use Rattle.xcdr_writer.proofs.ends.end_of_scalar.Goals as goal

pub returns-in-0 : goal.returns-in-0
returns-in-0 c =
    let zero = sym c.scalar_size.ensures.size ∙ c.in-0.is in
    c.min.ensures ∙ omega arith ∙ sym (number_end_zero c.args.rep c.args.place) ∙ ap (λ (k : ℕ). number_end (most_of c.args.rep) k c.args.place) (sym zero)
