use Rattle.std.proofs.Common.{ℕ, ◌+◌, ◌++◌, ◌∷◌, [], length, refl}
use Rattle.xt_shapes.specs.declared.leaves.Order.TheVariants.{Little}
use Rattle.xcdr_model.specs.FixedSpelling.{number_fixed, then_fixed, text_fixed}
use Rattle.packed_writer.proofs.Appending.{last}
use Rattle.packed_writer.proofs.leaves.put_text.Goals as goal

pub returns : goal.returns
unfolding then_fixed
returns c =
    let xs = c.args.octets.now in
    let rest = λ (p : ℕ). xs ++ 0 ∷ [] in
    last c.put-2.result c.put-2.new.self (text_fixed Little xs) (number_fixed 4 Little 4 (length xs + 1)) rest (λ p. refl) c.in_ok-number.ensures (last c.put-2.result c.put-2.new.self rest (λ (p : ℕ). xs) (λ (p : ℕ). 0 ∷ []) (λ p. refl) c.in_ok-put.ensures c.put-2.ensures)
