use Rattle.std.proofs.Common.{rules, ◌≡◌, ◌∙◌, sym, ap, ℕ, min}
use Rattle.xt_shapes.specs.declared.leaves.Order.TheVariants.{Little}
use Rattle.xt_shapes.specs.declared.leaves.Primitive.{Primitive}
use Rattle.xt_shapes.specs.Sizes.{size}
use Rattle.xcdr_model.specs.FixedSpelling.{then_fixed}
use Rattle.packed_reader.specs.View.{numbers_in, numbers_of}
use Rattle.value_writer.specs.Runs.{run_fixed, digits_of}
use Rattle.xcdr_writer.specs.Parts.{most_of}
use Rattle.xt_wire.specs.numbers.Units.{IsUnit}
use Rattle.xt_wire.specs.writer.Writing.{padding_fixed}
use Rattle.packed_writer.proofs.Appending.{last}
use Rattle.packed_writer.proofs.Digits.{some_run}
use Rattle.packed_writer.proofs.numbers.write_numbers.Goals as goal

pub returns : goal.returns
returns c =
    let p = c.args.prim in
    let m = most_of c.args.rep in
    let x = c.args.numbers.now in
    let same : p ≡ x.prim = search rules in
    let k = c.prim_size-size.ensures in
    let most = c.most_of.ensures in
    let is_k : IsUnit (size p) = rw (← k.size) k.unit in
    let is_m : IsUnit m = rw (← most.most) most.unit in
    let least : c.min.result ≡ min (size p) m = c.min.ensures ∙ ap (λ (n : ℕ). min n c.most_of.result) k.size ∙ ap (λ (n : ℕ). min (size p) n) most.most in
    let digits = λ (q : ℕ). digits_of Little (size p) (numbers_in p x.order x.count x.octets.now) in
    last c.put_octets.result c.put_octets.new.out (run_fixed m Little (size p) (numbers_of x)) (padding_fixed c.min.result) digits (λ q.
    ap (λ (j : Primitive). run_fixed m Little (size p) (numbers_in j x.order x.count x.octets.now) q) (sym same)
    ∙ some_run m p x.order x.count x.octets.now c.if-numbers-eq0.false is_m is_k q
    ∙ ap (λ (u : ℕ). then_fixed (padding_fixed u) digits q) (sym least)) c.in_ok-align.ensures c.put_octets.ensures
