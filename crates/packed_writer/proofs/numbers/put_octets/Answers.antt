use Rattle.std.proofs.Common.{◌≡◌, ◌∙◌, refl, sym, ℕ}
use Rattle.xt_shapes.specs.declared.leaves.Order.TheVariants.{Little}
use Rattle.xt_shapes.specs.Sizes.{size}
use Rattle.packed_reader.specs.View.{numbers_in}
use Rattle.value_writer.specs.Runs.{digits_of}
use Rattle.packed_writer.proofs.Appending.{some_same}
use Rattle.packed_writer.proofs.Digits.{octets_small, one_number, digits_same}
use Rattle.packed_writer.proofs.numbers.put_octets.Goals as goal

pub returns-then-prim_size-eq1 : goal.returns-then-prim_size-eq1
returns-then-prim_size-eq1 c =
    let p = c.args.prim in
    let o = c.args.order in
    let ys = c.args.octets.now in
    let one : size p ≡ 1 = sym c.prim_size.ensures.size ∙ c.if-prim_size-eq1.true in
    some_same c.put.result c.args.out.now c.put.new.self (λ (q : ℕ). digits_of Little (size p) (numbers_in p o c.args.count ys)) (λ (q : ℕ). ys) (λ q. digits_same p o c.args.count ys (λ xs e. one_number o xs (e ∙ one)) (octets_small ys c.type_inv.octets) c.requires) c.put.ensures

pub returns-in-Little : goal.returns-in-Little
returns-in-Little c =
    let p = c.args.prim in
    let ys = c.args.octets.now in
    rw c.in-Little.is (some_same c.put-in-Little.result c.args.out.now c.put-in-Little.new.self (λ (q : ℕ). digits_of Little (size p) (numbers_in p Little c.args.count ys)) (λ (q : ℕ). ys) (λ q. digits_same p Little c.args.count ys (λ xs e. refl) (octets_small ys c.type_inv.octets) c.requires) c.put-in-Little.ensures)

pub returns-in-Big : goal.returns-in-Big
returns-in-Big c = rw c.in-Big.is c.put_turned.ensures
