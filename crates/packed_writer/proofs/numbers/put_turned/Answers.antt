use Rattle.std.proofs.Common.{◌≡◌, ◌∙◌, ap, ℕ, ◌+◌, ◌-◌, ◌<◌, ◌^◌, length, arith}
use Rattle.std.proofs.lemmas.List.{length-take-le}
use Rattle.xt_shapes.specs.declared.leaves.Order.TheVariants.{Big, Little}
use Rattle.xt_shapes.specs.Sizes.{size}
use Rattle.xcdr_model.specs.Numbers.{octets, number}
use Rattle.packed_reader.specs.View.{numbers_in}
use Rattle.value_writer.specs.Runs.{digits_of}
use Rattle.packed_writer.specs.Appending.{Appends}
use Rattle.packed_writer.proofs.Appending.{begins, onward_at, ends_at}
use Rattle.packed_writer.proofs.Digits.{one_turned, none_left}
use Rattle.packed_writer.proofs.numbers.put_turned.Goals as goal

pub loop-turn-init : goal.loop-turn-init
loop-turn-init c =
    let p = c.args.prim in
    let n = c.args.count in
    let ys = c.args.octets.now in
    let all : n ≡ n - 0 = omega arith in
    begins (λ (q : ℕ). digits_of Little (size p) (numbers_in p Big n ys)) (λ (q : ℕ). digits_of Little (size p) (numbers_in p Big (n - 0) ys)) c.args.out.now (λ q. ap (λ (m : ℕ). digits_of Little (size p) (numbers_in p Big m ys)) all)

pub loop-turn-preserved : goal.loop-turn-preserved
loop-turn-preserved c =
    let p = c.args.prim in
    let n = c.args.count in
    let turn = c.loop-turn.turn in
    let k = c.prim_size-size.ensures.size in
    let rest = c.loop-turn.rest.now in
    let first = c.split_at.result.0.now in
    let more = c.split_at.result.1.now in
    let front = rw k at c.split_at.ensures.front in
    let back = rw k at c.split_at.ensures.back in
    let len : length first ≡ size p = ap length front ∙ length-take-le (size p) rest (omega (arith, k, c.if-rest-size.false)) in
    let below : number Big first < 256 ^ size p = rw (← c.number.ensures.value, ← len) c.number.ensures.below in
    let part : Appends (λ (r : ℕ). octets Little (size p) (number Big first)) c.loop-turn.out c.digits.new.self = rw (← k, ← c.number.ensures.value) c.in_ok-digits.ensures in
    onward_at (λ (q : ℕ). digits_of Little (size p) (numbers_in p Big n c.args.octets.now)) (λ (q : ℕ). digits_of Little (size p) (numbers_in p Big (n - turn) rest)) (λ (r : ℕ). octets Little (size p) (number Big first)) (λ (r : ℕ). digits_of Little (size p) (numbers_in p Big (n - (turn + 1)) more)) c.loop-turn.invariant (one_turned p Big n turn rest first more c.loop-turn-test.true front back below) part

pub returns : goal.returns
returns c =
    let p = c.args.prim in
    ends_at (λ (q : ℕ). digits_of Little (size p) (numbers_in p Big c.args.count c.args.octets.now)) (λ (q : ℕ). digits_of Little (size p) (numbers_in p Big (c.args.count - c.loop-turn.turn) c.loop-turn.rest.now)) c.loop-turn.invariant (λ q. none_left p Big c.args.count c.loop-turn.turn c.loop-turn.rest.now c.loop-turn-test.false)
