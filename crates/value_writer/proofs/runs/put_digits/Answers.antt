use Rattle.std.proofs.Common.{rules, ◌≡◌, ◌+◌, ◌++◌, ◌∷◌, refl, sym, ap, ◌∙◌, ℕ, List, map, drop, [], append-nil}
use Rattle.std.proofs.lemmas.Result.{err_from_is_err_and}
use Rattle.type_trees.specs.View.{val}
use Rattle.xcdr_model.specs.Numbers.{octets, raw}
use Rattle.xcdr_model.specs.FixedSpelling.{then_fixed}
use Rattle.xt_shapes.specs.Vals.{number_in}
use Rattle.xt_wire.proofs.OfWriter.Puts.{begins, goes_on, last, fails, left_as, within, whole}
use Rattle.value_writer.specs.Runs.{digits_of}
use Rattle.value_writer.proofs.Parts.{next_val, no_more_vals}
use Rattle.value_writer.proofs.RunSteps.{block_parts, block_more}
use Rattle.value_writer.proofs.runs.put_digits.Goals as goal

pub loop-value-init : goal.loop-value-init
loop-value-init g c limit = begins limit _ _ c.args.out.now (λ p. rw c.new-block.ensures refl)

pub returns-in_err-make_room : goal.returns-in_err-make_room
returns-in_err-make_room g c =
    let o = c.args.order in
    let size = c.args.size in
    let rest = map val (drop c.loop-value.value-index c.args.values.now) in
    let f = c.in_err-make_room.ensures in
    let e = err_from_is_err_and c.from_residual.result c.from_residual.ensures.1 in
    whole (λ limit.
    let u = left_as (λ p. c.loop-value.block ++ digits_of o size rest) (then_fixed (λ q. f.done) (λ q. f.rest ++ digits_of o size rest)) (λ p. block_parts o size c.loop-value.block f.done f.rest rest p f.parts) (c.loop-value.invariant limit) in
    rw e.1 (fails (λ q. f.done) (λ q. f.rest ++ digits_of o size rest) u (within f.put)))

pub loop-value-preserved : goal.loop-value-preserved
loop-value-preserved g c limit =
    let o = c.args.order in
    let size = c.args.size in
    let i = c.loop-value.value-index in
    let v = c.value-item.result in
    let rest = map val (drop i c.args.values.now) in
    let more = map val (drop (i + 1) c.args.values.now) in
    let f = c.in_ok-make_room.ensures in
    let next : rest ≡ val v ∷ more = next_val c.args.values.now i v c.loop-value-test.true c.value-item.is in
    let number : c.raw.result ≡ raw size (number_in (val v)) = search rules in
    let spelled : octets o size c.raw.result ≡ octets o size (raw size (number_in (val v))) = ap (λ n. octets o size n) number in
    let added : c.add_number.new.self ≡ f.rest ++ octets o size c.raw.result = c.add_number.ensures ∙ ap (λ (l : List ℕ). l ++ octets o size c.raw.result) f.left.0 in
    let u = left_as (λ p. c.loop-value.block ++ digits_of o size rest) (then_fixed (λ q. f.done) (λ q. f.rest ++ digits_of o size rest)) (λ p. block_parts o size c.loop-value.block f.done f.rest rest p f.parts) (c.loop-value.invariant limit) in
    left_as (λ q. f.rest ++ digits_of o size rest) (λ q. c.add_number.new.self ++ digits_of o size more)
    (λ p. ap (λ vs. f.rest ++ digits_of o size vs) next ∙ block_more o size f.rest c.add_number.new.self (octets o size c.raw.result) (val v) more added spelled)
    (goes_on (λ q. f.done) (λ q. f.rest ++ digits_of o size rest) u (within f.put))

pub returns : goal.returns
returns g c =
    let o = c.args.order in
    let size = c.args.size in
    let rest = map val (drop c.loop-value.value-index c.args.values.now) in
    let none : rest ≡ [] = no_more_vals c.args.values.now c.loop-value.value-index c.loop-value-test.false in
    whole (λ limit.
    let u = left_as (λ p. c.loop-value.block ++ digits_of o size rest) (λ p. c.octets.result.now) (λ p. ap (λ vs. c.loop-value.block ++ digits_of o size vs) none ∙ append-nil c.loop-value.block ∙ sym c.octets.ensures) (c.loop-value.invariant limit) in
    last (λ p. c.octets.result.now) u (within c.put.ensures))
