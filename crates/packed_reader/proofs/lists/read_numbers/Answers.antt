use Rattle.std.proofs.Common.{◌≡◌, sym, ap, ◌∙◌, ℕ, ◌≤◌, ◌*◌, ◌/◌, ◌==◌, cond, length, min, rules}
use Rattle.xt_shapes.specs.Sizes.{size}
use Rattle.xcdr_model.specs.Numbers.{padding}
use Rattle.packed_reader.specs.Reads.{most}
use Rattle.packed_reader.specs.Spots.{spot_of}
use Rattle.packed_reader.proofs.Alignment.{quotient_fits, size_some}
use Rattle.packed_reader.proofs.NumberSteps.{numbers_ahead}
use Rattle.packed_reader.proofs.lists.read_numbers.Goals as goal

pub returns-clause-value : goal.returns-clause-value
returns-clause-value c =
    let p = c.args.prim in
    let n = c.args.count in
    let k : c.prim_size-size.result ≡ size p = c.prim_size-size.ensures.size in
    let pad = c.padding_before.ensures.octets ∙ ap (λ (u : ℕ). cond (n == 0) 0 (padding (min u (most c.args.rep)) c.args.ahead.place)) k in
    let one : c.from.result ≡ size p = search rules in
    let two : c.from-2.result ≡ size p = search rules in
    let few : n ≤ length c.in_ok-aligned.aligned.rest.now / size p = rw one at c.if-count-aligned.false in
    let fits : n * size p ≤ length c.in_ok-aligned.aligned.rest.now = quotient_fits (length c.in_ok-aligned.aligned.rest.now) (size p) n (size_some p) few in
    numbers_ahead c.args.rep c.args.order p n c.padding_before.result c.in_ok-aligned.field-0-0.now c.in_ok-octets.octets.now (spot_of c.args.ahead) (spot_of c.in_ok-aligned.aligned) (spot_of c.in_ok-octets.behind) pad c.in_ok-aligned.ensures.value fits (rw two at c.in_ok-octets.ensures.value) (sym c.has_no_truth.ensures ∙ c.if-has_no_truth.false)
