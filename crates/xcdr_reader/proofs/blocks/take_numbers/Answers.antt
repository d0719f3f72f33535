use Rattle.std.proofs.Common.{rules, arith, to_z, of_z, ◌≡◌, ◌+◌, ◌-◌, ◌*◌, ◌∙◌, ap, ℕ, suc, false, drop, take}
use Rattle.std.specs.Int.{w128}
use Rattle.xt_shapes.specs.Defaults.{default_of}
use Rattle.xt_shapes.specs.Sizes.{size}
use Rattle.type_trees.specs.Bridge.{type_shape}
use Rattle.try_construct.specs.Items.{items_of}
use Rattle.xt_shapes.specs.Vals.{int}
use Rattle.xcdr_model.specs.Projection.{got}
use Rattle.xcdr_reader.proofs.InBlocks.{numbers_more}
use Rattle.xcdr_reader.proofs.blocks.take_numbers.Goals as goal

pub loop-turn-preserved : goal.loop-turn-preserved
loop-turn-preserved c =
    let e = c.args.elem.now in
    let p = c.args.prim in
    let m = c.args.many - (c.loop-turn.turn + 1) in
    let next : c.args.many - c.loop-turn.turn ≡ suc m = omega (arith, c.loop-turn-test.true) in
    let rest = c.loop-turn.rest.now in
    let mid : c.prim_size-size.result ≡ size p = c.prim_size-size.ensures.size in
    let whole : (c.args.many - c.loop-turn.turn) * size p ≡ size p + m * size p = ap (λ (n : ℕ). n * size p) next ∙ omega arith in
    let front = c.split_at.ensures.front ∙ ap (λ (n : ℕ). take n rest) mid in
    let back = c.split_at.ensures.back ∙ ap (λ (n : ℕ). drop n rest) mid in
    let more = c.in_ok-take_number.ensures e.tc (default_of (type_shape e.ty)) in
    let same : to_z w128 (of_z w128 c.number_in.result) ≡ c.number_in.result = search rules in
    record {
      left = omega (arith, c.split_at.ensures.back_len, c.loop-turn.invariant.left, whole, mid);
      same = numbers_more c.args.bound e.tc (default_of (type_shape e.ty)) c.args.order p (c.args.many - c.loop-turn.turn) m (items_of c.loop-turn.items) (items_of c.take_number.new.self) rest c.split_at.result.0.now c.split_at.result.1.now (got (int c.number_in.result), false) next front back c.number_in.ensures (rw same at more) ∙ c.loop-turn.invariant.same;
    }
