use Rattle.std.proofs.Common.{rules, ◌==◌, Ok}
use Rattle.std.proofs.lemmas.Result.{err_from_is_err_and}
use Rattle.xt_shapes.specs.Sizes.{enum_size}
use Rattle.xcdr_model.specs.Numbers.{with_sign}
use Rattle.xt_wire.specs.cursor.Decoding.{Decodes}
use Rattle.xt_wire.specs.cursor.Steps.{placed_at}
use Rattle.xt_wire.specs.cursor.Placing.{placed_view}
use Rattle.xt_wire.proofs.OfCursor.Ahead.{goes_on, fails, ends}
use Rattle.xcdr_steps.proofs.OfScalars.ScalarSteps.{enum_starts, enum_value}
use Rattle.xcdr_steps.proofs.scalars.scalars.read_enum.Goals as goal

pub returns-in_err-placed : goal.returns-in_err-placed
returns-in_err-placed g c =
    let a = g.C.Cursor.state c.args.cursor.now in
    let p = err_from_is_err_and c.from_residual.result c.from_residual.ensures.1 in
    rw (p.1, p.2) (fails (placed_view a) (λ i. i) (placed_at c.args.most (enum_size c.args.bits)) (enum_value c.args.bits) (enum_starts c.args.most c.args.bits a) (rw (← c.enum_size-size.ensures.size) c.in_err-placed.ensures.value))

pub returns : goal.returns
returns g c =
    let a = g.C.Cursor.state c.args.cursor.now in
    let n = c.in_ok-placed.placed in
    let k = enum_size c.args.bits in
    let d = c.in_ok-placed.ensures in
    let b = g.C.Cursor.state c.read_placed.new.cursor in
    let dv : Decodes (placed_view a) (placed_at c.args.most k) a b (Ok n) = rw (← c.enum_size-size.ensures.size) d.value in
    let u = goes_on (placed_view a) (placed_at c.args.most k) (enum_value c.args.bits) (enum_starts c.args.most c.args.bits a) dv in
    ends (λ i. i) (λ o. with_sign k (k == 4) n.number) u (search rules)
