use Rattle.std.proofs.Common.{rules, ℤ, map, Ok, false}
use Rattle.std.proofs.lemmas.Result.{err_from_is_err_and}
use Rattle.xt_shapes.specs.declared.leaves.Order.{Order}
use Rattle.type_trees.specs.declared.types.MaskType.{MaskType}
use Rattle.xt_shapes.specs.Shape as model
use Rattle.xt_shapes.specs.Vals.{int}
use Rattle.xcdr_model.specs.Projection.{Part, got}
use Rattle.xcdr_model.specs.Reading.{Spot, Reading, ◌>>=◌}
use Rattle.xcdr_model.specs.Xcdr2Reading.{scalar_at}
use Rattle.type_trees.specs.Bridge.{flag_shape}
use Rattle.xt_wire.specs.cursor.Standing.{Standing}
use Rattle.xt_wire.proofs.OfCursor.Ahead.{Ahead, begins, goes_on, fails, ends}
use Rattle.xcdr_steps.specs.scalars.Scalars.{mask_at}
use Rattle.settled_parts.specs.Parts.{part_of}
use Rattle.xcdr_reader.specs.declared.modes.Mode.{Mode}
use Rattle.xcdr_reader.specs.Modes.{read_in, most}
use Rattle.xcdr_reader.proofs.LeafSteps.{mask_read}
use Rattle.xcdr_reader.proofs.leaves.read_mask_part.Goals as goal

abbrev made : ℤ → Order → Spot → Reading Part
made i o s = Ok ((got (int i), false), s)

starts : (m : Mode) (k : MaskType) (a : Standing) → Ahead (λ o s. read_in m o (model.bitmask k.bits (map flag_shape k.flags)) s) (λ o s. mask_at (most m) k.bits o s >>= λ i. made i.0 o i.1) a a
unfolding scalar_at
starts m k a = begins (λ o s. read_in m o (model.bitmask k.bits (map flag_shape k.flags)) s) _ a (λ s. mask_read m k.bits (map flag_shape k.flags) a.order s)

pub returns-in_err-number : goal.returns-in_err-number
returns-in_err-number g c =
    let k = c.args.kind.now in
    let p = err_from_is_err_and c.from_residual.result c.from_residual.ensures.1 in
    rw (p.1, p.2) (fails (λ i. i) part_of (mask_at (most c.args.mode) k.bits) made (starts c.args.mode k (g.C.Cursor.state c.args.cursor.now)) (rw c.most.ensures.most at c.in_err-number.ensures))

pub returns : goal.returns
returns g c =
    let k = c.args.kind.now in
    let u = goes_on (λ i. i) (mask_at (most c.args.mode) k.bits) made (starts c.args.mode k (g.C.Cursor.state c.args.cursor.now)) (rw c.most.ensures.most at c.in_ok-number.ensures) in
    ends part_of (λ o. (got (int c.in_ok-number.number), false)) u (search rules)
