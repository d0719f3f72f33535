use Rattle.std.proofs.Common.{rules, ℤ, Ok, false}
use Rattle.std.proofs.lemmas.Result.{err_from_is_err_and}
use Rattle.xt_shapes.specs.declared.leaves.Order.{Order}
use Rattle.xt_shapes.specs.declared.leaves.Primitive.{Primitive}
use Rattle.xt_shapes.specs.Shape as model
use Rattle.xt_shapes.specs.Vals.{int}
use Rattle.xcdr_model.specs.Projection.{Part, got}
use Rattle.xcdr_model.specs.Reading.{Spot, Reading, ◌>>=◌}
use Rattle.xt_wire.specs.cursor.Standing.{Standing}
use Rattle.xt_wire.proofs.OfCursor.Ahead.{Ahead, begins, goes_on, fails, ends}
use Rattle.xcdr_steps.specs.scalars.Scalars.{prim_at}
use Rattle.settled_parts.specs.Parts.{part_of}
use Rattle.xcdr_reader.specs.declared.modes.Mode.{Mode}
use Rattle.xcdr_reader.specs.Modes.{read_in, most}
use Rattle.xcdr_reader.proofs.InBlocks.{prim_read}
use Rattle.xcdr_reader.proofs.leaves.read_prim_part.Goals as goal

abbrev made : ℤ → Order → Spot → Reading Part
made i o s = Ok ((got (int i), false), s)

starts : (m : Mode) (p : Primitive) (a : Standing) → Ahead (λ o s. read_in m o (model.prim p) s) (λ o s. prim_at (most m) p o s >>= λ i. made i.0 o i.1) a a
starts m p a = begins (λ o s. read_in m o (model.prim p) s) _ a (λ s. prim_read m a.order p s)

pub returns-in_err-number : goal.returns-in_err-number
returns-in_err-number g c =
    let p = err_from_is_err_and c.from_residual.result c.from_residual.ensures.1 in
    rw (p.1, p.2) (fails (λ i. i) part_of (prim_at (most c.args.mode) c.args.prim) made (starts c.args.mode c.args.prim (g.C.Cursor.state c.args.cursor.now)) (rw c.most.ensures.most at c.in_err-number.ensures))

pub returns : goal.returns
returns g c =
    let u = goes_on (λ i. i) (prim_at (most c.args.mode) c.args.prim) made (starts c.args.mode c.args.prim (g.C.Cursor.state c.args.cursor.now)) (rw c.most.ensures.most at c.in_ok-number.ensures) in
    ends part_of (λ o. (got (int c.in_ok-number.number), false)) u (search rules)
