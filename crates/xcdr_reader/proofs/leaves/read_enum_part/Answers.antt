use Rattle.std.proofs.Common.{rules, ℤ, List, map, cond, Ok, false}
use Rattle.std.proofs.lemmas.Result.{err_from_is_err_and}
use Rattle.xt_shapes.specs.declared.leaves.Order.{Order}
use Rattle.type_trees.specs.declared.types.EnumType.{EnumType}
use Rattle.type_trees.specs.declared.types.Literal.{Literal}
use Rattle.xt_shapes.specs.Select.{is_literal}
use Rattle.xt_shapes.specs.Shape as model
use Rattle.xt_shapes.specs.Vals.{int}
use Rattle.xcdr_model.specs.Projection.{Part, got, failed}
use Rattle.xcdr_model.specs.Reading.{Spot, Reading, ◌>>=◌}
use Rattle.xcdr_model.specs.Xcdr2Reading.{scalar_at}
use Rattle.type_trees.specs.Bridge.{literal_shape}
use Rattle.xt_wire.specs.cursor.Standing.{Standing}
use Rattle.xt_wire.proofs.OfCursor.Ahead.{Ahead, begins, goes_on, fails, ends}
use Rattle.xcdr_steps.specs.scalars.Scalars.{enum_at}
use Rattle.settled_parts.specs.Parts.{part_of}
use Rattle.xcdr_reader.specs.declared.modes.Mode.{Mode}
use Rattle.xcdr_reader.specs.Modes.{read_in, most}
use Rattle.xcdr_reader.proofs.LeafSteps.{enum_read}
use Rattle.xcdr_reader.proofs.leaves.read_enum_part.Goals as goal

abbrev made : List Literal → ℤ → Order → Spot → Reading Part
made ls i o s = Ok ((cond (is_literal (map literal_shape ls) i) (got (int i)) failed, false), s)

starts : (m : Mode) (k : EnumType) (a : Standing) → Ahead (λ o s. read_in m o (model.enumeration k.ext k.bits (map literal_shape k.literals)) s) (λ o s. enum_at (most m) k.bits o s >>= λ i. made k.literals i.0 o i.1) a a
unfolding scalar_at
starts m k a = begins (λ o s. read_in m o (model.enumeration k.ext k.bits (map literal_shape k.literals)) s) _ a (λ s. enum_read m k.ext k.bits (map literal_shape k.literals) a.order s)

pub returns-in_err-number : goal.returns-in_err-number
returns-in_err-number g c =
    let k = c.args.kind.now in
    let p = err_from_is_err_and c.from_residual.result c.from_residual.ensures.1 in
    rw (p.1, p.2) (fails (λ i. i) part_of (enum_at (most c.args.mode) k.bits) (made k.literals) (starts c.args.mode k (g.C.Cursor.state c.args.cursor.now)) (rw c.most.ensures.most at c.in_err-number.ensures))

pub returns : goal.returns
returns g c =
    let k = c.args.kind.now in
    let u = goes_on (λ i. i) (enum_at (most c.args.mode) k.bits) (made k.literals) (starts c.args.mode k (g.C.Cursor.state c.args.cursor.now)) (rw c.most.ensures.most at c.in_ok-number.ensures) in
    ends part_of (λ o. (cond (is_literal (map literal_shape k.literals) c.in_ok-number.number) (got (int c.in_ok-number.number)) failed, false)) u (search rules)
