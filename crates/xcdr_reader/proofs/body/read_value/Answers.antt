use Rattle.std.proofs.lemmas.Result.{err_from_is_err_and}
use Rattle.type_trees.specs.Bridge.{type_shape}
use Rattle.xcdr_model.specs.Samples.{outcome_of}
use Rattle.settled_parts.specs.Parts.{part_of}
use Rattle.settled_parts.specs.Settling.{outcome_val}
use Rattle.xt_wire.proofs.OfCursor.Ahead.{goes_on, fails, ends}
use Rattle.xcdr_reader.specs.Bodies.{value_end}
use Rattle.xcdr_reader.specs.Modes.{read_in, mode_of}
use Rattle.xcdr_reader.proofs.Values.{made, ended_outcome, outcome_begin}
use Rattle.xcdr_reader.proofs.body.read_value.Goals as goal

pub returns-in_err-part : goal.returns-in_err-part
returns-in_err-part g c =
    let t = type_shape c.args.reader.now in
    let r = c.args.rep in
    let p = err_from_is_err_and c.from_residual.result c.from_residual.ensures.1 in
    rw (p.1, p.2) (fails part_of outcome_val (λ o s. read_in (mode_of r) o t s) (ended_outcome r t) (outcome_begin r t (g.C.Cursor.state c.args.cursor.now)) (rw c.of.ensures at c.in_err-part.ensures))

pub returns-in_err-end_value : goal.returns-in_err-end_value
returns-in_err-end_value g c =
    let t = type_shape c.args.reader.now in
    let r = c.args.rep in
    let p = err_from_is_err_and c.from_residual-in_err-end_value.result c.from_residual-in_err-end_value.ensures.1 in
    let u = goes_on part_of (λ o s. read_in (mode_of r) o t s) (ended_outcome r t) (outcome_begin r t (g.C.Cursor.state c.args.cursor.now)) (rw c.of.ensures at c.in_ok-part.ensures) in
    rw (p.1, p.2) (fails (λ u. u) outcome_val (value_end r t) (made (part_of c.in_ok-part.part)) u c.in_err-end_value.ensures)

pub returns : goal.returns
returns g c =
    let t = type_shape c.args.reader.now in
    let r = c.args.rep in
    let u = goes_on part_of (λ o s. read_in (mode_of r) o t s) (ended_outcome r t) (outcome_begin r t (g.C.Cursor.state c.args.cursor.now)) (rw c.of.ensures at c.in_ok-part.ensures) in
    let v = goes_on (λ u. u) (value_end r t) (made (part_of c.in_ok-part.part)) u c.in_ok-end_value.ensures in
    ends outcome_val (λ o. outcome_of (part_of c.in_ok-part.part)) v c.outcome.ensures
