use Rattle.std.proofs.Common.{rules, subst}
use Rattle.type_trees.specs.Bridge.{type_shape}
use Rattle.settled_parts.specs.Settling.{outcome_val}
use Rattle.xt_wire.specs.cursor.Standing.{Standing}
use Rattle.xt_wire.specs.cursor.Decoding.{Decodes}
use Rattle.xcdr_steps.specs.again.Rereading.{rereading_state}
use Rattle.xcdr_steps.proofs.OfAgain.Back.{back}
use Rattle.xcdr_reader.specs.Bodies.{value_outcome}
use Rattle.xcdr_reader.proofs.Values.{comes_typed_if, comes_light_if}
use Rattle.xcdr_reader.proofs.body.decode_guided.Goals as goal

pub returns-clause-value : goal.returns-clause-value
returns-clause-value g c =
    let a = g.C.Cursor.state c.args.cursor.now in
    let again = c.read_value.new.cursor in
    let f = value_outcome c.args.rep (type_shape c.args.reader.now) in
    let d = subst (λ (s : Standing). Decodes outcome_val f s (rereading_state again) c.read_value.result) c.new-again.ensures.state c.read_value.ensures in
    back outcome_val f _ a _ again c.read_value.result _ (search rules) c.new-again.ensures.stayed (g.met.C.Cursor.stands again.inner.now) d

pub returns-clause-typed : goal.returns-clause-typed
returns-clause-typed g c =
    let t = type_shape c.args.reader.now in
    let kept = c.shape_keeps_rules.ensures _ c.requires.valid in
    comes_typed_if outcome_val c.args.rep t _ (λ o s s2 v u small is. c.value_typed.ensures c.args.rep o t s s2 v u kept small is) (returns-clause-value g c)

pub returns-clause-light : goal.returns-clause-light
returns-clause-light g c =
    let t = type_shape c.args.reader.now in
    let kept = c.shape_keeps_rules.ensures _ c.requires.valid in
    comes_light_if outcome_val c.args.rep t _ (g.met.C.Cursor.stands c.args.cursor.now) (g.met.C.Cursor.stands _) (λ o s s2 v u is. c.value_nodes_bound.ensures c.args.rep o t s s2 v u kept is) (returns-clause-value g c)
