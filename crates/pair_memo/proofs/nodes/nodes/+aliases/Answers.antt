use Rattle.std.proofs.Common.{◌≡◌, sym, subst, rules}
use Rattle.std.specs.Prelude.{IfOk}
use Rattle.xt_shapes.specs.Shape.{Shape}
use Rattle.object_formats.specs.View as view
use Rattle.pair_memo.specs.nodes.Views.{node_shape}
use Rattle.pair_memo.proofs.OfNodes.Levels.{shape_object, seen_object}
use Rattle.pair_memo.proofs.nodes.nodes.+aliases.Goals as goal

pub named-object_node-requires : goal.named-object_node-requires
named-object_node-requires t c =
    let test = seen_object c.args.pool.now c.args.id.now (view.object c.in-Some.object.now) c.in-Some.ensures.found c.requires in
    search rules

pub named-returns-in-Some-clause-shape : goal.named-returns-in-Some-clause-shape
named-returns-in-Some-clause-shape t c =
    subst (λ (s : Shape). IfOk c.object_node.result (λ n. node_shape c.args.pool.now n ≡ s)) (sym (shape_object c.args.pool.now c.args.id.now (view.object c.in-Some.object.now) c.in-Some.ensures.found c.requires)) c.object_node.ensures.shape
