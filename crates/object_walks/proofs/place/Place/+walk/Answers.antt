use Rattle.std.proofs.Common.{ap, sym, subst, ◌∙◌, arith}
use Rattle.object_formats.proofs.Views.{of_hash}
use Rattle.object_formats.specs.View as view
use Rattle.object_walks.specs.Resolving as spec
use Rattle.object_walks.specs.Walking.{Ends, below, within, ids}
use Rattle.object_walks.specs.declared.inside.Inside as places
use Rattle.object_walks.proofs.Short.{walk_short}
use Rattle.object_walks.proofs.Walked.{walk_none, base_none, base_on, ids_of}
use Rattle.object_walks.proofs.place.Place.+walk.Goals as goal

pub walk-returns-then-self-eq0 : goal.walk-returns-then-self-eq0
walk-returns-then-self-eq0 t c = walk_none c.args.self.now.pool.now (within c.args.self.now) (view.identifier c.args.ty.now) c.at_node.result c.args.self.now.levels c.args.nodes.now c.if-self-eq0.true c.at_node.ensures

pub part-beneath-requires : goal.part-beneath-requires
part-beneath-requires t c = walk_short c.in-Err.stop c.args.self.now.levels c.args.self.now.pool.now (within c.args.self.now) (view.identifier c.args.ty.now) c.args.nodes.now c.args.self.now.bounded c.in-Err.ensures

pub base-returns-then-room-eq0 : goal.base-returns-then-room-eq0
base-returns-then-room-eq0 t c =
    subst (λ i. Ends c.at_node.result (spec.bases c.args.room c.args.self.now.pool.now (below c.args.self.now) c.args.ext (within c.args.self.now) i c.args.nodes.now)) (sym (ap view.identifier c.in-Hash.is ∙ of_hash c.in-Hash.id))
    (base_none c.args.self.now.pool.now (below c.args.self.now) c.args.ext (within c.args.self.now) c.in-Hash.id c.at_node.result c.args.room c.args.nodes.now c.if-room-eq0.true c.at_node.ensures)

pub base-returns-in_ok-object-in-Hash : goal.base-returns-in_ok-object-in-Hash
base-returns-in_ok-object-in-Hash t c =
    base_on c.args.self.now.pool.now (below c.args.self.now) c.args.ext (within c.args.self.now) c.in-Hash.id c.based.result _ (view.object c.in_ok-object-in-Hash.object.now) (view.identifier c.args.base.now)
    (ids (places.Of c.in-Hash.id c.args.self.now.inside)) c.args.room c.args.nodes.now _ (omega (arith, c.if-room-eq0.false)) (ap view.identifier c.in-Hash.is ∙ of_hash c.in-Hash.id) (ids_of c.in-Hash.id c.args.self.now.inside) c.in_ok-object-in-Hash.ensures c.based.ensures
