use Rattle.type_object.proofs.OfVisits.Reversed.{put_before_others}
use Rattle.type_object.proofs.visits.todo.Todo.put_before.Goals as goal

pub returns : goal.returns
returns c = put_before_others c.self.inside.ids.items c.args.ids.now _ _ c.in_ok-push_reversed.ensures c.self.view_is
