use Rattle.std.proofs.Common.{[], ap}
use Rattle.std.proofs.lemmas.List.Elements.{All-nil, All-cons}
use Rattle.type_trees.specs.Ids.{is_object_kind}
use Rattle.type_lookup.specs.messages.Spelling.{IsKnownId}
use Rattle.library_tests.proofs.fetches.fetch_one.Goals as goal

pub fetch-requires : goal.fetch-requires
fetch-requires c = All-cons IsKnownId c.args.id [] (ap is_object_kind c.requires) (All-nil IsKnownId)
