use Rattle.std.proofs.Common.{◌≡◌, true, Ok}
use Rattle.xt_shapes.specs.Typing.{has_type}
use Rattle.type_trees.specs.declared.values.Value.{Value}
use Rattle.type_trees.specs.Bridge.{shape}
use Rattle.type_trees.specs.View.{tree, val}
use Rattle.type_rules.proofs.Kept.{limits_kept}
use Rattle.json_values.specs.Read.{read_as}
use Rattle.dynamic_data.proofs.NameTexts.{type_has_texts}
use Rattle.dynamic_data.proofs.Results.{ok_then}
use Rattle.dynamic_data.proofs.Typed.{read_typed}
use Rattle.dynamic_data.proofs.texts.from_json.Goals as goal

pub read_json-requires-clause-deep : goal.read_json-requires-clause-deep
read_json-requires-clause-deep c = (limits_kept (tree c.args.ty.now) c.requires).0

pub read_json-requires-clause-named : goal.read_json-requires-clause-named
read_json-requires-clause-named c = type_has_texts (tree c.args.ty.now) c.requires

pub returns-clause-typed : goal.returns-clause-typed
returns-clause-typed c =
    let t = tree c.args.ty.now in
    ok_then (λ (value : Value). read_as t c.args.text.now ≡ Ok (val value)) (λ (value : Value). has_type (shape t) (val value) ≡ true) c.read_json.result
    (λ (value : Value) read. read_typed t c.args.text.now (val value) c.requires read) c.read_json.ensures.ok
