use Rattle.std.proofs.Common.{◌≡◌, true, List, ℕ, Ok, ap, ◌∙◌}
use Rattle.xt_shapes.specs.Typing.{has_type}
use Rattle.type_trees.specs.Bridge.{shape}
use Rattle.type_trees.specs.View.{tree, val}
use Rattle.json_values.specs.Read.{read_as}
use Rattle.json_values.specs.Written.{json_text}
use Rattle.dynamic_data.proofs.NameTexts.{type_has_texts}
use Rattle.dynamic_data.proofs.OfNumbers.Written.{json_is_read}
use Rattle.dynamic_data.proofs.Results.{ok_then}
use Rattle.dynamic_data.proofs.texts.to_json.Goals as goal

pub write_json-requires : goal.write_json-requires
write_json-requires c = type_has_texts (tree c.args.ty.now) c.requires

pub returns-clause-back : goal.returns-clause-back
returns-clause-back c =
    let t = tree c.args.ty.now in
    let v = val c.args.value.now in
    ok_then (λ (text : List ℕ). text ≡ json_text t v) (λ (text : List ℕ). has_type (shape t) v ≡ true → read_as t text ≡ Ok v) c.write_json.result
    (λ text is has. ap (read_as t) is ∙ json_is_read t v c.requires has) c.write_json.ensures.text
