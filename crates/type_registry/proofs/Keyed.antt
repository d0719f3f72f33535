-- A look-up by key is a look-up by identifier.
use Rattle.std.proofs.Common.{◌≡◌, cond, List, [], ◌∷◌, ◌++◌, Option, refl, sym, ap, ◌∙◌}
use Rattle.indexmap.specs.IndexMap.{IndexMap, get, insert_entry}
use Rattle.indexmap.proofs.CallerLemmas.{insert_entry-new}
use Rattle.std.specs.Prelude.{None, Some}
use Rattle.std.specs.Map.{lookup}
use Rattle.type_trees.specs.declared.types.HashId.{HashId}
use Rattle.type_trees.specs.contracts.types.HashIdPartialEq.TheImpl as keys
use Rattle.type_trees.specs.Ids.{same_id}

found_is : {V : Type 0} (k : HashId) (es : List (HashId × V)) → lookup (same_id k) es ≡ lookup (keys.eq-value.it k) es
found_is k [] = refl
found_is {V} k (e ∷ es) = ap (λ (o : Option V). cond (same_id k e.0) (Some e.1) o) (found_is k es)

-- a new identifier goes last
pub inserted : {V S : Type 0} (m : IndexMap HashId V S) (id : HashId) (v : V) (old after : List (HashId × V)) → after ≡ insert_entry keys.eq-value.it m.entries id v → m.entries ≡ old → lookup (same_id id) old ≡ None → after ≡ old ++ (id, v) ∷ []
inserted m id v old after put view none =
    let absent : get keys.eq-value.it m id ≡ None = sym (found_is id m.entries) ∙ ap (lookup (same_id id)) view ∙ none in
    put ∙ insert_entry-new keys.eq-value.it m id v absent ∙ ap (λ es. es ++ (id, v) ∷ []) view

pub value_at : {V : Type 0} (id : HashId) (es old : List (HashId × V)) → es ≡ old → lookup (keys.eq-value.it id) es ≡ lookup (same_id id) old
value_at id es old view = sym (found_is id es) ∙ ap (lookup (same_id id)) view
