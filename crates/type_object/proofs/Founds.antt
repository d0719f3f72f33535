-- A lookup by key is a lookup by identifier.
use Rattle.std.proofs.Common.{◌≡◌, ◌≤◌, ℕ, length, Bool, true, false, cond, List, [], ◌∷◌, map, Option, Some, None, refl, sym, ap, ◌∙◌}
use Rattle.std.specs.Option.{option_map}
use Rattle.std.specs.Prelude.{◌++◌, Ok}
use Rattle.std.specs.Map.{lookup}
use Rattle.std.proofs.lemmas.List.{map_push}
use Rattle.indexmap.specs.IndexMap.{IndexMap, get, insert_entry}
use Rattle.indexmap.proofs.CallerLemmas.{insert_entry-new}
use Rattle.object_formats.specs.View as view
use Rattle.object_formats.specs.Objects.{Object}
use Rattle.object_formats.specs.Tables.{object_of, text_of, is_well_formed}
use Rattle.object_formats.proofs.Whole.{again}
use Rattle.type_trees.specs.contracts.types.HashIdPartialEq.TheImpl as keys
use Rattle.type_trees.specs.declared.types.HashId.{HashId}
use Rattle.type_object.specs.declared.entry.Entry.{Entry}
use Rattle.type_object.specs.Pools.{IsObject, found, object_at, object_in, answered}
use Rattle.type_trees.specs.Ids.{same_id}
use Rattle.type_object.specs.Entries.{held}

same : (k l : HashId) → keys.eq-value.it k l ≡ same_id k l
same k l = refl

step : (b : Bool) (e : Entry) (o : Option (List ℕ)) (p : Option Entry) → o ≡ option_map (λ (x : Entry). x.octets) p → cond b (Some e.octets) o ≡ option_map (λ (x : Entry). x.octets) (cond b (Some e) p)
step true e o p h = refl
step false e o p h = h

pub found_is : (k : HashId) (es : List (HashId × Entry)) → found k (map held es) ≡ option_map (λ (x : Entry). x.octets) (lookup (keys.eq-value.it k) es)
found_is k [] = refl
found_is k (e ∷ es) =
    ap (λ (b : Bool). cond b (Some e.1.octets) (found k (map held es))) (sym (same k e.0)) ∙ step (keys.eq-value.it k e.0) e.1 (found k (map held es)) (lookup (keys.eq-value.it k) es) (found_is k es)

pub found_some : (k : HashId) (es : List (HashId × Entry)) (e : Entry) → Some e ≡ lookup (keys.eq-value.it k) es → found k (map held es) ≡ Some e.octets
found_some k es e h = found_is k es ∙ ap (option_map (λ (x : Entry). x.octets)) (sym h)

pub found_none : (k : HashId) (es : List (HashId × Entry)) → None ≡ lookup (keys.eq-value.it k) es → found k (map held es) ≡ None
found_none k es h = found_is k es ∙ ap (option_map (λ (x : Entry). x.octets)) (sym h)

absent_is : (o : Option Entry) → option_map (λ (x : Entry). x.octets) o ≡ None → o ≡ None
absent_is None e = refl
absent_is (Some x) e = absurd cc

pub text_is_object : (o : Object) (bs : List ℕ) → bs ≡ text_of o → is_well_formed o ≡ true → length bs ≤ 131072 → IsObject bs
text_is_object o bs text good short = record { object = o; read = again o bs text good short }

pub entry_read : (e : Entry) → object_of e.octets ≡ Ok (view.object e.object)
entry_read e = again (view.object e.object) e.octets e.text e.well_formed e.short

pub entry_is : (e : Entry) (bs : List ℕ) → bs ≡ e.octets → IsObject bs
entry_is e bs is = record { object = view.object e.object; read = ap object_of is ∙ entry_read e }

pub object_some : (k : HashId) (es : List (HashId × Entry)) (e : Entry) → Some e ≡ lookup (keys.eq-value.it k) es → object_at k (map held es) ≡ Some (view.object e.object)
object_some k es e h = ap object_in (found_some k es e h) ∙ ap answered (entry_read e)

pub object_none : (k : HashId) (es : List (HashId × Entry)) → None ≡ lookup (keys.eq-value.it k) es → object_at k (map held es) ≡ None
object_none k es h = ap object_in (found_none k es h)

-- a new key goes last
pub stored : {S : Type 0} (m : IndexMap HashId Entry S) (k : HashId) (e : Entry) → found k (map held m.entries) ≡ None → map held (insert_entry keys.eq-value.it m.entries k e) ≡ map held m.entries ++ (k, e.octets) ∷ []
stored m k e h =
    let absent : get keys.eq-value.it m k ≡ None = absent_is (lookup (keys.eq-value.it k) m.entries) (sym (found_is k m.entries) ∙ h) in
    ap (map held) (insert_entry-new keys.eq-value.it m k e absent) ∙ map_push held m.entries (k, e)
