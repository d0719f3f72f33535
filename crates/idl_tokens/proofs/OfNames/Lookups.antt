-- A look-up by key is a look-up by scope and name.
use Rattle.std.proofs.Common.{◌≡◌, Bool, true, false, cond, ◌&&◌, ◌||◌, ◌==◌, List, [], ◌∷◌, ◌++◌, map, Some, None, refl, sym, ap, ◌∙◌}
use Rattle.std.specs.Str.{bytes_eq}
use Rattle.std.specs.Map.{lookup}
use Rattle.std.specs.List.{list_any}
use Rattle.std.proofs.lemmas.List.{map_push}
use Rattle.indexmap.specs.IndexMap.{IndexMap, get, insert_entry}
use Rattle.indexmap.specs.IndexSet.{insert_key}
use Rattle.indexmap.proofs.CallerLemmas.{insert_entry-new}
use Rattle.idl_tokens.specs.contracts.names.scopes.KeyPartialEq.TheImpl as keys
use Rattle.idl_tokens.specs.contracts.names.sets.WordPartialEq.TheImpl as words
use Rattle.idl_tokens.specs.declared.names.scopes.Key.{Key}
use Rattle.idl_tokens.specs.declared.names.scopes.Meaning.{Meaning}
use Rattle.idl_tokens.specs.declared.names.sets.Word.{Word}
use Rattle.idl_tokens.specs.names.Held.{held, spelled}
use Rattle.idl_tokens.specs.names.Scopes.{meaning}
use Rattle.idl_tokens.specs.names.Sets.{has}

same : (k l : Key) → keys.eq-value.it k l ≡ (k.scope == l.scope && bytes_eq k.name.now l.name.now)
same k l = refl

pub meaning_is : (k : Key) (es : List (Key × Meaning)) → meaning k.scope k.name.now (map held es) ≡ lookup (keys.eq-value.it k) es
meaning_is k [] = refl
meaning_is k (e ∷ es) = ap (cond (keys.eq-value.it k e.0) (Some e.1)) (meaning_is k es)

-- a new name goes last
pub added : {S : Type 0} (m : IndexMap Key Meaning S) (k : Key) (v : Meaning) → meaning k.scope k.name.now (map held m.entries) ≡ None
    → map held (insert_entry keys.eq-value.it m.entries k v) ≡ map held m.entries ++ ((k.scope, k.name.now), v) ∷ []
added m k v h =
    let absent : get keys.eq-value.it m k ≡ None = sym (meaning_is k m.entries) ∙ h in
    ap (map held) (insert_entry-new keys.eq-value.it m k v absent) ∙ map_push held m.entries (k, v)

pub has_is : (w : Word) (ws : List Word) → has w.octets.now (spelled ws) ≡ list_any (words.eq-value.it w) ws
has_is w [] = refl
has_is w (v ∷ ws) = ap (λ b. words.eq-value.it w v || b) (has_is w ws)

taken_so : (there : Bool) (ws : List Word) (w : Word) → there ≡ false → spelled (cond there ws (ws ++ w ∷ [])) ≡ spelled ws ++ w.octets.now ∷ []
taken_so true ws w h = absurd cc
taken_so false ws w h = map_push (λ w. w.octets.now) ws w

pub taken : (w : Word) (ws : List Word) → has w.octets.now (spelled ws) ≡ false → spelled (insert_key words.eq-value.it ws w) ≡ spelled ws ++ w.octets.now ∷ []
taken w ws h = taken_so (list_any (words.eq-value.it w) ws) ws w (sym (has_is w ws) ∙ h)
