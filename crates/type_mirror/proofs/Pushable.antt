-- Objects that may be pushed.
use Rattle.std.proofs.Common.{◌≡◌, ℕ, true, List, [], ◌∷◌, Result, refl, sym, ap, subst, ◌∙◌, arith}
use Rattle.std.specs.Prelude.{Ok, Err}
use Rattle.std.proofs.lemmas.List.Elements.{All-nil, All-cons}
use Rattle.type_trees.specs.declared.types.HashId.{HashId}
use Rattle.object_formats.specs.declared.faults.Fault.{Fault}
use Rattle.object_formats.specs.Objects.{Object}
use Rattle.object_formats.specs.Tables.{object_of}
use Rattle.type_object.specs.Names.{named_by}
use Rattle.type_object.specs.Pools.{IsObject}
use Rattle.type_lookup.specs.declared.messages.messages.Fetched.{Fetched}
use Rattle.lookup_fetch.specs.Rounds.{is_object}
use Rattle.type_mirror.specs.told.Pushes.{IsOwn, MayPush}

is_read : (octets : List ℕ) → is_object (object_of octets) ≡ true → IsObject octets
is_read octets e = by (object_of octets) refl e
  where
    by : (r : Result Object Fault) → object_of octets ≡ r → is_object r ≡ true → IsObject octets
    by (Ok object) is e = record { object = object; read = is }
    by (Err fault) is e = absurd (cc e)

pub own_object : (name : List ℕ → List ℕ) (octets text : List ℕ) (id : HashId) → is_object (object_of octets) ≡ true → id ≡ named_by name octets → text ≡ octets → IsOwn name (record { id = id; octets = text })
own_object name octets text id read named same = record { text = subst IsObject (sym same) (is_read octets read); named = named ∙ ap (named_by name) (sym same) }

pub alone : (name : List ℕ → List ℕ) (o : Fetched) (objects : List Fetched) → IsOwn name o → objects ≡ o ∷ [] → MayPush name objects
alone name o objects own is = subst (MayPush name) (sym is) (record { few = omega arith; distinct = (refl, tt); own = All-cons (IsOwn name) o [] own (All-nil (IsOwn name)) })
