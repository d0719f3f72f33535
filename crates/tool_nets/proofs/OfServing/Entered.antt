-- Objects of a pool that are registered one after another, and passes that know them.
use Rattle.std.proofs.Common.{◌≡◌, ℕ, ◌+◌, ◌<◌, List, [], ◌∷◌, ◌++◌, map, length, take, get_or, Some, sym, ap, ◌∙◌, subst}
use Rattle.std.specs.Prelude.{All, slice_get}
use Rattle.std.specs.List.{Contains}
use Rattle.std.proofs.lemmas.List.{map-append, take_more}
use Rattle.std.proofs.lemmas.List.Elements.{All-map, All-more, All-weaker}
use Rattle.std.proofs.lemmas.Option.{get_or_from_slice_get, slice_get_within}
use Rattle.type_trees.specs.declared.types.HashId.{HashId}
use Rattle.type_object.specs.Pools.{Texts}
use Rattle.type_registry.specs.Found.{Found}
use Rattle.type_registry.specs.Passed.{PassView, Learns, known}
use Rattle.tool_nets.specs.serving.Registering.{entry_of}
use Rattle.tool_nets.specs.serving.Serving.{HasPool}

-- one more of the pool was found
pub entries_more : (pool : Texts) (i : ℕ) (fs : List Found) (f : Found) (e : HashId × List ℕ) → slice_get pool i ≡ Some e → entry_of f ≡ e → map entry_of fs ≡ take i pool → map entry_of (fs ++ f ∷ []) ≡ take (i + 1) pool
entries_more pool i fs f e at is before =
    map-append entry_of fs (f ∷ []) ∙ ap (λ l. l ++ entry_of f ∷ []) before ∙ ap (λ (x : HashId × List ℕ). take i pool ++ x ∷ []) (is ∙ sym (get_or_from_slice_get pool i e e at)) ∙ sym (take_more pool i e (slice_get_within pool i e at))

-- this one is of the pool
pub is_in_pool : (pool : Texts) (i : ℕ) (e : HashId × List ℕ) → slice_get pool i ≡ Some e → Contains pool e
is_in_pool pool i e at = (i, slice_get_within pool i e at, get_or_from_slice_get pool i e e at)

-- ---- passes

abbrev pub HasFound : PassView → Found → Type 0
HasFound pass f = known pass f.id ≡ Some f.octets

pub found_more : (old new : PassView) (fs : List Found) (i : ℕ) (f : Found) → i < length fs → f ≡ get_or fs i f → Learns old new f.id f.octets → All (HasFound old) (take i fs) → All (HasFound new) (take (i + 1) fs)
found_more old new fs i f lt is learns has =
    All-more (HasFound new) fs i f lt (All-weaker (HasFound old) (HasFound new) (λ x h. learns.grows.known x.id x.octets h) (take i fs) has) (subst (HasFound new) is learns.known_now)

pub has_pool : (pass : PassView) (fs : List Found) → All (HasFound pass) fs → HasPool pass (map entry_of fs)
has_pool pass fs has = All-map (λ (e : HashId × List ℕ). known pass e.0 ≡ Some e.1) entry_of fs has
