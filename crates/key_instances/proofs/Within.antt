-- How many values and keys there are after a put.
use Rattle.std.proofs.Common.{◌≡◌, ℕ, zero, suc, ◌≤◌, List, [], ◌∷◌, map, length, slice_get, Some, refl, ap, subst, ◌∙◌}
use Rattle.std.specs.Option.{option_map}
use Rattle.std.proofs.lemmas.Option.{slice_get_within, get_or_from_slice_get, slice_get-map}
use Rattle.std.proofs.lemmas.List.Elements.{All-cons, All-head, All-tail}
use Rattle.indexmap.specs.IndexMap.{set_value_at}
use Rattle.key_instances.specs.Caches.{AreWithin}
use Rattle.key_instances.specs.Held.{held}
use Rattle.key_instances.specs.declared.entry.Entry.{Entry}

abbrev few : {V : Type 0} → ℕ → List ℕ × List V → Type 0
few n e = length e.1 ≤ n

pub set_within : {V : Type 0} (n : ℕ) (x : Entry V) (es : List (List ℕ × Entry V)) (i : ℕ) → length x.values.items ≤ n → AreWithin n (map held es) → AreWithin n (map held (set_value_at es i x))
set_within n x [] i one all = all
set_within n x (e ∷ es) zero one all = All-cons (few n) (e.0, x.values.items) (map held es) one (All-tail (few n) (held e) (map held es) all)
set_within n x (e ∷ es) (suc i) one all = All-cons (few n) (held e) (map held (set_value_at es i x)) (All-head (few n) (held e) (map held es) all) (set_within n x es i one (All-tail (few n) (held e) (map held es) all))

-- the entry at a place is one of them
pub entry_within : {V : Type 0} (n : ℕ) (es : List (List ℕ × Entry V)) (i : ℕ) (k : List ℕ) (e : Entry V) → slice_get es i ≡ Some (k, e) → AreWithin n (map held es) → length e.values.items ≤ n
entry_within n es i k e there all =
    let held_there : slice_get (map held es) i ≡ Some (held (k, e)) = slice_get-map held es i ∙ ap (option_map held) there in
    subst (few n) (get_or_from_slice_get (map held es) i (held (k, e)) (held (k, e)) held_there) (all i (held (k, e)) (slice_get_within (map held es) i (held (k, e)) held_there))

pub set_count : {V : Type 0} (x : Entry V) (es : List (List ℕ × Entry V)) (i : ℕ) → length (set_value_at es i x) ≡ length es
set_count x [] i = refl
set_count x (e ∷ es) zero = refl
set_count x (e ∷ es) (suc i) = ap suc (set_count x es i)
