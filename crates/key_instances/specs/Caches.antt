-- What contracts see of a cache (this profile's own).
use Rattle.std.specs.Prelude.{◌≤◌, ℕ, zero, suc, List, [], ◌∷◌, ◌++◌, length, map, All, Option, slice_get}
use Rattle.std.specs.Option.{option_map, option_and_then}
use Rattle.key_instances.specs.kept.Kept.{InstancesOf, last}

-- how many values are kept of a key, how many keys there may be, and the keys with their values
pub record CacheOf (V : Type 0) : Type 0 where
  pub depth : ℕ
  pub most : ℕ
  pub entries : List (List ℕ × List V)

-- none of these keys has more values
abbrev pub AreWithin : {V : Type 0} → ℕ → InstancesOf V → Type 0
AreWithin n es = All (λ e. length e.1 ≤ n) es

-- what holds of every cache
pub record IsCache {V : Type 0} (c : CacheOf V) : Type 0 where
  pub some : 1 ≤ c.depth
  pub shallow : c.depth ≤ 1024
  pub few : length c.entries ≤ c.most
  pub most : c.most ≤ 65536
  pub within : AreWithin c.depth c.entries

abbrev pub key_of : {V : Type 0} → InstancesOf V → ℕ → Option (List ℕ)
key_of es i = option_map (λ e. e.0) (slice_get es i)

abbrev pub count_of : {V : Type 0} → InstancesOf V → ℕ → Option ℕ
count_of es i = option_map (λ e. length e.1) (slice_get es i)

abbrev pub value_of : {V : Type 0} → InstancesOf V → ℕ → ℕ → Option V
value_of es i j = option_and_then (λ e. slice_get e.1 j) (slice_get es i)

-- one value more of the key at this place, of which the last n stay
abbrev pub again_at : {V : Type 0} → ℕ → InstancesOf V → ℕ → V → InstancesOf V
again_at n [] i v = []
again_at n (e ∷ es) zero v = (e.0, last n (e.1 ++ v ∷ [])) ∷ es
again_at n (e ∷ es) (suc i) v = e ∷ again_at n es i v

-- ---- what the values stand for

-- a key with what each of its values stands for
abbrev pub entry_as : {V W : Type 0} → (V → W) → List ℕ × List V → List ℕ × List W
entry_as f e = (e.0, map f e.1)

abbrev pub entries_as : {V W : Type 0} → (V → W) → InstancesOf V → InstancesOf W
entries_as f es = map (entry_as f) es
