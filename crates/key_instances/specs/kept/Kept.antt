-- Instances: for each key its last values (this profile's own). A put is the octets of a key, and a value.
use Rattle.std.specs.Prelude.{ℕ, ◌-◌, Bool, true, false, List, [], ◌∷◌, ◌++◌, map, length, drop, nat_le, if◌then◌else◌}
use Rattle.std.specs.List.{list_any}
use Rattle.std.specs.Str.{bytes_eq}
use Rattle.xt_shapes.specs.Vals.{Val}

-- puts of any kind of values
abbrev pub PutsOf : Type 0 → Type 0
PutsOf V = List (List ℕ × V)

abbrev pub Puts : Type 0
Puts = PutsOf Val

-- the keys in the order of their first puts, each with its values in order
abbrev pub InstancesOf : Type 0 → Type 0
InstancesOf V = List (List ℕ × List V)

abbrev pub Instances : Type 0
Instances = InstancesOf Val

-- the last n
abbrev pub last : {V : Type 0} → ℕ → List V → List V
last n vs = drop (length vs - n) vs

-- ---- what is kept of all puts

abbrev pub is_among : List ℕ → List (List ℕ) → Bool
is_among key keys = list_any (λ other. bytes_eq other key) keys

-- the keys that are not among those before, each at its first put
abbrev pub keys_of : {V : Type 0} → List (List ℕ) → PutsOf V → List (List ℕ)
keys_of before [] = []
keys_of before (p ∷ ps) = if is_among p.0 before then keys_of before ps else p.0 ∷ keys_of (p.0 ∷ before) ps

-- the values that were put under a key, in order
abbrev pub values_of : {V : Type 0} → List ℕ → PutsOf V → List V
values_of key [] = []
values_of key (p ∷ ps) = if bytes_eq p.0 key then p.1 ∷ values_of key ps else values_of key ps

-- For each key, in the order of its first put, its last n values in order.
abbrev pub kept : {V : Type 0} → ℕ → PutsOf V → InstancesOf V
kept n puts = map (λ key. (key, last n (values_of key puts))) (keys_of [] puts)

-- ---- one put after another

-- A value under a key: the last n of the key's values stay. A new key goes last.
abbrev pub put : {V : Type 0} → ℕ → InstancesOf V → List ℕ → V → InstancesOf V
put n [] key v = (key, v ∷ []) ∷ []
put n (e ∷ es) key v = if bytes_eq e.0 key then (e.0, last n (e.1 ++ v ∷ [])) ∷ es else e ∷ put n es key v

abbrev pub all_put : {V : Type 0} → ℕ → InstancesOf V → PutsOf V → InstancesOf V
all_put n es [] = es
all_put n es (p ∷ ps) = all_put n (put n es p.0 p.1) ps

abbrev pub has_key : {V : Type 0} → List ℕ → InstancesOf V → Bool
has_key key [] = false
has_key key (e ∷ es) = if bytes_eq e.0 key then true else has_key key es

-- A put is refused exactly where its key isn't there and as many keys are as may be.
abbrev pub is_full : {V : Type 0} → ℕ → InstancesOf V → List ℕ → Bool
is_full most es key = if has_key key es then false else nat_le most (length es)
