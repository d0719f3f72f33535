-- What is kept after several puts (this profile's own).
use Rattle.std.specs.Prelude.{◌≡◌, ℕ, ◌≤◌, []}
use Rattle.key_instances.specs.kept.Kept.{Puts, kept, all_put}

-- After any list of puts that were taken, what is kept is the last values of each key, in the order of the keys' first puts.
abbrev pub KeepsLast : Type 0
KeepsLast = (n : ℕ) (puts : Puts) → 1 ≤ n → all_put n [] puts ≡ kept n puts
