-- Numbers drawn one after another from a state (this profile's own).
use Rattle.std.specs.Prelude.{ℕ, ◌+◌, ◌*◌, ◌/◌, ◌%◌, ◌^◌}

-- the state behind a state
unfoldable pub next : ℕ → ℕ
next s = (s * 6364136223846793005 + 1442695040888963407) % 2 ^ 64

-- the number below m that is drawn at a state
unfoldable pub drawn : ℕ → ℕ → ℕ
drawn m s = next s / 2 ^ 33 % m
