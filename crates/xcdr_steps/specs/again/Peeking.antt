-- The next octets before they are read (this profile's own).
use Rattle.std.specs.Prelude.{◌≡◌, ℕ, ◌+◌, ◌≤◌, max, List, take, Result, Ok, Err, IfSome}
use Rattle.xt_wire.specs.declared.cursor.cursor.CutFault.{CutFault}
use Rattle.xt_wire.specs.declared.cursor.cursor.CutFault.TheVariants.{Short, Fault}
use Rattle.xt_wire.specs.cursor.Standing.{Standing, Stayed, Stopped, IsShort, room}

-- b, but that it holds no more than a
abbrev pub unheld : Standing → Standing → Standing
unheld a b = record b { reach = max a.reach b.place }

-- b holds at most the next n octets, but for what a held
abbrev pub HoldsAtMost : ℕ → Standing → Standing → Type 0
HoldsAtMost n a b = b.reach ≤ max a.reach (b.place + n)

-- The next four octets are those ahead, and the cursor holds them where it did not before.
pub record Peeked (a b : Standing) (octets : List ℕ) : Type 0 where
  pub fits : 4 ≤ room a
  pub stayed : Stayed a (unheld a b)
  pub held : HoldsAtMost 4 a b
  pub told : IfSome a.ahead (λ xs. octets ≡ take 4 xs)

abbrev pub Peeks : Standing → Standing → Result (List ℕ) CutFault → Type 0
Peeks a b (Ok octets) = Peeked a b octets
Peeks a b (Err (Short said)) = IsShort 4 a.place a b said
Peeks a b (Err Fault) = (4 ≤ room a) × Stopped 4 a b
