-- How the reader's structure comes from the writer's (this profile's own).
use Rattle.std.specs.Prelude.{ℕ, ◌-◌, ◌==◌, nat_lt, false, if◌then◌else◌, List, [], ◌∷◌, ◌++◌, length, map, take}
use Rattle.xt_shapes.specs.declared.leaves.Try.{Try}
use Rattle.xt_shapes.specs.declared.leaves.Try.TheVariants.{Discard, UseDefault, Trim}
use Rattle.xt_vectors.specs.declared.plans.Plan.{Plan}
use Rattle.xt_vectors.specs.declared.plans.Sort.{Sort}
use Rattle.xt_vectors.specs.declared.plans.Sort.TheVariants.{Long, Octet, Text, Shorts, Literals, Pair}
use Rattle.xt_vectors.specs.declared.readers.Change.{Change}
use Rattle.xt_vectors.specs.declared.readers.Change.TheVariants.{Same, Shorter, Longer, Tighter, Fewer}
use Rattle.xt_vectors.specs.Draws.{next, drawn}

abbrev pub try_drawn : ℕ → Try
try_drawn s = if drawn 3 s == 0 then Discard else (if drawn 3 s == 1 then UseDefault else Trim)

-- by a number below 5
abbrev pub change_of : ℕ → ℕ → Change × ℕ
change_of f s =
    if f == 0 then (Same, s)
    else (if f == 1 then (Shorter, s)
    else (if f == 2 then (Longer, s)
    else (if f == 3 then (Tighter (try_drawn s), next s)
    else (Fewer, s))))

unfoldable pub change_drawn : ℕ → Change × ℕ
change_drawn s = change_of (drawn 5 s) (next s)

abbrev pub with_sort : Plan → Try → Sort → Plan
with_sort p tc sort = record { id = p.id; sort = sort; tc = tc; optional = p.optional; must_understand = p.must_understand }

-- a bound is less by 3
abbrev pub tighter_as : Try → Plan → Sort → Plan
tighter_as tc p (Text bound) = with_sort p tc (Text (bound - 3))
tighter_as tc p (Shorts bound) = with_sort p tc (Shorts (bound - 3))
tighter_as tc p Long = p
tighter_as tc p Octet = p
tighter_as tc p (Literals last) = p
tighter_as tc p Pair = p

abbrev pub tighter : Try → Plan → Plan
tighter tc p = tighter_as tc p p.sort

-- an enumeration loses its last literal
abbrev pub fewer_as : Plan → Sort → Plan
fewer_as p (Literals last) = with_sort p UseDefault (Literals (last - 1))
fewer_as p Long = p
fewer_as p Octet = p
fewer_as p (Text bound) = p
fewer_as p (Shorts bound) = p
fewer_as p Pair = p

abbrev pub fewer : Plan → Plan
fewer p = fewer_as p p.sort

abbrev pub changed : Change → Plan → Plan
changed (Tighter tc) p = tighter tc p
changed Fewer p = fewer p
changed Same p = p
changed Shorter p = p
changed Longer p = p

-- how many of so many members are kept: of two or more all but the last, where the structure gets shorter
abbrev pub shorter : ℕ → ℕ
shorter n = if nat_lt 1 n then n - 1 else n

abbrev pub kept : Change → ℕ → ℕ
kept Shorter n = shorter n
kept Same n = n
kept Longer n = n
kept (Tighter tc) n = n
kept Fewer n = n

-- a further member with the id
abbrev pub added : Change → ℕ → List Plan
added Longer id = (record { id = id; sort = Long; tc = Discard; optional = false; must_understand = false }) ∷ []
added Same id = []
added Shorter id = []
added (Tighter tc) id = []
added Fewer id = []

unfoldable pub reader_plans : Change → ℕ → List Plan → List Plan
reader_plans c id ps = map (changed c) (take (kept c (length ps)) ps) ++ added c id
