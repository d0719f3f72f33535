-- A value of the writer's structure as it is drawn (this profile's own).
use Rattle.std.specs.Prelude.{ℕ, zero, suc, ◌+◌, ◌==◌, pos, ◌-ℤ◌, if◌then◌else◌, List, [], ◌∷◌, ◌++◌}
use Rattle.xt_shapes.specs.Vals.{Val, int, text, listed, struct_of, vals_of, slots_of, Slot, absent, present}
use Rattle.xt_vectors.specs.declared.plans.Plan.{Plan}
use Rattle.xt_vectors.specs.declared.plans.Sort.{Sort}
use Rattle.xt_vectors.specs.declared.plans.Sort.TheVariants.{Long, Octet, Text, Shorts, Literals, Pair}
use Rattle.xt_vectors.specs.Draws.{next, drawn}

-- a number of 16 bits with its sign
unfoldable pub number_drawn : ℕ → Val
number_drawn s = int (pos (drawn 65536 s) -ℤ pos 32768)

-- a number from 0 to the last
unfoldable pub up_to : ℕ → ℕ → ℕ
up_to last s = drawn (last + 1) s

-- a small letter
unfoldable pub letter_drawn : ℕ → ℕ
letter_drawn s = 97 + drawn 26 s

abbrev pub letters_drawn : ℕ → ℕ → List ℕ × ℕ
letters_drawn zero s = ([], s)
letters_drawn (suc n) s = let x = letters_drawn n s in (x.0 ++ letter_drawn x.1 ∷ [], next x.1)

abbrev pub numbers_drawn : ℕ → ℕ → List Val × ℕ
numbers_drawn zero s = ([], s)
numbers_drawn (suc n) s = let x = numbers_drawn n s in (x.0 ++ number_drawn x.1 ∷ [], next x.1)

abbrev pub text_drawn : ℕ → ℕ → Val × ℕ
text_drawn bound s = let x = letters_drawn (up_to bound s) (next s) in (text x.0, x.1)

abbrev pub shorts_drawn : ℕ → ℕ → Val × ℕ
shorts_drawn bound s = let x = numbers_drawn (up_to bound s) (next s) in (listed (vals_of x.0), x.1)

abbrev pub pair_drawn : ℕ → Val × ℕ
pair_drawn s = (struct_of (slots_of (present (number_drawn s) ∷ present (number_drawn (next s)) ∷ [])), next (next s))

-- a value of what a member holds
unfoldable pub value_drawn : Sort → ℕ → Val × ℕ
value_drawn Long s = (number_drawn s, next s)
value_drawn Octet s = (int (pos (up_to 255 s)), next s)
value_drawn (Text bound) s = text_drawn bound s
value_drawn (Shorts bound) s = shorts_drawn bound s
value_drawn (Literals last) s = (int (pos (up_to last s)), next s)
value_drawn Pair s = pair_drawn s

abbrev pub present_drawn : Sort → ℕ → Slot × ℕ
present_drawn sort s = let v = value_drawn sort s in (present v.0, v.1)

-- an optional member may be absent, by one draw more
abbrev pub slot_as : Plan → ℕ → Slot × ℕ
slot_as p s = if drawn 2 s == 0 then (absent, next s) else present_drawn p.sort (next s)

unfoldable pub slot_drawn : Plan → ℕ → Slot × ℕ
slot_drawn p s = if p.optional then slot_as p s else present_drawn p.sort s

-- one after another, behind those that are there
abbrev pub slots_from : List Plan → List Slot × ℕ → List Slot × ℕ
slots_from [] x = x
slots_from (p ∷ ps) x = let y = slot_drawn p x.1 in slots_from ps (x.0 ++ y.0 ∷ [], y.1)

abbrev pub slots_drawn : List Plan → ℕ → List Slot × ℕ
slots_drawn ps s = slots_from ps ([], s)
