-- Where the longest key ends, as far as a hash is long (DDS-XTypes 1.3, 7.6.8).
use Rattle.std.specs.Prelude.{ℕ, Bool, true, false, List, Option, Some, None, min}
use Rattle.xt_shapes.specs.Shape.{Shape}
use Rattle.xcdr_model.specs.KeyOctets.{after, repeated, headed, end_of, end_of_members, members_from}
use Rattle.xcdr_model.specs.Xcdr2Reading.{is_primitive}

-- a place, or 17 where it is past a hash
abbrev pub past : Option ℕ → ℕ
past None = 17
past (Some p) = min p 17

-- so many of the longest values
abbrev pub items_end : Shape → ℕ → ℕ → Option ℕ
items_end t n p = repeated n (λ q. end_of t q) p

abbrev pub behind_count : Bool → ℕ → ℕ
behind_count true p = after 4 p
behind_count false p = p

abbrev pub collection_end : Shape → Bool → ℕ → ℕ → Option ℕ
collection_end t counted n p = items_end t n (behind_count counted (headed (is_primitive t) p))

-- parts one after another
abbrev pub ends : List (ℕ × Shape) → ℕ → Option ℕ
ends xs p = end_of_members (members_from xs) p
