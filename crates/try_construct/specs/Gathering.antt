-- Parts of a collection, gathered as they come (DDS-XTypes 1.3, 7.2.2.7; the steps are own): what is kept so far, and what those still to
-- come make of it.
use Rattle.std.specs.Prelude.{ℕ, Bool, true, false, cond, nat_lt, ◌==◌, ◌||◌, List, [], ◌∷◌, ◌++◌, length, Option, Some, None}
use Rattle.xcdr_model.specs.Projection.{both}

-- what is kept, none where a part failed; whether more came than the bound; whether something that must be understood is unseen
pub record Gathered (A : Type 0) : Type 0 where
  pub kept : Option (List A)
  pub past : Bool
  pub unseen : Bool

abbrev pub none_yet : {A : Type 0} → Gathered A
none_yet = record { kept = Some []; past = false; unseen = false }

-- a collection keeps as many parts as its bound; a bound of 0 is none
abbrev pub has_room : ℕ → ℕ → Bool
has_room bound n = (bound == 0) || nat_lt n bound

abbrev pub one_more : {A : Type 0} → Option (List A) → Option A → Option (List A)
one_more xs x = both (λ ys y. ys ++ y ∷ []) xs x

abbrev pub added : {A : Type 0} → ℕ → Option (List A) → Bool → Bool → Option A → Gathered A
added bound None p u x = record { kept = None; past = p; unseen = u }
added bound (Some xs) p u x = cond (has_room bound (length xs)) (record { kept = one_more (Some xs) x; past = p; unseen = u }) (record { kept = Some xs; past = true; unseen = u })

-- a settled part more, and whether something in it is unseen
abbrev pub and_part : {A : Type 0} → ℕ → Gathered A → Option A → Bool → Gathered A
and_part bound g x v = added bound g.kept g.past (g.unseen || v) x

-- parts that are still to come, each with what it is settled to
abbrev pub and_parts : {A P : Type 0} → ℕ → (P → Option A) → (P → Bool) → Gathered A → List P → Gathered A
and_parts bound f u g [] = g
and_parts bound f u g (x ∷ xs) = and_parts bound f u (and_part bound g (f x) (u x)) xs
