-- Reading octets from left to right (DDS-XTypes 1.3, 7.4): each step gives what it read and what is left of the region, or the first fault.
-- Regions, places and faults are this profile's own way to say how a reader goes over octets.
use Rattle.std.specs.Prelude.{ℕ, zero, suc, ◌+◌, List, [], ◌∷◌, cond, Result, Ok, Err, length, take, drop, min, nat_lt, ◌==◌}
use Rattle.xt_shapes.specs.declared.leaves.Order.{Order}
use Rattle.xcdr_model.specs.declared.malformed.Fault.{Fault}
use Rattle.xcdr_model.specs.declared.malformed.Why.{Why}
use Rattle.xcdr_model.specs.declared.malformed.Why.TheVariants.{Short, Dheader, LengthRest}
use Rattle.xcdr_model.specs.Numbers.{number, padding}

-- a place, counted from the origin of alignment, and the octets of the region from there on
pub record Spot : Type 0 where
  pub at : ℕ
  pub rest : List ℕ

abbrev pub Reading : Type 0 → Type 0
Reading A = Result (A × Spot) Fault

abbrev pub fault_at : {A : Type 0} → ℕ → Why → Result A Fault
fault_at at why = Err (record { at = at; why = why })

infixl 10 ◌>>=◌
unfoldable pub ◌>>=◌ : {A B : Type 0} → Result A Fault → (A → Result B Fault) → Result B Fault
(Ok x) >>= f = f x
(Err e) >>= f = Err e

-- n octets on
unfoldable pub step : ℕ → Spot → Spot
step n s = record { at = s.at + n; rest = drop n s.rest }

-- a number of k octets, aligned to k and at most to most
unfoldable pub number_at : ℕ → Order → ℕ → Spot → Reading ℕ
number_at most o k s = let pad = padding (min k most) s.at in
    cond (nat_lt (length s.rest) (pad + k)) (fault_at (s.at + min pad (length s.rest)) Short) (Ok (number o (take k (drop pad s.rest)), step (pad + k) s))

-- octets as they are
unfoldable pub octets_at : ℕ → Spot → Reading (List ℕ)
octets_at n s = cond (nat_lt (length s.rest) n) (fault_at s.at Short) (Ok (take n s.rest, step n s))

-- the n octets from here as a region of their own
abbrev pub front : ℕ → Spot → Spot
front n s = record { at = s.at; rest = take n s.rest }

-- a region of n octets; what is left of it is passed over
unfoldable pub passing : {A : Type 0} → ℕ → (Spot → Reading A) → Spot → Reading A
passing n f s = f (front n s) >>= λ x. Ok (x.0, step n s)

abbrev pub is_used_up : {A : Type 0} → A × Spot → Result A Fault
is_used_up x = cond (length x.1.rest == 0) (Ok x.0) (fault_at x.1.at LengthRest)

-- a region of n octets, which must be used up
unfoldable pub filling : {A : Type 0} → ℕ → (Spot → Reading A) → Spot → Reading A
filling n f s = f (front n s) >>= λ x. is_used_up x >>= λ y. Ok (y, step n s)

-- the count of a region's octets, which may not pass the region around it (7.4.3.4: the delimiter header, DHEADER)
unfoldable pub dheader : Order → Spot → Reading ℕ
dheader o s = number_at 4 o 4 s >>= λ n. cond (nat_lt (length n.1.rest) n.0) (fault_at (s.at + padding 4 s.at) Dheader) (Ok n)

-- one after another
unfoldable pub each_at : {A : Type 0} → ℕ → (Spot → Reading A) → Spot → Reading (List A)
each_at zero f s = Ok ([], s)
each_at (suc n) f s = f s >>= λ x. each_at n f x.1 >>= λ xs. Ok (x.0 ∷ xs.0, xs.1)
