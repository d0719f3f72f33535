-- The steps of reading, where octets enough are ahead.
use Rattle.std.proofs.Common.{◌≡◌, refl, ℕ, ◌+◌, ◌≤◌, min, true, ◌==◌, List, [], ◌∷◌, length, take, drop, Ok, arith}
use Rattle.std.proofs.lemmas.Bool.{le-ltb, eqb-true}
use Rattle.std.proofs.lemmas.List.{drop-drop}
use Rattle.xt_shapes.specs.declared.leaves.Order.{Order}
use Rattle.xcdr_model.specs.Numbers.{number, padding}
use Rattle.xcdr_model.specs.Reading.{Spot, number_at, octets_at, dheader, step, front, ◌>>=◌}
use Rattle.packed_reader.specs.Spots.{IsFront, IsRegion}

pub octets_ahead : (n : ℕ) (s : Spot) → n ≤ length s.rest → octets_at n s ≡ Ok (take n s.rest, record { at = s.at + n; rest = drop n s.rest })
unfolding octets_at step
octets_ahead n s fits = rw (le-ltb _ _ fits) refl

pub number_ahead : (m : ℕ) (o : Order) (k pad : ℕ) (s : Spot) → pad ≡ padding (min k m) s.at → pad + k ≤ length s.rest → number_at m o k s ≡ Ok (number o (take k (drop pad s.rest)), record { at = s.at + (pad + k); rest = drop k (drop pad s.rest) })
unfolding number_at step
number_ahead m o k pad s is fits = rw (← is, le-ltb (length s.rest) (pad + k) fits, drop-drop k pad s.rest) refl

pub front_ahead : (n : ℕ) (s : Spot) → n ≤ length s.rest → IsFront n s (record { at = s.at; rest = take n s.rest }) (record { at = s.at + n; rest = drop n s.rest })
unfolding step
front_ahead n s fits = record { fits = fits; inside_is = refl; after_is = refl }

pub region_is : (o : Order) (n : ℕ) (s t inside after : Spot) → number_at 4 o 4 s ≡ Ok (n, t) → IsFront n t inside after → IsRegion o s inside after
unfolding dheader ◌>>=◌
region_is o n s t inside after e front = record { count = n; spot = t; counted = rw (e, le-ltb (length t.rest) n front.fits) refl; front = front }

pub empty_is : (xs : List ℕ) → (length xs == 0) ≡ true → xs ≡ []
empty_is [] e = refl
empty_is (x ∷ xs) e =
    let none : length (x ∷ xs) ≡ 0 = eqb-true (length (x ∷ xs)) 0 e in
    absurd (omega arith)
