-- Numbers of few octets, and padding step by step.
use Rattle.std.proofs.Common.{◌≡◌, ℕ, zero, suc, ◌+◌, ◌*◌, ◌<◌, List, [], ◌∷◌, length, get_or, Ok, refl, ap, ◌∙◌, arith}
use Rattle.object_formats.specs.declared.faults.ObjectRule.TheVariants as rules
use Rattle.byteorder.specs.Endian.{little_number}
use Rattle.object_formats.specs.Octets.{number}
use Rattle.object_formats.specs.Format.{past, fault, spot}

pub number_of_one : (bs : List ℕ) → length bs ≡ 1 → number bs ≡ get_or bs 0 0
unfolding number
number_of_one [] e = absurd (omega arith)
number_of_one (a ∷ []) e = omega arith
number_of_one (a ∷ b ∷ bs) e = absurd (omega arith)

number_pair : (bs : List ℕ) → length bs ≡ 2 → number bs ≡ get_or bs 0 0 + 256 * get_or bs 1 0
unfolding number
number_pair [] e = absurd (omega arith)
number_pair (a ∷ bs) e = let one : number bs ≡ get_or bs 0 0 = number_of_one bs (omega arith) in omega arith

number_of_three : (bs : List ℕ) → length bs ≡ 3 → number bs ≡ get_or bs 0 0 + 256 * (get_or bs 1 0 + 256 * get_or bs 2 0)
unfolding number
number_of_three [] e = absurd (omega arith)
number_of_three (a ∷ bs) e = let two : number bs ≡ get_or bs 0 0 + 256 * get_or bs 1 0 = number_pair bs (omega arith) in omega arith

number_of_four_octets : (bs : List ℕ) → length bs ≡ 4 → number bs ≡ get_or bs 0 0 + 256 * (get_or bs 1 0 + 256 * (get_or bs 2 0 + 256 * get_or bs 3 0))
unfolding number
number_of_four_octets [] e = absurd (omega arith)
number_of_four_octets (a ∷ bs) e = let three : number bs ≡ get_or bs 0 0 + 256 * (get_or bs 1 0 + 256 * get_or bs 2 0) = number_of_three bs (omega arith) in omega arith

pub number_of_two : (bs : List ℕ) → length bs ≡ 2 → little_number 2 bs ≡ number bs
number_of_two bs e = omega (arith, number_pair bs e)

pub number_of_four : (bs : List ℕ) → length bs ≡ 4 → little_number 4 bs ≡ number bs
number_of_four bs e = omega (arith, number_of_four_octets bs e)

pub past_done : (n p : ℕ) (bs : List ℕ) → n ≡ 0 → past n p bs ≡ Ok (spot p bs)
unfolding past
past_done zero p bs e = refl
past_done (suc n) p bs e = absurd (omega arith)

pub past_end : (n p : ℕ) (bs : List ℕ) → length bs ≡ 0 → 0 < n → past n p bs ≡ fault p rules.Short
unfolding past
past_end zero p bs e h = absurd (omega arith)
past_end (suc n) p [] e h = refl
past_end (suc n) p (b ∷ bs) e h = absurd (omega arith)

pub past_zero : (n m p : ℕ) (bs : List ℕ) (b : ℕ) (rest : List ℕ) → bs ≡ b ∷ rest → b ≡ 0 → n ≡ suc m → past n p bs ≡ past m (p + 1) rest
unfolding past
past_zero n m p bs b rest e f g = ap (λ (k : ℕ). past k p bs) g ∙ ap (past (suc m) p) (e ∙ ap (λ (c : ℕ). c ∷ rest) f)

pub past_other : (n p : ℕ) (bs : List ℕ) (b : ℕ) (rest : List ℕ) → bs ≡ b ∷ rest → (b ≡ 0 → ⊥) → 0 < n → past n p bs ≡ fault p rules.Padding
unfolding past
past_other zero p bs b rest e f h = absurd (omega arith)
past_other (suc n) p bs zero rest e f h = absurd (f refl)
past_other (suc n) p bs (suc b) rest e f h = ap (past (suc n) p) e
