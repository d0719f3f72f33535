-- What octets spell, from a place on: a fact of the place and the octets (DDS-XTypes 1.3, 7.4).
use Rattle.std.specs.Prelude.{◌≡◌, ℕ, ◌+◌, ◌^◌, ◌<◌, List, [], ◌∷◌, ◌++◌, length, min}
use Rattle.xt_shapes.specs.declared.leaves.Order.{Order}
use Rattle.xcdr_model.specs.Numbers.{octets, padding}

abbrev pub Spelled : Type 1
Spelled = ℕ → List ℕ → Type 0

abbrev pub Nothing : Spelled
Nothing p b = b ≡ []

-- a number of k octets behind its padding, whose octets may have any value
pub record IsNumber (most : ℕ) (o : Order) (k n p : ℕ) (b : List ℕ) : Type 0 where
  pub pad : List ℕ
  pub aligned : length pad ≡ padding (min k most) p
  pub fits : n < 256 ^ k
  pub parts : b ≡ pad ++ octets o k n

-- one after the other
pub record Then (P Q : ℕ → List ℕ → Type 0) (p : ℕ) (b : List ℕ) : Type 0 where
  pub left : List ℕ
  pub right : List ℕ
  pub parts : b ≡ left ++ right
  pub one : P p left
  pub two : Q (p + length left) right

-- behind the count of its octets
pub record Headed (o : Order) (P : ℕ → List ℕ → Type 0) (p : ℕ) (b : List ℕ) : Type 0 where
  pub head : List ℕ
  pub body : List ℕ
  pub parts : b ≡ head ++ body
  pub count : IsNumber 4 o 4 (length body) p head
  pub inside : P (p + length head) body

abbrev pub Each : {A : Type 0} → (A → ℕ → List ℕ → Type 0) → List A → ℕ → List ℕ → Type 0
Each P [] = Nothing
Each P (x ∷ xs) = Then (P x) (Each P xs)

-- octets as they are
abbrev pub Octets : List ℕ → Spelled
Octets t p b = b ≡ t
