-- A step of a reading reads what a step of a spelling spells, whatever follows.
use Rattle.std.proofs.Common.{◌≡◌, ℕ, zero, suc, ◌+◌, ◌^◌, ◌/◌, ◌<◌, Bool, true, false, List, [], ◌∷◌, ◌++◌, map, length, drop, min, Result, Ok, refl, sym, ap, ◌∙◌, append_assoc, arith, ltb, pow-suc, add-zero}
use Rattle.std.proofs.lemmas.Bool.{le-ltb}
use Rattle.std.proofs.lemmas.List.{take_at, drop_at, length-append, length-reverse, append-nil, reverse-reverse}
use Rattle.xt_shapes.specs.declared.leaves.Order.{Order}
use Rattle.xt_shapes.specs.declared.leaves.Order.TheVariants.{Big, Little}
use Rattle.xcdr_model.specs.declared.malformed.Fault.{Fault}
use Rattle.xcdr_model.specs.Numbers.{low_octets, low_number, octets, number, padding}
use Rattle.xcdr_model.specs.Reading.{Spot, Reading, ◌>>=◌, step, number_at, octets_at, front, passing, filling, dheader, each_at}
use Rattle.xcdr_model.specs.Spelling.{IsNumber, Then, Headed, Each, Octets}
use Rattle.xcdr_model.specs.Xcdr2Reading.{done, collection_at, counted_at}
use Rattle.xcdr_model.specs.Xcdr2Spelling.{Collection, Counted}

abbrev pub spot : ℕ → List ℕ → Spot
spot p b = record { at = p; rest = b }

-- f reads x from what P spells, whatever follows
abbrev pub Reads : {A : Type 0} → (Spot → Reading A) → (ℕ → List ℕ → Type 0) → A → Type 0
Reads f P x = (p : ℕ) (b rest : List ℕ) → P p b → f (spot p (b ++ rest)) ≡ Ok (x, spot (p + length b) rest)

pub then_ok : {A B : Type 0} {r : Result A Fault} (f : A → Result B Fault) {x : A} {y : Result B Fault} → r ≡ Ok x → f x ≡ y → (r >>= f) ≡ y
unfolding ◌>>=◌
then_ok f e d = rw e d

pub cong-+ : {a b c d : ℕ} → a ≡ b → c ≡ d → a + c ≡ b + d
cong-+ e f = cc

-- ---- numbers

length-low_octets : (k n : ℕ) → length (low_octets k n) ≡ k
length-low_octets zero n = refl
length-low_octets (suc k) n = ap (λ (m : ℕ). suc m) (length-low_octets k (n / 256))

pub length-octets : (o : Order) (k n : ℕ) → length (octets o k n) ≡ k
unfolding octets
length-octets Little k n = length-low_octets k n
length-octets Big k n = length-reverse (low_octets k n) ∙ length-low_octets k n

low_again : (k n : ℕ) → n < 256 ^ k → low_number (low_octets k n) ≡ n
low_again zero n lt = omega arith
low_again (suc k) n lt =
    let below : n / 256 < 256 ^ k = omega (arith, pow-suc 256 k) in
    rw (low_again k (n / 256) below) (omega arith)

pub number_again : (o : Order) (k n : ℕ) → n < 256 ^ k → number o (octets o k n) ≡ n
unfolding octets number
number_again Little k n lt = low_again k n lt
number_again Big k n lt = ap low_number (reverse-reverse (low_octets k n)) ∙ low_again k n lt

pub step_is : (a b : List ℕ) (n p : ℕ) → length a ≡ n → step n (spot p (a ++ b)) ≡ spot (p + n) b
unfolding step
step_is a b n p e = ap (λ (r : List ℕ). spot (p + n) r) (drop_at a b n e)

pub reads_number : (most : ℕ) (o : Order) (k n : ℕ) → Reads (number_at most o k) (IsNumber most o k n) n
unfolding number_at
reads_number most o k n p b rest h =
    let len : length (h.pad ++ octets o k n) ≡ padding (min k most) p + k = length-append h.pad (octets o k n) ∙ cong-+ h.aligned (length-octets o k n) in
    let shape : b ++ rest ≡ h.pad ++ (octets o k n ++ rest) = rw h.parts (append_assoc h.pad (octets o k n) rest) in
    let len-b : length b ≡ padding (min k most) p + k = ap length h.parts ∙ len in
    let long : ltb (length (b ++ rest)) (padding (min k most) p + k) ≡ false = le-ltb _ _ (omega (arith, length-append b rest)) in
    let inner : drop (padding (min k most) p) (b ++ rest) ≡ octets o k n ++ rest = ap (drop (padding (min k most) p)) shape ∙ drop_at h.pad (octets o k n ++ rest) (padding (min k most) p) h.aligned in
    rw (long, inner, take_at (octets o k n) rest k (length-octets o k n), number_again o k n h.fits, step_is b rest (padding (min k most) p + k) p len-b, len-b) refl

-- ---- one after the other

pub at_one : {A : Type 0} (f : Spot → Reading A) (P Q : ℕ → List ℕ → Type 0) (x : A) → Reads f P x → (p : ℕ) (b rest : List ℕ) (h : Then P Q p b) → f (spot p (b ++ rest)) ≡ Ok (x, spot (p + length h.left) (h.right ++ rest))
at_one f P Q x r p b rest h = ap (λ (c : List ℕ). f (spot p c)) (ap (λ (c : List ℕ). c ++ rest) h.parts ∙ append_assoc h.left h.right rest) ∙ r p h.left (h.right ++ rest) h.one

pub at_two : {A : Type 0} (f : Spot → Reading A) (P Q : ℕ → List ℕ → Type 0) (x : A) → Reads f Q x → (p : ℕ) (b rest : List ℕ) (h : Then P Q p b) → f (spot (p + length h.left) (h.right ++ rest)) ≡ Ok (x, spot (p + length b) rest)
at_two f P Q x r p b rest h =
    let e : p + length h.left + length h.right ≡ p + length b = omega (arith, ap length h.parts ∙ length-append h.left h.right) in
    r (p + length h.left) h.right rest h.two ∙ ap (λ (n : ℕ). Ok (x, spot n rest)) e

pub reads_octets : (t : List ℕ) → Reads (octets_at (length t)) (Octets t) t
unfolding octets_at
reads_octets t p b rest h =
    let long : ltb (length (t ++ rest)) (length t) ≡ false = le-ltb _ _ (omega (arith, length-append t rest)) in
    rw (h, long, take_at t rest (length t) refl, step_is t rest (length t) p refl) refl

pub reads_each : {A B : Type 0} (f : Spot → Reading B) (P : A → ℕ → List ℕ → Type 0) (g : A → B) (xs : List A) → ((x : A) → Reads f (P x) (g x)) → Reads (each_at (length xs) f) (Each P xs) (map g xs)
unfolding each_at
reads_each f P g [] r p b rest h = rw h (ap (λ (n : ℕ). Ok ([], spot n rest)) (sym (add-zero p)))
reads_each f P g (x ∷ xs) r p b rest h =
    then_ok _ (at_one f (P x) (Each P xs) (g x) (r x) p b rest h) (
    then_ok _ (at_two (each_at (length xs) f) (P x) (Each P xs) (map g xs) (reads_each f P g xs r) p b rest h) refl)

pub reads_done : {A B : Type 0} (g : A → B) (f : Spot → Reading A) (P : ℕ → List ℕ → Type 0) (x : A) → Reads f P x → Reads (λ s. done g (f s)) P (g x)
reads_done g f P x r p b rest h = then_ok _ (r p b rest h) refl

-- ---- regions

pub front_is : (body rest : List ℕ) (q : ℕ) → front (length body) (spot q (body ++ rest)) ≡ spot q body
front_is body rest q = ap (spot q) (take_at body rest (length body) refl)

pub header_of : (o : Order) (P : ℕ → List ℕ → Type 0) (p : ℕ) (b rest : List ℕ) (h : Headed o P p b) → dheader o (spot p (b ++ rest)) ≡ Ok (length h.body, spot (p + length h.head) (h.body ++ rest))
unfolding dheader
header_of o P p b rest h =
    let e : b ++ rest ≡ h.head ++ (h.body ++ rest) = ap (λ (c : List ℕ). c ++ rest) h.parts ∙ append_assoc h.head h.body rest in
    let long : ltb (length (h.body ++ rest)) (length h.body) ≡ false = le-ltb _ _ (omega (arith, length-append h.body rest)) in
    then_ok _ (ap (λ (c : List ℕ). number_at 4 o 4 (spot p c)) e ∙ reads_number 4 o 4 (length h.body) p h.head (h.body ++ rest) h.count) (rw long refl)

pub past_region : (o : Order) (P : ℕ → List ℕ → Type 0) (p : ℕ) (b rest : List ℕ) (h : Headed o P p b) → p + length h.head + length h.body ≡ p + length b
past_region o P p b rest h = omega (arith, ap length h.parts ∙ length-append h.head h.body)

pub is_filled : {A : Type 0} (f : Spot → Reading A) (x : A) (q : ℕ) (body rest : List ℕ) (e : ℕ) → f (spot q body) ≡ Ok (x, spot e []) → filling (length body) f (spot q (body ++ rest)) ≡ Ok (x, spot (q + length body) rest)
unfolding filling
is_filled f x q body rest e r =
    then_ok _ (ap f (front_is body rest q) ∙ r) (then_ok _ refl (ap (λ (s : Spot). Ok (x, s)) (step_is body rest (length body) q refl)))

pub is_passed : {A : Type 0} (f : Spot → Reading A) (x : A) (q : ℕ) (body rest : List ℕ) (s : Spot) → f (spot q body) ≡ Ok (x, s) → passing (length body) f (spot q (body ++ rest)) ≡ Ok (x, spot (q + length body) rest)
unfolding passing
is_passed f x q body rest s r =
    then_ok _ (ap f (front_is body rest q) ∙ r) (ap (λ (s : Spot). Ok (x, s)) (step_is body rest (length body) q refl))

-- what is read whatever follows is read where nothing follows
pub at_end : {A : Type 0} (f : Spot → Reading A) (P : ℕ → List ℕ → Type 0) (x : A) → Reads f P x → (p : ℕ) (b : List ℕ) → P p b → f (spot p b) ≡ Ok (x, spot (p + length b) [])
at_end f P x r p b h = ap (λ (c : List ℕ). f (spot p c)) (sym (append-nil b)) ∙ r p b [] h

pub reads_collection : {A : Type 0} (plain : Bool) (o : Order) (f : Spot → Reading A) (P : ℕ → List ℕ → Type 0) (x : A) → Reads f P x → Reads (collection_at plain o f) (Collection plain o P) x
unfolding collection_at
reads_collection true o f P x r p b rest h = r p b rest h
reads_collection false o f P x r p b rest h =
    then_ok _ (header_of o P p b rest h) (
    is_filled f x (p + length h.head) h.body rest _ (at_end f P x r (p + length h.head) h.body h.inside) ∙ ap (λ (n : ℕ). Ok (x, spot n rest)) (past_region o P p b rest h))

pub reads_counted : {A B : Type 0} (o : Order) (f : Spot → Reading B) (P : A → ℕ → List ℕ → Type 0) (g : A → B) (xs : List A) → ((x : A) → Reads f (P x) (g x)) → Reads (counted_at o f) (Counted o P xs) (map g xs)
unfolding counted_at
reads_counted o f P g xs r p b rest h =
    let N = IsNumber 4 o 4 (length xs) in
    then_ok _ (at_one (number_at 4 o 4) N (Each P xs) (length xs) (reads_number 4 o 4 (length xs)) p b rest h)
    (at_two (each_at (length xs) f) N (Each P xs) (map g xs) (reads_each f P g xs r) p b rest h)

-- two in a row, together
pub reads_both : {A B : Type 0} (f : Spot → Reading A) (g : Spot → Reading B) (P Q : ℕ → List ℕ → Type 0) (x : A) (y : B) → Reads f P x → Reads g Q y → Reads {A = A × B} (λ s. f s >>= λ a. g a.1 >>= λ c. Ok ((a.0, c.0), c.1)) (Then P Q) (x, y)
reads_both f g P Q x y r q p b rest h =
    then_ok _ (at_one f P Q x r p b rest h) (then_ok _ (at_two g P Q y q p b rest h) refl)

-- a first part where nothing follows the whole
pub one_at_end : {A : Type 0} (f : Spot → Reading A) (P Q : ℕ → List ℕ → Type 0) (x : A) → Reads f P x → (p : ℕ) (b : List ℕ) (h : Then P Q p b) → f (spot p b) ≡ Ok (x, spot (p + length h.left) h.right)
one_at_end f P Q x r p b h = ap (λ (c : List ℕ). f (spot p c)) (sym (append-nil b)) ∙ at_one f P Q x r p b [] h ∙ ap (λ (c : List ℕ). Ok (x, spot (p + length h.left) c)) (append-nil h.right)
