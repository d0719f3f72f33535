-- A field that is spelled is read again, and a field that is read is spelled so.
use Rattle.std.proofs.Common.{◌≡◌, ℕ, zero, suc, ◌+◌, ◌*◌, ◌/◌, ◌%◌, ◌^◌, ◌<◌, ◌≤◌, Bool, true, false, cond, ltb, List, [], ◌∷◌, ◌++◌, length, get_or, take, drop, Result, Ok, Err, refl, sym, ap, subst, ◌∙◌, append_assoc, arith, inl, inr, pow-suc}
use Rattle.std.proofs.lemmas.Bool.{cases_lt, ltb-true, ltb-false, le-ltb, lt-ltb, eqb-true, eq-eqb}
use Rattle.std.proofs.lemmas.List.{take_at, drop_at, take-append-drop, length-append, length-take-le, length-take, get_or-drop, get_or-take, get_or_past, get_or-append-add}
use Rattle.object_formats.specs.declared.faults.ObjectRule.TheVariants as rules
use Rattle.object_formats.specs.declared.faults.Fault.{Fault}
use Rattle.object_formats.specs.Octets.{octets, number, zeros, padding}
use Rattle.object_formats.specs.Format.{Format, Spot, spot, ◌>>=◌, raw_at, past, raw, num}

abbrev pub IsOctets : List ℕ → Type 0
IsOctets bs = (i : ℕ) → get_or bs i 0 < 256

pub IsOctets-drop : (n : ℕ) (bs : List ℕ) → IsOctets bs → IsOctets (drop n bs)
IsOctets-drop n bs h i = rw get_or-drop (h (n + i))

pub IsOctets-take : (n : ℕ) (bs : List ℕ) → IsOctets bs → IsOctets (take n bs)
IsOctets-take n bs h i =
    elim (cases_lt i n) [
      | inl lt ↦ rw (get_or-take n bs i 0 lt) (h i)
      | inr le ↦ rw (get_or_past (take n bs) i 0 (omega (arith, length-take n bs))) (omega arith)
    ]

pub IsOctets-behind : (a b : List ℕ) → IsOctets (a ++ b) → IsOctets b
IsOctets-behind a b h i = subst (λ (n : ℕ). n < 256) (get_or-append-add a b i 0) (h (length a + i))

IsOctets-rest : (b : ℕ) (bs : List ℕ) → IsOctets (b ∷ bs) → IsOctets bs
IsOctets-rest b bs h i = h (suc i)

-- ---- steps

pub then_ok : {A B : Type 0} {r : Result A Fault} (f : A → Result B Fault) {x : A} {y : Result B Fault} → r ≡ Ok x → f x ≡ y → (r >>= f) ≡ y
then_ok f e d = rw e d

pub bind_ok : {A B : Type 0} (r : Result A Fault) (f : A → Result B Fault) (y : B) → (r >>= f) ≡ Ok y → (x : A) × (r ≡ Ok x) × (f x ≡ Ok y)
bind_ok (Ok x) f y e = (x, refl, e)
bind_ok (Err d) f y e = absurd cc

abbrev done : {A : Type 0} → A → Result A Fault
done x = Ok x

pub ok_is : {A : Type 0} (x y : A) → done x ≡ done y → x ≡ y
ok_is x y e = cc

-- a test that has to fail
pub short_ok : {A : Type 0} (b : Bool) (d : Fault) (x y : A) → cond b (Err d) (Ok x) ≡ Ok y → (b ≡ false) × (x ≡ y)
short_ok true d x y e = absurd cc
short_ok false d x y e = (refl, cc)

-- a test that has to hold
pub test_ok : {A : Type 0} (b : Bool) (d : Fault) (x y : A) → cond b (Ok x) (Err d) ≡ Ok y → (b ≡ true) × (x ≡ y)
test_ok true d x y e = (refl, cc)
test_ok false d x y e = absurd cc

-- what was taken from the front
pub record Took (s : Spot) (bs : List ℕ) (t : Spot) : Type 0 where
  pub parts : s.rest ≡ bs ++ t.rest
  pub place : t.at ≡ s.at + length bs

pub Took-then : (s : Spot) (a : List ℕ) (t : Spot) (b : List ℕ) (u : Spot) → Took s a t → Took t b u → Took s (a ++ b) u
Took-then s a t b u h k = record {
  parts = h.parts ∙ ap (λ (c : List ℕ). a ++ c) k.parts ∙ sym (append_assoc a b u.rest);
  place = omega (arith, h.place, k.place, length-append a b);
}

pub Took-octets : (s : Spot) (a : List ℕ) (t : Spot) → Took s a t → IsOctets s.rest → IsOctets t.rest
Took-octets s a t h fits = IsOctets-behind a t.rest (subst (λ (bs : List ℕ). IsOctets bs) h.parts fits)

-- ---- what it means that a format goes both ways

pub record Taken {A : Type 0} (f : Format A) (s : Spot) (x : A) (t : Spot) : Type 0 where
  pub good : f.good x ≡ true
  pub took : Took s (f.spell s.at x) t

pub record Lawful {A : Type 0} (f : Format A) : Type 0 where
  pub again : (x : A) (p : ℕ) (rest : List ℕ) → f.good x ≡ true → length (f.spell p x) < 2 ^ 32 → f.read (spot p (f.spell p x ++ rest)) ≡ Ok (x, spot (p + length (f.spell p x)) rest)
  pub taken : (s : Spot) (x : A) (t : Spot) → IsOctets s.rest → f.read s ≡ Ok (x, t) → Taken f s x t

-- ---- numbers

pub length-octets : (k n : ℕ) → length (octets k n) ≡ k
unfolding octets
length-octets zero n = refl
length-octets (suc k) n = ap (λ (m : ℕ). suc m) (length-octets k (n / 256))

pub length-zeros : (k : ℕ) → length (zeros k) ≡ k
unfolding zeros
length-zeros zero = refl
length-zeros (suc k) = ap (λ (m : ℕ). suc m) (length-zeros k)

pub number_again : (k n : ℕ) → n < 256 ^ k → number (octets k n) ≡ n
unfolding octets number
number_again zero n lt = omega arith
number_again (suc k) n lt =
    let below : n / 256 < 256 ^ k = omega (arith, pow-suc 256 k) in
    rw (number_again k (n / 256) below) (omega arith)

pub number_below : (bs : List ℕ) → IsOctets bs → number bs < 256 ^ length bs
unfolding number
number_below [] h = omega arith
number_below (b ∷ bs) h =
    let one : b < 256 = h 0 in
    omega (arith, pow-suc 256 (length bs), number_below bs (IsOctets-rest b bs h))

pub octets_back : (bs : List ℕ) → IsOctets bs → octets (length bs) (number bs) ≡ bs
unfolding octets number
octets_back [] h = refl
octets_back (b ∷ bs) h =
    let one : b < 256 = h 0 in
    let low : (b + 256 * number bs) % 256 ≡ b = omega arith in
    let high : (b + 256 * number bs) / 256 ≡ number bs = omega arith in
    rw (low, high, octets_back bs (IsOctets-rest b bs h)) refl

-- ---- raw octets

pub raw_again : (n : ℕ) (bs : List ℕ) (p : ℕ) (rest : List ℕ) → length bs ≡ n → raw_at n (spot p (bs ++ rest)) ≡ Ok (bs, spot (p + n) rest)
unfolding raw_at
raw_again n bs p rest len =
    let long : ltb (length (bs ++ rest)) n ≡ false = le-ltb _ _ (omega (arith, length-append bs rest)) in
    rw (long, take_at bs rest n len, drop_at bs rest n len) refl

pub raw_taken : (n : ℕ) (s : Spot) (bs : List ℕ) (t : Spot) → raw_at n s ≡ Ok (bs, t) → Took s bs t × (length bs ≡ n) × (bs ≡ take n s.rest)
unfolding raw_at
raw_taken n s bs t e =
    let g = short_ok (ltb (length s.rest) n) (record { at = s.at; rule = rules.Short }) (take n s.rest, spot (s.at + n) (drop n s.rest)) (bs, t) e in
    let long : n ≤ length s.rest = ltb-false _ _ g.0 in
    let len : length (take n s.rest) ≡ n = length-take-le n s.rest long in
    let is : (took : Took s (take n s.rest) (spot (s.at + n) (drop n s.rest))) × (length (take n s.rest) ≡ n) × (take n s.rest ≡ take n s.rest) =
    (record { parts = sym (take-append-drop n s.rest); place = ap (λ (m : ℕ). s.at + m) (sym len) }, len, refl) in
    subst (λ (x : List ℕ × Spot). Took s x.0 x.1 × (length x.0 ≡ n) × (x.0 ≡ take n s.rest)) g.1 is

pub lawful_raw : (n : ℕ) → Lawful (raw n)
unfolding raw
lawful_raw n = record {
  again = λ bs p rest good small. let len : length bs ≡ n = eqb-true _ _ good in raw_again n bs p rest len ∙ ap (λ (m : ℕ). Ok (bs, spot (p + m) rest)) (sym len);
  taken = λ s bs t fits e. let h = raw_taken n s bs t e in record { good = eq-eqb _ _ h.1; took = h.0 };
}

-- ---- padding

pub past_again : (n p : ℕ) (bs : List ℕ) → past n p (zeros n ++ bs) ≡ Ok (spot (p + n) bs)
unfolding past zeros
past_again zero p bs = ap (λ (m : ℕ). Ok (spot m bs)) (omega arith)
past_again (suc n) p bs = past_again n (p + 1) bs ∙ ap (λ (m : ℕ). Ok (spot m bs)) (omega arith)

pub past_taken : (n p : ℕ) (bs : List ℕ) (t : Spot) → past n p bs ≡ Ok t → Took (spot p bs) (zeros n) t
unfolding past zeros
past_taken zero p bs t e =
    let is : spot p bs ≡ t = ok_is (spot p bs) t e in
    subst (λ (u : Spot). Took (spot p bs) [] u) is (record { parts = refl; place = omega arith })
past_taken (suc n) p [] t e = absurd cc
past_taken (suc n) p (zero ∷ bs) t e =
    let h = past_taken n (p + 1) bs t e in
    record { parts = ap (λ (c : List ℕ). 0 ∷ c) h.parts; place = omega (arith, h.place) }
past_taken (suc n) p (suc b ∷ bs) t e = absurd cc

-- ---- aligned numbers

pub length-num : (a k p n : ℕ) → length ((num a k).spell p n) ≡ padding a p + k
unfolding num
length-num a k p n = omega (arith, length-append (zeros (padding a p)) (octets k n), length-zeros (padding a p), length-octets k n)

pub lawful_num : (a k : ℕ) → Lawful (num a k)
unfolding num
lawful_num a k = record {
  again = λ n p rest good small.
      let z = zeros (padding a p) in
      let len : length (z ++ octets k n) ≡ padding a p + k = omega (arith, length-append z (octets k n), length-zeros (padding a p), length-octets k n) in
      let one : past (padding a p) p ((z ++ octets k n) ++ rest) ≡ Ok (spot (p + padding a p) (octets k n ++ rest)) =
      ap (λ (c : List ℕ). past (padding a p) p c) (append_assoc z (octets k n) rest) ∙ past_again (padding a p) p (octets k n ++ rest) in
      let two : raw_at k (spot (p + padding a p) (octets k n ++ rest)) ≡ Ok (octets k n, spot (p + padding a p + k) rest) = raw_again k (octets k n) (p + padding a p) rest (length-octets k n) in
      let back : number (octets k n) ≡ n = number_again k n (ltb-true _ _ good) in
      then_ok _ one (then_ok _ two (ap (λ (m : ℕ). Ok (m, spot (p + padding a p + k) rest)) back ∙ ap (λ (m : ℕ). Ok (n, spot m rest)) (omega (arith, len))));
  taken = λ s n t fits e.
      let b = bind_ok (past (padding a s.at) s.at s.rest) (λ u. raw_at k u >>= λ bs. Ok (number bs.0, bs.1)) (n, t) e in
      let h = past_taken (padding a s.at) s.at s.rest b.0 b.1 in
      let d = bind_ok (raw_at k b.0) (λ bs. Ok (number bs.0, bs.1)) (n, t) b.2 in
      let r = raw_taken k b.0 d.0.0 d.0.1 d.1 in
      let bytes : IsOctets d.0.0 = subst (λ (c : List ℕ). IsOctets c) (sym r.2) (IsOctets-take k b.0.rest (Took-octets s (zeros (padding a s.at)) b.0 h fits)) in
      let both : Took s (zeros (padding a s.at) ++ d.0.0) d.0.1 = Took-then s (zeros (padding a s.at)) b.0 d.0.0 d.0.1 h r.0 in
      let back : d.0.0 ≡ octets k (number d.0.0) = sym (octets_back d.0.0 bytes) ∙ ap (λ (m : ℕ). octets m (number d.0.0)) r.1 in
      let below : number d.0.0 < 256 ^ k = subst (λ (m : ℕ). number d.0.0 < 256 ^ m) r.1 (number_below d.0.0 bytes) in
      let is : Taken (num a k) s (number d.0.0) d.0.1 = record { good = lt-ltb _ _ below; took = subst (λ (c : List ℕ). Took s (zeros (padding a s.at) ++ c) d.0.1) back both } in
      subst (λ (x : ℕ × Spot). Taken (num a k) s x.0 x.1) (ok_is (number d.0.0, d.0.1) (n, t) d.2) is;
}
