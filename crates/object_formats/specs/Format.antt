-- Formats: what is spelled and what is read, said once (this profile's own).
use Rattle.std.specs.Prelude.{ℕ, zero, suc, ◌+◌, ◌^◌, List, [], ◌∷◌, ◌++◌, Bool, true, false, cond, not, ◌&&◌, ◌||◌, Option, Some, None, Result, Ok, Err, length, take, drop, nat_lt, nat_le, ◌==◌}
use Rattle.object_formats.specs.declared.faults.ObjectRule.{ObjectRule}
use Rattle.object_formats.specs.declared.faults.ObjectRule.TheVariants.{Short, Padding, Delimiter, Text}
use Rattle.object_formats.specs.declared.faults.Fault.{Fault}
use Rattle.object_formats.specs.Octets.{octets, number, zeros, padding}

-- a place, counted from the text's first octet, and the octets of the region from there on
pub record Spot : Type 0 where
  pub at : ℕ
  pub rest : List ℕ

abbrev pub spot : ℕ → List ℕ → Spot
spot p bs = record { at = p; rest = bs }

abbrev pub fault : {A : Type 0} → ℕ → ObjectRule → Result A Fault
fault at rule = Err (record { at = at; rule = rule })

infixl 10 ◌>>=◌
abbrev pub ◌>>=◌ : {A B : Type 0} → Result A Fault → (A → Result B Fault) → Result B Fault
(Ok x) >>= f = f x
(Err e) >>= f = Err e

-- A format reads a value and leaves what follows it, or tells the first fault. It spells a value at a place, and holds the good values.
pub record Format (A : Type 0) : Type 0 where
  pub read : Spot → Result (A × Spot) Fault
  pub spell : ℕ → A → List ℕ
  pub good : A → Bool

-- ---- fields

abbrev pub is_short : List ℕ → ℕ → Bool
is_short bs n = nat_lt (length bs) n

-- octets as they are
unfoldable pub raw_at : ℕ → Spot → Result (List ℕ × Spot) Fault
raw_at n s = cond (is_short s.rest n) (fault s.at Short) (Ok (take n s.rest, spot (s.at + n) (drop n s.rest)))

-- past n octets of padding
unfoldable pub past : ℕ → ℕ → List ℕ → Result Spot Fault
past zero p bs = Ok (spot p bs)
past (suc n) p [] = fault p Short
past (suc n) p (zero ∷ bs) = past n (p + 1) bs
past (suc n) p (suc b ∷ bs) = fault p Padding

abbrev pub passed : Result Spot Fault → Result (Unit {0} × Spot) Fault
passed r = r >>= λ t. Ok (tt, t)

-- the place of a field of k octets
unfoldable pub aligned : ℕ → ℕ → ℕ
aligned k p = p + padding k p

unfoldable pub raw : ℕ → Format (List ℕ)
raw n = record {
  read = raw_at n;
  spell = λ p bs. bs;
  good = λ bs. length bs == n;
}

-- a number of k octets, aligned to a
unfoldable pub num : ℕ → ℕ → Format ℕ
num a k = record {
  read = λ s. past (padding a s.at) s.at s.rest >>= λ t. raw_at k t >>= λ bs. Ok (number bs.0, bs.1);
  spell = λ p n. zeros (padding a p) ++ octets k n;
  good = λ n. nat_lt n (256 ^ k);
}

abbrev pub has_nul : List ℕ → Bool
has_nul [] = false
has_nul (zero ∷ bs) = true
has_nul (suc b ∷ bs) = has_nul bs

abbrev pub led_by : ℕ → Option (List ℕ) → Option (List ℕ)
led_by a None = None
led_by a (Some t) = Some (a ∷ t)

-- octets without NUL and a NUL
unfoldable pub ended : List ℕ → Option (List ℕ)
ended [] = None
ended (zero ∷ []) = Some []
ended (zero ∷ b ∷ bs) = None
ended (suc a ∷ bs) = led_by (suc a) (ended bs)

abbrev pub told : ℕ → Spot → Option (List ℕ) → Result (List ℕ × Spot) Fault
told p t None = fault p Text
told p t (Some x) = Ok (x, t)

-- a text of at most 255 octets, by its count with the NUL
unfoldable pub text : Format (List ℕ)
text = record {
  read = λ s. (num 4 4).read s >>= λ n. cond ((n.0 == 0) || nat_lt 256 n.0) (fault (aligned 4 s.at) Text) (raw_at n.0 n.1 >>= λ bs. told (aligned 4 s.at) bs.1 (ended bs.0));
  spell = λ p t. (num 4 4).spell p (length t + 1) ++ (t ++ 0 ∷ []);
  good = λ t. nat_le (length t) 255 && not (has_nul t);
}

-- ---- formats of formats

abbrev pub nothing : Format (Unit {0})
nothing = record { read = λ s. Ok (tt, s); spell = λ p u. []; good = λ u. true }

abbrev pub both : {A B : Type 0} → Format A → Format B → Format (A × B)
both f g = record {
  read = λ s. f.read s >>= λ x. g.read x.1 >>= λ y. Ok ((x.0, y.0), y.1);
  spell = λ p z. f.spell p z.0 ++ g.spell (p + length (f.spell p z.0)) z.1;
  good = λ z. f.good z.0 && g.good z.1;
}

-- a field that holds no choice, before another, and behind another
abbrev pub before : {A : Type 0} → Format (Unit {0}) → Format A → Format A
before u f = record {
  read = λ s. u.read s >>= λ x. f.read x.1;
  spell = λ p y. u.spell p tt ++ f.spell (p + length (u.spell p tt)) y;
  good = λ y. u.good tt && f.good y;
}

abbrev pub behind : {A : Type 0} → Format A → Format (Unit {0}) → Format A
behind f u = record {
  read = λ s. f.read s >>= λ x. u.read x.1 >>= λ y. Ok (x.0, y.1);
  spell = λ p x. f.spell p x ++ u.spell (p + length (f.spell p x)) tt;
  good = λ x. f.good x && u.good tt;
}

-- only the values that pass; the rule stands at a place that is told from the place before
abbrev pub only : {A : Type 0} → (ℕ → ℕ) → ObjectRule → (A → Bool) → Format A → Format A
only place rule test f = record {
  read = λ s. f.read s >>= λ x. cond (test x.0) (Ok x) (fault (place s.at) rule);
  spell = f.spell;
  good = λ x. f.good x && test x;
}

-- what a format holds, as part of a greater type
abbrev pub in_part : {B : Type 0} → (B → Bool) → Option B → Bool
in_part good None = false
in_part good (Some b) = good b

abbrev pub spelled_part : {B : Type 0} → (B → List ℕ) → Option B → List ℕ
spelled_part spell None = []
spelled_part spell (Some b) = spell b

abbrev pub part : {A B : Type 0} → (B → A) → (A → Option B) → Format B → Format A
part make take_out f = record {
  read = λ s. f.read s >>= λ x. Ok (make x.0, x.1);
  spell = λ p a. spelled_part (f.spell p) (take_out a);
  good = λ a. in_part f.good (take_out a);
}

-- a tag of one octet says how to read on; an octet that is no tag breaks the rule
abbrev pub chosen : {A T : Type 0} → ObjectRule → ℕ → (T → Format A) → Option T → Spot → Result (A × Spot) Fault
chosen rule p branch None s = fault p rule
chosen rule p branch (Some t) s = (branch t).read s

abbrev pub tagged : {A T : Type 0} → ObjectRule → (ℕ → Option T) → (T → ℕ) → (A → T) → (T → Format A) → Format A
tagged rule tag_of octet_of tag branch = record {
  read = λ s. (num 1 1).read s >>= λ n. chosen rule s.at branch (tag_of n.0) n.1;
  spell = λ p a. octet_of (tag a) ∷ (branch (tag a)).spell (p + 1) a;
  good = λ a. (branch (tag a)).good a;
}

-- past a region of n octets, which has to be there and to be used up
abbrev pub closed : ℕ → ℕ → Spot → Spot → Result Spot Fault
closed at n outer inner = cond ((length inner.rest == 0) && not (is_short outer.rest n)) (Ok (spot (outer.at + n) (drop n outer.rest))) (fault at Delimiter)

-- a region behind the count of its octets; a count that passes what is there is a fault at the region's end
abbrev pub counted : {A : Type 0} → Format A → Format A
counted f = record {
  read = λ s. (num 4 4).read s >>= λ n. f.read (spot n.1.at (take n.0 n.1.rest)) >>= λ x. closed (aligned 4 s.at) n.0 n.1 x.1 >>= λ t. Ok (x.0, t);
  spell = λ p x. (num 4 4).spell p (length (f.spell (aligned 4 p + 4) x)) ++ f.spell (aligned 4 p + 4) x;
  good = f.good;
}

unfoldable pub each_at : {A : Type 0} → Format A → ℕ → Spot → Result (List A × Spot) Fault
each_at f zero s = Ok ([], s)
each_at f (suc n) s = f.read s >>= λ x. each_at f n x.1 >>= λ xs. Ok (x.0 ∷ xs.0, xs.1)

unfoldable pub each_spelled : {A : Type 0} → Format A → ℕ → List A → List ℕ
each_spelled f p [] = []
each_spelled f p (x ∷ xs) = f.spell p x ++ each_spelled f (p + length (f.spell p x)) xs

unfoldable pub each_good : {A : Type 0} → Format A → List A → Bool
each_good f [] = true
each_good f (x ∷ xs) = f.good x && each_good f xs

-- how many, and one after another
abbrev pub several : {A : Type 0} → Format A → Format (List A)
several f = record {
  read = λ s. (num 4 4).read s >>= λ n. each_at f n.0 n.1;
  spell = λ p xs. (num 4 4).spell p (length xs) ++ each_spelled f (aligned 4 p + 4) xs;
  good = each_good f;
}

abbrev pub here : ℕ → ℕ
here p = p

-- a field of k octets that has to hold n
abbrev pub exactly : ℕ → ℕ → ObjectRule → Format (Unit {0})
exactly k n rule = part (λ m. tt) (λ u. Some n) (only (aligned k) rule (λ m. m == n) (num k k))
