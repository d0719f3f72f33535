-- The longest value of a flat type ends at the place that is told, or past a hash where none is.
use Rattle.std.proofs.Common.{◌≡◌, ℕ, zero, suc, ◌+◌, ◌≤◌, Bool, true, false, cond, not, ◌&&◌, ◌==◌, List, [], ◌∷◌, ◌++◌, length, length-append, replicate, Option, Some, None, refl, sym, ap, subst, ◌∙◌, arith}
use Rattle.std.proofs.lemmas.Bool.{and_parts}
use Rattle.std.proofs.lemmas.List.{length-replicate}
use Rattle.xt_shapes.specs.declared.leaves.Ext.TheVariants.{Final, Appendable, Mutable}
use Rattle.xt_shapes.specs.declared.leaves.Order.TheVariants.{Big}
use Rattle.xt_shapes.specs.Keyable.{is_leaf}
use Rattle.xt_shapes.specs.Kinds.{is_number}
use Rattle.xt_shapes.specs.Shape.{Shape, prim, str, enumeration, bitmask, sequence, array, map_of, structure, union, Members, no_members, member, product}
use Rattle.xt_shapes.specs.Sizes.{size, enum_size, mask_size}
use Rattle.xt_shapes.specs.Vals.{Val, present, number_in}
use Rattle.xcdr_model.specs.FixedSpelling.{Fixed, number_fixed, then_fixed, headed_fixed, each_fixed, collection_fixed, counted_fixed, slot_fixed, text_fixed, fixed, members_fixed}
use Rattle.xcdr_model.specs.KeyOctets.{and_on, after, repeated, headed, end_of, end_of_members}
use Rattle.xcdr_model.specs.Numbers.{padding, raw}
use Rattle.xcdr_model.specs.Xcdr2Reading.{is_primitive}
use Rattle.shape_laws.proofs.FixedLaw.{length_number, length_then}
use Rattle.shape_laws.proofs.GatherTyped.{vals_each}
use Rattle.key_instances.proofs.OfLengths.Flat.{flat, flat_members}
use Rattle.key_instances.proofs.OfLengths.Longest.{most, longest, longest_slots}
use Rattle.key_instances.proofs.OfOctets.Stays.{size_some, enum_some, mask_some}

-- the place that is told, or one past a hash
abbrev pub Reached : Option ℕ → ℕ → Type 0
Reached None place = 17 ≤ place
Reached (Some told) place = told ≡ place

abbrev pub Reaches : Fixed → (ℕ → Option ℕ) → Type 0
Reaches f g = (p : ℕ) → Reached (g p) (p + length (f p))

number_reaches : (k n : ℕ) → Reaches (number_fixed 4 Big k n) (λ p. Some (after k p))
number_reaches k n p = omega (arith, length_number 4 Big k n p)

pub then_reaches : (f g : Fixed) (a b : ℕ → Option ℕ) → Reaches f a → Reaches g b → Reaches (then_fixed f g) (λ p. and_on (a p) b)
then_reaches f g a b x y p = by (a p) (x p)
  where
    by : (o : Option ℕ) → Reached o (p + length (f p)) → Reached (and_on o b) (p + length (then_fixed f g p))
    by None far = omega (arith, far, length_then f g p)
    by (Some m) is =
        let whole : m + length (g m) ≡ p + length (then_fixed f g p) = ap (λ k. k + length (g k)) is ∙ (let sum : (p + length (f p)) + length (g (p + length (f p))) ≡ p + length (then_fixed f g p) = omega (arith, length_then f g p) in sum) in
        subst (λ k. Reached (b m) k) whole (y m)

headed_reaches : (f : Fixed) (g : ℕ → Option ℕ) → Reaches f g → Reaches (headed_fixed Big f) (λ p. g (after 4 p))
unfolding headed_fixed
headed_reaches f g h p =
    let r = p + (padding 4 p + 4) in
    let start : r ≡ after 4 p = omega arith in
    let whole : r + length (f r) ≡ p + length (number_fixed 4 Big 4 (length (f r)) p ++ f r) = omega (arith, length-append (number_fixed 4 Big 4 (length (f r)) p) (f r), length_number 4 Big 4 (length (f r)) p) in
    subst (λ k. Reached (g k) (p + length (number_fixed 4 Big 4 (length (f r)) p ++ f r))) start (subst (λ k. Reached (g r) k) whole (h r))

collection_reaches : (plain : Bool) (f : Fixed) (g : ℕ → Option ℕ) → Reaches f g → Reaches (collection_fixed plain Big f) (λ p. g (headed plain p))
collection_reaches true f g h = h
collection_reaches false f g h = headed_reaches f g h

-- ---- items

each_reaches : (f : Val → Fixed) (g : ℕ → Option ℕ) (v : Val) → Reaches (f v) g → (n : ℕ) → Reaches (each_fixed f (replicate n v)) (repeated n g)
each_reaches f g v h zero = λ p. omega arith
each_reaches f g v h (suc n) = then_reaches (f v) (each_fixed f (replicate n v)) g (repeated n g) h (each_reaches f g v h n)

counted_reaches : (f : Val → Fixed) (g : ℕ → Option ℕ) (v : Val) → Reaches (f v) g → (n : ℕ) → Reaches (counted_fixed Big f (replicate n v)) (λ p. repeated n g (after 4 p))
counted_reaches f g v h n = then_reaches (number_fixed 4 Big 4 (length (replicate n v))) (each_fixed f (replicate n v)) (λ p. Some (after 4 p)) (repeated n g) (number_reaches 4 (length (replicate n v))) (each_reaches f g v h n)

-- as many octets as there are items, at least
each_long : (f : Val → Fixed) (v : Val) → ((q : ℕ) → 1 ≤ length (f v q)) → (n p : ℕ) → n ≤ length (each_fixed f (replicate n v) p)
each_long f v h zero p = omega arith
each_long f v h (suc n) p = omega (arith, length_then (f v) (each_fixed f (replicate n v)) p, h p, each_long f v h n (p + length (f v p)))

counted_long : (f : Val → Fixed) (v : Val) → ((q : ℕ) → 1 ≤ length (f v q)) → (n p : ℕ) → n ≤ length (counted_fixed Big f (replicate n v) p)
counted_long f v h n p =
    let head = number_fixed 4 Big 4 (length (replicate n v)) in
    omega (arith, length_then head (each_fixed f (replicate n v)) p, each_long f v h n (p + length (head p)))

collection_long : (plain : Bool) (f : Fixed) (n : ℕ) → ((q : ℕ) → n ≤ length (f q)) → (p : ℕ) → n ≤ length (collection_fixed plain Big f p)
unfolding headed_fixed
collection_long true f n h p = h p
collection_long false f n h p =
    let r = p + (padding 4 p + 4) in
    omega (arith, length-append (number_fixed 4 Big 4 (length (f r)) p) (f r), h r)

-- ---- leaves

pub numeral_reaches : (t : Shape) → is_number t ≡ true → (v : Val) → Reaches (fixed Big t v) (end_of t)
unfolding fixed
numeral_reaches (prim x) n v = number_reaches (size x) (raw (size x) (number_in v))
numeral_reaches (enumeration e bits ls) n v = number_reaches (enum_size bits) (raw (enum_size bits) (number_in v))
numeral_reaches (bitmask bits fs) n v = number_reaches (mask_size bits) (raw (mask_size bits) (number_in v))
numeral_reaches (str bound) n v = absurd cc
numeral_reaches (sequence bound tc t) n v = absurd cc
numeral_reaches (array dims tc t) n v = absurd cc
numeral_reaches (map_of bound kc k vc t) n v = absurd cc
numeral_reaches (structure e ms) n v = absurd cc
numeral_reaches (union e k d cs) n v = absurd cc

text_length : (n p : ℕ) → length (text_fixed Big (replicate n 1) p) ≡ padding 4 p + 4 + n + 1
text_length n p =
    let t : List ℕ = replicate n 1 in
    let head = number_fixed 4 Big 4 (length t + 1) in
    omega (arith, length_then head (λ k. t ++ 0 ∷ []) p, length_number 4 Big 4 (length t + 1) p, length-append t (0 ∷ []), length-replicate {A = ℕ} n 1)

text_reaches : (bound : ℕ) (b : Bool) → Reaches (text_fixed Big (replicate (cond b 17 bound) 1)) (λ p. cond b None (Some (after 4 p + bound + 1)))
text_reaches bound true p = omega (arith, text_length 17 p)
text_reaches bound false p = omega (arith, text_length bound p)

leaf_reaches : (t : Shape) → is_leaf t ≡ true → Reaches (fixed Big t (longest t)) (end_of t)
unfolding fixed
leaf_reaches (prim x) l = numeral_reaches (prim x) refl (longest (prim x))
leaf_reaches (str bound) l = text_reaches bound (bound == 0)
leaf_reaches (enumeration e bits ls) l = numeral_reaches (enumeration e bits ls) refl (longest (enumeration e bits ls))
leaf_reaches (bitmask bits fs) l = numeral_reaches (bitmask bits fs) refl (longest (bitmask bits fs))
leaf_reaches (sequence bound tc t) l = absurd cc
leaf_reaches (array dims tc t) l = absurd cc
leaf_reaches (map_of bound kc k vc t) l = absurd cc
leaf_reaches (structure e ms) l = absurd cc
leaf_reaches (union e k d cs) l = absurd cc

-- each takes an octet
leaf_some : (t : Shape) → is_leaf t ≡ true → (p : ℕ) → 1 ≤ length (fixed Big t (longest t) p)
unfolding fixed
leaf_some (prim x) l p = omega (arith, length_number 4 Big (size x) (raw (size x) (number_in (longest (prim x)))) p, size_some x)
leaf_some (str bound) l p = omega (arith, text_length (most bound) p)
leaf_some (enumeration e bits ls) l p = omega (arith, length_number 4 Big (enum_size bits) (raw (enum_size bits) (number_in (longest (enumeration e bits ls)))) p, enum_some bits)
leaf_some (bitmask bits fs) l p = omega (arith, length_number 4 Big (mask_size bits) (raw (mask_size bits) (number_in (longest (bitmask bits fs)))) p, mask_some bits)
leaf_some (sequence bound tc t) l p = absurd cc
leaf_some (array dims tc t) l p = absurd cc
leaf_some (map_of bound kc k vc t) l p = absurd cc
leaf_some (structure e ms) l p = absurd cc
leaf_some (union e k d cs) l p = absurd cc

sequence_reaches : (t : Shape) → is_leaf t ≡ true → (bound : ℕ) (b : Bool)
    → Reaches (collection_fixed (is_primitive t) Big (counted_fixed Big (λ w. fixed Big t w) (replicate (cond b 17 bound) (longest t)))) (λ p. cond b None (repeated bound (λ q. end_of t q) (after 4 (headed (is_primitive t) p))))
sequence_reaches t l bound true =
    let f = counted_fixed Big (λ w. fixed Big t w) (replicate 17 (longest t)) in
    λ p. omega (arith, collection_long (is_primitive t) f 17 (counted_long (λ w. fixed Big t w) (longest t) (leaf_some t l) 17) p)
sequence_reaches t l bound false =
    collection_reaches (is_primitive t) (counted_fixed Big (λ w. fixed Big t w) (replicate bound (longest t))) (λ p. repeated bound (λ q. end_of t q) (after 4 p)) (counted_reaches (λ w. fixed Big t w) (λ q. end_of t q) (longest t) (leaf_reaches t l) bound)

-- ---- parts

slot_reaches : (opt : Bool) (f : Val → Fixed) (g : ℕ → Option ℕ) (v : Val) → not opt ≡ true → Reaches (f v) g → Reaches (slot_fixed opt Big f (present v)) g
slot_reaches true f g v n h = absurd cc
slot_reaches false f g v n h = h

mutual
  unfolding fixed

  pub part_reaches : (t : Shape) → flat t ≡ true → Reaches (fixed Big t (longest t)) (end_of t)
  part_reaches (prim p) l = leaf_reaches (prim p) refl
  part_reaches (str bound) l = leaf_reaches (str bound) refl
  part_reaches (enumeration e bits ls) l = leaf_reaches (enumeration e bits ls) refl
  part_reaches (bitmask bits fs) l = leaf_reaches (bitmask bits fs) refl
  part_reaches (sequence bound tc t) l =
      subst (λ (xs : List Val). Reaches (collection_fixed (is_primitive t) Big (counted_fixed Big (λ w. fixed Big t w) xs)) (end_of (sequence bound tc t))) (sym (vals_each (replicate (most bound) (longest t)))) (sequence_reaches t l bound (bound == 0))
  part_reaches (array dims tc t) l =
      let n = product dims in
      subst (λ (xs : List Val). Reaches (collection_fixed (is_primitive t) Big (each_fixed (λ w. fixed Big t w) xs)) (end_of (array dims tc t))) (sym (vals_each (replicate n (longest t))))
      (collection_reaches (is_primitive t) (each_fixed (λ w. fixed Big t w) (replicate n (longest t))) (repeated n (λ q. end_of t q)) (each_reaches (λ w. fixed Big t w) (λ q. end_of t q) (longest t) (leaf_reaches t l) n))
  part_reaches (map_of bound kc k vc t) l = absurd cc
  part_reaches (structure Final ms) l = members_reach ms l
  part_reaches (structure Appendable ms) l = absurd cc
  part_reaches (structure Mutable ms) l = absurd cc
  part_reaches (union e k d cs) l = absurd cc

  pub members_reach : (ms : Members) → flat_members ms ≡ true → Reaches (members_fixed Big ms (longest_slots ms)) (end_of_members ms)
  members_reach no_members l = λ p. omega arith
  members_reach (member h t ms) l =
      let n = and_parts (not h.optional) (flat t && flat_members ms) l in
      let m = and_parts (flat t) (flat_members ms) n.1 in
      then_reaches (slot_fixed h.optional Big (λ w. fixed Big t w) (present (longest t))) (members_fixed Big ms (longest_slots ms)) (λ p. end_of t p) (end_of_members ms)
      (slot_reaches h.optional (λ w. fixed Big t w) (λ p. end_of t p) (longest t) n.0 (part_reaches t m.0)) (members_reach ms m.1)
