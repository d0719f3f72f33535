-- No value of a flat type ends behind the place that is told for the longest.
use Rattle.std.proofs.Common.{◌≡◌, ℕ, zero, suc, ◌+◌, ◌≤◌, ◌<◌, Bool, true, false, cond, not, ◌&&◌, ◌==◌, List, [], ◌∷◌, ◌++◌, length, length-append, Option, Some, None, IfSome, refl, sym, ap, subst, ◌∙◌, inl, inr, arith, nat_lt, nat_le}
use Rattle.std.proofs.lemmas.Bool.{and_parts, both_ways, cases_lt, eqb-true, lt-ltb, not-true}
use Rattle.xt_shapes.specs.declared.leaves.Ext.TheVariants.{Final, Appendable, Mutable}
use Rattle.xt_shapes.specs.declared.leaves.Order.TheVariants.{Big}
use Rattle.xt_shapes.specs.declared.leaves.Primitive.{Primitive}
use Rattle.xt_shapes.specs.Keyable.{is_leaf}
use Rattle.xt_shapes.specs.Kinds.{is_number}
use Rattle.xt_shapes.specs.Lists.{has, all}
use Rattle.xt_shapes.specs.Shape.{Shape, prim, str, enumeration, bitmask, sequence, array, map_of, structure, union, Members, no_members, member, product}
use Rattle.xt_shapes.specs.Sizes.{size, enum_size, mask_size}
use Rattle.xt_shapes.specs.Typing.{is_past, is_text_within, of_slot, has_type, have_types}
use Rattle.xt_shapes.specs.Vals.{Val, Slots, no_slots, one_slot, Slot, absent, present, number_in, octets_in, items_in, slots_in}
use Rattle.xt_wire.specs.numbers.Units.{IsUnit}
use Rattle.xcdr_model.specs.FixedSpelling.{Fixed, number_fixed, then_fixed, headed_fixed, each_fixed, collection_fixed, counted_fixed, slot_fixed, text_fixed, fixed, members_fixed}
use Rattle.xcdr_model.specs.KeyOctets.{and_on, after, repeated, headed, end_of, end_of_members}
use Rattle.xcdr_model.specs.Numbers.{padding, raw}
use Rattle.xcdr_model.specs.Xcdr2Reading.{is_primitive}
use Rattle.shape_laws.proofs.FixedLaw.{length_number, length_then}
use Rattle.shape_laws.proofs.Rules.{left}
use Rattle.shape_laws.proofs.Self.{text_is, list_is, struct_is}
use Rattle.key_instances.proofs.OfLengths.Flat.{flat, flat_members}
use Rattle.key_instances.proofs.OfOctets.Stays.{grows}

-- ---- numbers

pub size_unit : (p : Primitive) → IsUnit (size p)
size_unit Primitive.Boolean = inl refl
size_unit Primitive.Byte = inl refl
size_unit Primitive.Int8 = inl refl
size_unit Primitive.Uint8 = inl refl
size_unit Primitive.Int16 = inr (inl refl)
size_unit Primitive.Uint16 = inr (inl refl)
size_unit Primitive.Int32 = inr (inr (inl refl))
size_unit Primitive.Uint32 = inr (inr (inl refl))
size_unit Primitive.Int64 = inr (inr (inr refl))
size_unit Primitive.Uint64 = inr (inr (inr refl))
size_unit Primitive.Float32 = inr (inr (inl refl))
size_unit Primitive.Float64 = inr (inr (inr refl))
size_unit Primitive.Char8 = inl refl

enum_unit : (bits : ℕ) → IsUnit (enum_size bits)
enum_unit bits = by (nat_le bits 8) (nat_le bits 16)
  where
    by : (a b : Bool) → IsUnit (cond a 1 (cond b 2 4))
    by true b = inl refl
    by false true = inr (inl refl)
    by false false = inr (inr (inl refl))

mask_unit : (bits : ℕ) → IsUnit (mask_size bits)
mask_unit bits = by (nat_le bits 8) (nat_le bits 16) (nat_le bits 32)
  where
    by : (a b c : Bool) → IsUnit (cond a 1 (cond b 2 (cond c 4 8)))
    by true b c = inl refl
    by false true c = inr (inl refl)
    by false false true = inr (inr (inl refl))
    by false false false = inr (inr (inr refl))

one_rises : (p q : ℕ) → q ≤ p → after 1 q ≤ after 1 p
unfolding padding
one_rises p q le = omega (arith, le)

two_rises : (p q : ℕ) → q ≤ p → after 2 q ≤ after 2 p
unfolding padding
two_rises p q le = omega (arith, le)

four_rises : (p q : ℕ) → q ≤ p → after 4 q ≤ after 4 p
unfolding padding
four_rises p q le = omega (arith, le)

eight_rises : (p q : ℕ) → q ≤ p → after 8 q ≤ after 8 p
unfolding padding
eight_rises p q le = omega (arith, le)

after_rises : (k : ℕ) → IsUnit k → (p q : ℕ) → q ≤ p → after k q ≤ after k p
after_rises k (inl e) p q le = subst (λ n. after n q ≤ after n p) (sym e) (one_rises p q le)
after_rises k (inr (inl e)) p q le = subst (λ n. after n q ≤ after n p) (sym e) (two_rises p q le)
after_rises k (inr (inr (inl e))) p q le = subst (λ n. after n q ≤ after n p) (sym e) (four_rises p q le)
after_rises k (inr (inr (inr e))) p q le = subst (λ n. after n q ≤ after n p) (sym e) (eight_rises p q le)

-- ---- what doesn't end behind a place

-- from any place that isn't behind the one that is told
abbrev pub Bounded : Fixed → (ℕ → Option ℕ) → Type 0
Bounded f g = (p q n : ℕ) → q ≤ p → g p ≡ Some n → q + length (f q) ≤ n

number_bounded : (k n : ℕ) → IsUnit k → Bounded (number_fixed 4 Big k n) (λ p. Some (after k p))
number_bounded k n u p q m le e =
    let same : after k p ≡ m = cc in
    omega (arith, same, length_number 4 Big k n q, after_rises k u p q le)

then_bounded : (f g : Fixed) (a b : ℕ → Option ℕ) → Bounded f a → Bounded g b → Bounded (then_fixed f g) (λ p. and_on (a p) b)
then_bounded f g a b x y p q n le e = by (a p) refl e
  where
    by : (o : Option ℕ) → a p ≡ o → and_on o b ≡ Some n → q + length (then_fixed f g q) ≤ n
    by None is f = absurd cc
    by (Some m) is next = omega (arith, length_then f g q, y m (q + length (f q)) n (x p q m le is) next)

headed_bounded : (f : Fixed) (g : ℕ → Option ℕ) → Bounded f g → Bounded (headed_fixed Big f) (λ p. g (after 4 p))
unfolding headed_fixed
headed_bounded f g h p q n le e =
    let r = q + (padding 4 q + 4) in
    let start : r ≤ after 4 p = omega (arith, four_rises p q le) in
    omega (arith, length-append (number_fixed 4 Big 4 (length (f r)) q) (f r), length_number 4 Big 4 (length (f r)) q, h (after 4 p) r n start e)

collection_bounded : (plain : Bool) (f : Fixed) (g : ℕ → Option ℕ) → Bounded f g → Bounded (collection_fixed plain Big f) (λ p. g (headed plain p))
collection_bounded true f g h = h
collection_bounded false f g h = headed_bounded f g h

-- ---- items

abbrev Rises : (ℕ → Option ℕ) → Type 0
Rises g = (p n : ℕ) → g p ≡ Some n → p ≤ n

and_rises : (o : Option ℕ) (g : ℕ → Option ℕ) (p n : ℕ) → ((m : ℕ) → o ≡ Some m → p ≤ m) → Rises g → and_on o g ≡ Some n → p ≤ n
and_rises None g p n h r e = absurd cc
and_rises (Some m) g p n h r e = omega (arith, h m refl, r m n e)

repeated_rises : (k : ℕ) (g : ℕ → Option ℕ) → Rises g → Rises (repeated k g)
repeated_rises zero g h p n e = let same : p ≡ n = cc in omega (arith, same)
repeated_rises (suc k) g h p n e = and_rises (g p) (repeated k g) p n (λ m is. h p m is) (repeated_rises k g h) e

leaf_rises : (t : Shape) → is_leaf t ≡ true → Rises (λ p. end_of t p)
leaf_rises t l p n e = let more : p < n = subst (λ o. IfSome o (λ q. p < q)) e (grows t p l) in omega (arith, more)

each_bounded : (f : Val → Fixed) (g : ℕ → Option ℕ) (ok : Val → Bool) → Rises g → ((v : Val) → ok v ≡ true → Bounded (f v) g) → (xs : List Val) (k : ℕ) → all ok xs ≡ true → length xs ≤ k → Bounded (each_fixed f xs) (repeated k g)
each_bounded f g ok r h [] k a few = λ p q n le e. omega (arith, le, repeated_rises k g r p n e)
each_bounded f g ok r h (x ∷ xs) zero a few = absurd (omega (arith, few))
each_bounded f g ok r h (x ∷ xs) (suc k) a few =
    let i = and_parts (ok x) (all ok xs) a in
    then_bounded (f x) (each_fixed f xs) g (repeated k g) (h x i.0) (each_bounded f g ok r h xs k i.1 (omega (arith, few)))

-- ---- leaves

numeral_bounded : (t : Shape) → is_number t ≡ true → (v : Val) → Bounded (fixed Big t v) (end_of t)
unfolding fixed
numeral_bounded (prim x) n v = number_bounded (size x) (raw (size x) (number_in v)) (size_unit x)
numeral_bounded (enumeration e bits ls) n v = number_bounded (enum_size bits) (raw (enum_size bits) (number_in v)) (enum_unit bits)
numeral_bounded (bitmask bits fs) n v = number_bounded (mask_size bits) (raw (mask_size bits) (number_in v)) (mask_unit bits)
numeral_bounded (str bound) n v = absurd cc
numeral_bounded (sequence bound tc t) n v = absurd cc
numeral_bounded (array dims tc t) n v = absurd cc
numeral_bounded (map_of bound kc k vc t) n v = absurd cc
numeral_bounded (structure e ms) n v = absurd cc
numeral_bounded (union e k d cs) n v = absurd cc

-- where there is a bound, there are no more
few : (bound n : ℕ) → is_past bound n ≡ false → (bound == 0) ≡ false → n ≤ bound
few bound n e some = elim (cases_lt bound n) [
  | inl more ↦ absurd (both_ways (nat_lt bound n) (ap (λ (c : Bool). not c && nat_lt bound n) (sym some) ∙ e) (lt-ltb bound n more))
  | inr less ↦ omega (arith, less)
]

if_bound : (b : Bool) (f : Fixed) (g : ℕ → Option ℕ) → (b ≡ false → Bounded f g) → Bounded f (λ p. cond b None (g p))
if_bound true f g h p q n le e = absurd cc
if_bound false f g h p q n le e = h refl p q n le e

text_bounded : (bound : ℕ) (t : List ℕ) → length t ≤ bound → Bounded (text_fixed Big t) (λ p. Some (after 4 p + bound + 1))
text_bounded bound t less p q n le e =
    let same : after 4 p + bound + 1 ≡ n = cc in
    let head = number_fixed 4 Big 4 (length t + 1) in
    omega (arith, same, less, length_then head (λ k. t ++ 0 ∷ []) q, length_number 4 Big 4 (length t + 1) q, length-append t (0 ∷ []), four_rises p q le)

leaf_bounded : (t : Shape) → is_leaf t ≡ true → (v : Val) → has_type t v ≡ true → Bounded (fixed Big t v) (end_of t)
unfolding fixed has_type
leaf_bounded (prim x) l v h = numeral_bounded (prim x) refl v
leaf_bounded (enumeration e bits ls) l v h = numeral_bounded (enumeration e bits ls) refl v
leaf_bounded (bitmask bits fs) l v h = numeral_bounded (bitmask bits fs) refl v
leaf_bounded (str bound) l v h =
    let x = text_is v (is_text_within bound) h in
    let t = octets_in v in
    let typed : is_text_within bound t ≡ true = ap (λ (z : Val). is_text_within bound (octets_in z)) x.1 ∙ x.2 in
    let within = not-true (is_past bound (length t)) (left (not (is_past bound (length t))) (all (λ b. nat_lt b 256) t && not (has (λ b. b == 0) t)) typed) in
    if_bound (bound == 0) (text_fixed Big t) (λ p. Some (after 4 p + bound + 1)) (λ some. text_bounded bound t (few bound (length t) within some))
leaf_bounded (sequence bound tc t) l v h = absurd cc
leaf_bounded (array dims tc t) l v h = absurd cc
leaf_bounded (map_of bound kc k vc t) l v h = absurd cc
leaf_bounded (structure e ms) l v h = absurd cc
leaf_bounded (union e k d cs) l v h = absurd cc

items_bounded : (t : Shape) → is_leaf t ≡ true → (xs : List Val) (k : ℕ) → all (λ w. has_type t w) xs ≡ true → length xs ≤ k → Bounded (each_fixed (λ w. fixed Big t w) xs) (repeated k (λ p. end_of t p))
items_bounded t l xs k a less = each_bounded (λ w. fixed Big t w) (λ p. end_of t p) (λ w. has_type t w) (leaf_rises t l) (λ v h. leaf_bounded t l v h) xs k a less

counted_bounded : (t : Shape) → is_leaf t ≡ true → (xs : List Val) (k : ℕ) → all (λ w. has_type t w) xs ≡ true → length xs ≤ k → Bounded (counted_fixed Big (λ w. fixed Big t w) xs) (λ p. repeated k (λ q. end_of t q) (after 4 p))
counted_bounded t l xs k a less = then_bounded (number_fixed 4 Big 4 (length xs)) (each_fixed (λ w. fixed Big t w) xs) (λ p. Some (after 4 p)) (repeated k (λ p. end_of t p)) (number_bounded 4 (length xs) (inr (inr (inl refl)))) (items_bounded t l xs k a less)

-- ---- parts

slot_bounded : (opt : Bool) (f : Val → Fixed) (g : ℕ → Option ℕ) (ok : Val → Bool) (s : Slot) → not opt ≡ true → of_slot opt ok s ≡ true → ((w : Val) → ok w ≡ true → Bounded (f w) g) → Bounded (slot_fixed opt Big f s) g
slot_bounded true f g ok s n h a = absurd cc
slot_bounded false f g ok absent n h a = absurd cc
slot_bounded false f g ok (present w) n h a = a w h

mutual
  unfolding fixed has_type have_types

  pub part_bounded : (t : Shape) → flat t ≡ true → (v : Val) → has_type t v ≡ true → Bounded (fixed Big t v) (end_of t)
  part_bounded (prim x) l v h = leaf_bounded (prim x) refl v h
  part_bounded (str bound) l v h = leaf_bounded (str bound) refl v h
  part_bounded (enumeration e bits ls) l v h = leaf_bounded (enumeration e bits ls) refl v h
  part_bounded (bitmask bits fs) l v h = leaf_bounded (bitmask bits fs) refl v h
  part_bounded (sequence bound tc t) l v h =
      let x = list_is v _ h in
      let xs = items_in v in
      let typed : (not (is_past bound (length xs)) && all (λ w. has_type t w) xs) ≡ true = ap (λ (z : Val). not (is_past bound (length (items_in z))) && all (λ w. has_type t w) (items_in z)) x.1 ∙ x.2 in
      let i = and_parts (not (is_past bound (length xs))) (all (λ w. has_type t w) xs) typed in
      let plain = is_primitive t in
      let f = counted_fixed Big (λ w. fixed Big t w) xs in
      let g = λ (p : ℕ). repeated bound (λ q. end_of t q) (after 4 p) in
      if_bound (bound == 0) (collection_fixed plain Big f) (λ p. g (headed plain p)) (λ some. collection_bounded plain f g (counted_bounded t l xs bound i.1 (few bound (length xs) (not-true (is_past bound (length xs)) i.0) some)))
  part_bounded (array dims tc t) l v h =
      let x = list_is v _ h in
      let xs = items_in v in
      let typed : ((length xs == product dims) && all (λ w. has_type t w) xs) ≡ true = ap (λ (z : Val). (length (items_in z) == product dims) && all (λ w. has_type t w) (items_in z)) x.1 ∙ x.2 in
      let i = and_parts (length xs == product dims) (all (λ w. has_type t w) xs) typed in
      let less : length xs ≤ product dims = omega (arith, eqb-true (length xs) (product dims) i.0) in
      collection_bounded (is_primitive t) (each_fixed (λ w. fixed Big t w) xs) (repeated (product dims) (λ q. end_of t q)) (items_bounded t l xs (product dims) i.1 less)
  part_bounded (map_of bound kc k vc t) l v h = absurd cc
  part_bounded (structure Final ms) l v h =
      let x = struct_is v (λ ss. have_types ms ss) h in
      members_bounded ms l (slots_in v) (ap (λ (z : Val). have_types ms (slots_in z)) x.1 ∙ x.2)
  part_bounded (structure Appendable ms) l v h = absurd cc
  part_bounded (structure Mutable ms) l v h = absurd cc
  part_bounded (union e k d cs) l v h = absurd cc

  pub members_bounded : (ms : Members) → flat_members ms ≡ true → (ss : Slots) → have_types ms ss ≡ true → Bounded (members_fixed Big ms ss) (end_of_members ms)
  members_bounded no_members l ss h = λ p q n le e. let same : p ≡ n = cc in omega (arith, le, same)
  members_bounded (member a t ms) l no_slots h = absurd cc
  members_bounded (member a t ms) l (one_slot s ss) h =
      let n = and_parts (not a.optional) (flat t && flat_members ms) l in
      let m = and_parts (flat t) (flat_members ms) n.1 in
      let i = and_parts (of_slot a.optional (λ w. has_type t w) s) (have_types ms ss) h in
      then_bounded (slot_fixed a.optional Big (λ w. fixed Big t w) s) (members_fixed Big ms ss) (λ p. end_of t p) (end_of_members ms)
      (slot_bounded a.optional (λ w. fixed Big t w) (λ p. end_of t p) (λ w. has_type t w) s n.0 i.0 (λ w e. part_bounded t m.0 w e)) (members_bounded ms m.1 ss i.1)
