-- Key octets are no more than the room of the value that they are taken from.
use Rattle.std.proofs.Common.{◌≡◌, ℕ, ◌+◌, ◌-◌, ◌%◌, ◌≤◌, ◌<◌, ℤ, min, Bool, true, false, cond, not, ◌||◌, ◌&&◌, List, [], ◌∷◌, ◌++◌, length, length-append, map, refl, ap, ap₂, ◌∙◌, arith, nat_lt, nat_le}
use Rattle.std.proofs.lemmas.Bool.{and_parts, both_ways}
use Rattle.std.proofs.lemmas.Nat.{mod_below}
use Rattle.xt_shapes.specs.declared.leaves.Ext.{Ext}
use Rattle.xt_shapes.specs.declared.leaves.Order.{Order}
use Rattle.xt_shapes.specs.declared.leaves.Order.TheVariants.{Big}
use Rattle.xt_shapes.specs.declared.leaves.Primitive.{Primitive}
use Rattle.xt_shapes.specs.declared.leaves.Primitive.TheVariants.{Boolean, Byte, Int8, Uint8, Int16, Uint16, Int32, Uint32, Int64, Uint64, Float32, Float64, Char8}
use Rattle.xt_shapes.specs.Keyable.{any_key, counted, is_leaf, keyable, counted_keyable}
use Rattle.xt_shapes.specs.Kinds.{is_number}
use Rattle.xt_shapes.specs.Shape.{Head, Shape, prim, str, enumeration, bitmask, sequence, array, map_of, structure, union, Members, no_members, member, Cases}
use Rattle.xt_shapes.specs.Sizes.{size, enum_size, mask_size}
use Rattle.xt_shapes.specs.Typing.{of_slot, has_type, have_types}
use Rattle.xt_shapes.specs.Vals.{Val, int, Slots, no_slots, one_slot, Slot, absent, present, octets_in, items_in, slots_in, disc_in, number_in}
use Rattle.xcdr_model.specs.FixedSpelling.{Fixed, nothing, number_fixed, then_fixed, headed_fixed, each_fixed, collection_fixed, counted_fixed, scalar_fixed, text_fixed, fixed, members_fixed}
use Rattle.xcdr_model.specs.KeyOctets.{members_from, key_type, key_types, key_octets}
use Rattle.xcdr_model.specs.Keys.{by_id, of_present, all_present, key_part, key_parts, key}
use Rattle.xcdr_model.specs.Numbers.{padding, raw}
use Rattle.xcdr_model.specs.Xcdr2Reading.{is_primitive}
use Rattle.shape_laws.proofs.FixedLaw.{length_number}
use Rattle.shape_laws.proofs.KeyAt.{needs}
use Rattle.shape_laws.proofs.KeyRoom.{room, counted_room}
use Rattle.shape_laws.proofs.KeySort.{Entries}
use Rattle.shape_laws.proofs.NodesBuilt.{sum_by}
use Rattle.shape_laws.proofs.NodesParts.{slot_measure}
use Rattle.shape_laws.proofs.Self.{struct_is}

-- ---- lengths of numbers

three : (x m : ℕ) → x < m → m ≤ 4 → x ≤ 3
three x m l k = omega arith

pad_small : (k p : ℕ) → 1 ≤ k → padding (min k 4) p ≤ 3
unfolding padding
pad_small k p l = three ((min k 4 - p % min k 4) % min k 4) (min k 4) (mod_below (min k 4 - p % min k 4) (min k 4) (omega (arith, l))) (omega arith)

number_length : (o : Order) (k n p : ℕ) → 1 ≤ k → length (number_fixed 4 o k n p) ≤ 3 + k
number_length o k n p l = omega (arith, length_number 4 o k n p, pad_small k p l)

size_range : (p : Primitive) → (1 ≤ size p) × (size p ≤ 8)
size_range Boolean = (omega arith, omega arith)
size_range Byte = (omega arith, omega arith)
size_range Int8 = (omega arith, omega arith)
size_range Uint8 = (omega arith, omega arith)
size_range Int16 = (omega arith, omega arith)
size_range Uint16 = (omega arith, omega arith)
size_range Int32 = (omega arith, omega arith)
size_range Uint32 = (omega arith, omega arith)
size_range Int64 = (omega arith, omega arith)
size_range Uint64 = (omega arith, omega arith)
size_range Float32 = (omega arith, omega arith)
size_range Float64 = (omega arith, omega arith)
size_range Char8 = (omega arith, omega arith)

enum_range : (bits : ℕ) → (1 ≤ enum_size bits) × (enum_size bits ≤ 8)
enum_range bits = by_bits (nat_le bits 8) (nat_le bits 16)
  where
    by_bits : (a b : Bool) → (1 ≤ cond a 1 (cond b 2 4)) × (cond a 1 (cond b 2 4) ≤ 8)
    by_bits true b = (omega arith, omega arith)
    by_bits false true = (omega arith, omega arith)
    by_bits false false = (omega arith, omega arith)

mask_range : (bits : ℕ) → (1 ≤ mask_size bits) × (mask_size bits ≤ 8)
mask_range bits = by_bits (nat_le bits 8) (nat_le bits 16) (nat_le bits 32)
  where
    by_bits : (a b c : Bool) → (1 ≤ cond a 1 (cond b 2 (cond c 4 8))) × (cond a 1 (cond b 2 (cond c 4 8)) ≤ 8)
    by_bits true b c = (omega arith, omega arith)
    by_bits false true c = (omega arith, omega arith)
    by_bits false false true = (omega arith, omega arith)
    by_bits false false false = (omega arith, omega arith)

pub scalar_length : (t : Shape) → is_number t ≡ true → (o : Order) (i : ℤ) (p : ℕ) → length (scalar_fixed 4 o t i p) ≤ 11
scalar_length (prim x) n o i p = let r = size_range x in omega (arith, r.1, number_length o (size x) (raw (size x) i) p r.0)
scalar_length (enumeration e bits ls) n o i p = let r = enum_range bits in omega (arith, r.1, number_length o (enum_size bits) (raw (enum_size bits) i) p r.0)
scalar_length (bitmask bits fs) n o i p = let r = mask_range bits in omega (arith, r.1, number_length o (mask_size bits) (raw (mask_size bits) i) p r.0)
scalar_length (str bound) n o i p = absurd cc
scalar_length (sequence bound tc t) n o i p = absurd cc
scalar_length (array dims tc t) n o i p = absurd cc
scalar_length (map_of bound kc k vc t) n o i p = absurd cc
scalar_length (structure e ms) n o i p = absurd cc
scalar_length (union e k d cs) n o i p = absurd cc

-- ---- lengths of parts put together

then_length : (f g : Fixed) (p : ℕ) → length (then_fixed f g p) ≡ length (f p) + length (g (p + length (f p)))
unfolding then_fixed
then_length f g p = length-append (f p) (g (p + length (f p)))

headed_length : (o : Order) (f : Fixed) (n : ℕ) → ((q : ℕ) → length (f q) ≤ n) → (p : ℕ) → length (headed_fixed o f p) ≤ 7 + n
unfolding headed_fixed
headed_length o f n h p =
    let q = p + (padding 4 p + 4) in
    omega (arith, length-append (number_fixed 4 o 4 (length (f q)) p) (f q), number_length o 4 (length (f q)) p (omega arith), h q)

collection_length : (plain : Bool) (o : Order) (f : Fixed) (n : ℕ) → ((q : ℕ) → length (f q) ≤ n) → (p : ℕ) → length (collection_fixed plain o f p) ≤ 7 + n
collection_length true o f n h p = omega (arith, h p)
collection_length false o f n h p = headed_length o f n h p

each_length : (f : Val → Fixed) (m : Val → ℕ) → ((x : Val) (q : ℕ) → length (f x q) ≤ m x) → (xs : List Val) (p : ℕ) → length (each_fixed f xs p) ≤ sum_by m xs
each_length f m h [] p = omega arith
each_length f m h (x ∷ xs) p = omega (arith, then_length (f x) (each_fixed f xs) p, h x p, each_length f m h xs (p + length (f x p)))

counted_length : (o : Order) (f : Val → Fixed) (m : Val → ℕ) → ((x : Val) (q : ℕ) → length (f x q) ≤ m x) → (xs : List Val) (p : ℕ) → length (counted_fixed o f xs p) ≤ 7 + sum_by m xs
counted_length o f m h xs p =
    let head = number_fixed 4 o 4 (length xs) in
    omega (arith, then_length head (each_fixed f xs) p, number_length o 4 (length xs) p (omega arith), each_length f m h xs (p + length (head p)))

text_length : (o : Order) (t : List ℕ) (p : ℕ) → length (text_fixed o t p) ≤ 8 + length t
text_length o t p = omega (arith, then_length (number_fixed 4 o 4 (length t + 1)) (λ q. t ++ 0 ∷ []) p, number_length o 4 (length t + 1) p (omega arith), length-append t (0 ∷ []))

leaf_length : (t : Shape) → is_leaf t ≡ true → (o : Order) (v : Val) (p : ℕ) → length (fixed o t v p) ≤ room t v
unfolding fixed
leaf_length (prim x) l o v p = scalar_length (prim x) refl o (number_in v) p
leaf_length (str bound) l o v p = text_length o (octets_in v) p
leaf_length (enumeration e bits ls) l o v p = scalar_length (enumeration e bits ls) refl o (number_in v) p
leaf_length (bitmask bits fs) l o v p = scalar_length (bitmask bits fs) refl o (number_in v) p
leaf_length (sequence bound tc t) l o v p = absurd cc
leaf_length (array dims tc t) l o v p = absurd cc
leaf_length (map_of bound kc k vc t) l o v p = absurd cc
leaf_length (structure e ms) l o v p = absurd cc
leaf_length (union e k d cs) l o v p = absurd cc

-- ---- parts by rising id, each with its room

abbrev pub Spanned : Order → Entries Shape → Entries Val → ℕ → Type 0
Spanned o [] [] n = Unit {0}
Spanned o [] (y ∷ ys) n = ⊥
Spanned o (x ∷ xs) [] n = ⊥
Spanned o (x ∷ xs) (y ∷ ys) n = (a : ℕ) × (b : ℕ) × (a + b ≤ n) × (x.0 ≡ y.0) × ((p : ℕ) → length (fixed o x.1 y.1 p) ≤ a) × Spanned o xs ys b

more_spanned : (o : Order) (xs : Entries Shape) (ys : Entries Val) (n m : ℕ) → n ≤ m → Spanned o xs ys n → Spanned o xs ys m
more_spanned o [] [] n m l s = tt
more_spanned o [] (y ∷ ys) n m l s = absurd s
more_spanned o (x ∷ xs) [] n m l s = absurd s
more_spanned o (x ∷ xs) (y ∷ ys) n m l s = (s.0, s.1, omega (arith, l, s.2), s.3, s.4, s.5)

insert_spanned : (o : Order) (x : ℕ × Shape) (y : ℕ × Val) (a : ℕ) (xs : Entries Shape) (ys : Entries Val) (n : ℕ) → x.0 ≡ y.0 → ((p : ℕ) → length (fixed o x.1 y.1 p) ≤ a) → Spanned o xs ys n → Spanned o (by_id x xs) (by_id y ys) (a + n)
insert_spanned o x y a [] [] n e h s = (a, n, omega arith, e, h, tt)
insert_spanned o x y a [] (w ∷ ws) n e h s = absurd s
insert_spanned o x y a (z ∷ zs) [] n e h s = absurd s
insert_spanned o x y a (z ∷ zs) (w ∷ ws) n e h s = by_test (nat_lt x.0 z.0) (nat_lt y.0 w.0) (ap₂ nat_lt e s.3) (insert_spanned o x y a zs ws s.1 e h s.5)
  where
    by_test : (c d : Bool) → c ≡ d → Spanned o (by_id x zs) (by_id y ws) (a + s.1) → Spanned o (cond c (x ∷ z ∷ zs) (z ∷ by_id x zs)) (cond d (y ∷ w ∷ ws) (w ∷ by_id y ws)) (a + n)
    by_test true true q more = (a, n, omega arith, e, h, s)
    by_test false false q more = (s.0, a + s.1, omega (arith, s.2), s.3, s.4, more)
    by_test true false q more = absurd cc
    by_test false true q more = absurd cc

members_length : (o : Order) (xs : Entries Shape) (ys : Entries Val) (n : ℕ) → Spanned o xs ys n → (p : ℕ) → length (members_fixed o (members_from xs) (all_present (map (λ y. y.1) ys)) p) ≤ n
unfolding members_fixed
members_length o [] [] n s p = omega arith
members_length o [] (y ∷ ys) n s p = absurd s
members_length o (x ∷ xs) [] n s p = absurd s
members_length o (x ∷ xs) (y ∷ ys) n s p =
    let f = fixed o x.1 y.1 in
    omega (arith, s.2, then_length f (members_fixed o (members_from xs) (all_present (map (λ z. z.1) ys))) p, s.4 p, members_length o xs ys s.1 s.5 (p + length (f p)))

one_spanned : (o : Order) (c : Bool) (h : Head) (t : Shape) (s : Slot) (xs : Entries Shape) (ys : Entries Val) (n : ℕ) → (c ≡ true → h.optional ≡ false) → of_slot h.optional (λ w. has_type t w) s ≡ true
    → (c ≡ true → (w : Val) → has_type t w ≡ true → (p : ℕ) → length (fixed o (key_type t) (key_part t w) p) ≤ room t w) → Spanned o xs ys n
    → Spanned o (cond c (by_id (h.id, key_type t) xs) xs) (cond c (of_present s (λ w. (h.id, key_part t w)) ys) ys) (cond c (slot_measure (λ w. room t w) s) 0 + n)
one_spanned o false h t s xs ys n q e f a = more_spanned o xs ys n (0 + n) (omega arith) a
one_spanned o true h t absent xs ys n q e f a = absurd (both_ways h.optional (q refl) e)
one_spanned o true h t (present w) xs ys n q e f a = insert_spanned o (h.id, key_type t) (h.id, key_part t w) (room t w) xs ys n refl (f refl w e) a

mutual
  unfolding fixed has_type have_types

  part_length : (o : Order) (t : Shape) → keyable t ≡ true → (v : Val) → has_type t v ≡ true → (p : ℕ) → length (fixed o (key_type t) (key_part t v) p) ≤ room t v
  part_length o (prim x) k v h p = leaf_length (prim x) refl o v p
  part_length o (str bound) k v h p = leaf_length (str bound) refl o v p
  part_length o (enumeration e bits ls) k v h p = leaf_length (enumeration e bits ls) refl o v p
  part_length o (bitmask bits fs) k v h p = leaf_length (bitmask bits fs) refl o v p
  part_length o (sequence bound tc t) k v h p =
      let m = λ (w : Val). room t w in
      let c = collection_length (is_primitive t) o (counted_fixed o (λ w. fixed o t w) (items_in v)) (7 + sum_by m (items_in v)) (counted_length o (λ w. fixed o t w) m (λ w q. leaf_length t k o w q) (items_in v)) p in
      omega (arith, c)
  part_length o (array dims tc t) k v h p =
      let m = λ (w : Val). room t w in
      collection_length (is_primitive t) o (each_fixed (λ w. fixed o t w) (items_in v)) (sum_by m (items_in v)) (each_length (λ w. fixed o t w) m (λ w q. leaf_length t k o w q) (items_in v)) p
  part_length o (map_of bound kc j vc t) k v h p = absurd cc
  part_length o (structure e ms) k v h p =
      let x = struct_is v (λ ss. have_types ms ss) h in
      members_length o (key_types (any_key ms) ms) (key_parts (any_key ms) ms (slots_in v)) (counted_room (any_key ms) ms (slots_in v)) (spanned_parts o (any_key ms) ms k (slots_in v) (ap (λ (z : Val). have_types ms (slots_in z)) x.1 ∙ x.2)) p
  part_length o (union e key d cs) k v h p = absurd cc

  spanned_parts : (o : Order) (keyed : Bool) (ms : Members) → counted_keyable keyed ms ≡ true → (ss : Slots) → have_types ms ss ≡ true → Spanned o (key_types keyed ms) (key_parts keyed ms ss) (counted_room keyed ms ss)
  spanned_parts o keyed no_members k ss h = tt
  spanned_parts o keyed (member a t ms) k no_slots h = absurd cc
  spanned_parts o keyed (member a t ms) k (one_slot s ss) h =
      let n = and_parts (not (counted keyed a) || (not a.optional && keyable t)) (counted_keyable keyed ms) k in
      let q = and_parts (of_slot a.optional (λ w. has_type t w) s) (have_types ms ss) h in
      one_spanned o (counted keyed a) a t s (key_types keyed ms) (key_parts keyed ms ss) (counted_room keyed ms ss) (λ c. (needs (counted keyed a) a.optional (keyable t) n.0 c).0) q.0
      (λ c w e p. part_length o t (needs (counted keyed a) a.optional (keyable t) n.0 c).1 w e p) (spanned_parts o keyed ms n.1 ss q.1)

-- ---- the key octets of a top value

pub top_length : (e : Ext) (ms : Members) → counted_keyable true ms ≡ true → (v : Val) → has_type (structure e ms) v ≡ true → length (key_octets (structure e ms) v) ≤ counted_room true ms (slots_in v)
unfolding fixed has_type
top_length e ms k v h =
    let x = struct_is v (λ ss. have_types ms ss) h in
    members_length Big (key_types true ms) (key_parts true ms (slots_in v)) (counted_room true ms (slots_in v)) (spanned_parts Big true ms k (slots_in v) (ap (λ (z : Val). have_types ms (slots_in z)) x.1 ∙ x.2)) 0

disc_length : (d : Shape) → is_number d ≡ true → (i : ℤ) (p : ℕ) → length (fixed Big d (int i) p) ≤ 11
unfolding fixed
disc_length (prim x) n i p = scalar_length (prim x) refl Big i p
disc_length (enumeration e bits ls) n i p = scalar_length (enumeration e bits ls) refl Big i p
disc_length (bitmask bits fs) n i p = scalar_length (bitmask bits fs) refl Big i p
disc_length (str bound) n i p = absurd cc
disc_length (sequence bound tc t) n i p = absurd cc
disc_length (array dims tc t) n i p = absurd cc
disc_length (map_of bound kc k vc t) n i p = absurd cc
disc_length (structure e ms) n i p = absurd cc
disc_length (union e k d cs) n i p = absurd cc

pub union_length : (e : Ext) (keyed : Bool) (d : Shape) (cs : Cases) → is_number d ≡ true → (v : Val) → length (key_octets (union e keyed d cs) v) ≤ 11
unfolding fixed
union_length e true d cs n v = omega (arith, then_length (fixed Big d (int (disc_in v))) nothing 0, disc_length d n (disc_in v) 0)
union_length e false d cs n v = omega arith
