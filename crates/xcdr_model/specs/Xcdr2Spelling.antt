-- What octets spell a value of a type in XCDR2 (DDS-XTypes 1.3, 7.4.2 and 7.4.3). It knows that type alone. Members come in any order,
-- under any length code whose length is the content's, and padding octets may have any value.
use Rattle.std.specs.Prelude.{◌≡◌, ℕ, ◌+◌, ◌-◌, ◌*◌, ◌^◌, ◌<◌, ◌≤◌, ℤ, pos, negsuc, List, [], ◌∷◌, ◌++◌, Bool, true, false, cond, not, Option, Some, None, length, ◌==◌, ◌&&◌}
use Rattle.std.specs.List.{AllByRecursion}
use Rattle.xt_shapes.specs.declared.leaves.Ext.TheVariants.{Final, Appendable, Mutable}
use Rattle.xt_shapes.specs.declared.leaves.Order.{Order}
use Rattle.xt_shapes.specs.Lists.{has, find_by}
use Rattle.xt_shapes.specs.Select.{select, is_must}
use Rattle.xt_shapes.specs.Shape.{Head, Shape, prim, str, enumeration, bitmask, sequence, array, map_of, structure, union, Members, no_members, member, Cases, no_cases, one_case, product}
use Rattle.xt_shapes.specs.Sizes.{size, is_signed, is_boolean, enum_size, mask_size}
use Rattle.xt_shapes.specs.Vals.{Val, Slots, Slot, absent, present, number_in, octets_in, items_in, entries_in, slots_in, disc_in, body_in, first, others}
use Rattle.xcdr_model.specs.Numbers.{octets, padding, raw}
use Rattle.xcdr_model.specs.Projection.{part_at}
use Rattle.xcdr_model.specs.Spelling.{Spelled, Nothing, IsNumber, Then, Headed, Each, Octets}
use Rattle.xcdr_model.specs.Xcdr2Reading.{Piece, is_primitive}

-- a number that k octets hold
abbrev pub InRange : ℕ → Bool → ℤ → Type 0
InRange k signed (pos n) = cond signed (n < 128 * 256 ^ (k - 1)) (n < 256 ^ k)
InRange k signed (negsuc n) = cond signed (n < 128 * 256 ^ (k - 1)) ⊥

-- a number that a type has
pub record Scalar (most : ℕ) (o : Order) (k : ℕ) (signed : Bool) (i : ℤ) (p : ℕ) (b : List ℕ) : Type 0 where
  pub in_range : InRange k signed i
  pub spelled : IsNumber most o k (raw k i) p b

-- below 2 or below 2 ^ bits, where the type says so
pub record Bounded (most : ℕ) (o : Order) (k limit : ℕ) (i : ℤ) (p : ℕ) (b : List ℕ) : Type 0 where
  pub n : ℕ
  pub is : i ≡ pos n
  pub below : n < limit
  pub spelled : IsNumber most o k n p b

abbrev pub scalar : ℕ → Order → Shape → ℤ → Spelled
scalar most o (prim p) i = cond (is_boolean p) (Bounded most o (size p) 2 i) (Scalar most o (size p) (is_signed p) i)
scalar most o (enumeration e bits ls) i = Scalar most o (enum_size bits) (enum_size bits == 4) i
scalar most o (bitmask bits fs) i = Bounded most o (mask_size bits) (2 ^ bits) i
scalar most o _ i = λ p b. ⊥

-- a text without NUL, its count, and NUL
pub record IsText (o : Order) (t : List ℕ) (p : ℕ) (b : List ℕ) : Type 0 where
  pub no_nul : has (λ c. c == 0) t ≡ false
  pub spelled : Then (IsNumber 4 o 4 (length t + 1)) (Octets (t ++ 0 ∷ [])) p b

abbrev pub Collection : Bool → Order → Spelled → Spelled
Collection true o P = P
Collection false o P = Headed o P

abbrev pub Counted : {A : Type 0} → Order → (A → Spelled) → List A → Spelled
Counted o P xs = Then (IsNumber 4 o 4 (length xs)) (Each P xs)

-- ---- members in order

abbrev pub slot_of : Bool → Order → (Val → Spelled) → Slot → Spelled
slot_of false o P absent = λ p b. ⊥
slot_of false o P (present w) = P w
slot_of true o P absent = IsNumber 4 o 1 0
slot_of true o P (present w) = Then (IsNumber 4 o 1 1) (P w)

-- ---- members under headers (7.4.3.4)

abbrev pub bit : Bool → ℕ
bit true = 1
bit false = 0

abbrev pub word : ℕ → Piece → ℕ
word code q = bit q.must * 2 ^ 31 + code * 2 ^ 28 + q.id

-- octets for each count of a content that begins with its own count
abbrev pub unit_of : ℕ → ℕ
unit_of code = cond (code == 5) 1 (cond (code == 6) 4 8)

-- the forms of a header: a size, a count of its own, or the content's count
pub data HasForm (o : Order) (q : Piece) (h : List ℕ) : Type 0 where
  sized : (code : ℕ) → code < 4 → length q.content.rest ≡ 2 ^ code → h ≡ octets o 4 (word code q) → HasForm o q h
  counted : length q.content.rest < 2 ^ 32 → h ≡ octets o 4 (word 4 q) ++ octets o 4 (length q.content.rest) → HasForm o q h
  shared : (code n : ℕ) (more : List ℕ) → 4 < code → code < 8 → n < 2 ^ 32 → q.content.rest ≡ octets o 4 n ++ more → length more ≡ n * unit_of code → h ≡ octets o 4 (word code q) → HasForm o q h

pub record IsPiece (o : Order) (q : Piece) (p : ℕ) (b : List ℕ) : Type 0 where
  pub pad : List ℕ
  pub head : List ℕ
  pub aligned : length pad ≡ padding 4 p
  pub id_fits : q.id < 2 ^ 28 - 1
  pub form : HasForm o q head
  pub header_is : q.header ≡ p + padding 4 p
  pub content_is : q.content.at ≡ p + length pad + length head
  pub parts : b ≡ pad ++ (head ++ q.content.rest)

-- padding after the last member, at most up to the next multiple of 4
abbrev pub Closing : Spelled
Closing p b = length b ≤ padding 4 p

abbrev pub Pieces : Order → List Piece → Spelled
Pieces o [] = Closing
Pieces o (q ∷ qs) = Then (IsPiece o q) (Pieces o qs)

abbrev pub piece_of : List Piece → ℕ → Option Piece
piece_of qs id = find_by (λ q. q.id == id) qs

abbrev pub distinct_ids : List Piece → Bool
distinct_ids [] = true
distinct_ids (q ∷ qs) = not (has (λ r. r.id == q.id) qs) && distinct_ids qs

-- the one piece of a present member
pub record Sent (P : Val → ℕ → List ℕ → Type 0) (qs : List Piece) (h : Head) (w : Val) : Type 0 where
  pub piece : Piece
  pub found : piece_of qs h.id ≡ Some piece
  pub mark : piece.must ≡ is_must h
  pub content : P w piece.content.at piece.content.rest

abbrev pub sent : (Val → Spelled) → List Piece → Head → Slot → Type 0
sent P qs h absent = Unit {0}
sent P qs h (present w) = Sent P qs h w

-- pieces in any order, one for each present member and no others
pub record AnyOrder (o : Order) (ms : Members) (ss : Slots) (each : List Piece → Type 0) (p : ℕ) (b : List ℕ) : Type 0 where
  pub qs : List Piece
  pub spelled : Pieces o qs p b
  pub distinct : distinct_ids qs ≡ true
  pub sent_each : each qs
  pub no_others : AllByRecursion (λ q. (x : Shape × Val) × (part_at ms ss q.id ≡ Some x)) qs

-- ---- unions

abbrev pub if_selected : Option ℕ → (ℕ → Spelled) → Spelled
if_selected None f = Nothing
if_selected (Some i) f = f i

abbrev pub if_present : Slot → (Val → Spelled) → Spelled
if_present absent f = λ p b. ⊥
if_present (present w) f = f w

-- ---- the spelling

unfoldable mutual
  pub writes : Order → Shape → Val → ℕ → List ℕ → Type 0
  writes o (prim p) v = scalar 4 o (prim p) (number_in v)
  writes o (enumeration e bits ls) v = scalar 4 o (enumeration e bits ls) (number_in v)
  writes o (bitmask bits fs) v = scalar 4 o (bitmask bits fs) (number_in v)
  writes o (str bound) v = IsText o (octets_in v)
  writes o (sequence bound tc t) v = Collection (is_primitive t) o (Counted o (λ w. writes o t w) (items_in v))
  writes o (array dims tc t) v = λ p b. (length (items_in v) ≡ product dims) × Collection (is_primitive t) o (Each (λ w. writes o t w) (items_in v)) p b
  writes o (map_of bound kc k vc t) v = Collection (is_primitive k && is_primitive t) o (Counted o (λ x. Then (writes o k x.0) (writes o t x.1)) (entries_in v))
  writes o (structure Final ms) v = writes_members o ms (slots_in v)
  writes o (structure Appendable ms) v = Headed o (writes_members o ms (slots_in v))
  writes o (structure Mutable ms) v = Headed o (AnyOrder o ms (slots_in v) (λ qs. writes_pieces o ms (slots_in v) qs))
  writes o (union Final key disc cs) v = Then (scalar 4 o disc (disc_in v)) (if_selected (select cs (disc_in v)) (λ i. writes_case o cs i (body_in v)))
  writes o (union Appendable key disc cs) v = Headed o (Then (scalar 4 o disc (disc_in v)) (if_selected (select cs (disc_in v)) (λ i. writes_case o cs i (body_in v))))
  writes o (union Mutable key disc cs) v = λ p b. ⊥

  pub writes_members : Order → Members → Slots → ℕ → List ℕ → Type 0
  writes_members o no_members ss = Nothing
  writes_members o (member h t ms) ss = Then (slot_of h.optional o (λ w. writes o t w) (first ss)) (writes_members o ms (others ss))

  pub writes_pieces : Order → Members → Slots → List Piece → Type 0
  writes_pieces o no_members ss qs = Unit {0}
  writes_pieces o (member h t ms) ss qs = sent (λ w. writes o t w) qs h (first ss) × writes_pieces o ms (others ss) qs

  pub writes_case : Order → Cases → ℕ → Slot → ℕ → List ℕ → Type 0
  writes_case o no_cases i s = λ p b. ⊥
  writes_case o (one_case h t cs) i s = cond (h.id == i) (if_present s (λ w. writes o t w)) (writes_case o cs i s)
