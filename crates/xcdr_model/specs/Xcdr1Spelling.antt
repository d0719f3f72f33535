-- What octets spell a value of a type in XCDR1 (DDS-XTypes 1.3, 7.4.1). It knows that type alone. Places are counted from the origin of
-- alignment.
use Rattle.std.specs.Prelude.{◌≡◌, ℕ, ◌+◌, ◌-◌, ◌/◌, ◌%◌, ◌^◌, ◌<◌, ◌≤◌, List, [], ◌∷◌, ◌++◌, Bool, true, false, cond, not, Option, Some, None, length, ◌==◌}
use Rattle.std.specs.List.{AllByRecursion}
use Rattle.xt_shapes.specs.declared.leaves.Ext.TheVariants.{Final, Appendable, Mutable}
use Rattle.xt_shapes.specs.declared.leaves.Order.{Order}
use Rattle.xt_shapes.specs.Select.{select, is_must}
use Rattle.xt_shapes.specs.Shape.{Head, Shape, prim, str, enumeration, bitmask, sequence, array, map_of, structure, union, Members, no_members, member, Cases, no_cases, one_case, product}
use Rattle.xt_shapes.specs.Vals.{Val, Slots, Slot, absent, present, number_in, octets_in, items_in, entries_in, slots_in, disc_in, body_in, first, others}
use Rattle.xcdr_model.specs.Numbers.{octets, padding}
use Rattle.xcdr_model.specs.Projection.{part_at}
use Rattle.xcdr_model.specs.Spelling.{Spelled, Nothing, Then, Each}
use Rattle.xcdr_model.specs.Xcdr1Reading.{is_open}
use Rattle.xcdr_model.specs.Xcdr2Reading.{Piece}
use Rattle.xcdr_model.specs.Xcdr2Spelling.{scalar, IsText, Counted, distinct_ids, sent, if_selected, if_present}

-- the two forms of a header. Bits that no reader looks at may have any value
pub data Header (o : Order) (id len : ℕ) (must : Bool) (h : List ℕ) : Type 0 where
  short_form : (w : ℕ) → w < 2 ^ 16 → w % 2 ^ 14 ≡ id → (w / 2 ^ 14 % 2 == 1) ≡ must → len < 2 ^ 16 → id ≤ 0x3F00 → h ≡ octets o 2 w ++ octets o 2 len → Header o id len must h
  long_form : (w n : ℕ) → w < 2 ^ 16 → w % 2 ^ 14 ≡ 0x3F01 → n < 2 ^ 32 → n % 2 ^ 28 ≡ id → (n / 2 ^ 30 % 2 == 1) ≡ must → len < 2 ^ 32 → id < 2 ^ 28 - 1
      → h ≡ octets o 2 w ++ (octets o 2 8 ++ (octets o 4 n ++ octets o 4 len)) → Header o id len must h

-- a header behind its padding, and as many octets as it counts
pub record IsParam (o : Order) (q : Piece) (p : ℕ) (b : List ℕ) : Type 0 where
  pub pad : List ℕ
  pub head : List ℕ
  pub aligned : length pad ≡ padding 4 p
  pub form : Header o q.id (length q.content.rest) q.must head
  pub header_is : q.header ≡ p + padding 4 p
  pub content_is : q.content.at ≡ p + length pad + length head
  pub parts : b ≡ pad ++ (head ++ q.content.rest)

-- a parameter that is passed over
pub record IsIgnored (o : Order) (p : ℕ) (b : List ℕ) : Type 0 where
  pub pad : List ℕ
  pub more : List ℕ
  pub w : ℕ
  pub aligned : length pad ≡ padding 4 p
  pub word_fits : w < 2 ^ 16
  pub word : w % 2 ^ 14 ≡ 0x3F03
  pub fits : length more < 2 ^ 16
  pub parts : b ≡ pad ++ ((octets o 2 w ++ octets o 2 (length more)) ++ more)

pub record IsEnd (o : Order) (p : ℕ) (b : List ℕ) : Type 0 where
  pub pad : List ℕ
  pub w : ℕ
  pub len : ℕ
  pub aligned : length pad ≡ padding 4 p
  pub word_fits : w < 2 ^ 16
  pub word : w % 2 ^ 14 ≡ 0x3F02
  pub fits : len < 2 ^ 16
  pub parts : b ≡ pad ++ (octets o 2 w ++ octets o 2 len)

-- parameters in a row, those passed over as None
abbrev pub Params1 : Order → List (Option Piece) → Spelled
Params1 o [] = IsEnd o
Params1 o (None ∷ qs) = Then (IsIgnored o) (Params1 o qs)
Params1 o (Some q ∷ qs) = Then (IsParam o q) (Params1 o qs)

abbrev pub pieces : List (Option Piece) → List Piece
pieces [] = []
pieces (None ∷ qs) = pieces qs
pieces (Some q ∷ qs) = q ∷ pieces qs

-- a content: from an origin of its own, and up to three octets of padding after a closed one
pub record Content (closed : Bool) (P : ℕ → List ℕ → Type 0) (c : List ℕ) : Type 0 where
  pub body : List ℕ
  pub pad : List ℕ
  pub parts : c ≡ body ++ pad
  pub few : length pad ≤ cond closed 3 0
  pub spelled : P 0 body

-- an optional member: one parameter, empty where it is absent, and marked wherever the member must be understood (this profile's own)
pub record OneParam (o : Order) (h : Head) (C : List ℕ → Type 0) (p : ℕ) (b : List ℕ) : Type 0 where
  pub piece : Piece
  pub id : piece.id ≡ h.id
  pub mark : piece.must ≡ is_must h
  pub spelled : IsParam o piece p b
  pub content : C piece.content.rest

abbrev pub slot1 : Bool → Order → Head → Bool → (Val → Spelled) → Slot → Spelled
slot1 false o h closed P absent = λ p b. ⊥
slot1 false o h closed P (present w) = P w
slot1 true o h closed P absent = OneParam o h (λ c. c ≡ [])
slot1 true o h closed P (present w) = OneParam o h (Content closed (P w))

pub record AnyParams (o : Order) (ms : Members) (ss : Slots) (each : List Piece → Type 0) (p : ℕ) (b : List ℕ) : Type 0 where
  pub qs : List (Option Piece)
  pub spelled : Params1 o qs p b
  pub distinct : distinct_ids (pieces qs) ≡ true
  pub sent_each : each (pieces qs)
  pub no_others : AllByRecursion (λ q. (x : Shape × Val) × (part_at ms ss q.id ≡ Some x)) (pieces qs)

unfoldable mutual
  pub writes1 : Order → Shape → Val → ℕ → List ℕ → Type 0
  writes1 o (prim p) v = scalar 8 o (prim p) (number_in v)
  writes1 o (enumeration e bits ls) v = scalar 8 o (enumeration e bits ls) (number_in v)
  writes1 o (bitmask bits fs) v = scalar 8 o (bitmask bits fs) (number_in v)
  writes1 o (str bound) v = IsText o (octets_in v)
  writes1 o (sequence bound tc t) v = Counted o (λ w. writes1 o t w) (items_in v)
  writes1 o (array dims tc t) v = λ p b. (length (items_in v) ≡ product dims) × Each (λ w. writes1 o t w) (items_in v) p b
  writes1 o (map_of bound kc k vc t) v = Counted o (λ x. Then (writes1 o k x.0) (writes1 o t x.1)) (entries_in v)
  writes1 o (structure Final ms) v = writes_members1 o ms (slots_in v)
  writes1 o (structure Appendable ms) v = writes_members1 o ms (slots_in v)
  writes1 o (structure Mutable ms) v = AnyParams o ms (slots_in v) (λ qs. writes_params o ms (slots_in v) qs)
  writes1 o (union e key disc cs) v = Then (scalar 8 o disc (disc_in v)) (if_selected (select cs (disc_in v)) (λ i. writes_case1 o cs i (body_in v)))

  pub writes_members1 : Order → Members → Slots → ℕ → List ℕ → Type 0
  writes_members1 o no_members ss = Nothing
  writes_members1 o (member h t ms) ss = Then (slot1 h.optional o h (not (is_open t)) (λ w. writes1 o t w) (first ss)) (writes_members1 o ms (others ss))

  pub writes_params : Order → Members → Slots → List Piece → Type 0
  writes_params o no_members ss qs = Unit {0}
  writes_params o (member h t ms) ss qs = sent (λ w at c. Content (not (is_open t)) (writes1 o t w) c) qs h (first ss) × writes_params o ms (others ss) qs

  pub writes_case1 : Order → Cases → ℕ → Slot → ℕ → List ℕ → Type 0
  writes_case1 o no_cases i s = λ p b. ⊥
  writes_case1 o (one_case h t cs) i s = cond (h.id == i) (if_present s (λ w. writes1 o t w)) (writes_case1 o cs i s)
