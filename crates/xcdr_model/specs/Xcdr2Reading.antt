-- How a reader's type reads octets in XCDR2 (DDS-XTypes 1.3, 7.4.2 and 7.4.3: extended CDR, encoding version 2). It knows no writer's type.
-- What it takes and what it refuses beyond the standard's spellings is this profile's own.
use Rattle.std.specs.Prelude.{ℕ, zero, suc, ◌+◌, ◌-◌, ◌*◌, ◌/◌, ◌%◌, ◌^◌, ℤ, pos, List, [], ◌∷◌, ◌++◌, Bool, true, false, cond, not, Option, Some, None, Result, Ok, Err, length, take, min, nat_lt, nat_le, ◌==◌, ◌||◌, ◌&&◌}
use Rattle.xt_shapes.specs.declared.leaves.Ext.TheVariants.{Final, Appendable, Mutable}
use Rattle.xt_shapes.specs.declared.leaves.Order.{Order}
use Rattle.xt_shapes.specs.Defaults.{default_of}
use Rattle.xt_shapes.specs.Lists.{has}
use Rattle.xt_shapes.specs.Select.{is_literal, select}
use Rattle.xt_shapes.specs.Shape.{Shape, prim, str, enumeration, bitmask, sequence, array, map_of, structure, union, Members, no_members, member, Cases, no_cases, one_case, product}
use Rattle.xt_shapes.specs.Sizes.{size, is_signed, is_boolean, enum_size, mask_size}
use Rattle.xt_shapes.specs.Vals.{int}
use Rattle.xcdr_model.specs.declared.malformed.Fault.{Fault}
use Rattle.xcdr_model.specs.declared.malformed.Why.TheVariants.{Short, Str, Boolean, Mask, MemberSize, MemberId, Twice, Trailing}
use Rattle.xcdr_model.specs.Numbers.{padding, with_sign}
use Rattle.xcdr_model.specs.Projection.{got, failed, Part, gather_text, whole_items, whole_entries, whole_structure, Body, no_body, one_sided, settled_case, whole_union, disc_built}
use Rattle.xcdr_model.specs.Reading.{Spot, Reading, fault_at, ◌>>=◌, step, number_at, octets_at, front, passing, is_used_up, filling, dheader, each_at}

-- the place of a number of k octets
abbrev pub holder : ℕ → ℕ → Spot → ℕ
holder most k s = s.at + padding (min k most) s.at

-- ---- what is no collection, structure or union

abbrev pub two_valued : Bool → ℕ → ℕ → Result ℕ Fault
two_valued boolean at n = cond (boolean && nat_lt 1 n) (fault_at at Boolean) (Ok n)

-- a number by its type: a boolean is 0 or 1, a bitmask has no bit past its bound, and an enumeration of four octets has a sign
-- (this profile's own)
unfoldable pub scalar_at : ℕ → Order → Shape → Spot → Reading ℤ
scalar_at most o (prim p) s = number_at most o (size p) s >>= λ n. two_valued (is_boolean p) (holder most 1 s) n.0 >>= λ m. Ok (with_sign (size p) (is_signed p) m, n.1)
scalar_at most o (enumeration e bits ls) s = number_at most o (enum_size bits) s >>= λ n. Ok (with_sign (enum_size bits) (enum_size bits == 4) n.0, n.1)
scalar_at most o (bitmask bits fs) s = number_at most o (mask_size bits) s >>= λ n. cond (nat_le (2 ^ bits) n.0) (fault_at (holder most (mask_size bits) s) Mask) (Ok (pos n.0, n.1))
scalar_at most o _ s = fault_at s.at Short

-- octets that end in NUL and have none before
abbrev pub without_nul : ℕ → ℕ → List ℕ → Result (List ℕ) Fault
without_nul at n t = cond (has (λ b. b == 0) (take n t) || not (has (λ b. b == 0) t)) (fault_at at Str) (Ok (take n t))

unfoldable pub text_at : Order → Spot → Reading (List ℕ)
text_at o s = number_at 4 o 4 s >>= λ n. cond (n.0 == 0) (fault_at (holder 4 4 s) Str) (octets_at n.0 n.1 >>= λ t. without_nul (holder 4 4 s) (n.0 - 1) t.0 >>= λ u. Ok (u, t.1))

abbrev pub is_primitive : Shape → Bool
is_primitive (prim p) = true
is_primitive _ = false

-- a collection stands behind a count of its octets, unless its parts are primitives (7.4.3.5)
unfoldable pub collection_at : {A : Type 0} → Bool → Order → (Spot → Reading A) → Spot → Reading A
collection_at true o f s = f s
collection_at false o f s = dheader o s >>= λ n. filling n.0 f n.1

unfoldable pub counted_at : {A : Type 0} → Order → (Spot → Reading A) → Spot → Reading (List A)
counted_at o f s = number_at 4 o 4 s >>= λ n. each_at n.0 f n.1

abbrev pub done : {A B : Type 0} → (A → B) → Reading A → Reading B
done f r = r >>= λ x. Ok (f x.0, x.1)

-- ---- members under headers (7.4.3.4: EMHEADER, its length code and NEXTINT)

-- a header's place, the id, whether it is marked, and the content
pub record Piece : Type 0 where
  pub header : ℕ
  pub id : ℕ
  pub must : Bool
  pub content : Spot

-- how many octets a content has, by the length code, and where it begins, given the place after the header. Under the codes 5 to 7 the
-- content begins with the count itself.
abbrev pub content_at : Order → ℕ → Spot → Reading ℕ
content_at o code s = cond (nat_lt code 4) (Ok (2 ^ code, s))
    (number_at 4 o 4 s >>= λ n. cond (code == 4) (Ok n) (Ok (4 + n.0 * cond (code == 5) 1 (cond (code == 6) 4 8), s)))

unfoldable pub piece_at : Order → Spot → Reading Piece
piece_at o s = number_at 4 o 4 s >>= λ h. content_at o (h.0 / 2 ^ 28 % 8) h.1 >>= λ n.
    cond (h.0 % 2 ^ 28 == 2 ^ 28 - 1) (fault_at (holder 4 4 s) MemberId)
    (cond (nat_lt (length n.1.rest) n.0) (fault_at (holder 4 4 s) MemberSize)
    (Ok (record { header = holder 4 4 s; id = h.0 % 2 ^ 28; must = h.0 / 2 ^ 31 == 1; content = front n.0 n.1 }, step n.0 n.1)))

-- the pieces of a region up to its end or to the first fault in a header; each takes at least four octets
abbrev pub ends : Spot → Bool
ends s = nat_le (length s.rest) (padding 4 s.at)

abbrev pub and_more : Result (Piece × Spot) Fault → (Spot → List Piece × Option Fault) → List Piece × Option Fault
and_more (Err f) go = ([], Some f)
and_more (Ok q) go = let r = go q.1 in (q.0 ∷ r.0, r.1)

unfoldable pub pieces_at : Order → ℕ → Spot → List Piece × Option Fault
pieces_at o zero s = ([], None)
pieces_at o (suc n) s = cond (ends s) ([], None) (and_more (piece_at o s) (λ s1. pieces_at o n s1))

-- The contents that the reader knows, in the order in which they come, and whether a marked one is unknown. `known` reads the member of an id
abbrev pub Contents : Type 0
Contents = Result (List (ℕ × Part) × Bool) Fault

abbrev pub content_of : Option (Spot → Reading Part) → List ℕ → Piece → (List ℕ → Contents) → Contents
content_of None seen q go = go seen >>= λ r. Ok (r.0, q.must || r.1)
content_of (Some f) seen q go = cond (has (λ i. i == q.id) seen) (fault_at q.header Twice) (f q.content >>= λ x. is_used_up x >>= λ y. go (q.id ∷ seen) >>= λ r. Ok ((q.id, y) ∷ r.0, r.1))

abbrev pub ended : Option Fault → Contents
ended None = Ok ([], false)
ended (Some f) = Err f

unfoldable pub contents : (ℕ → Option (Spot → Reading Part)) → List ℕ → List Piece → Option Fault → Contents
contents known seen [] end = ended end
contents known seen (q ∷ qs) end = content_of (known q.id) seen q (λ seen2. contents known seen2 qs end)

abbrev pub members_at : Order → (ℕ → Option (Spot → Reading Part)) → Spot → Reading (List (ℕ × Part) × Bool)
members_at o known s = let ps = pieces_at o (length s.rest) s in contents known [] ps.0 ps.1 >>= λ r. Ok (r, s)

-- ---- members in order: an optional one behind a presence octet

abbrev pub present_at : Order → Spot → Reading Bool
present_at o s = number_at 4 o 1 s >>= λ n. two_valued true (holder 4 1 s) n.0 >>= λ m. Ok (m == 1, n.1)

abbrev pub one_part : ℕ → Reading Part → Reading (List (ℕ × Part))
one_part id r = done (λ x. (id, x) ∷ []) r

unfoldable pub optional_at : Bool → Order → ℕ → (Spot → Reading Part) → Spot → Reading (List (ℕ × Part))
optional_at false o id f s = one_part id (f s)
optional_at true o id f s = present_at o s >>= λ b. cond b.0 (one_part id (f b.1)) (Ok ([], b.1))

-- ---- unions

-- the case that is selected
abbrev pub selected_at : Option ℕ → (ℕ → Spot → Reading (Body × Bool)) → Spot → Reading (Body × Bool)
selected_at None f s = Ok ((no_body, false), s)
selected_at (Some i) f s = f i s

-- the same where the region's end tells whether there is a body; none may be left after it (this profile's own)
abbrev pub rest_selected : Option ℕ → (ℕ → Spot → Reading (Body × Bool)) → Spot → Reading (Body × Bool)
rest_selected None f s = Ok ((cond (length s.rest == 0) no_body one_sided, false), s)
rest_selected (Some i) f s = cond (length s.rest == 0) (Ok ((one_sided, false), s)) (filling (length s.rest) (λ s2. f i s2) s)

-- ---- the reading

unfoldable mutual
  pub read : Order → Shape → Spot → Reading Part
  read o (prim p) s = done (λ i. (got (int i), false)) (scalar_at 4 o (prim p) s)
  read o (enumeration e bits ls) s = done (λ i. (cond (is_literal ls i) (got (int i)) failed, false)) (scalar_at 4 o (enumeration e bits ls) s)
  read o (bitmask bits fs) s = done (λ i. (got (int i), false)) (scalar_at 4 o (bitmask bits fs) s)
  read o (str bound) s = done (λ t. (gather_text bound t, false)) (text_at o s)
  read o (sequence bound tc t) s = done (whole_items bound tc (default_of t)) (collection_at (is_primitive t) o (counted_at o (λ s1. read o t s1)) s)
  read o (array dims tc t) s = done (whole_items 0 tc (default_of t)) (collection_at (is_primitive t) o (each_at (product dims) (λ s1. read o t s1)) s)
  read o (map_of bound kc k vc t) s = done (whole_entries bound kc (default_of k) vc (default_of t)) (collection_at (is_primitive k && is_primitive t) o (counted_at o (λ s1. read o k s1 >>= λ x. read o t x.1 >>= λ y. Ok ((x.0, y.0), y.1))) s)
  read o (structure Final ms) s = done (λ ps. whole_structure ms ps false) (read_members o false ms s)
  read o (structure Appendable ms) s = dheader o s >>= λ n. passing n.0 (λ s1. done (λ ps. whole_structure ms ps false) (read_members o true ms s1)) n.1
  read o (structure Mutable ms) s = dheader o s >>= λ n. passing n.0 (λ s1. done (λ r. whole_structure ms r.0 r.1) (members_at o (λ id. read_named o ms id) s1)) n.1
  read o (union Final key disc cs) s = scalar_at 4 o disc s >>= λ d. done (λ b. whole_union (disc_built disc d.0) d.0 b) (selected_at (select cs d.0) (λ i s1. read_case o cs i s1) d.1)
  read o (union Appendable key disc cs) s = dheader o s >>= λ n. passing n.0 (λ s1. scalar_at 4 o disc s1 >>= λ d. done (λ b. whole_union (disc_built disc d.0) d.0 b) (rest_selected (select cs d.0) (λ i s2. read_case o cs i s2) d.1)) n.1
  read o (union Mutable key disc cs) s = fault_at s.at Short

  -- in order; where a region may end before a member, all further ones are left out
  pub read_members : Order → Bool → Members → Spot → Reading (List (ℕ × Part))
  read_members o cut no_members s = Ok ([], s)
  read_members o cut (member h t ms) s = cond (cut && (length s.rest == 0)) (Ok ([], s)) (optional_at h.optional o h.id (λ s1. read o t s1) s >>= λ x. read_members o cut ms x.1 >>= λ xs. Ok (x.0 ++ xs.0, xs.1))

  pub read_named : Order → Members → ℕ → Option (Spot → Reading Part)
  read_named o no_members id = None
  read_named o (member h t ms) id = cond (h.id == id) (Some (λ s1. read o t s1)) (read_named o ms id)

  pub read_case : Order → Cases → ℕ → Spot → Reading (Body × Bool)
  read_case o no_cases i s = fault_at s.at Short
  read_case o (one_case h t cs) i s = cond (h.id == i) (done (λ x. settled_case h t x) (read o t s)) (read_case o cs i s)

-- a body: the value is all of it
unfoldable pub read_body : Order → Shape → List ℕ → Result Part Fault
read_body o t b = read o t (record { at = 0; rest = b }) >>= λ x. cond (length x.1.rest == 0) (Ok x.0) (fault_at x.1.at Trailing)
