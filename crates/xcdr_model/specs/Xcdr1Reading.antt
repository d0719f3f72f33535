-- How a reader's type reads octets in XCDR1 (DDS-XTypes 1.3, 7.4.1: extended CDR, encoding version 1). It knows no writer's type. Places
-- are counted from the origin of alignment, which a parameter's content starts anew.
use Rattle.std.specs.Prelude.{ℕ, zero, suc, ◌+◌, ◌-◌, ◌/◌, ◌%◌, ◌^◌, List, [], ◌∷◌, ◌++◌, Bool, true, false, cond, not, Option, Some, None, Result, Ok, Err, length, take, drop, min, nat_lt, nat_le, ◌==◌, ◌||◌, ◌&&◌}
use Rattle.xt_shapes.specs.declared.leaves.Ext.{Ext}
use Rattle.xt_shapes.specs.declared.leaves.Ext.TheVariants.{Final, Appendable, Mutable}
use Rattle.xt_shapes.specs.declared.leaves.Order.{Order}
use Rattle.xt_shapes.specs.Defaults.{default_of}
use Rattle.xt_shapes.specs.Select.{is_literal, select}
use Rattle.xt_shapes.specs.Shape.{Shape, prim, str, enumeration, bitmask, sequence, array, map_of, structure, union, Members, no_members, member, Cases, no_cases, one_case, product}
use Rattle.xt_shapes.specs.Vals.{int}
use Rattle.xcdr_model.specs.declared.malformed.Fault.{Fault}
use Rattle.xcdr_model.specs.declared.malformed.Why.TheVariants.{Short, MemberSize, MemberId, LengthRest, Trailing, Parameter}
use Rattle.xcdr_model.specs.Numbers.{number, padding}
use Rattle.xcdr_model.specs.Projection.{got, failed, Part, gather_text, whole_items, whole_entries, whole_structure, Body, no_body, one_sided, settled_case, whole_union, disc_built}
use Rattle.xcdr_model.specs.Reading.{Spot, Reading, fault_at, ◌>>=◌, step, front, each_at}
use Rattle.xcdr_model.specs.Xcdr2Reading.{done, scalar_at, text_at, counted_at, Piece, contents, one_part, selected_at}

-- ---- parameter headers (7.4.1.2: the parameter list, its ids and flags; which bits are not looked at is this profile's own)

-- n octets, aligned to 4
unfoldable pub block_at : ℕ → Spot → Reading (List ℕ)
block_at n s = let pad = padding 4 s.at in
    cond (nat_lt (length s.rest) (pad + n)) (fault_at (s.at + min pad (length s.rest)) Short) (Ok (take n (drop pad s.rest), step (pad + n) s))

-- whether it has the extended form, the id, whether it is marked, and the content's length
pub record Mark : Type 0 where
  pub extended : Bool
  pub id : ℕ
  pub must : Bool
  pub length : ℕ

abbrev pub first_octets : Order → List ℕ → ℕ
first_octets o h = number o (take 2 h)

abbrev pub short_mark : Order → List ℕ → Mark
short_mark o h = record { extended = false; id = first_octets o h % 2 ^ 14; must = first_octets o h / 2 ^ 14 % 2 == 1; length = number o (take 2 (drop 2 h)) }

abbrev pub long_mark : Order → List ℕ → Mark
long_mark o h = let n = number o (take 4 (drop 4 h)) in record { extended = true; id = n % 2 ^ 28; must = n / 2 ^ 30 % 2 == 1; length = number o (take 4 (drop 8 h)) }

-- a header; the extended form has the length 8
unfoldable pub mark_at : Order → Spot → Reading Mark
mark_at o s = block_at 4 s >>= λ h. cond (first_octets o h.0 % 2 ^ 14 == 0x3F01)
    (block_at 12 s >>= λ x. cond (number o (take 2 (drop 2 x.0)) == 8) (Ok (long_mark o x.0, x.1)) (fault_at (s.at + padding 4 s.at) Parameter))
    (Ok (short_mark o h.0, h.1))

abbrev pub is_no_id : Mark → Bool
is_no_id m = cond m.extended (m.id == 2 ^ 28 - 1) (nat_lt 0x3F00 m.id)

abbrev pub is_end : Mark → Bool
is_end m = not m.extended && (m.id == 0x3F02)

abbrev pub is_ignored : Mark → Bool
is_ignored m = not m.extended && (m.id == 0x3F03)

-- the content that a header counts
unfoldable pub sized_at : ℕ → Mark → Spot → Reading Piece
sized_at header m s = cond (nat_lt (length s.rest) m.length) (fault_at header MemberSize) (Ok (record { header = header; id = m.id; must = m.must; content = front m.length s }, step m.length s))

-- ---- contents

abbrev pub shifted : {A : Type 0} → ℕ → Result A Fault → Result A Fault
shifted k (Ok x) = Ok x
shifted k (Err f) = Err (record { at = k + f.at; why = f.why })

-- up to three octets may be left of a closed one: any but an appendable structure and a union (this profile's own)
abbrev pub closed_by : {A : Type 0} → Bool → A × Spot → Reading A
closed_by closed x = cond (nat_le (length x.1.rest) (cond closed 3 0)) (Ok (x.0, record { at = x.1.at; rest = [] })) (fault_at x.1.at LengthRest)

-- a content is read from an origin of its own
unfoldable pub content_read : {A : Type 0} → Bool → (Spot → Reading A) → Spot → Reading A
content_read closed f c = shifted c.at (f (record { at = 0; rest = c.rest }) >>= λ x. closed_by closed x)

abbrev pub is_open : Shape → Bool
is_open (structure Appendable ms) = true
is_open (union e key disc cs) = true
is_open _ = false

-- ---- parameters up to the list's end

-- what a parameter is: the end, one to pass over, or a member's
abbrev pub by_mark : {X : Type 0} → Mark → X → X → X → X
by_mark m end ignored other = cond (is_end m) end (cond (is_ignored m) ignored other)

abbrev pub checked_id : ℕ → Mark → Result Mark Fault
checked_id header m = cond (is_no_id m) (fault_at header MemberId) (Ok m)

abbrev pub Params : Type 0
Params = List Piece × Result Spot Fault

abbrev pub pass_on : Reading Piece → (Spot → Params) → Params
pass_on (Err f) go = ([], Err f)
pass_on (Ok q) go = go q.1

abbrev pub and_one : Reading Piece → (Spot → Params) → Params
and_one (Err f) go = ([], Err f)
and_one (Ok q) go = let r = go q.1 in (q.0 ∷ r.0, r.1)

abbrev pub one_param : ℕ → Reading Mark → (Spot → Params) → Params
one_param header (Err f) go = ([], Err f)
one_param header (Ok m) go = by_mark m.0 ([], Ok m.1) (pass_on (sized_at header m.0 m.1) go) (and_one (checked_id header m.0 >>= λ n. sized_at header n m.1) go)

unfoldable pub params_at : Order → ℕ → Spot → Params
params_at o zero s = ([], fault_at s.at Short)
params_at o (suc n) s = one_param (s.at + padding 4 s.at) (mark_at o s) (λ s1. params_at o n s1)

abbrev pub fault_of : Result Spot Fault → Option Fault
fault_of (Ok s) = None
fault_of (Err f) = Some f

abbrev pub params_read : Order → (ℕ → Option (Spot → Reading Part)) → Spot → Reading (List (ℕ × Part) × Bool)
params_read o known s = let ps = params_at o (suc (length s.rest)) s in contents known [] ps.0 (fault_of ps.1) >>= λ r. ps.1 >>= λ s1. Ok (r, s1)

-- ---- members in order

abbrev pub named : ℕ → ℕ → Mark → Result Mark Fault
named header id m = cond ((m.id == id) && not (is_end m || is_ignored m)) (Ok m) (fault_at header Parameter)

-- an optional member is one parameter, empty where it is absent
unfoldable pub optional1_at : Bool → Order → ℕ → (Spot → Reading Part) → (Spot → Reading Part) → Spot → Reading (List (ℕ × Part))
optional1_at false o id f g s = one_part id (f s)
optional1_at true o id f g s = let header = s.at + padding 4 s.at in mark_at o s >>= λ m. named header id m.0 >>= λ n. checked_id header n >>= λ k. sized_at header k m.1 >>= λ q.
    cond (length q.0.content.rest == 0) (Ok ([], q.1)) (g q.0.content >>= λ x. Ok ((id, x.0) ∷ [], q.1))

-- ---- unions

abbrev pub at_end_of : {A : Type 0} → A → Spot → Reading A
at_end_of x s = Ok (x, record { at = s.at + length s.rest; rest = [] })

abbrev pub rest_selected1 : Option ℕ → (ℕ → Spot → Reading (Body × Bool)) → Spot → Reading (Body × Bool)
rest_selected1 None f s = at_end_of (cond (length s.rest == 0) no_body one_sided, false) s
rest_selected1 (Some i) f s = cond (length s.rest == 0) (Ok ((one_sided, false), s)) (f i s)

abbrev pub case_read : Bool → Option ℕ → (ℕ → Spot → Reading (Body × Bool)) → Spot → Reading (Body × Bool)
case_read true i f s = rest_selected1 i f s
case_read false i f s = selected_at i f s

abbrev pub is_appendable : Ext → Bool
is_appendable Appendable = true
is_appendable Final = false
is_appendable Mutable = false

-- what is left of the region is passed over by a tail
abbrev pub passed : {A : Type 0} → Bool → A × Spot → Reading A
passed true x = at_end_of x.0 x.1
passed false x = Ok x

-- ---- the reading: a tail has the rest of its region, and an inner value only its own octets. The whole body and each parameter's content
-- are tails; elements, keys, map values, discriminators and members without a header are inner; a case has its union's mode
-- (this profile's own)

unfoldable mutual
  pub read1 : Bool → Order → Shape → Spot → Reading Part
  read1 tail o (prim p) s = done (λ i. (got (int i), false)) (scalar_at 8 o (prim p) s)
  read1 tail o (enumeration e bits ls) s = done (λ i. (cond (is_literal ls i) (got (int i)) failed, false)) (scalar_at 8 o (enumeration e bits ls) s)
  read1 tail o (bitmask bits fs) s = done (λ i. (got (int i), false)) (scalar_at 8 o (bitmask bits fs) s)
  read1 tail o (str bound) s = done (λ t. (gather_text bound t, false)) (text_at o s)
  read1 tail o (sequence bound tc t) s = done (whole_items bound tc (default_of t)) (counted_at o (λ s1. read1 false o t s1) s)
  read1 tail o (array dims tc t) s = done (whole_items 0 tc (default_of t)) (each_at (product dims) (λ s1. read1 false o t s1) s)
  read1 tail o (map_of bound kc k vc t) s = done (whole_entries bound kc (default_of k) vc (default_of t)) (counted_at o (λ s1. read1 false o k s1 >>= λ x. read1 false o t x.1 >>= λ y. Ok ((x.0, y.0), y.1)) s)
  read1 tail o (structure Final ms) s = done (λ ps. whole_structure ms ps false) (read_members1 o false ms s)
  read1 tail o (structure Appendable ms) s = done (λ ps. whole_structure ms ps false) (read_members1 o tail ms s) >>= λ x. passed tail x
  read1 tail o (structure Mutable ms) s = done (λ r. whole_structure ms r.0 r.1) (params_read o (λ id. read_named1 o ms id) s)
  read1 tail o (union e key disc cs) s = scalar_at 8 o disc s >>= λ d. done (λ b. whole_union (disc_built disc d.0) d.0 b) (case_read (tail && is_appendable e) (select cs d.0) (λ i s1. read_case1 tail o cs i s1) d.1)

  pub read_members1 : Order → Bool → Members → Spot → Reading (List (ℕ × Part))
  read_members1 o cut no_members s = Ok ([], s)
  read_members1 o cut (member h t ms) s = cond (cut && (length s.rest == 0)) (Ok ([], s)) (optional1_at h.optional o h.id (λ s1. read1 false o t s1) (content_read (not (is_open t)) (λ s1. read1 true o t s1)) s >>= λ x. read_members1 o cut ms x.1 >>= λ xs. Ok (x.0 ++ xs.0, xs.1))

  pub read_named1 : Order → Members → ℕ → Option (Spot → Reading Part)
  read_named1 o no_members id = None
  read_named1 o (member h t ms) id = cond (h.id == id) (Some (content_read (not (is_open t)) (λ s1. read1 true o t s1))) (read_named1 o ms id)

  pub read_case1 : Bool → Order → Cases → ℕ → Spot → Reading (Body × Bool)
  read_case1 tail o no_cases i s = fault_at s.at Short
  read_case1 tail o (one_case h t cs) i s = cond (h.id == i) (done (λ x. settled_case h t x) (read1 tail o t s)) (read_case1 tail o cs i s)

unfoldable pub read_body1 : Order → Shape → List ℕ → Result Part Fault
read_body1 o t b = read1 true o t (record { at = 0; rest = b }) >>= λ x. cond (length x.1.rest == 0) (Ok x.0) (fault_at x.1.at Trailing)
