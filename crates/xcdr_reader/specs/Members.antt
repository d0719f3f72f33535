-- The members of a mutable structure by index, and what is read of them one after another (DDS-XTypes 1.3, 7.4.1.2 and 7.4.3.4).
use Rattle.std.specs.Prelude.{◌≡◌, ◌<◌, ℕ, zero, suc, Bool, true, false, cond, ◌||◌, ◌==◌, List, [], ◌∷◌, ◌++◌, length, slice_get, Option, Some, None, Result, Ok, Err, is_some, IfSome}
use Rattle.xt_shapes.specs.declared.leaves.Order.{Order}
use Rattle.xt_shapes.specs.Shape.{Members, no_members, member}
use Rattle.xcdr_model.specs.declared.malformed.Why.TheVariants.{Twice, Short}
use Rattle.xcdr_model.specs.Reading.{Spot, Reading, fault_at, ◌>>=◌, step}
use Rattle.xcdr_model.specs.Projection.{Part, whole_structure, built_at}
use Rattle.try_construct.specs.Members.{by_member, so_far}
use Rattle.settled_parts.specs.Parts.{part_of}
use Rattle.xcdr_reader.specs.declared.known.Known.{Known}
use Rattle.xcdr_reader.specs.declared.known.Piece.{Piece}
use Rattle.xcdr_reader.specs.declared.known.Piece.TheVariants.{Unknown, Came}
use Rattle.xcdr_steps.specs.declared.reading.headings.Header.{Header}
use Rattle.xcdr_steps.specs.index.Indexed.{IsIndexOf}
use Rattle.xt_wire.specs.declared.cursor.faults.DecodeFault.{DecodeFault}
use Rattle.xt_wire.specs.declared.cursor.faults.DecodeFault.TheVariants.{Malformed}
use Rattle.xcdr_steps.specs.reading.Headings.{Told, Next, ended, ignored, told}
use Rattle.xcdr_steps.specs.reading.Indices.{index_of}
use Rattle.xcdr_reader.specs.declared.modes.Mode.{Mode}
use Rattle.xcdr_reader.specs.declared.modes.Mode.TheVariants.{Two, Inner, Tail}
use Rattle.xcdr_reader.specs.Modes.{content_in, next_in}

-- what came, under the ids of the members, and whether a marked one is unknown
abbrev pub Pieces : Type 0
Pieces = List (ℕ × Part) × Bool

-- how the member of an id reads its content of n octets
abbrev pub Reader : Type 0
Reader = ℕ → Spot → Reading Part

unfoldable pub named_in : Mode → Order → Members → ℕ → Option Reader
named_in m o no_members id = None
named_in m o (member h t ms) id = cond (h.id == id) (Some (λ n s. content_in m n t o s)) (named_in m o ms id)

-- The content behind a header: what the reader's member reads of it. An unknown one is passed over.
abbrev pub piece_read : Option Reader → Bool → Told → Spot → Reading Pieces
piece_read None came h s = Ok (([], h.must), step h.size s)
piece_read (Some f) came h s = cond came (fault_at h.at Twice) (f h.size s >>= λ y. Ok (((h.id, y.0) ∷ [], false), y.1))

-- what comes next: none at the list's end; octets of no member are passed over. `came` tells of each id whether its member came before
abbrev pub heading_read : Mode → Members → (ℕ → Bool) → Next → Order → Spot → Reading (Option Pieces)
heading_read m ms came ended o s = Ok (None, s)
heading_read m ms came (ignored n) o s = Ok (Some ([], false), step n s)
heading_read m ms came (told h) o s = piece_read (named_in m o ms h.id) (came h.id) h s >>= λ y. Ok (Some y.0, y.1)

abbrev pub next_piece : Mode → Members → (ℕ → Bool) → Order → Spot → Reading (Option Pieces)
next_piece m ms came o s = next_in m o s >>= λ x. heading_read m ms came x.0 o x.1

abbrev pub if_piece : {A : Type 0} → Option Pieces → A → (Pieces → A) → A
if_piece None x f = x
if_piece (Some q) x f = f q

-- where all turns are taken XCDR2's region has ended, and XCDR1's list has no end
abbrev pub no_more : Mode → Part → Spot → Reading Part
no_more Two x s = Ok (x, s)
no_more Inner x s = fault_at s.at Short
no_more Tail x s = fault_at s.at Short

-- the structure of what came and of the n pieces that may still come
unfoldable pub pieces_then : Mode → Members → ℕ → Pieces → Order → Spot → Reading Part
pieces_then m ms zero ps o s = no_more m (whole_structure ms ps.0 ps.1) s
pieces_then m ms (suc n) ps o s = next_piece m ms (λ id. is_some (built_at ps.0 id)) o s >>= λ x. if_piece x.0 (Ok (whole_structure ms ps.0 ps.1, x.1)) (λ q. pieces_then m ms n (ps.0 ++ q.0, ps.1 || q.1) o x.1)

abbrev pub mutable_read : Mode → Members → Order → Spot → Reading Part
mutable_read m ms o s = pieces_then m ms (length s.rest) ([], false) o s

-- ---- the program's pieces

abbrev pub piece_of : Piece → Pieces
piece_of (Unknown must) = ([], must)
piece_of (Came at id part) = ((id, part_of part) ∷ [], false)

-- the index, where there is one, is that of the members
abbrev pub IsIndexed : Members → Known → Type 0
IsIndexed ms k = IfSome k.index (IsIndexOf ms)

-- what is kept of the pieces that came
pub record Holds (ms : Members) (k : Known) (ps : Pieces) : Type 0 where
  pub slots : by_member k.slots ≡ so_far ms ps.0
  pub unseen : k.unseen ≡ ps.1
  pub indexed : IsIndexed ms k

abbrev pub flag_at : List Bool → Option ℕ → Bool
flag_at flags None = false
flag_at flags (Some i) = elim (slice_get flags i) [ None ↦ false | Some b ↦ b ]

-- whether the member with that id came
abbrev pub has_come : Members → Known → ℕ → Bool
has_come ms k id = flag_at (by_member k.slots).1 (index_of ms id)

-- the piece is of a member that has not come
abbrev pub IsNew : Members → Known → Piece → Type 0
IsNew ms k (Unknown must) = Unit {0}
IsNew ms k (Came at id part) = (index_of ms id ≡ Some at) × (has_come ms k id ≡ false)

-- The index of a header's member where it has not come, or none where the reader lacks it.
abbrev pub IsPlace : Members → Known → Header → Result (Option ℕ) DecodeFault → Type 0
IsPlace ms k h (Ok None) = index_of ms h.id ≡ None
IsPlace ms k h (Ok (Some at)) = (index_of ms h.id ≡ Some at) × (has_come ms k h.id ≡ false)
IsPlace ms k h (Err e) = (e ≡ Malformed h.at Twice) × (has_come ms k h.id ≡ true)

-- what came is of one of n members
abbrev pub IsWithin : ℕ → Piece → Type 0
IsWithin n (Unknown must) = Unit {0}
IsWithin n (Came at id part) = at < n
