-- The members of a MUTABLE structure, each behind its header (DDS-XTypes 1.3, 7.4.3.4: EMHEADER, its length code and NEXTINT), where they
-- come in declared order, which is this profile's own.
use Rattle.std.specs.Prelude.{◌≡◌, ◌<◌, ℕ, Bool, true, [], Ok, length}
use Rattle.xt_shapes.specs.declared.leaves.Order.{Order}
use Rattle.xt_shapes.specs.declared.leaves.Rep.TheVariants.{Xcdr2}
use Rattle.xt_shapes.specs.Shape.{Head, Shape, Members}
use Rattle.xt_shapes.specs.Vals.{Val, Slot, absent, present}
use Rattle.xcdr_model.specs.Numbers.{padding}
use Rattle.xcdr_model.specs.Projection.{whole_structure}
use Rattle.xcdr_model.specs.Reading.{Spot}
use Rattle.xcdr_model.specs.Xcdr2Reading.{piece_at, members_at, read_named, done}
use Rattle.packed_reader.specs.Reads.{plain, Reads}

-- the next piece is of the member with that id
pub record IsPiece (o : Order) (id : ℕ) (s content behind : Spot) : Type 0 where
  pub header : ℕ
  pub must : Bool
  pub told : piece_at o s ≡ Ok (record { header = header; id = id; must = must; content = content }, behind)
  pub room : padding 4 s.at < length s.rest
  pub later : length behind.rest < length s.rest

-- the next piece is of this member, and its content is the value
pub record ReadsContent (o : Order) (h : Head) (t : Shape) (s : Spot) (v : Val) (behind : Spot) : Type 0 where
  pub content : Spot
  pub end : Spot
  pub piece : IsPiece o h.id s content behind
  pub value : Reads Xcdr2 o t content v end
  pub filled : end.rest ≡ []

-- the slot of the next member
abbrev pub ReadsPiece : Order → Head → Shape → Spot → Slot → Spot → Type 0
ReadsPiece o h t s absent s2 = (h.optional ≡ true) × (s2 ≡ s)
ReadsPiece o h t s (present v) s2 = ReadsContent o h t s v s2

-- the members of a region
abbrev pub ReadsPieces : Order → Members → Spot → Val → Type 0
ReadsPieces o ms s v = done (λ r. whole_structure ms r.0 r.1) (members_at o (λ id. read_named o ms id) s) ≡ Ok (plain v, s)
