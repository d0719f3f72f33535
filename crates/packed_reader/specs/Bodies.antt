-- The head of a sample, and its body (DDS-XTypes 1.3, 7.6.3.1.2: the encapsulation identifier, and the padding that its options count).
use Rattle.std.specs.Prelude.{◌≡◌, ℕ, ◌/◌, ◌%◌, ◌==◌, true, List, [], ◌∷◌, Ok}
use Rattle.xt_shapes.specs.declared.leaves.Ext.{Ext}
use Rattle.xt_shapes.specs.declared.leaves.Order.{Order}
use Rattle.xt_shapes.specs.declared.leaves.Rep.{Rep}
use Rattle.xt_shapes.specs.declared.leaves.Rep.TheVariants.{Xcdr1}
use Rattle.xt_shapes.specs.declared.leaves.Ext.TheVariants.{Appendable}
use Rattle.xt_shapes.specs.Shape.{Shape, Members, structure}
use Rattle.xt_shapes.specs.Vals.{Val}
use Rattle.xcdr_model.specs.Reading.{Spot}
use Rattle.xcdr_model.specs.Samples.{row_of, order_of, body_read}
use Rattle.packed_reader.specs.Reads.{plain, Reads, ReadsMembers}

-- the identifier of the extensibility and the byte order, the padding that the last octet counts, and what is behind
pub record IsHead (r : Rep) (e : Ext) (s : List ℕ) (o : Order) (pad : ℕ) (behind : List ℕ) : Type 0 where
  pub kind : ℕ
  pub option : ℕ
  pub counting : ℕ
  pub parts : s ≡ 0 ∷ kind ∷ option ∷ counting ∷ behind
  pub row : (kind / 2 == row_of r e) ≡ true
  pub order : o ≡ order_of (kind % 2)
  pub pad_is : pad ≡ counting % 4

-- the body of a value, all of it
abbrev pub IsBody : Rep → Order → Shape → List ℕ → Val → Type 0
IsBody r o t b v = body_read r o t b ≡ Ok (plain v)

-- a value that has only its own octets, up to the region's end
pub record IsOwn (r : Rep) (o : Order) (t : Shape) (s : Spot) (v : Val) : Type 0 where
  pub end : Spot
  pub value : Reads r o t s v end
  pub none_left : end.rest ≡ []

-- an appendable structure that has the rest of its region, in XCDR1
pub record IsTail (o : Order) (t : Shape) (s : Spot) (v : Val) : Type 0 where
  pub members : Members
  pub end : Spot
  pub type_is : t ≡ structure Appendable members
  pub value : ReadsMembers Xcdr1 o true members s v end
