-- What is read of the octets ahead, where nothing has to be settled (DDS-XTypes 1.3, 7.4; that nothing is settled is this profile's own).
use Rattle.std.specs.Prelude.{◌≡◌, ℕ, true, false, List, [], ◌∷◌, map, Ok, Bool, not, length}
use Rattle.xt_shapes.specs.declared.leaves.Order.{Order}
use Rattle.xt_shapes.specs.declared.leaves.Primitive.{Primitive}
use Rattle.xt_shapes.specs.declared.leaves.Rep.{Rep}
use Rattle.xt_shapes.specs.declared.leaves.Rep.TheVariants.{Xcdr1, Xcdr2}
use Rattle.xt_shapes.specs.Shape.{Head, Shape, Members, prim}
use Rattle.xt_shapes.specs.Typing.{is_past}
use Rattle.xt_shapes.specs.Vals.{Val, Slot, absent, present}
use Rattle.xcdr_model.specs.Projection.{Part, got, whole_structure}
use Rattle.xcdr_model.specs.Reading.{Spot, Reading, number_at, each_at}
use Rattle.xcdr_model.specs.Xcdr1Reading.{read1, read_members1, optional1_at, content_read, is_open}
use Rattle.xcdr_model.specs.Xcdr2Reading.{read, read_members, optional_at, done}
use Rattle.packed_reader.specs.declared.values.Numbers.{Numbers}
use Rattle.packed_reader.specs.View.{numbers_of}

-- in XCDR1 a value that has only its own octets
abbrev pub read_in : Rep → Order → Shape → Spot → Reading Part
read_in Xcdr1 o t s = read1 false o t s
read_in Xcdr2 o t s = read o t s

-- the greatest alignment
abbrev pub most : Rep → ℕ
most Xcdr1 = 8
most Xcdr2 = 4

-- a member that stands in declared order, and those from one on
abbrev pub member_in : Rep → Order → Head → Shape → Spot → Reading (List (ℕ × Part))
member_in Xcdr1 o h t s = optional1_at h.optional o h.id (λ s1. read1 false o t s1) (content_read (not (is_open t)) (λ s1. read1 true o t s1)) s
member_in Xcdr2 o h t s = optional_at h.optional o h.id (λ s1. read o t s1) s

abbrev pub members_in : Rep → Order → Bool → Members → Spot → Reading (List (ℕ × Part))
members_in Xcdr1 o cut ms s = read_members1 o cut ms s
members_in Xcdr2 o cut ms s = read_members o cut ms s

abbrev pub plain : Val → Part
plain v = (got v, false)

-- the value that a type's reading gives, which uses these octets up to the second spot
abbrev pub Reads : Rep → Order → Shape → Spot → Val → Spot → Type 0
Reads r o t s v s2 = read_in r o t s ≡ Ok (plain v, s2)

-- n values of a type, one after another
abbrev pub ReadsEach : Rep → Order → Shape → ℕ → Spot → List Val → Spot → Type 0
ReadsEach r o t n s vs s2 = each_at n (λ s1. read_in r o t s1) s ≡ Ok (map plain vs, s2)

-- so many as the count before them tells, within the bound
pub record ReadsCounted (r : Rep) (o : Order) (bound : ℕ) (t : Shape) (s : Spot) (vs : List Val) (s2 : Spot) : Type 0 where
  pub count : ℕ
  pub begin : Spot
  pub counted : number_at 4 o 4 s ≡ Ok (count, begin)
  pub each : ReadsEach r o t count begin vs s2
  pub within : is_past bound (length vs) ≡ false

-- n numbers of a primitive, one after another
abbrev pub ReadsNumbers : Rep → Order → Primitive → ℕ → Spot → Numbers → Spot → Type 0
ReadsNumbers r o p n s x s2 = ReadsEach r o (prim p) n s (numbers_of x) s2

-- what comes of a member, under its id
abbrev pub own_parts : ℕ → Slot → List (ℕ × Part)
own_parts id absent = []
own_parts id (present v) = (id, plain v) ∷ []

-- only an optional member is absent
abbrev pub MayBe : Head → Slot → Type 0
MayBe h absent = h.optional ≡ true
MayBe h (present v) = Unit {0}

-- the slot of a member that stands in declared order
pub record ReadsSlot (r : Rep) (o : Order) (h : Head) (t : Shape) (s : Spot) (b : Slot) (s2 : Spot) : Type 0 where
  pub allowed : MayBe h b
  pub parts : member_in r o h t s ≡ Ok (own_parts h.id b, s2)

-- The members of a structure in declared order. A region that is cut may end before the last.
abbrev pub ReadsMembers : Rep → Order → Bool → Members → Spot → Val → Spot → Type 0
ReadsMembers r o cut ms s v s2 = done (λ ps. whole_structure ms ps false) (members_in r o cut ms s) ≡ Ok (plain v, s2)
