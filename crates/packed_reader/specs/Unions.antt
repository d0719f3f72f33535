-- Unions of which nothing has to be settled (DDS-XTypes 1.3, 7.4.3.5 and 7.4.1; that nothing is settled is this profile's own).
use Rattle.std.specs.Prelude.{◌≡◌, ℕ, ℤ, Bool, ◌==◌, false, Some, None, Ok, length}
use Rattle.xt_shapes.specs.declared.leaves.Order.{Order}
use Rattle.xt_shapes.specs.declared.leaves.Rep.{Rep}
use Rattle.xt_shapes.specs.declared.leaves.Rep.TheVariants.{Xcdr1, Xcdr2}
use Rattle.xt_shapes.specs.Select.{select}
use Rattle.xt_shapes.specs.Shape.{Shape, Cases}
use Rattle.xt_shapes.specs.Vals.{Val, int, union_of, Slot, absent, present}
use Rattle.xcdr_model.specs.Projection.{got, Body, settled_body, disc_built}
use Rattle.xcdr_model.specs.Reading.{Spot, Reading}
use Rattle.xcdr_model.specs.Xcdr1Reading.{read_case1}
use Rattle.xcdr_model.specs.Xcdr2Reading.{read_case, scalar_at}
use Rattle.packed_reader.specs.Reads.{most}

-- a number that can be a discriminator's: an enumeration's is the value of a literal
pub record ReadsNumber (r : Rep) (o : Order) (t : Shape) (s : Spot) (d : ℤ) (s2 : Spot) : Type 0 where
  pub number : scalar_at (most r) o t s ≡ Ok (d, s2)
  pub built : disc_built t d ≡ got (int d)

-- the case with an id; in XCDR1 of a union that has only its own octets
abbrev pub case_in : Rep → Order → Cases → ℕ → Spot → Reading (Body × Bool)
case_in Xcdr1 o cs id s = read_case1 false o cs id s
case_in Xcdr2 o cs id s = read_case o cs id s

-- the value of the case that the number selects, of which some octets are there
pub record ReadsCase (r : Rep) (o : Order) (cs : Cases) (d : ℤ) (s : Spot) (v : Val) (s2 : Spot) : Type 0 where
  pub id : ℕ
  pub selected : select cs d ≡ Some id
  pub some : (length s.rest == 0) ≡ false
  pub value : case_in r o cs id s ≡ Ok ((settled_body (Some v), false), s2)

-- the body of a union: it is absent where no case is selected
abbrev pub ReadsBody : Rep → Order → Cases → ℤ → Spot → Slot → Spot → Type 0
ReadsBody r o cs d s absent s2 = (select cs d ≡ None) × (s2 ≡ s)
ReadsBody r o cs d s (present v) s2 = ReadsCase r o cs d s v s2

-- a discriminator and the body behind it
pub record ReadsUnion (r : Rep) (o : Order) (t : Shape) (cs : Cases) (s : Spot) (v : Val) (s2 : Spot) : Type 0 where
  pub disc : ℤ
  pub body : Slot
  pub inside : Spot
  pub value : v ≡ union_of disc body
  pub number : ReadsNumber r o t s disc inside
  pub behind : ReadsBody r o cs disc inside body s2
