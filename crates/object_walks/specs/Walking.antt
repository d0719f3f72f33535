-- What the code's answers say of the walk (this profile's own).
use Rattle.std.specs.Prelude.{◌≡◌, ℕ, ◌≤◌, List, [], ◌∷◌, map, Result, Ok, Err, length}
use Rattle.xt_shapes.specs.declared.leaves.Step.{Step}
use Rattle.type_trees.specs.declared.types.HashId.{HashId}
use Rattle.type_trees.specs.View.{member_tree}
use Rattle.object_walks.specs.declared.inside.Inside.{Inside, fold-Inside}
use Rattle.object_walks.specs.declared.inside.Inside.TheOpen.{Inside-F}
use Rattle.object_walks.specs.declared.place.Place.{Place}
use Rattle.object_walks.specs.declared.structure_parts.StructureParts.{StructureParts}
use Rattle.object_walks.specs.declared.stops.Stop as code
use Rattle.object_walks.specs.declared.stops.Stop.TheVariants as stops
use Rattle.object_walks.specs.declared.resolving.ResolveFault.{ResolveFault}
use Rattle.object_walks.specs.declared.resolving.ResolveFault.TheVariants as faults
use Rattle.object_walks.specs.Resolving.{Stop, absent, repeated, at_node, of_whole, Got, Walk, Standing, walk, Refusal, missing, recursive, invalid}

-- the identifiers that a place stands in, the innermost first
abbrev pub inside_level : Inside-F (List HashId) → List HashId
inside_level Inside-F.Nothing = []
inside_level (Inside-F.Of id within) = id ∷ within.now

abbrev pub ids : Inside → List HashId
ids = fold-Inside _ inside_level

abbrev pub within : Place → List HashId
within place = ids place.inside.now

-- the walk to the nodes below a place
abbrev pub below : Place → Walk
below place = walk place.levels place.pool.now

-- where the walk ended; nothing is said where memory was wanting
abbrev pub Ends : {A : Type 0} → code.Stop → Result A Stop → Type 0
Ends (stops.Missing id) found = found ≡ Err (absent id)
Ends (stops.Recursive id) found = found ≡ Err (repeated id)
Ends (stops.AtNode fault) found = found ≡ Err (at_node fault.rule fault.node)
Ends (stops.OfWhole rule) found = found ≡ Err (of_whole rule)
Ends stops.OutOfMemory found = Unit {0}

-- what was found, and the count of nodes after it
abbrev pub Finds : {X Y : Type 0} → (X → Y) → Result X code.Stop → ℕ → Got Y → Type 0
Finds view (Ok x) n found = found ≡ Ok (view x, n)
Finds view (Err stop) n found = Ends stop found

-- the same without a count
abbrev pub Answers : {X Y : Type 0} → (X → Y) → Result X code.Stop → Result Y Stop → Type 0
Answers view (Ok x) found = found ≡ Ok (view x)
Answers view (Err stop) found = Ends stop found

-- the steps to the node where the walk ended are at most so many
abbrev pub IsShort : ℕ → code.Stop → Type 0
IsShort n (stops.Missing id) = Unit {0}
IsShort n (stops.Recursive id) = Unit {0}
IsShort n (stops.AtNode fault) = length fault.node ≤ n
IsShort n (stops.OfWhole rule) = Unit {0}
IsShort n stops.OutOfMemory = Unit {0}

-- the same stop, a step further from the top
abbrev pub IsBeneath : Step → code.Stop → code.Stop → Type 0
IsBeneath step (stops.AtNode fault) new = new ≡ stops.AtNode (record { rule = fault.rule; node = step ∷ fault.node })
IsBeneath step old new = new ≡ old

abbrev pub standing : StructureParts → Standing
standing s = (s.bases, map member_tree s.members)

-- what a fault says of an identifier that has no type
abbrev pub Refuses : {A : Type 0} → ResolveFault → Result A Refusal → Type 0
Refuses (faults.Missing id) found = found ≡ Err (missing id)
Refuses (faults.Recursive id) found = found ≡ Err (recursive id)
Refuses (faults.Invalid id fault) found = found ≡ Err (invalid id fault.rule fault.node)
Refuses faults.OutOfMemory found = Unit {0}

-- a rule of valid types that fails, with the steps to the node
abbrev pub IsFault : ℕ → List Step → code.Stop → Type 0
IsFault rule node (stops.AtNode fault) = (fault.rule ≡ rule) × (fault.node ≡ node)
IsFault rule node (stops.OfWhole whole) = (whole ≡ rule) × (node ≡ [])
IsFault rule node _ = ⊥

-- the same of where the walk ended, for an asked identifier
abbrev pub RefusesStop : ResolveFault → HashId → code.Stop → Type 0
RefusesStop (faults.Missing id) asked stop = stop ≡ stops.Missing id
RefusesStop (faults.Recursive id) asked stop = stop ≡ stops.Recursive id
RefusesStop (faults.Invalid id fault) asked stop = (id ≡ asked) × IsFault fault.rule fault.node stop
RefusesStop faults.OutOfMemory asked stop = stop ≡ stops.OutOfMemory
