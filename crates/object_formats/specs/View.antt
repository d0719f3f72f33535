-- What the program's objects stand for, and what its readers give (this profile's own).
use Rattle.std.specs.Prelude.{◌≡◌, ℕ, ℤ, List, map, Result, Ok, Err}
use Rattle.type_trees.specs.declared.types.Name.{Name}
use Rattle.object_formats.specs.declared.faults.Fault.{Fault}
use Rattle.object_formats.specs.declared.faults.ObjectFault.{ObjectFault}
use Rattle.object_formats.specs.declared.faults.ObjectFault.TheVariants as faults
use Rattle.object_formats.specs.declared.objects.TypeIdentifier.{TypeIdentifier, fold-TypeIdentifier}
use Rattle.object_formats.specs.declared.objects.TypeIdentifier.TheOpen.{TypeIdentifier-F}
use Rattle.object_formats.specs.declared.objects.ObjectMember.{ObjectMember}
use Rattle.object_formats.specs.declared.objects.ObjectCase.{ObjectCase}
use Rattle.object_formats.specs.declared.objects.TypeObject.{TypeObject}
use Rattle.object_formats.specs.declared.objects.TypeObject.TheVariants as O
use Rattle.object_formats.specs.Format.{Spot}
use Rattle.object_formats.specs.Objects.{Identifier, MemberPart, CasePart, Object}
use Rattle.object_formats.specs.Objects.{none, prim, str, sequence, array, map_of, hash, alias, enumeration, bitmask, structure, union}

abbrev pub identifier_level : TypeIdentifier-F Identifier → Identifier
identifier_level TypeIdentifier-F.None = none
identifier_level (TypeIdentifier-F.Prim p) = prim p
identifier_level (TypeIdentifier-F.Str bound) = str bound
identifier_level (TypeIdentifier-F.Seq ek flags bound element) = sequence ek flags bound element.value
identifier_level (TypeIdentifier-F.Array ek flags dims element) = array ek flags dims element.value
identifier_level (TypeIdentifier-F.Map ek flags bound value key_flags key) = map_of ek flags bound value.value key_flags key.value
identifier_level (TypeIdentifier-F.Hash h) = hash h

abbrev pub identifier : TypeIdentifier → Identifier
identifier = fold-TypeIdentifier _ identifier_level

abbrev pub member : ObjectMember → MemberPart
member m = record { id = m.id; flags = m.flags; ty = identifier m.ty; name = m.name }

-- the fields of a member and of a case, in the order of their octets
abbrev pub member_fields : ObjectMember → ℕ × (ℕ × (Identifier × Name))
member_fields m = (m.id, (m.flags, (identifier m.ty, m.name)))

abbrev pub case_fields : ObjectCase → ℕ × (ℕ × (Identifier × (List ℤ × Name)))
case_fields c = (c.id, (c.flags, (identifier c.ty, (c.labels, c.name))))

abbrev pub case : ObjectCase → CasePart
case c = record { id = c.id; flags = c.flags; ty = identifier c.ty; labels = c.labels; name = c.name }

abbrev pub object : TypeObject → Object
object (O.Alias name related) = alias name (identifier related)
object (O.Enum name flags bits literals) = enumeration name flags bits literals
object (O.Mask name bits flags) = bitmask name bits flags
object (O.Struct name flags base members) = structure name flags (identifier base) (map member members)
object (O.Union name flags disc_flags disc cases) = union name flags disc_flags (identifier disc) (map case cases)

-- what a reader answered is what is read, unless memory ran out
abbrev pub Fails : {Y : Type 0} → ObjectFault → Result Y Fault → Type 0
Fails (faults.Not at rule) read = read ≡ Err (record { at = at; rule = rule })
Fails faults.OutOfMemory read = Unit {0}

abbrev pub Gives : {X Y : Type 0} → (X → Y) → Result X ObjectFault → Spot → Result (Y × Spot) Fault → Type 0
Gives view (Ok x) after read = read ≡ Ok (view x, after)
Gives view (Err e) after read = Fails e read

abbrev pub Answers : {X Y : Type 0} → (X → Y) → Result X ObjectFault → Result Y Fault → Type 0
Answers view (Ok x) read = read ≡ Ok (view x)
Answers view (Err e) read = Fails e read

-- the same of a reader that has no answer
abbrev pub Passes : {X : Type 0} → Result X ObjectFault → Spot → Result Spot Fault → Type 0
Passes (Ok x) after read = read ≡ Ok after
Passes (Err e) after read = Fails e read
