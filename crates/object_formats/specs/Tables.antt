-- What an object is spelled as. The numbers of kinds and flags are the standard's (DDS-XTypes 1.3, annex B); the layout is this profile's own.
use Rattle.std.specs.Prelude.{ℕ, zero, suc, ◌+◌, ◌-◌, ◌%◌, ℤ, List, [], ◌∷◌, Bool, true, false, cond, not, ◌&&◌, ◌||◌, Option, Some, None, Result, Ok, length, nat_lt, nat_le, ◌==◌}
use Rattle.std.specs.List.{list_any}
use Rattle.xt_shapes.specs.declared.leaves.Primitive.{Primitive}
use Rattle.xt_shapes.specs.declared.leaves.Primitive.TheVariants as P
use Rattle.type_trees.specs.declared.types.HashId.{HashId}
use Rattle.type_trees.specs.declared.types.Name.{Name}
use Rattle.type_trees.specs.declared.types.Name.TheVariants.{Full, Hashed}
use Rattle.object_formats.specs.declared.objects.ObjectLiteral.{ObjectLiteral}
use Rattle.object_formats.specs.declared.objects.ObjectFlag.{ObjectFlag}
use Rattle.object_formats.specs.declared.faults.ObjectRule.TheVariants as rules
use Rattle.object_formats.specs.declared.faults.Fault.{Fault}
use Rattle.object_formats.specs.declared.codes.Code.{Code}
use Rattle.object_formats.specs.declared.codes.Code.TheVariants as C
use Rattle.object_formats.specs.declared.codes.Kind.{Kind}
use Rattle.object_formats.specs.declared.codes.Kind.TheVariants as K
use Rattle.object_formats.specs.declared.codes.Flags.{Flags}
use Rattle.object_formats.specs.declared.codes.Flags.TheVariants as W
use Rattle.object_formats.specs.Octets.{with_sign, without_sign}
use Rattle.object_formats.specs.Format.{Format, spot, fault, ◌>>=◌, aligned, raw, num, text, nothing, both, before, behind, only, part, tagged, counted, several, here, exactly}
use Rattle.object_formats.specs.Objects.{Identifier, MemberPart, CasePart, Object}
use Rattle.object_formats.specs.Objects.{none, prim, str, sequence, array, map_of, hash, alias, enumeration, bitmask, structure, union}

-- ---- small fields

abbrev pub no_flags : Format (Unit {0})
no_flags = exactly 2 0 rules.Flags

abbrev pub no_annotations : Format (Unit {0})
no_annotations = before (exactly 1 0 rules.Annotation) (exactly 1 0 rules.Annotation)

abbrev pub flags_of : (ℕ → Bool) → Format ℕ
flags_of test = only (aligned 2) rules.Flags test (num 2 2)

unfoldable pub signed : Format ℤ
signed = part with_sign without_sign (num 4 4)

-- the way in which a part is constructed: discard, use default, trim
abbrev pub tries : ℕ → Bool
tries n = nat_lt 0 n && nat_lt n 4

-- one of the first three extensibility flags, and what else may be set above them
abbrev pub extends : ℕ → Bool
extends n = (n == 1) || (n == 2) || (n == 4)

unfoldable pub type_flags : Bool → ℕ → Bool
type_flags complete n = extends (n % 8) && nat_lt n (cond complete 32 8)

-- TryConstruct in the lowest two bits; OPTIONAL, MUST_UNDERSTAND and KEY from bit 3 on
unfoldable pub member_flags : ℕ → Bool
member_flags n = tries (n % 8) && nat_lt n 64

unfoldable pub case_flags : ℕ → Bool
case_flags n = tries (n % 64) && nat_lt n 128

unfoldable pub disc_flags : ℕ → Bool
disc_flags n = (n == 1) || (n == 33)

unfoldable pub literal_flags : ℕ → Bool
literal_flags n = (n == 0) || (n == 64)

-- which flags may be set where
abbrev pub allowed : Bool → Flags → ℕ → Bool
allowed complete W.Element = tries
allowed complete W.Literal = literal_flags
allowed complete W.Member = member_flags
allowed complete W.Case = case_flags
allowed complete W.Discriminator = disc_flags
allowed complete W.Type = type_flags complete

abbrev pub full_name : Name → Option (List ℕ)
full_name (Full t) = Some t
full_name (Hashed n) = None

abbrev pub hashed_name : Name → Option ℕ
hashed_name (Full t) = None
hashed_name (Hashed n) = Some n

-- a member's, case's, literal's or flag's name; four octets of hash as they stand, not aligned
unfoldable pub name : Bool → Format Name
name false = part Hashed hashed_name (num 1 4)
name true = behind (part Full full_name text) no_annotations

abbrev pub no_name : Option (List ℕ) → Option (Unit {0})
no_name None = Some tt
no_name (Some t) = None

abbrev pub a_name : Option (List ℕ) → Option (List ℕ)
a_name n = n

-- a type's name
unfoldable pub detail : Bool → Format (Option (List ℕ))
detail false = part (λ u. None) no_name nothing
detail true = part Some a_name (before no_annotations text)

-- two absent annotations at the end, in complete objects
unfoldable pub closing : Bool → Format (Unit {0})
closing false = nothing
closing true = no_annotations

-- ---- identifiers

abbrev pub own : Bool → ℕ
own false = 241
own true = 242

abbrev pub prim_octet : Primitive → ℕ
prim_octet P.Boolean = 1
prim_octet P.Byte = 2
prim_octet P.Int16 = 3
prim_octet P.Int32 = 4
prim_octet P.Int64 = 5
prim_octet P.Uint16 = 6
prim_octet P.Uint32 = 7
prim_octet P.Uint64 = 8
prim_octet P.Float32 = 9
prim_octet P.Float64 = 10
prim_octet P.Int8 = 12
prim_octet P.Uint8 = 13
prim_octet P.Char8 = 16

abbrev pub wide : Bool → ℕ
wide false = 0
wide true = 1

unfoldable pub code_octet : Bool → Code → ℕ
code_octet complete (C.Prim p) = prim_octet p
code_octet complete (C.Str large) = 112 + wide large
code_octet complete (C.Seq large) = 128 + wide large
code_octet complete (C.Array large) = 144 + wide large
code_octet complete (C.Map large) = 160 + wide large
code_octet complete C.Hash = own complete

-- the first of the codes that has this octet
abbrev pub found : Bool → ℕ → List Code → Option Code
found complete n [] = None
found complete n (c ∷ cs) = cond (n == code_octet complete c) (Some c) (found complete n cs)

abbrev pub all_codes : List Code
all_codes = C.Prim P.Boolean ∷ C.Prim P.Byte ∷ C.Prim P.Int16 ∷ C.Prim P.Int32 ∷ C.Prim P.Int64 ∷ C.Prim P.Uint16 ∷ C.Prim P.Uint32 ∷ C.Prim P.Uint64 ∷ C.Prim P.Float32 ∷ C.Prim P.Float64 ∷ C.Prim P.Int8 ∷ C.Prim P.Uint8 ∷ C.Prim P.Char8
    ∷ C.Str false ∷ C.Str true ∷ C.Seq false ∷ C.Seq true ∷ C.Array false ∷ C.Array true ∷ C.Map false ∷ C.Map true ∷ C.Hash ∷ []

unfoldable pub code_of : Bool → ℕ → Option Code
code_of complete n = found complete n all_codes

abbrev pub is_large : ℕ → Bool
is_large n = nat_le 256 n

abbrev pub any_large : List ℕ → Bool
any_large ns = list_any is_large ns

-- the code of an identifier; none has no code of its own, and is no prim
abbrev pub code : Identifier → Code
code none = C.Hash
code (prim p) = C.Prim p
code (str bound) = C.Str (is_large bound)
code (sequence ek flags bound element) = C.Seq (is_large bound)
code (array ek flags dims element) = C.Array (any_large dims)
code (map_of ek flags bound value key_flags key) = C.Map (is_large bound)
code (hash h) = C.Hash

abbrev pub width : Bool → ℕ
width false = 1
width true = 4

abbrev pub same : Bool → Bool → Bool
same true b = b
same false b = not b

-- a bound in its smallest form
abbrev pub bound : Bool → Format ℕ
bound large = num (width large) (width large)

abbrev pub fits : Bool → ℕ → Bool
fits large n = same large (is_large n)

abbrev pub fit_all : Bool → List ℕ → Bool
fit_all large ns = same large (any_large ns)

-- no identifier of a hash stands in it
unfoldable pub is_plain : Identifier → Bool
is_plain none = true
is_plain (prim p) = true
is_plain (str bound) = true
is_plain (sequence ek flags bound element) = is_plain element
is_plain (array ek flags dims element) = is_plain element
is_plain (map_of ek flags bound value key_flags key) = is_plain value && is_plain key
is_plain (hash h) = false

-- the kind of what is in a collection
abbrev pub is_ek : Bool → ℕ → Bool
is_ek complete n = (n == 243) || (n == own complete)

abbrev pub ek_of : Bool → Bool → ℕ
ek_of complete plain = cond plain 243 (own complete)

abbrev pub ek : Bool → Format ℕ
ek complete = only here rules.Identifier (is_ek complete) (num 1 1)

abbrev pub is_prim : Primitive → Identifier → Option (Unit {0})
is_prim p (prim q) = cond (prim_octet p == prim_octet q) (Some tt) None
is_prim p _ = None

-- the fields in front of a collection's element
abbrev pub Head : Type 0 → Type 0
Head A = ℕ × (ℕ × A)

abbrev pub head : {A : Type 0} → Bool → (A → Bool) → Format A → Format (Head A)
head complete test size = only (λ p. p - 1) rules.Identifier (λ h. test h.1.1) (both (ek complete) (both (flags_of tries) size))

abbrev pub str_of : Identifier → Option ℕ
str_of (str n) = Some n
str_of _ = None

abbrev pub sequence_of : Identifier → Option (Head ℕ × Identifier)
sequence_of (sequence ek flags bound element) = Some ((ek, (flags, bound)), element)
sequence_of _ = None

abbrev pub array_of : Identifier → Option (Head (List ℕ) × Identifier)
array_of (array ek flags dims element) = Some ((ek, (flags, dims)), element)
array_of _ = None

abbrev pub map_parts : Identifier → Option (Head ℕ × (Identifier × (ℕ × Identifier)))
map_parts (map_of ek flags bound value key_flags key) = Some ((ek, (flags, bound)), (value, (key_flags, key)))
map_parts _ = None

abbrev pub hash_octets : Bool → Identifier → Option (List ℕ)
hash_octets complete (hash h) = cond (h.kind == own complete) (Some h.hash) None
hash_octets complete _ = None

abbrev pub hash_id : Bool → List ℕ → HashId
hash_id complete bs = record { kind = own complete; hash = bs }

abbrev pub hashed : Bool → Format Identifier
hashed complete = part (λ bs. hash (hash_id complete bs)) (hash_octets complete) (raw 14)

abbrev pub branch : Bool → Format Identifier → Code → Format Identifier
branch complete inner (C.Prim p) = part (λ u. prim p) (is_prim p) nothing
branch complete inner (C.Str large) = part str str_of (only (λ p. p - 1) rules.Identifier (fits large) (bound large))
branch complete inner (C.Seq large) =
    part (λ x. sequence x.0.0 x.0.1.0 x.0.1.1 x.1) sequence_of (only here rules.Identifier (λ x. x.0.0 == ek_of complete (is_plain x.1)) (both (head complete (fits large) (bound large)) inner))
branch complete inner (C.Array large) =
    part (λ x. array x.0.0 x.0.1.0 x.0.1.1 x.1) array_of (only here rules.Identifier (λ x. x.0.0 == ek_of complete (is_plain x.1)) (both (head complete (fit_all large) (several (bound large))) inner))
branch complete inner (C.Map large) =
    part (λ x. map_of x.0.0 x.0.1.0 x.0.1.1 x.1.0 x.1.1.0 x.1.1.1) map_parts
    (only here rules.Identifier (λ x. x.0.0 == ek_of complete (is_plain x.1.0 && is_plain x.1.1.1)) (both (head complete (fits large) (bound large)) (both inner (both (flags_of tries) inner))))
branch complete inner C.Hash = hashed complete

unfoldable pub too_deep : Format Identifier
too_deep = record {
  read = λ s. (num 1 1).read s >>= λ n. fault s.at rules.Identifier;
  spell = λ p t. [];
  good = λ t. false;
}

-- an identifier that nests at most so deep
unfoldable pub nested : Bool → ℕ → Format Identifier
nested complete zero = too_deep
nested complete (suc deep) = tagged rules.Identifier (code_of complete) (code_octet complete) code (branch complete (nested complete deep))

unfoldable pub identifier : Bool → Format Identifier
identifier complete = nested complete 16

-- ---- objects

pub data BaseCode : Type 0 where
  no_base : BaseCode
  some_base : BaseCode

abbrev pub base_octet : Bool → BaseCode → ℕ
base_octet complete no_base = 0
base_octet complete some_base = own complete

abbrev pub base_code_of : Bool → ℕ → Option BaseCode
base_code_of complete n = cond (n == 0) (Some no_base) (cond (n == own complete) (Some some_base) None)

abbrev pub base_code : Identifier → BaseCode
base_code none = no_base
base_code _ = some_base

abbrev pub is_none : Identifier → Option (Unit {0})
is_none none = Some tt
is_none _ = None

abbrev pub base_branch : Bool → BaseCode → Format Identifier
base_branch complete no_base = part (λ u. none) is_none nothing
base_branch complete some_base = hashed complete

-- the structure that a structure stands on, if any
unfoldable pub base : Bool → Format Identifier
base complete = tagged rules.Base (base_code_of complete) (base_octet complete) base_code (base_branch complete)

unfoldable pub literal : Bool → Format ObjectLiteral
literal complete = part (λ x. record { value = x.0.0; flags = x.0.1; name = x.1 }) (λ r. Some ((r.value, r.flags), r.name))
    (counted (both (counted (both signed (flags_of literal_flags))) (name complete)))

unfoldable pub flag : Bool → Format ObjectFlag
flag complete = part (λ x. record { position = x.0; name = x.1 }) (λ r. Some (r.position, r.name))
    (counted (both (num 2 2) (before no_flags (name complete))))

abbrev pub member_fields : Bool → Format (ℕ × (ℕ × (Identifier × Name)))
member_fields complete = both (num 4 4) (both (flags_of member_flags) (both (identifier complete) (name complete)))

unfoldable pub member : Bool → Format MemberPart
member complete = part (λ x. record { id = x.0; flags = x.1.0; ty = x.1.1.0; name = x.1.1.1 }) (λ r. Some (r.id, (r.flags, (r.ty, r.name))))
    (counted (member_fields complete))

abbrev pub case_fields : Bool → Format (ℕ × (ℕ × (Identifier × (List ℤ × Name))))
case_fields complete = both (num 4 4) (both (flags_of case_flags) (both (identifier complete) (both (several signed) (name complete))))

unfoldable pub case : Bool → Format CasePart
case complete = part (λ x. record { id = x.0; flags = x.1.0; ty = x.1.1.0; labels = x.1.1.1.0; name = x.1.1.1.1 }) (λ r. Some (r.id, (r.flags, (r.ty, (r.labels, r.name)))))
    (counted (case_fields complete))

abbrev pub listed : {A : Type 0} → Format A → Format (List A)
listed f = counted (several f)

abbrev pub kind_octet : Kind → ℕ
kind_octet K.Alias = 48
kind_octet K.Enum = 64
kind_octet K.Mask = 65
kind_octet K.Struct = 81
kind_octet K.Union = 82

abbrev pub kind_of : ℕ → Option Kind
kind_of n = cond (n == 48) (Some K.Alias) (cond (n == 64) (Some K.Enum) (cond (n == 65) (Some K.Mask) (cond (n == 81) (Some K.Struct) (cond (n == 82) (Some K.Union) None))))

abbrev pub kind : Object → Kind
kind (alias n related) = K.Alias
kind (enumeration n flags bits literals) = K.Enum
kind (bitmask n bits flags) = K.Mask
kind (structure n flags b members) = K.Struct
kind (union n flags disc_flags disc cases) = K.Union

unfoldable pub alias_body : Bool → Format (Option (List ℕ) × Identifier)
alias_body complete = before no_flags (both (counted (detail complete)) (counted (before no_flags (behind (identifier complete) (closing complete)))))

unfoldable pub enum_body : Bool → Format (ℕ × ((ℕ × Option (List ℕ)) × List ObjectLiteral))
enum_body complete = both (flags_of (type_flags complete)) (both (counted (both (num 2 2) (detail complete))) (listed (literal complete)))

unfoldable pub mask_body : Bool → Format ((ℕ × Option (List ℕ)) × List ObjectFlag)
mask_body complete = counted (before no_flags (both (counted (both (num 2 2) (detail complete))) (listed (flag complete))))

unfoldable pub struct_body : Bool → Format (ℕ × ((Identifier × Option (List ℕ)) × List MemberPart))
struct_body complete = both (flags_of (type_flags complete)) (both (counted (both (base complete) (detail complete))) (listed (member complete)))

unfoldable pub union_body : Bool → Format (ℕ × (Option (List ℕ) × ((ℕ × Identifier) × List CasePart)))
union_body complete = both (flags_of (type_flags complete)) (both (counted (detail complete)) (both (counted (both (flags_of disc_flags) (behind (identifier complete) (closing complete)))) (listed (case complete))))

abbrev pub alias_parts : Object → Option (Option (List ℕ) × Identifier)
alias_parts (alias n related) = Some (n, related)
alias_parts _ = None

abbrev pub enum_parts : Object → Option (ℕ × ((ℕ × Option (List ℕ)) × List ObjectLiteral))
enum_parts (enumeration n flags bits literals) = Some (flags, ((bits, n), literals))
enum_parts _ = None

abbrev pub mask_parts : Object → Option ((ℕ × Option (List ℕ)) × List ObjectFlag)
mask_parts (bitmask n bits flags) = Some ((bits, n), flags)
mask_parts _ = None

abbrev pub struct_parts : Object → Option (ℕ × ((Identifier × Option (List ℕ)) × List MemberPart))
struct_parts (structure n flags b members) = Some (flags, ((b, n), members))
struct_parts _ = None

abbrev pub union_parts : Object → Option (ℕ × (Option (List ℕ) × ((ℕ × Identifier) × List CasePart)))
union_parts (union n flags dflags disc cases) = Some (flags, (n, ((dflags, disc), cases)))
union_parts _ = None

abbrev pub body : Bool → Kind → Format Object
body complete K.Alias = part (λ x. alias x.0 x.1) alias_parts (alias_body complete)
body complete K.Enum = part (λ x. enumeration x.1.0.1 x.0 x.1.0.0 x.1.1) enum_parts (enum_body complete)
body complete K.Mask = part (λ x. bitmask x.0.1 x.0.0 x.1) mask_parts (mask_body complete)
body complete K.Struct = part (λ x. structure x.1.0.1 x.0 x.1.0.0 x.1.1) struct_parts (struct_body complete)
body complete K.Union = part (λ x. union x.1.0 x.0 x.1.1.0.0 x.1.1.0.1 x.1.1.1) union_parts (union_body complete)

abbrev pub type_name : Object → Option (List ℕ)
type_name (alias n related) = n
type_name (enumeration n flags bits literals) = n
type_name (bitmask n bits flags) = n
type_name (structure n flags b members) = n
type_name (union n flags dflags disc cases) = n

abbrev pub has_name : Option (List ℕ) → Bool
has_name None = false
has_name (Some n) = true

-- an object is complete where it has its type's name
abbrev pub is_complete : Object → Bool
is_complete o = has_name (type_name o)

abbrev pub complete_of : ℕ → Option Bool
complete_of n = cond (n == 241) (Some false) (cond (n == 242) (Some true) None)

abbrev pub kinds : Bool → Format Object
kinds complete = tagged rules.Kind kind_of kind_octet kind (body complete)

unfoldable pub object : Format Object
object = counted (tagged rules.Kind complete_of own is_complete kinds)

-- ---- whole texts

-- the object of a text, or the text's first fault
unfoldable pub object_of : List ℕ → Result Object Fault
object_of bs = cond (nat_lt 131072 (length bs)) (fault 131072 rules.Long) (object.read (spot 0 bs) >>= λ x. cond (length x.1.rest == 0) (Ok x.0) (fault x.1.at rules.Trailing))

unfoldable pub text_of : Object → List ℕ
text_of o = object.spell 0 o

unfoldable pub is_well_formed : Object → Bool
is_well_formed o = object.good o
