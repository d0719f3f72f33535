-- The objects of a type (DDS-XTypes 1.3, 7.3.4.3): what stands in its minimal object and in its complete one, and the texts of the objects
-- that it needs, in the order in which they are added (own). A definition that takes `complete` says both at once.
use Rattle.std.specs.Prelude.{ℕ, ◌+◌, List, [], ◌∷◌, ◌++◌, Bool, true, false, cond, ◌&&◌, Option, None, map, take, drop, max}
use Rattle.xt_shapes.specs.declared.leaves.Ext.{Ext}
use Rattle.xt_shapes.specs.declared.leaves.Ext.TheVariants as E
use Rattle.xt_shapes.specs.declared.leaves.Try.{Try}
use Rattle.xt_shapes.specs.declared.leaves.Try.TheVariants as Y
use Rattle.type_trees.specs.declared.types.Name.{Name}
use Rattle.type_trees.specs.declared.types.Name.TheVariants.{Hashed}
use Rattle.type_trees.specs.declared.types.Literal.{Literal}
use Rattle.type_trees.specs.declared.types.Flag.{Flag}
use Rattle.type_trees.specs.declared.types.Base.{Base}
use Rattle.type_trees.specs.Bridge.{name_number}
use Rattle.type_trees.specs.Trees.{MemberHead, CaseHead, StructHead, UnionHead, Tree, prim, str, enumeration, bitmask, sequence, array, map_of, structure, union, alias, Members, no_members, member, Cases, no_cases, one_case}
use Rattle.object_formats.specs.declared.objects.ObjectLiteral.{ObjectLiteral}
use Rattle.object_formats.specs.declared.objects.ObjectFlag.{ObjectFlag}
use Rattle.object_formats.specs.Objects as o
use Rattle.object_formats.specs.Objects.{Identifier, MemberPart, CasePart, Object}
use Rattle.object_formats.specs.Tables.{text_of, ek_of}
use Rattle.type_object.specs.Names.{named}

-- ---- flags and names

abbrev pub set : Bool → ℕ → ℕ
set is_set flag = cond is_set flag 0

-- what becomes of a value that can't be constructed
abbrev pub try_flags : Try → ℕ
try_flags Y.Discard = 1
try_flags Y.UseDefault = 2
try_flags Y.Trim = 3

abbrev pub ext_flag : Ext → ℕ
ext_flag E.Final = 1
ext_flag E.Appendable = 2
ext_flag E.Mutable = 4

-- NESTED and AUTOID_HASH stand in complete objects alone
abbrev pub type_flags : Bool → Ext → Bool → Bool → ℕ
type_flags complete ext nested hashed_ids = ext_flag ext + cond complete (set nested 8 + set hashed_ids 16) 0

abbrev pub member_flags : MemberHead → ℕ
member_flags h = try_flags h.tc + (set h.optional 8 + (set h.must_understand 16 + set h.key 32))

abbrev pub case_flags : CaseHead → ℕ
case_flags h = try_flags h.tc + set h.is_default 64

-- a name in full, or its hash
abbrev pub name_in : Bool → Name → Name
name_in false name = Hashed (name_number name)
name_in true name = name

abbrev pub type_name : Bool → Option (List ℕ) → Option (List ℕ)
type_name complete name = cond complete name None

-- ---- parts

abbrev pub literal_part : Bool → Literal → ObjectLiteral
literal_part complete l = record { value = l.value; flags = set l.is_default 64; name = name_in complete l.name }

abbrev pub flag_part : Bool → Flag → ObjectFlag
flag_part complete f = record { position = f.position; name = name_in complete f.name }

abbrev pub member_part : Bool → MemberHead → Identifier → MemberPart
member_part complete h t = record { id = h.id; flags = member_flags h; ty = t; name = name_in complete h.name }

abbrev pub case_part : Bool → CaseHead → Identifier → CasePart
case_part complete h t = record { id = h.id; flags = case_flags h; ty = t; labels = h.labels; name = name_in complete h.name }

-- ---- objects, from the identifiers of what stands in them

abbrev pub alias_object : Bool → Option (List ℕ) → Identifier → Object
alias_object complete name t = o.alias (type_name complete name) t

abbrev pub enum_object : Bool → Option (List ℕ) → Ext → ℕ → List Literal → Object
enum_object complete name ext bits literals = o.enumeration (type_name complete name) (ext_flag ext) bits (map (literal_part complete) literals)

abbrev pub mask_object : Bool → Option (List ℕ) → ℕ → List Flag → Object
mask_object complete name bits flags = o.bitmask (type_name complete name) bits (map (flag_part complete) flags)

abbrev pub union_object : Bool → UnionHead → Identifier → List CasePart → Object
union_object complete h disc cases = o.union (type_name complete h.name) (type_flags complete h.ext h.nested h.hashed_ids) (1 + set h.disc_key 32) disc cases

-- a structure on a base, with its own members
abbrev pub struct_object : Bool → Option (List ℕ) → Ext → Bool → Bool → Identifier → List MemberPart → Object
struct_object complete name ext nested hashed_ids base members = o.structure (type_name complete name) (type_flags complete ext nested hashed_ids) base members

-- An object is named by the hash of its text.
abbrev pub own : Object → Identifier
own x = o.hash (named (text_of x))

-- ---- structures

-- the structure itself, with all its members
abbrev pub top : StructHead → ℕ → Base
top h count = record { name = h.name; nested = h.nested; hashed_ids = h.hashed_ids; count = count }

-- A structure's layers: its bases, the outermost first, and the structure itself. Each has the members up to its count.
abbrev pub layers : StructHead → ℕ → List Base
layers h count = h.bases ++ top h count ∷ []

-- what is behind the first `had`, up to a count
abbrev pub between : {A : Type 0} → ℕ → ℕ → List A → List A
between had count xs = drop had (take count xs)

-- the object of a layer: the layer before it is its base, and its own members are those that the layers before it have not
abbrev pub layer_object : Bool → Ext → Identifier → ℕ → Base → List MemberPart → Object
layer_object complete ext base had b parts = struct_object complete b.name ext b.nested b.hashed_ids base (between had b.count parts)

-- the identifier of the last layer
abbrev pub last_layer : Bool → Ext → Identifier → ℕ → List Base → List MemberPart → Identifier
last_layer complete ext base had [] parts = base
last_layer complete ext base had (b ∷ bs) parts = last_layer complete ext (own (layer_object complete ext base had b parts)) (max had b.count) bs parts

abbrev pub member_count : Members → ℕ
member_count no_members = 0
member_count (member h t ms) = 1 + member_count ms

-- ---- identifiers

-- no type that is named by a hash stands in it
unfoldable pub is_plain : Tree → Bool
is_plain (prim p) = true
is_plain (str bound) = true
is_plain (enumeration name ext bits literals) = false
is_plain (bitmask name bits flags) = false
is_plain (sequence bound tc t) = is_plain t
is_plain (array dims tc t) = is_plain t
is_plain (map_of bound kc k vc v) = is_plain v && is_plain k
is_plain (structure h ms) = false
is_plain (union h disc cs) = false
is_plain (alias name t) = false

unfoldable mutual
  -- what a type is named by inside a minimal object or inside a complete one
  pub identifier : Bool → Tree → Identifier
  identifier complete (prim p) = o.prim p
  identifier complete (str bound) = o.str bound
  identifier complete (enumeration name ext bits literals) = own (enum_object complete name ext bits literals)
  identifier complete (bitmask name bits flags) = own (mask_object complete name bits flags)
  identifier complete (sequence bound tc t) = o.sequence (ek_of complete (is_plain t)) (try_flags tc) bound (identifier complete t)
  identifier complete (array dims tc t) = o.array (ek_of complete (is_plain t)) (try_flags tc) dims (identifier complete t)
  identifier complete (map_of bound kc k vc v) = o.map_of (ek_of complete (is_plain v && is_plain k)) (try_flags vc) bound (identifier complete v) (try_flags kc) (identifier complete k)
  identifier complete (structure h ms) = last_layer complete h.ext o.none 0 (layers h (member_count ms)) (member_parts complete ms)
  identifier complete (union h disc cs) = own (union_object complete h (identifier complete disc) (case_parts complete cs))
  identifier complete (alias name t) = own (alias_object complete name (identifier complete t))

  pub member_parts : Bool → Members → List MemberPart
  member_parts complete no_members = []
  member_parts complete (member h t ms) = member_part complete h (identifier complete t) ∷ member_parts complete ms

  pub case_parts : Bool → Cases → List CasePart
  case_parts complete no_cases = []
  case_parts complete (one_case h t cs) = case_part complete h (identifier complete t) ∷ case_parts complete cs

-- ---- texts

-- the texts of an object's two forms, the minimal one first
abbrev pub both_texts : (Bool → Object) → List (List ℕ)
both_texts x = text_of (x false) ∷ text_of (x true) ∷ []

abbrev pub joined : List (List (List ℕ)) → List (List ℕ)
joined [] = []
joined (ts ∷ more) = ts ++ joined more

-- of each layer: what its own members need, and then its own two texts
abbrev pub layer_texts : Ext → (Bool → Identifier) → ℕ → List Base → List (List (List ℕ)) → (Bool → List MemberPart) → List (List ℕ)
layer_texts ext base had [] needs parts = []
layer_texts ext base had (b ∷ bs) needs parts =
    joined (between had b.count needs) ++ (both_texts (λ c. layer_object c ext (base c) had b (parts c)) ++ layer_texts ext (λ c. own (layer_object c ext (base c) had b (parts c))) (max had b.count) bs needs parts)

unfoldable mutual
  -- The texts of the objects that a type needs, in the order in which they are added: inner ones first, of each type the minimal one
  -- first; a map's key before its value, a discriminator before the cases.
  pub texts : Tree → List (List ℕ)
  texts (prim p) = []
  texts (str bound) = []
  texts (enumeration name ext bits literals) = both_texts (λ c. enum_object c name ext bits literals)
  texts (bitmask name bits flags) = both_texts (λ c. mask_object c name bits flags)
  texts (sequence bound tc t) = texts t
  texts (array dims tc t) = texts t
  texts (map_of bound kc k vc v) = texts k ++ texts v
  texts (structure h ms) = layer_texts h.ext (λ c. o.none) 0 (layers h (member_count ms)) (member_texts ms) (λ c. member_parts c ms)
  texts (union h disc cs) = texts disc ++ (case_texts cs ++ both_texts (λ c. union_object c h (identifier c disc) (case_parts c cs)))
  texts (alias name t) = texts t ++ both_texts (λ c. alias_object c name (identifier c t))

  -- of each member
  pub member_texts : Members → List (List (List ℕ))
  member_texts no_members = []
  member_texts (member h t ms) = texts t ∷ member_texts ms

  pub case_texts : Cases → List (List ℕ)
  case_texts no_cases = []
  case_texts (one_case h t cs) = texts t ++ case_texts cs

-- ---- types that have objects

abbrev pub has_objects : Tree → Bool
has_objects (enumeration name ext bits literals) = true
has_objects (bitmask name bits flags) = true
has_objects (structure h ms) = true
has_objects (union h disc cs) = true
has_objects (alias name t) = true
has_objects _ = false
