-- The one text of a list of types: a line for each, inside the modules of its name (own: the standard leaves the layout open).
use Rattle.std.specs.Prelude.{ℕ, ◌-◌, Bool, true, false, if◌then◌else◌, ◌==◌, List, [], ◌∷◌, ◌++◌, length, slice_get, Option, Some, None, codes, decimal}
use Rattle.type_trees.specs.declared.types.Base.{Base}
use Rattle.type_trees.specs.declared.types.Literal.{Literal}
use Rattle.type_trees.specs.declared.types.Flag.{Flag}
use Rattle.type_trees.specs.Trees.{Tree, prim, str, sequence, map_of, array, enumeration, bitmask, structure, union, alias, StructHead, UnionHead, Members, Cases}
use Rattle.xt_shapes.specs.declared.leaves.Ext.{Ext}
use Rattle.idl_printer.specs.Words.{ext_text, text_if}
use Rattle.idl_printer.specs.Uses.{reference_text, type_text, declarator_text}
use Rattle.idl_printer.specs.Parts.{members_text, members_behind, cases_text, literals_text, flags_text}

-- ---- definitions, by their last names

unfoldable pub bits_text : ℕ → List ℕ
bits_text n = codes "@bit_bound(" ++ decimal n ++ codes ") "

unfoldable pub aggregate_notes : Ext → Bool → Bool → List ℕ
aggregate_notes ext nested hashed = ext_text ext ++ text_if nested (codes "@nested ") ++ text_if hashed (codes "@autoid(HASH) ")

-- the innermost base
abbrev pub last_base : List Base → Option Base
last_base bs = slice_get bs (length bs - 1)

abbrev pub base_text : Option Base → List ℕ
base_text None = []
base_text (Some b) = codes ": " ++ reference_text b.name ++ codes " "

-- how many members come from bases
abbrev pub count_of : Option Base → ℕ
count_of None = 0
count_of (Some b) = b.count

unfoldable pub struct_head : List ℕ → Option Base → List ℕ
struct_head name base = codes "struct " ++ name ++ codes " " ++ base_text base ++ codes "{ "

unfoldable pub own_members : Option Base → Members → List ℕ
own_members base ms = members_text (members_behind (count_of base) ms)

unfoldable pub struct_text : StructHead → Members → List ℕ → List ℕ
struct_text head ms name =
    aggregate_notes head.ext head.nested head.hashed_ids ++ struct_head name (last_base head.bases) ++ own_members (last_base head.bases) ms ++ codes "};"

unfoldable pub union_head : List ℕ → Bool → Tree → List ℕ
union_head name disc_key disc = codes "union " ++ name ++ codes " switch (" ++ text_if disc_key (codes "@key ") ++ type_text disc ++ codes ") { "

unfoldable pub union_text : UnionHead → Tree → Cases → List ℕ → List ℕ
union_text head disc cs name =
    aggregate_notes head.ext head.nested head.hashed_ids ++ union_head name head.disc_key disc ++ cases_text disc cs ++ codes "};"

unfoldable pub opened : List ℕ → List ℕ → List ℕ
opened word name = word ++ name ++ codes " { "

unfoldable pub enum_text : Ext → ℕ → List Literal → List ℕ → List ℕ
enum_text ext bits ls name = ext_text ext ++ bits_text bits ++ opened (codes "enum ") name ++ literals_text ls ++ codes " };"

unfoldable pub mask_text : ℕ → List Flag → List ℕ → List ℕ
mask_text bits fs name = bits_text bits ++ opened (codes "bitmask ") name ++ flags_text fs ++ codes " };"

abbrev pub alias_text : Tree → List ℕ → List ℕ
alias_text t name = codes "typedef " ++ declarator_text t name ++ codes ";"

-- a definition with its annotations. A type that is written where it is used has none.
abbrev pub definition_text : Tree → List ℕ → List ℕ
definition_text (structure head ms) name = struct_text head ms name
definition_text (union head disc cs) name = union_text head disc cs name
definition_text (enumeration full ext bits ls) name = enum_text ext bits ls name
definition_text (bitmask full bits fs) name = mask_text bits fs name
definition_text (alias full t) name = alias_text t name
definition_text (prim p) name = []
definition_text (str n) name = []
definition_text (sequence n tc t) name = []
definition_text (array ds tc t) name = []
definition_text (map_of n kc k vc v) name = []

-- ---- the modules of a full name, whose identifiers stand between colons

abbrev pub opening_text : List ℕ → List ℕ
opening_text [] = []
opening_text (b ∷ z) = codes "module " ++ (b ∷ z) ++ codes " { "

-- behind a part of an identifier
abbrev pub openings_from : List ℕ → List ℕ → List ℕ
openings_from part [] = []
openings_from part (b ∷ z) = if b == 58 then opening_text part ++ openings_from [] z else openings_from (part ++ b ∷ []) z

abbrev pub ending_text : Bool → List ℕ
ending_text true = codes " };"
ending_text false = []

-- whether an identifier was begun
abbrev pub endings_from : Bool → List ℕ → List ℕ
endings_from begun [] = []
endings_from begun (b ∷ z) = if b == 58 then ending_text begun ++ endings_from false z else endings_from true z

abbrev pub last_from : List ℕ → List ℕ → List ℕ
last_from part [] = part
last_from part (b ∷ z) = if b == 58 then last_from [] z else last_from (part ++ b ∷ []) z

-- ---- lines

unfoldable pub line : List ℕ → Tree → List ℕ
line full t = openings_from [] full ++ definition_text t (last_from [] full) ++ endings_from false full ++ 10 ∷ []

-- types under their full names
abbrev pub printed : List (List ℕ × Tree) → List ℕ
printed [] = []
printed (d ∷ ds) = line d.0 d.1 ++ printed ds
