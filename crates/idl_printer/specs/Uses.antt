-- Types where they are used, and declarators (own: the standard leaves the layout open).
use Rattle.std.specs.Prelude.{ℕ, List, [], ◌∷◌, ◌++◌, Option, Some, None, codes, decimal}
use Rattle.type_trees.specs.Trees.{Tree, prim, str, sequence, map_of, array, enumeration, bitmask, structure, union, alias}
use Rattle.idl_printer.specs.Words.{prim_text, try_text, string_text, bound_text}

-- a type by its full name. One without a name has no text.
abbrev pub reference_text : Option (List ℕ) → List ℕ
reference_text None = []
reference_text (Some full) = codes "::" ++ full

-- An array stands only behind a declarator's name, so that it has no text here.
abbrev pub type_text : Tree → List ℕ
type_text (prim p) = prim_text p
type_text (str n) = string_text n
type_text (sequence n tc t) = codes "sequence<" ++ (try_text tc ++ type_text t) ++ bound_text n
type_text (map_of n kc k vc v) = codes "map<" ++ (try_text kc ++ type_text k) ++ codes ", " ++ (try_text vc ++ type_text v) ++ bound_text n
type_text (array ds tc t) = []
type_text (enumeration name ext bits ls) = reference_text name
type_text (bitmask name bits fs) = reference_text name
type_text (structure head ms) = reference_text head.name
type_text (union head disc cs) = reference_text head.name
type_text (alias name t) = reference_text name

abbrev pub dimension_text : ℕ → List ℕ
dimension_text d = codes "[" ++ decimal d ++ codes "]"

abbrev pub dims_text : List ℕ → List ℕ
dims_text [] = []
dims_text (d ∷ ds) = dimension_text d ++ dims_text ds

-- type, name and dimensions
abbrev pub declarator_text : Tree → List ℕ → List ℕ
declarator_text (array ds tc t) name = type_text t ++ codes " " ++ name ++ dims_text ds
declarator_text (prim p) name = type_text (prim p) ++ codes " " ++ name
declarator_text (str n) name = type_text (str n) ++ codes " " ++ name
declarator_text (sequence n tc t) name = type_text (sequence n tc t) ++ codes " " ++ name
declarator_text (map_of n kc k vc v) name = type_text (map_of n kc k vc v) ++ codes " " ++ name
declarator_text (enumeration full ext bits ls) name = reference_text full ++ codes " " ++ name
declarator_text (bitmask full bits fs) name = reference_text full ++ codes " " ++ name
declarator_text (structure head ms) name = reference_text head.name ++ codes " " ++ name
declarator_text (union head disc cs) name = reference_text head.name ++ codes " " ++ name
declarator_text (alias full t) name = reference_text full ++ codes " " ++ name
