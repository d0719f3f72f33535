-- A walk over the JSON of a value along its type, on which each leaf of a primitive type may become another (this profile's own).
use Rattle.std.specs.Prelude.{◌≡◌, ℕ, ℤ, List, ◌==◌, Option, Some, None, option_and_then, Ok, Err, bytes_eq}
use Rattle.std.specs.Bool.{MatchBool}
use Rattle.json.specs.Json as json
use Rattle.json.specs.Json.{Json}
use Rattle.json.specs.Find.{get}
use Rattle.json.specs.Print.{print}
use Rattle.json.specs.Tree.{json_tokens}
use Rattle.xt_shapes.specs.declared.leaves.Primitive.{Primitive}
use Rattle.xt_shapes.specs.Select.{select}
use Rattle.xt_shapes.specs.Vals.{Val, number_in}
use Rattle.type_trees.specs.Bridge.{case_shapes}
use Rattle.type_trees.specs.Trees.{Tree, prim, str, enumeration, bitmask, sequence, array, map_of, structure, union, alias, Members, no_members, member, Cases, no_cases, one_case}
use Rattle.json_values.specs.Names.{name_text}
use Rattle.json_values.specs.Steps.{Reading}
use Rattle.json_values.specs.Read.{read_as}
use Rattle.json_values.specs.Written.{disc_key, value_key}

-- one value of JSON in place of another
abbrev pub Turn : Type 1
Turn = Json → Json → Type 0

abbrev pub ItemsTurn : Turn → json.Items → json.Items → Type 0
ItemsTurn T json.no_items ks = ks ≡ json.no_items
ItemsTurn T (json.item j js) ks = (k : Json) × (ls : json.Items) × (ks ≡ json.item k ls) × T j k × ItemsTurn T js ls

-- each item of an array
abbrev pub ArrayTurns : Turn → Turn
ArrayTurns T (json.array js) k = (ks : json.Items) × (k ≡ json.array ks) × ItemsTurn T js ks
ArrayTurns T j k = k ≡ j

-- a key and its value
abbrev pub PairTurns : Turn → Turn → Turn
PairTurns T S (json.array (json.item a (json.item b json.no_items))) k = (c : Json) × (d : Json) × (k ≡ json.array (json.item c (json.item d json.no_items))) × T a c × S b d
PairTurns T S j k = k ≡ j

abbrev pub MembersTurn : (List ℕ → Turn) → json.Members → json.Members → Type 0
MembersTurn T json.no_members ns = ns ≡ json.no_members
MembersTurn T (json.member key j ms) ns = (k : Json) × (rest : json.Members) × (ns ≡ json.member key k rest) × T key j k × MembersTurn T ms rest

-- each member of an object, by its key
abbrev pub ObjectTurns : (List ℕ → Turn) → Turn
ObjectTurns T (json.object ms) k = (ns : json.Members) × (k ≡ json.object ns) × MembersTurn T ms ns
ObjectTurns T j k = k ≡ j

abbrev pub read_number : Reading Val → Option ℤ
read_number (Ok v) = Some (number_in v)
read_number (Err e) = None

-- the number that a discriminator means
abbrev pub disc_in : Tree → Option Json → Option ℤ
disc_in t None = None
disc_in t (Some j) = read_number (read_as t (print (json_tokens j)))

-- the case that the discriminator of a union selects
abbrev pub case_in : Tree → Cases → Json → Option ℕ
case_in disc cs j = option_and_then (select (case_shapes cs)) (disc_in disc (get disc_key j))

abbrev pub BodyTurns : Turn → List ℕ → Turn
BodyTurns T key j k = MatchBool (bytes_eq key value_key) (T j k) (k ≡ j)

-- a body of the case that is selected
abbrev pub SelectedTurns : (ℕ → Turn) → Option ℕ → Turn
SelectedTurns T None j k = k ≡ j
SelectedTurns T (Some id) j k = T id j k

abbrev mutual
  pub Turns : (Primitive → Turn) → Tree → Turn
  Turns T (prim p) j k = T p j k
  Turns T (str bound) j k = k ≡ j
  Turns T (enumeration name ext bits literals) j k = k ≡ j
  Turns T (bitmask name bits flags) j k = k ≡ j
  Turns T (sequence bound tc t) j k = ArrayTurns (Turns T t) j k
  Turns T (array dims tc t) j k = ArrayTurns (Turns T t) j k
  Turns T (map_of bound kc key vc value) j k = ArrayTurns (PairTurns (Turns T key) (Turns T value)) j k
  Turns T (structure head ms) j k = ObjectTurns (MemberTurns T ms) j k
  Turns T (union head disc cs) j k = ObjectTurns (BodyTurns (SelectedTurns (CaseTurns T cs) (case_in disc cs j))) j k
  Turns T (alias name t) j k = Turns T t j k

  -- what stands at a key, by the first member with that name
  pub MemberTurns : (Primitive → Turn) → Members → List ℕ → Turn
  MemberTurns T no_members key j k = k ≡ j
  MemberTurns T (member head t ms) key j k = MatchBool (bytes_eq (name_text head.name) key) (Turns T t j k) (MemberTurns T ms key j k)

  -- a body of the case with that id
  pub CaseTurns : (Primitive → Turn) → Cases → ℕ → Turn
  CaseTurns T no_cases id j k = k ≡ j
  CaseTurns T (one_case head t cs) id j k = MatchBool (head.id == id) (Turns T t j k) (CaseTurns T cs id j k)
