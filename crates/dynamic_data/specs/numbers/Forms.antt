-- What a walk writes in place of a value of JSON (this profile's own).
use Rattle.std.specs.Prelude.{◌≡◌, ℕ, List, [], ◌∷◌, ◌++◌, Option, Some, None, Result, OnOk}
use Rattle.json.specs.Json as json
use Rattle.json.specs.Json.{Json}
use Rattle.json.specs.Print.{print}
use Rattle.json.specs.Tree.{json_tokens, items_tokens, members_tokens}
use Rattle.json.specs.Written.{Written}
use Rattle.xt_shapes.specs.declared.leaves.Primitive.{Primitive}
use Rattle.type_trees.specs.Trees.{Tree}
use Rattle.dynamic_data.specs.declared.numbers.forms.Form.{Form}
use Rattle.dynamic_data.specs.numbers.Floats.{ShowsNumber, leaf_bits}
use Rattle.dynamic_data.specs.numbers.Walks.{Turn, ItemsTurn, MembersTurn, Turns}

-- the value that stands for a number that is too large
abbrev pub too_large : Form → Json
too_large Form.Numbers = json.null
too_large Form.Bits = json.string []
too_large Form.BitsOrZero = json.number (48 ∷ [])

abbrev pub LeafTurns : Form → Primitive → Turn
LeafTurns Form.Numbers p j k = ShowsNumber p j k
LeafTurns Form.Bits p j k = k ≡ leaf_bits (json.string []) p j
LeafTurns Form.BitsOrZero p j k = k ≡ leaf_bits (json.number (48 ∷ [])) p j

-- a value was appended that may stand in place of j
abbrev pub Puts : {E : Type 0} → Turn → Json → Result (Unit {0}) E → Written → Written → Type 0
Puts T j result old new = (new.before ≡ old.before) × OnOk result ((k : Json) × (new.tokens ≡ old.tokens ++ json_tokens k) × T j k)

-- the items of an array and its bracket were appended, or the members of an object and its brace
abbrev pub PutsItems : {E : Type 0} → Turn → json.Items → Result (Unit {0}) E → Written → Written → Type 0
PutsItems T js result old new = (new.before ≡ old.before) × OnOk result ((ks : json.Items) × (new.tokens ≡ old.tokens ++ items_tokens ks) × ItemsTurn T js ks)

abbrev pub PutsMembers : {E : Type 0} → (List ℕ → Turn) → json.Members → Result (Unit {0}) E → Written → Written → Type 0
PutsMembers T ms result old new = (new.before ≡ old.before) × OnOk result ((ns : json.Members) × (new.tokens ≡ old.tokens ++ members_tokens ns) × MembersTurn T ms ns)

-- a text of what may stand in place of a tree
abbrev pub TurnsText : (Primitive → Turn) → Tree → Option Json → List ℕ → Type 0
TurnsText T t None text = ⊥
TurnsText T t (Some j) text = (k : Json) × Turns T t j k × (text ≡ print (json_tokens k))
