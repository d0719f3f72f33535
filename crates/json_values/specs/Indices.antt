-- Literals and members that are looked up by an index (this profile's own).
use Rattle.std.specs.Prelude.{◌≡◌, ℕ, ℤ, List, [], ◌∷◌, cond, Option, Some, None, String, bytes_eq, option_map, string_bytes}
use Rattle.std.specs.BTreeMap.{BTreeMap, get, get_by_text}
use Rattle.std.specs.BTreeSet.{BTreeSet, contains_text}
use Rattle.std.specs.Ordering.{int_cmp, int_eq}
use Rattle.std.specs.declared.alloc.Global.{Global}
use Rattle.type_trees.specs.declared.types.Literal.{Literal}
use Rattle.type_trees.specs.Trees.{Members}
use Rattle.json_values.specs.Names.{name_text, is_among, member_names}

-- the value of the first literal with that name
abbrev pub value_named : List Literal → List ℕ → Option ℤ
value_named [] s = None
value_named (l ∷ ls) s = cond (bytes_eq (name_text l.name) s) (Some l.value) (value_named ls s)

-- the name of the first literal with that value
abbrev pub text_of_value : List Literal → ℤ → Option (List ℕ)
text_of_value [] n = None
text_of_value (l ∷ ls) n = cond (int_eq l.value n) (Some (name_text l.name)) (text_of_value ls n)

abbrev pub HoldsValues : List Literal → BTreeMap (String Global) ℤ → Type 0
HoldsValues ls map = (s : List ℕ) → get_by_text map s ≡ value_named ls s

abbrev pub HoldsTexts : List Literal → BTreeMap ℤ (String Global) → Type 0
HoldsTexts ls map = (n : ℤ) → option_map (λ t. string_bytes t) (get int_cmp map n) ≡ text_of_value ls n

-- exactly the members' names
abbrev pub HoldsNames : Members → BTreeSet (String Global) → Type 0
HoldsNames ms names = (s : List ℕ) → contains_text names s ≡ is_among s (member_names ms)
