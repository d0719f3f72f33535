-- The literals of an enumeration by their names: each name that is known leads to the place of the first literal that has it (this profile's own).
use Rattle.std.specs.Prelude.{◌≡◌, ℕ, ◌+◌, if◌then◌else◌, List, [], ◌∷◌, Option, Some, None}
use Rattle.type_trees.specs.declared.types.Name.{Name}
use Rattle.type_trees.specs.declared.types.Name.TheVariants as name_of
use Rattle.type_trees.specs.declared.types.Literal.{Literal}
use Rattle.idl_tokens.specs.Classes.{Text}
use Rattle.idl_tokens.specs.declared.names.scopes.Meaning.{Meaning}
use Rattle.idl_tokens.specs.declared.names.scopes.Meaning.TheVariants as meaning_of
use Rattle.idl_tokens.specs.names.Scopes.{Names, meaning, with_name}
use Rattle.idl_definitions.specs.Unions.{is_named}

-- the place of the first literal of a name, where the first literal of all has the place `at`
abbrev pub first_named : Text → ℕ → List Literal → Option Meaning
first_named s at [] = None
first_named s at (l ∷ ls) = if is_named s l.name then Some (meaning_of.Type at) else first_named s (at + 1) ls

-- with the literal's name at `at`, unless an earlier literal has it
abbrev pub with_literal : ℕ → Name → Names → Names
with_literal at (name_of.Full t) names = with_name 0 t (meaning_of.Type at) names
with_literal at (name_of.Hashed h) names = names

-- names that lead to the literals
abbrev pub Indexes : Names → List Literal → Type 0
Indexes names ls = (s : Text) → meaning 0 s names ≡ first_named s 0 ls
