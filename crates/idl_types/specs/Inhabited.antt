-- Which of the open modules may hold types, in themselves or in modules in them (this profile's own).
use Rattle.std.specs.Prelude.{◌≡◌, ℕ, ◌<◌, ◌≤◌, List, length, slice_get, Some}
use Rattle.idl_tokens.specs.Classes.{Text}
use Rattle.idl_tokens.specs.declared.names.scopes.Meaning.TheVariants as meaning_of
use Rattle.idl_tokens.specs.names.Scopes.{Names, meaning}
use Rattle.idl_types.specs.declared.opened.Opened.{Opened}
use Rattle.idl_types.specs.Names.{number_of}

-- no scope of a higher number holds a type
abbrev pub TypesUpTo : ℕ → Names → Type 0
TypesUpTo highest names = (scope : ℕ) (name : Text) (at : ℕ) → meaning scope name names ≡ Some (meaning_of.Type at) → scope ≤ highest

-- from a scope of a higher number, modules lead to higher numbers
abbrev pub LeadsUp : ℕ → Names → Type 0
LeadsUp highest names = (scope : ℕ) (name : Text) (number : ℕ) → meaning scope name names ≡ Some (meaning_of.Module number) → highest < scope → scope < number

-- the open modules from there on have higher numbers
abbrev pub AboveFrom : ℕ → ℕ → List Opened → Type 0
AboveFrom inhabited highest opened = (k : ℕ) → inhabited ≤ k → k < length opened → highest < number_of (slice_get opened k)
