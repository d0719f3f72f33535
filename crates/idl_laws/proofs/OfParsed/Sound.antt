-- What holds of the types that are declared at any place of a text.
use Rattle.std.proofs.Common.{◌≡◌, ℕ, true, Some, None, take}
use Rattle.std.specs.Prelude.{slice_get}
use Rattle.type_trees.specs.Trees.{Tree}
use Rattle.type_rules.specs.Valid.{type_fault}
use Rattle.idl_tokens.specs.Classes.{Text}
use Rattle.idl_types.specs.State.{Declared}
use Rattle.idl_laws.specs.Printable.{has_no_keyword, IsDefinition}

-- a type that was declared: valid, and a definition of its name behind those before it
pub record IsDeclared (types : Declared) (at : ℕ) (full : Text) (t : Tree) : Type 0 where
  pub valid : type_fault t ≡ None
  pub no_keyword : has_no_keyword full ≡ true
  pub defined : IsDefinition (take at types) full t

-- each of the types
abbrev pub Sound : Declared → Type 0
Sound types = (at : ℕ) (full : Text) (t : Tree) → slice_get types at ≡ Some (full, t) → IsDeclared types at full t
