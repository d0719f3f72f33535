-- The law that each type that a text declares has objects of its own (this profile's own).
use Rattle.std.specs.Prelude.{◌≡◌, ℕ, true, slice_get, Some, Ok}
use Rattle.type_trees.specs.Trees.{Tree}
use Rattle.idl_tokens.specs.Classes.{Text}
use Rattle.idl_types.specs.State.{Declared}
use Rattle.xt_idl.specs.Whole.{idl}
use Rattle.type_resolve.specs.Objects.{has_objects}

-- Each type that a text declares is one that has objects of its own.
abbrev pub ParsedHasObjects : Type 0
ParsedHasObjects = (text : Text) (ds : Declared) (at : ℕ) (full : Text) (t : Tree) → idl text ≡ Ok ds → slice_get ds at ≡ Some (full, t) → has_objects t ≡ true
