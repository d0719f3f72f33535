-- The tree of the type that stands at a place of a list, and the list of one declaration more.
use Rattle.std.proofs.Common.{◌≡◌, refl, ap, ◌∙◌, ℕ, zero, suc, ◌+◌, ◌<◌, List, [], ◌∷◌, ◌++◌, length, take, get_or, Option, Some, None, slice_get}
use Rattle.std.proofs.lemmas.List.{take_more}
use Rattle.type_trees.specs.declared.types.Named.{Named}
use Rattle.type_trees.specs.View.{tree}
use Rattle.type_trees.specs.Trees.{Tree}
use Rattle.idl_types.specs.State.{declared}
use Rattle.idl_types.specs.Uses.{tree_or, tree_at}
use Rattle.idl_types.specs.declared.declarations.Declaration.{Declaration}
use Rattle.idl_types.specs.Definitions as definitions
use Rattle.idl_types.specs.Definitions.{defined}
use Rattle.idl_types.proofs.NameLoops.{types_push}

abbrev named_or : Option Named → Tree
named_or None = tree_or None
named_or (Some n) = tree n.ty

at_named : (ns : List Named) (at : ℕ) → tree_at (declared ns) at ≡ named_or (slice_get ns at)
at_named [] at = refl
at_named (n ∷ ns) zero = refl
at_named (n ∷ ns) (suc at) = at_named ns at

pub at_none : (ns : List Named) (at : ℕ) → slice_get ns at ≡ None → tree_at (declared ns) at ≡ tree_or None
at_none ns at e = at_named ns at ∙ ap named_or e

pub at_some : (ns : List Named) (at : ℕ) (n : Named) → slice_get ns at ≡ Some n → tree_at (declared ns) at ≡ tree n.ty
at_some ns at n e = at_named ns at ∙ ap named_or e

pub taken_more : (ds : List Declaration) (i : ℕ) (d : Declaration) → i < length ds → d ≡ get_or ds i d
    → definitions.declared (take (i + 1) ds) ≡ definitions.declared (take i ds) ++ (d.name, defined (definitions.declared (take i ds)) d.name d.definition) ∷ []
taken_more ds i d within is = rw (take_more ds i d within, ← is) (types_push (take i ds) d)
