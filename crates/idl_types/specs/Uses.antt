-- Types as definitions use them: a declared type stands as its place among those that were declared before (this profile's own).
use Rattle.std.specs.Prelude.{ℕ, Option, Some, None, slice_get}
use Rattle.xt_shapes.specs.declared.leaves.Primitive.TheVariants.{Boolean}
use Rattle.type_trees.specs.Trees.{Tree, prim, str, sequence, array, map_of}
use Rattle.idl_tokens.specs.Classes.{Text}
use Rattle.idl_types.specs.State.{Declared}
use Rattle.idl_types.specs.declared.uses.Used.{Used, fold-Used}
use Rattle.idl_types.specs.declared.uses.Used.TheOpen.{Used-F}

-- a boolean where nothing is declared there
abbrev pub tree_or : Option (Text × Tree) → Tree
tree_or None = prim Boolean
tree_or (Some d) = d.1

-- the type that is declared at a place
abbrev pub tree_at : Declared → ℕ → Tree
tree_at ts at = tree_or (slice_get ts at)

-- one level of a use, where each use in it stands as its tree
abbrev pub used_level : Declared → Used-F Tree → Tree
used_level ts (Used-F.Prim p) = prim p
used_level ts (Used-F.Str n) = str n
used_level ts (Used-F.Seq n tc t) = sequence n tc t.value
used_level ts (Used-F.Array ds tc t) = array ds tc t.value
used_level ts (Used-F.Map n kc k vc v) = map_of n kc k.value vc v.value
used_level ts (Used-F.Declared at) = tree_at ts at

-- the tree that a use stands for
abbrev pub whole : Declared → Used → Tree
whole ts = fold-Used _ (used_level ts)
