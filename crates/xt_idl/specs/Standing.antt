-- Types where definitions use them, with what stands at the places of the declared types in them (this profile's own).
use Rattle.std.specs.Prelude.{ℕ}
use Rattle.type_trees.specs.Trees.{Tree, prim, str, sequence, array, map_of}
use Rattle.idl_types.specs.declared.uses.Used.{Used, fold-Used}
use Rattle.idl_types.specs.declared.uses.Used.TheOpen.{Used-F}

-- one level of a use, where each use in it stands as its tree
abbrev pub stood_level : (ℕ → Tree) → Used-F Tree → Tree
stood_level placed (Used-F.Prim p) = prim p
stood_level placed (Used-F.Str n) = str n
stood_level placed (Used-F.Seq n tc t) = sequence n tc t.value
stood_level placed (Used-F.Array ds tc t) = array ds tc t.value
stood_level placed (Used-F.Map n kc k vc v) = map_of n kc k.value vc v.value
stood_level placed (Used-F.Declared at) = placed at

-- the tree of a use
abbrev pub stood_by : (ℕ → Tree) → Used → Tree
stood_by placed = fold-Used _ (stood_level placed)
