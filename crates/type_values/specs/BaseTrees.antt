-- The base of a structure, as a tree (DDS-XTypes 1.3, 7.2.2.4.4).
use Rattle.std.specs.Prelude.{Option, None}
use Rattle.std.specs.Option.{option_map}
use Rattle.type_trees.specs.Trees.{Tree, structure}
use Rattle.type_trees.specs.Bases.{base_of}

-- none where the type is no structure, or one without bases
abbrev pub base_tree : Tree → Option Tree
base_tree (structure head ms) = option_map (λ b. structure b.0 b.1) (base_of head ms)
base_tree _ = None
