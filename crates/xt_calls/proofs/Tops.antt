-- A structure or union, behind aliases or not, has objects.
use Rattle.std.proofs.Common.{◌≡◌, refl, true}
use Rattle.type_trees.specs.Trees.{Tree, prim, str, enumeration, bitmask, sequence, array, map_of, structure, union, alias}
use Rattle.type_trees.specs.Bridge.{shape}
use Rattle.type_trees.specs.samples.Tops.{is_top}
use Rattle.type_resolve.specs.Objects.{has_objects}

pub top_has_objects : (t : Tree) → is_top (shape t) ≡ true → has_objects t ≡ true
top_has_objects (prim p) is = absurd cc
top_has_objects (str bound) is = absurd cc
top_has_objects (enumeration name ext bits literals) is = refl
top_has_objects (bitmask name bits flags) is = refl
top_has_objects (sequence bound tc t) is = absurd cc
top_has_objects (array dims tc t) is = absurd cc
top_has_objects (map_of bound kc k vc v) is = absurd cc
top_has_objects (structure h ms) is = refl
top_has_objects (union h disc cs) is = refl
top_has_objects (alias name t) is = refl
