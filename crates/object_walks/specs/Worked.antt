-- Worked walks, by computation (DDS-XTypes 1.3, 7.3.4; limits are this profile's own). The identifiers are made up: the walk takes what the
-- pool says.
use Rattle.std.specs.Prelude.{◌≡◌, ℕ, suc, List, [], ◌∷◌, false, None, Ok, Err}
use Rattle.std.proofs.Common.{refl}
use Rattle.xt_shapes.specs.declared.leaves.Ext.TheVariants.{Final}
use Rattle.xt_shapes.specs.declared.leaves.Try.TheVariants.{Discard}
use Rattle.xt_shapes.specs.declared.leaves.Primitive.TheVariants.{Int32}
use Rattle.xt_shapes.specs.declared.leaves.Step.TheVariants as S
use Rattle.type_trees.specs.declared.types.HashId.{HashId}
use Rattle.type_trees.specs.declared.types.Name.TheVariants.{Hashed}
use Rattle.type_trees.specs.declared.types.Base.{Base}
use Rattle.type_trees.specs.Trees as tree
use Rattle.type_trees.specs.Trees.{Tree, Members}
use Rattle.object_formats.specs.Objects as o
use Rattle.object_formats.specs.Objects.{Object, MemberPart, Identifier}
use Rattle.object_walks.specs.Resolving.{absent, repeated, at_node, of_whole, Walk, of_object, bases, base_at, walk, walked, node, part}

abbrev id : ℕ → HashId
id n = record { kind = 241; hash = n ∷ n ∷ n ∷ n ∷ n ∷ n ∷ n ∷ n ∷ n ∷ n ∷ n ∷ n ∷ n ∷ n ∷ [] }

-- a pool that has nothing
nothing_held : walked [] (id 1) ≡ Err (absent (id 1))
unfolding walked walk
nothing_held = refl

-- ---- one object, whose parts are found by this walk

-- every identifier stands for a long, the count of nodes rising by one
abbrev longs : Walk
longs inside t n = Ok (tree.prim Int32, suc n)

abbrev long_member : ℕ → MemberPart
long_member n = record { id = n; flags = 1; ty = o.prim Int32; name = Hashed n }

abbrev told : ℕ → Members → Members
told n ms = tree.member (record { id = n; name = Hashed n; tc = Discard; optional = false; must_understand = false; key = false }) (tree.prim Int32) ms

abbrev structure_of : List Base → Members → Tree
structure_of bases ms = tree.structure (record { name = None; ext = Final; nested = false; hashed_ids = false; bases = bases }) ms

-- two members are two nodes
two_members : of_object [] longs [] (o.structure None 1 o.none (long_member 3 ∷ long_member 4 ∷ [])) 1 ≡ Ok (structure_of [] (told 3 (told 4 tree.no_members)), 3)
two_members = refl

-- a base that the pool lacks is missing before any member is walked
base_absent : of_object [] longs [] (o.structure None 1 (o.hash (id 7)) (long_member 3 ∷ [])) 1 ≡ Err (absent (id 7))
unfolding base_at
base_absent = refl

-- a base that the structure stands in
base_repeated : bases 15 [] longs Final (id 7 ∷ []) (o.hash (id 7)) 1 ≡ Err (repeated (id 7))
unfolding base_at
base_repeated = refl

-- a 16th base isn't looked up
base_too_many : bases 0 [] longs Final [] (o.hash (id 7)) 1 ≡ Err (at_node 18 [])
unfolding base_at
base_too_many = refl

-- where no level is left, an identifier isn't looked up
element_too_deep : part (walk 0 []) S.Element [] 1 (o.hash (id 7)) 1 ≡ Err (at_node 15 (S.Element ∷ []))
unfolding walk
element_too_deep = refl

-- after 65,536 nodes neither
too_many : walk 4 [] [] (o.hash (id 7)) 65536 ≡ Err (of_whole 16)
unfolding walk
too_many = refl

-- one that isn't there is looked up after 65,535
last_node : walk 4 [] [] (o.hash (id 7)) 65535 ≡ Err (absent (id 7))
unfolding walk
last_node = refl

-- a map's value is walked before its key
value_first : node [] (walk 4 []) [] (o.map_of 241 1 0 (o.hash (id 7)) 1 (o.hash (id 8))) 1 ≡ Err (absent (id 7))
unfolding walk
value_first = refl
