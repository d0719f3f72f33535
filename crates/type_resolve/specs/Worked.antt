-- Worked objects of types, and their order, by computation (DDS-XTypes 1.3, 7.3.4; the order is this profile's own).
use Rattle.std.specs.Prelude.{◌≡◌, ℕ, List, [], ◌∷◌, Bool, false, true, None, Some, ◌++◌}
use Rattle.std.proofs.Common.{refl}
use Rattle.xt_shapes.specs.declared.leaves.Ext.TheVariants.{Final}
use Rattle.xt_shapes.specs.declared.leaves.Try.TheVariants.{Discard}
use Rattle.xt_shapes.specs.declared.leaves.Primitive.TheVariants.{Int32}
use Rattle.type_trees.specs.declared.types.HashId.{HashId}
use Rattle.type_trees.specs.declared.types.Name.TheVariants.{Hashed}
use Rattle.type_trees.specs.declared.types.Base.{Base}
use Rattle.type_trees.specs.Bridge.{name_number}
use Rattle.type_trees.specs.Trees.{MemberHead, StructHead, Tree, Members, prim, map_of, alias, structure, member, no_members}
use Rattle.object_formats.specs.Objects as o
use Rattle.object_formats.specs.Objects.{Object, Identifier}
use Rattle.object_formats.specs.Rows.{one_member}
use Rattle.type_resolve.specs.Objects.{own, top, layer_object, alias_object, struct_object, both_texts, identifier, member_parts, texts, member_texts, member_count}

abbrev named_member : ℕ → MemberHead
named_member n = record { id = n; name = Hashed 3752189296; tc = Discard; optional = false; must_understand = false; key = false }

abbrev head : List Base → StructHead
head bases = record { name = Some (67 ∷ []); ext = Final; nested = true; hashed_ids = false; bases = bases }

-- the minimal object of a structure of one long has no name and no flag of its own for a nested type
abbrev one : Members
one = member (named_member 0) (prim Int32) no_members

minimal_object : layer_object false Final o.none 0 (top (head []) (member_count one)) (member_parts false one) ≡ one_member
unfolding member_parts identifier name_number
minimal_object = refl

-- a structure with a base has its own members alone
abbrev base : Base
base = record { name = Some (66 ∷ []); nested = false; hashed_ids = false; count = 1 }

abbrev two : Members
two = member (named_member 0) (prim Int32) (member (named_member 1) (prim Int32) no_members)

own_members : (id : HashId) → layer_object false Final (o.hash id) 1 (top (head (base ∷ [])) (member_count two)) (member_parts false two)
    ≡ o.structure None 1 (o.hash id) (record { id = 1; flags = 1; ty = o.prim Int32; name = Hashed 3752189296 } ∷ [])
unfolding member_parts identifier name_number
own_members id = refl

-- an alias inside a structure comes before it, and each minimal object before the complete one
abbrev long : Tree
long = alias (Some (65 ∷ [])) (prim Int32)

abbrev long_object : Bool → Object
long_object complete = alias_object complete (Some (65 ∷ [])) (o.prim Int32)

inner_first : texts (structure (head []) (member (named_member 0) long no_members))
    ≡ texts long ++ both_texts (λ c. struct_object c (Some (67 ∷ [])) Final true false o.none (record { id = 0; flags = 1; ty = own (long_object c); name = Hashed 3752189296 } ∷ []))
unfolding texts member_texts identifier member_parts name_number
inner_first = refl

-- a map's key comes before its value
key_first : (k v : Tree) → texts (map_of 0 Discard k Discard v) ≡ texts k ++ texts v
unfolding texts
key_first k v = refl
