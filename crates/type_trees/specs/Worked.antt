-- Worked hashes, bases and shapes, checked by computation (DDS-XTypes 1.3, 7.3.4 and 7.2.2.4.4).
use Rattle.std.specs.Prelude.{◌≡◌, ℕ, [], ◌∷◌, List, true, false, Option, Some, None}
use Rattle.std.proofs.Common.{refl}
use Rattle.md5.specs.Md5.{block_words, rounds, compress, hash_after, digest_bytes, md5}
use Rattle.xt_shapes.specs.declared.leaves.Ext.TheVariants.{Final}
use Rattle.xt_shapes.specs.declared.leaves.Primitive.TheVariants as prims
use Rattle.xt_shapes.specs.declared.leaves.Try.TheVariants.{Discard}
use Rattle.type_trees.specs.declared.types.Base.{Base}
use Rattle.type_trees.specs.declared.types.Name.{Name}
use Rattle.type_trees.specs.Trees.{StructHead, prim, structure, alias, Members, no_members, member}
use Rattle.type_trees.specs.Hash.{name_hash, hash_id}
use Rattle.type_trees.specs.Bases.{base_of}
use Rattle.type_trees.specs.Bridge.{shape}

-- ---- names: `color`

abbrev color : List ℕ
color = 99 ∷ 111 ∷ 108 ∷ 111 ∷ 114 ∷ []

unfoldable hashed : ℕ
unfolding block_words rounds compress hash_after digest_bytes md5
hashed = 0

hash_of_color : name_hash color ≡ 0x70 ∷ 0xdd ∷ 0xa5 ∷ 0xdf ∷ []
unfolding hashed
hash_of_color = refl

id_of_color : hash_id color ≡ 0x0fa5dd70
unfolding hashed
id_of_color = refl

-- ---- bases: a structure of three members over `b` with two members, which is over `a` with one

abbrev long : ℕ → Members → Members
long id ms = member (record { id = id; name = Name.Hashed id; tc = Discard; optional = false; must_understand = false; key = false }) (prim prims.Int32) ms

abbrev a : Base
a = record { name = Some (97 ∷ []); nested = true; hashed_ids = false; count = 1 }

abbrev b : Base
b = record { name = Some (98 ∷ []); nested = false; hashed_ids = false; count = 2 }

abbrev head : Option (List ℕ) → List Base → StructHead
head name bases = record { name = name; ext = Final; nested = false; hashed_ids = false; bases = bases }

base_of_three : base_of (head None (a ∷ b ∷ [])) (long 0 (long 1 (long 2 no_members))) ≡ Some (head (Some (98 ∷ [])) (a ∷ []), long 0 (long 1 no_members))
base_of_three = refl

no_base : base_of (head None []) (long 0 no_members) ≡ None
no_base = refl

-- ---- shapes: an alias, a name and the bases leave no trace

shape_of_alias : shape (alias (Some (97 ∷ [])) (structure (head (Some (98 ∷ [])) (a ∷ [])) (long 5 (long 6 no_members)))) ≡ shape (structure (head None []) (long 5 (long 6 no_members)))
shape_of_alias = refl
