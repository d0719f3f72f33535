-- The structures of drawn members (this profile's own).
use Rattle.std.specs.Prelude.{ℕ, zero, suc, pos, false, Some, List, [], ◌∷◌, ◌++◌, map, codes}
use Rattle.std.specs.Fmt.{decimal}
use Rattle.xt_shapes.specs.declared.leaves.Ext.{Ext}
use Rattle.xt_shapes.specs.declared.leaves.Ext.TheVariants.{Appendable}
use Rattle.xt_shapes.specs.declared.leaves.Primitive.{Primitive}
use Rattle.xt_shapes.specs.declared.leaves.Primitive.TheVariants.{Byte, Int16, Int32, Int64}
use Rattle.xt_shapes.specs.declared.leaves.Try.TheVariants.{Discard}
use Rattle.type_trees.specs.declared.types.Literal.{Literal}
use Rattle.type_trees.specs.declared.types.Name.TheVariants.{Full}
use Rattle.type_trees.specs.Trees.{Tree, Members, MemberHead, prim, str, enumeration, sequence, structure}
use Rattle.type_trees.specs.View.{members_of}
use Rattle.xt_vectors.specs.declared.plans.Plan.{Plan}
use Rattle.xt_vectors.specs.declared.plans.Sort.{Sort}
use Rattle.xt_vectors.specs.declared.plans.Sort.TheVariants.{Long, Octet, Text, Shorts, Literals, Pair}

-- a letter and a number, as `m0`
abbrev pub numbered : ℕ → ℕ → List ℕ
numbered letter n = letter ∷ decimal n

-- ---- an enumeration

abbrev pub literal : ℕ → Literal
literal n = record { name = Full (numbered 108 n); value = pos n; is_default = false }

-- so many literals, from 0 up
abbrev pub literals_before : ℕ → List Literal
literals_before zero = []
literals_before (suc n) = literals_before n ++ literal n ∷ []

abbrev pub literals : ℕ → List Literal
literals last = literals_before last ++ literal last ∷ []

abbrev pub enumeration_of : ℕ → ℕ → Tree
enumeration_of id last = enumeration (Some (numbered 69 id)) Appendable 32 (literals last)

abbrev pub shorts : ℕ → Tree
shorts bound = sequence bound Discard (prim Int16)

-- ---- the inner structure: a long and a long long

abbrev pub structure_over : List ℕ → Ext → Members → Tree
structure_over name ext ms = structure (record { name = Some name; ext = ext; nested = false; hashed_ids = false; bases = [] }) ms

abbrev pub part : List ℕ → ℕ → Primitive → MemberHead × Tree
part name id p = (record { id = id; name = Full name; tc = Discard; optional = false; must_understand = false; key = false }, prim p)

abbrev pub parts : Members
parts = members_of (part (codes "a") 0 Int32 ∷ part (codes "b") 1 Int64 ∷ [])

abbrev pub inner : Tree
inner = structure_over (codes "N") Appendable parts

-- ---- the structure of drawn members

unfoldable pub type_of : ℕ → Sort → Tree
type_of id Long = prim Int32
type_of id Octet = prim Byte
type_of id (Text bound) = str bound
type_of id (Shorts bound) = shorts bound
type_of id (Literals last) = enumeration_of id last
type_of id Pair = inner

abbrev pub member_of : Plan → MemberHead × Tree
member_of p = (record { id = p.id; name = Full (numbered 109 p.id); tc = p.tc; optional = p.optional; must_understand = p.must_understand; key = false }, type_of p.id p.sort)

abbrev pub structure_of : Ext → List Plan → Tree
structure_of ext ps = structure_over (codes "G") ext (members_of (map member_of ps))
