-- The type that an identifier stands for, by following identifiers through a pool of objects, depth first (DDS-XTypes 1.3, 7.3.4). The
-- order, the limits and the faults are this profile's own.
use Rattle.std.specs.Prelude.{ℕ, zero, suc, ◌+◌, ◌%◌, ◌/◌, List, [], ◌∷◌, ◌++◌, map, Bool, cond, Option, Some, None, Result, Ok, Err, length, min, nat_lt, ◌==◌}
use Rattle.xt_shapes.specs.declared.leaves.Ext.{Ext}
use Rattle.xt_shapes.specs.declared.leaves.Ext.TheVariants as E
use Rattle.xt_shapes.specs.declared.leaves.Try.{Try}
use Rattle.xt_shapes.specs.declared.leaves.Try.TheVariants as Y
use Rattle.xt_shapes.specs.declared.leaves.Step.{Step}
use Rattle.xt_shapes.specs.declared.leaves.Step.TheVariants as S
use Rattle.xt_shapes.specs.Kinds.{same_ext}
use Rattle.type_trees.specs.declared.types.HashId.{HashId}
use Rattle.type_trees.specs.declared.types.Literal.{Literal}
use Rattle.type_trees.specs.declared.types.Flag.{Flag}
use Rattle.type_trees.specs.declared.types.Base.{Base}
use Rattle.type_trees.specs.Trees as tree
use Rattle.type_trees.specs.Trees.{Tree, MemberHead, CaseHead}
use Rattle.type_trees.specs.View.{members_of, cases_of}
use Rattle.type_rules.specs.Valid.{type_fault}
use Rattle.object_formats.specs.declared.objects.ObjectLiteral.{ObjectLiteral}
use Rattle.object_formats.specs.declared.objects.ObjectFlag.{ObjectFlag}
use Rattle.object_formats.specs.Objects as o
use Rattle.object_formats.specs.Objects.{Identifier, MemberPart, CasePart, Object}
use Rattle.type_object.specs.Pools.{Texts, object_at}
use Rattle.type_object.specs.References.{is_among}

-- Why the walk ends: an identifier that the pool lacks, one that is met inside itself, a rule of valid types that a node breaks, with
-- the steps to it, or one that the whole type breaks.
pub data Stop : Type 0 where
  absent : HashId → Stop
  repeated : HashId → Stop
  at_node : ℕ → List Step → Stop
  of_whole : ℕ → Stop

-- what is found, and how many nodes were visited so far
abbrev pub Got : Type 0 → Type 0
Got A = Result (A × ℕ) Stop

infixl 10 ◌>>=◌
abbrev pub ◌>>=◌ : {A B : Type 0} → Result A Stop → (A → Result B Stop) → Result B Stop
(Ok x) >>= f = f x
(Err e) >>= f = Err e

-- ---- flags and numbers

abbrev pub bit : ℕ → ℕ → Bool
bit flags place = (flags / place) % 2 == 1

abbrev pub try_of : ℕ → Try
try_of flags = cond (flags % 4 == 1) Y.Discard (cond (flags % 4 == 2) Y.UseDefault Y.Trim)

abbrev pub ext_of : ℕ → Ext
ext_of flags = cond (flags % 8 == 1) E.Final (cond (flags % 8 == 2) E.Appendable E.Mutable)

-- A type holds a number of bits or a position in one octet. No valid type has one past 64.
abbrev pub in_octet : ℕ → ℕ
in_octet n = min n 255

abbrev pub literal_of : ObjectLiteral → Literal
literal_of l = record { name = l.name; value = l.value; is_default = bit l.flags 64 }

abbrev pub flag_of : ObjectFlag → Flag
flag_of f = record { name = f.name; position = in_octet f.position }

abbrev pub member_head : MemberPart → MemberHead
member_head m = record { id = m.id; name = m.name; tc = try_of m.flags; optional = bit m.flags 8; must_understand = bit m.flags 16; key = bit m.flags 32 }

abbrev pub case_head : CasePart → CaseHead
case_head c = record { id = c.id; name = c.name; tc = try_of c.flags; labels = c.labels; is_default = bit c.flags 64 }

-- ---- the parts of a node

-- the walk to a part, with the identifiers that it stands in, the innermost first, and the nodes that were visited before
abbrev pub Walk : Type 0
Walk = List HashId → Identifier → ℕ → Got Tree

-- a step in front of the place where the walk ended
abbrev pub beneath : Step → Stop → Stop
beneath step (absent id) = absent id
beneath step (repeated id) = repeated id
beneath step (at_node rule path) = at_node rule (step ∷ path)
beneath step (of_whole rule) = of_whole rule

abbrev pub under : {A : Type 0} → Step → Result A Stop → Result A Stop
under step (Ok x) = Ok x
under step (Err e) = Err (beneath step e)

-- a part a step away, with what its flags say of a value that can't be constructed
abbrev pub part : Walk → Step → List HashId → ℕ → Identifier → ℕ → Got (Try × Tree)
part go step inside flags t n = under step (go inside t n) >>= λ r. Ok ((try_of flags, r.0), r.1)

-- one after another
abbrev pub each : {P X : Type 0} → (P → ℕ → Got X) → List P → ℕ → Got (List X)
each one [] n = Ok ([], n)
each one (p ∷ ps) n = one p n >>= λ x. each one ps x.1 >>= λ xs. Ok (x.0 ∷ xs.0, xs.1)

abbrev pub member : Walk → List HashId → MemberPart → ℕ → Got (MemberHead × Tree)
member go inside m n = part go (S.Member m.id) inside m.flags m.ty n >>= λ t. Ok ((member_head m, t.0.1), t.1)

abbrev pub members : Walk → List HashId → List MemberPart → ℕ → Got (List (MemberHead × Tree))
members go inside = each (member go inside)

abbrev pub case : Walk → List HashId → CasePart → ℕ → Got (CaseHead × Tree)
case go inside c n = part go (S.Member c.id) inside c.flags c.ty n >>= λ t. Ok ((case_head c, t.0.1), t.1)

abbrev pub cases : Walk → List HashId → List CasePart → ℕ → Got (List (CaseHead × Tree))
cases go inside = each (case go inside)

-- what stands already, and what follows it
abbrev pub behind : {A : Type 0} → List A → Got (List A) → Got (List A)
behind before r = r >>= λ more. Ok (before ++ more.0, more.1)

-- ---- objects

-- the object of an identifier that stands inside others
abbrev pub present : HashId → Option Object → Result Object Stop
present id None = Err (absent id)
present id (Some x) = Ok x

abbrev pub follow : Texts → List HashId → HashId → Result Object Stop
follow pool inside id = cond (is_among id inside) (Err (repeated id)) (present id (object_at id pool))

-- the bases of a structure, the outermost first, and the members that stand so far
abbrev pub Standing : Type 0
Standing = List Base × List (MemberHead × Tree)

-- a structure that is a base, with the members of its own base in front of its own
abbrev pub based : Option (List ℕ) → ℕ → List Base → List (MemberHead × Tree) → Standing
based name flags bases ms = (bases ++ record { name = name; nested = bit flags 8; hashed_ids = bit flags 16; count = length ms } ∷ [], ms)

-- what a base gives; it is a structure of the same extensibility (V17). `own` is what its own base gives
abbrev pub of_base : Walk → (Identifier → ℕ → Got Standing) → List HashId → Ext → Object → ℕ → Got Standing
of_base go own inside ext (o.structure name flags base ms) n =
    cond (same_ext (ext_of flags) ext) (own base n >>= λ b. behind b.0.1 (members go inside ms b.1) >>= λ all. Ok (based name flags b.0.0 all.0, all.1)) (Err (of_whole 17))
of_base go own inside ext _ n = Err (of_whole 17)

-- a structure has a base or none
abbrev pub from_base : (HashId → ℕ → Got Standing) → Identifier → ℕ → Got Standing
from_base base o.none n = Ok (([], []), n)
from_base base (o.hash id) n = base id n
from_base base _ n = Err (of_whole 17)

-- A base and the bases that it has, of which there may be so many. One too many is not looked up (V18). A base is no node: its members
-- are those of the structure.
unfoldable pub base_at : ℕ → Texts → Walk → Ext → List HashId → HashId → ℕ → Got Standing
base_at zero pool go ext inside id n = Err (at_node 18 [])
base_at (suc room) pool go ext inside id n = follow pool inside id >>= λ x. of_base go (from_base (λ i m. base_at room pool go ext (id ∷ inside) i m)) (id ∷ inside) ext x n

abbrev pub bases : ℕ → Texts → Walk → Ext → List HashId → Identifier → ℕ → Got Standing
bases room pool go ext inside = from_base (base_at room pool go ext inside)

abbrev pub structure : Texts → Walk → List HashId → Option (List ℕ) → ℕ → Identifier → List MemberPart → ℕ → Got Tree
structure pool go inside name flags base ms n =
    bases 15 pool go (ext_of flags) inside base n >>= λ b. behind b.0.1 (members go inside ms b.1) >>= λ all.
    Ok (tree.structure (record { name = name; ext = ext_of flags; nested = bit flags 8; hashed_ids = bit flags 16; bases = b.0.0 }) (members_of all.0), all.1)

abbrev pub of_object : Texts → Walk → List HashId → Object → ℕ → Got Tree
of_object pool go inside (o.alias name related) n = go inside related n >>= λ t. Ok (tree.alias name t.0, t.1)
of_object pool go inside (o.enumeration name flags bits ls) n = Ok (tree.enumeration name (ext_of flags) (in_octet bits) (map literal_of ls), n)
of_object pool go inside (o.bitmask name bits fs) n = Ok (tree.bitmask name (in_octet bits) (map flag_of fs), n)
of_object pool go inside (o.structure name flags base ms) n = structure pool go inside name flags base ms n
of_object pool go inside (o.union name flags disc_flags disc cs) n =
    part go S.Disc inside disc_flags disc n >>= λ d. cases go inside cs d.1 >>= λ all.
    Ok (tree.union (record { name = name; ext = ext_of flags; nested = bit flags 8; hashed_ids = bit flags 16; disc_key = bit disc_flags 32 }) d.0.1 (cases_of all.0), all.1)

-- ---- the walk

abbrev pub named : Texts → Walk → List HashId → HashId → ℕ → Got Tree
named pool go inside id n = follow pool inside id >>= λ x. of_object pool go (id ∷ inside) x n

-- In a map the value comes before the key, as in the object's text. `none` stands in no object where a type is asked for.
abbrev pub node : Texts → Walk → Walk
node pool go inside o.none n = Err (of_whole 17)
node pool go inside (o.prim p) n = Ok (tree.prim p, n)
node pool go inside (o.str bound) n = Ok (tree.str bound, n)
node pool go inside (o.sequence ek flags bound t) n = part go S.Element inside flags t n >>= λ r. Ok (tree.sequence bound r.0.0 r.0.1, r.1)
node pool go inside (o.array ek flags dims t) n = part go S.Element inside flags t n >>= λ r. Ok (tree.array dims r.0.0 r.0.1, r.1)
node pool go inside (o.map_of ek flags bound v key_flags k) n = part go S.Entry inside flags v n >>= λ r. part go S.Key inside key_flags k r.1 >>= λ q. Ok (tree.map_of bound q.0.0 q.0.1 r.0.0 r.0.1, q.1)
node pool go inside (o.hash id) n = named pool go inside id n

-- So many levels of nodes, and 65,536 nodes in all (V15, V16). What is too deep or too many is not looked up.
unfoldable pub walk : ℕ → Texts → Walk
walk zero pool inside t n = Err (at_node 15 [])
walk (suc levels) pool inside t n = cond (nat_lt n 65536) (node pool (λ i u m. walk levels pool i u m) inside t (n + 1)) (Err (of_whole 16))

unfoldable pub walked : Texts → HashId → Result Tree Stop
walked pool id = walk 16 pool [] (o.hash id) 0 >>= λ r. Ok r.0

-- why an identifier has no type: one that the pool lacks, one that is met inside itself, or a rule that the asked identifier's type
-- breaks, with the steps to the node
pub data Refusal : Type 0 where
  missing : HashId → Refusal
  recursive : HashId → Refusal
  invalid : HashId → ℕ → List Step → Refusal

abbrev pub refusal : HashId → Stop → Refusal
refusal asked (absent id) = missing id
refusal asked (repeated id) = recursive id
refusal asked (at_node rule path) = invalid asked rule path
refusal asked (of_whole rule) = invalid asked rule []

abbrev pub checked : HashId → Tree → Option (ℕ × List Step) → Result Tree Refusal
checked asked t None = Ok t
checked asked t (Some f) = Err (invalid asked f.0 f.1)

abbrev pub settled : HashId → Result Tree Stop → Result Tree Refusal
settled asked (Ok t) = checked asked t (type_fault t)
settled asked (Err stop) = Err (refusal asked stop)

-- the type of an identifier: the faults that the walk meets come first, the other rules of valid types last
unfoldable pub resolved : Texts → HashId → Result Tree Refusal
resolved pool id = settled id (walked pool id)
