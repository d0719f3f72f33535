-- A type's tree and an identifier are equal to another in one way at most, so that what says which they are is one fact (this profile's own).
-- Each is copied into a type for which antt shows it; a tree, its members and its cases share one copy.
use Rattle.std.specs.Prelude.{◌≡◌, ℕ, ℤ, Bool, List, Option}
use Rattle.std.specs.Coded.{Coded, Coded-set, code_by, coded×, coded_ℕ, coded_ℤ, coded_bool, coded_list, coded_option}
use mathlib.Core.Path.{refl}
use ghost.Sets.{retract_set}
use Rattle.xt_shapes.specs.declared.leaves.Ext.{Ext}
use Rattle.xt_shapes.specs.declared.leaves.Try.{Try}
use Rattle.xt_shapes.specs.declared.leaves.Primitive.{Primitive}
use Rattle.xt_shapes.specs.contracts.leaves.Ext as ext
use Rattle.xt_shapes.specs.contracts.leaves.Try as try
use Rattle.xt_shapes.specs.contracts.leaves.Primitive as primitive
use Rattle.type_trees.specs.declared.types.Base.{Base}
use Rattle.type_trees.specs.declared.types.Flag.{Flag}
use Rattle.type_trees.specs.declared.types.HashId.{HashId}
use Rattle.type_trees.specs.declared.types.Literal.{Literal}
use Rattle.type_trees.specs.declared.types.Name.{Name}
use Rattle.type_trees.specs.contracts.types.Base as base
use Rattle.type_trees.specs.contracts.types.Flag as flag
use Rattle.type_trees.specs.contracts.types.HashId as hash_id
use Rattle.type_trees.specs.contracts.types.Literal as literal
use Rattle.type_trees.specs.contracts.types.Name as name
use Rattle.type_trees.specs.Trees as t
use Rattle.type_trees.specs.Trees.{Tree, Members, Cases, MemberHead, CaseHead, StructHead, UnionHead}
use Rattle.object_formats.specs.Objects as o
use Rattle.object_formats.specs.Objects.{Identifier}

-- ---- the parts that hold no type

coded_text : Coded (Option (List ℕ))
coded_text = coded_option (coded_list coded_ℕ)

abbrev StructFields : Type 0
StructFields = Option (List ℕ) × (Ext × (Bool × (Bool × List Base)))

coded_struct : Coded StructHead
coded_struct = code_by StructFields (coded× coded_text (coded× ext.the_row.coded (coded× coded_bool (coded× coded_bool (coded_list base.the_row.coded)))))
    (λ h. (h.name, (h.ext, (h.nested, (h.hashed_ids, h.bases))))) (λ f. record { name = f.0; ext = f.1.0; nested = f.1.1.0; hashed_ids = f.1.1.1.0; bases = f.1.1.1.1 }) (λ h. refl)

abbrev UnionFields : Type 0
UnionFields = Option (List ℕ) × (Ext × (Bool × (Bool × Bool)))

coded_union : Coded UnionHead
coded_union = code_by UnionFields (coded× coded_text (coded× ext.the_row.coded (coded× coded_bool (coded× coded_bool coded_bool))))
    (λ h. (h.name, (h.ext, (h.nested, (h.hashed_ids, h.disc_key))))) (λ f. record { name = f.0; ext = f.1.0; nested = f.1.1.0; hashed_ids = f.1.1.1.0; disc_key = f.1.1.1.1 }) (λ h. refl)

abbrev MemberFields : Type 0
MemberFields = ℕ × (Name × (Try × (Bool × (Bool × Bool))))

coded_member : Coded MemberHead
coded_member = code_by MemberFields (coded× coded_ℕ (coded× name.the_row.coded (coded× try.the_row.coded (coded× coded_bool (coded× coded_bool coded_bool)))))
    (λ h. (h.id, (h.name, (h.tc, (h.optional, (h.must_understand, h.key)))))) (λ f. record { id = f.0; name = f.1.0; tc = f.1.1.0; optional = f.1.1.1.0; must_understand = f.1.1.1.1.0; key = f.1.1.1.1.1 }) (λ h. refl)

abbrev CaseFields : Type 0
CaseFields = ℕ × (Name × (Try × (List ℤ × Bool)))

coded_case : Coded CaseHead
coded_case = code_by CaseFields (coded× coded_ℕ (coded× name.the_row.coded (coded× try.the_row.coded (coded× (coded_list coded_ℤ) coded_bool))))
    (λ h. (h.id, (h.name, (h.tc, (h.labels, h.is_default))))) (λ f. record { id = f.0; name = f.1.0; tc = f.1.1.0; labels = f.1.1.1.0; is_default = f.1.1.1.1 }) (λ h. refl)

-- ---- identifiers

data Copied : Type 0 where
  none : Copied
  prim : Primitive → Copied
  str : ℕ → Copied
  sequence : ℕ → ℕ → ℕ → Copied → Copied
  array : ℕ → ℕ → List ℕ → Copied → Copied
  map_of : ℕ → ℕ → ℕ → Copied → ℕ → Copied → Copied
  hash : HashId → Copied
  deriving IsSet as Copied-set

abbrev copied : Identifier → Copied
copied o.none = none
copied (o.prim p) = prim p
copied (o.str n) = str n
copied (o.sequence k f n x) = sequence k f n (copied x)
copied (o.array k f ds x) = array k f ds (copied x)
copied (o.map_of k f n x g y) = map_of k f n (copied x) g (copied y)
copied (o.hash id) = hash id

abbrev original : Copied → Identifier
original none = o.none
original (prim p) = o.prim p
original (str n) = o.str n
original (sequence k f n x) = o.sequence k f n (original x)
original (array k f ds x) = o.array k f ds (original x)
original (map_of k f n x g y) = o.map_of k f n (original x) g (original y)
original (hash id) = o.hash id

is_original : (x : Identifier) → original (copied x) ≡ x
is_original o.none = refl
is_original (o.prim p) = refl
is_original (o.str n) = refl
is_original (o.sequence k f n x) = λ i. o.sequence k f n (is_original x i)
is_original (o.array k f ds x) = λ i. o.array k f ds (is_original x i)
is_original (o.map_of k f n x g y) = λ i. o.map_of k f n (is_original x i) g (is_original y i)
is_original (o.hash id) = refl

pub Identifier-set : IsSet Identifier
Identifier-set = retract_set copied original is_original (Copied-set (Coded-set primitive.the_row.coded) (Coded-set coded_ℕ) (Coded-set (coded_list coded_ℕ)) (Coded-set hash_id.the_row.coded))

-- ---- trees

data Twin : Type 0 where
  prim : Primitive → Twin
  str : ℕ → Twin
  enumeration : Option (List ℕ) → Ext → ℕ → List Literal → Twin
  bitmask : Option (List ℕ) → ℕ → List Flag → Twin
  sequence : ℕ → Try → Twin → Twin
  array : List ℕ → Try → Twin → Twin
  map_of : ℕ → Try → Twin → Try → Twin → Twin
  structure : StructHead → Twin → Twin
  union : UnionHead → Twin → Twin → Twin
  alias : Option (List ℕ) → Twin → Twin
  end : Twin
  member : MemberHead → Twin → Twin → Twin
  one_case : CaseHead → Twin → Twin → Twin
  deriving IsSet as Twin-set

abbrev mutual
  twin : Tree → Twin
  twin (t.prim p) = prim p
  twin (t.str n) = str n
  twin (t.enumeration name ext bits ls) = enumeration name ext bits ls
  twin (t.bitmask name bits fs) = bitmask name bits fs
  twin (t.sequence n tc x) = sequence n tc (twin x)
  twin (t.array ds tc x) = array ds tc (twin x)
  twin (t.map_of n kc k vc v) = map_of n kc (twin k) vc (twin v)
  twin (t.structure h ms) = structure h (members_twin ms)
  twin (t.union h d cs) = union h (twin d) (cases_twin cs)
  twin (t.alias name x) = alias name (twin x)

  members_twin : Members → Twin
  members_twin t.no_members = end
  members_twin (t.member h x ms) = member h (twin x) (members_twin ms)

  cases_twin : Cases → Twin
  cases_twin t.no_cases = end
  cases_twin (t.one_case h x cs) = one_case h (twin x) (cases_twin cs)

-- The tree, the members and the cases that a twin is a copy of. What is no copy of a tree gives any.
abbrev any : Tree
any = t.str 0

abbrev back : Twin → Tree × Members × Cases
back (prim p) = (t.prim p, t.no_members, t.no_cases)
back (str n) = (t.str n, t.no_members, t.no_cases)
back (enumeration name ext bits ls) = (t.enumeration name ext bits ls, t.no_members, t.no_cases)
back (bitmask name bits fs) = (t.bitmask name bits fs, t.no_members, t.no_cases)
back (sequence n tc x) = (t.sequence n tc (back x).0, t.no_members, t.no_cases)
back (array ds tc x) = (t.array ds tc (back x).0, t.no_members, t.no_cases)
back (map_of n kc k vc v) = (t.map_of n kc (back k).0 vc (back v).0, t.no_members, t.no_cases)
back (structure h x) = (t.structure h (back x).1, t.no_members, t.no_cases)
back (union h d x) = (t.union h (back d).0 (back x).2, t.no_members, t.no_cases)
back (alias name x) = (t.alias name (back x).0, t.no_members, t.no_cases)
back end = (any, t.no_members, t.no_cases)
back (member h x y) = (any, t.member h (back x).0 (back y).1, t.no_cases)
back (one_case h x y) = (any, t.no_members, t.one_case h (back x).0 (back y).2)

abbrev mutual
  is_back : (x : Tree) → (back (twin x)).0 ≡ x
  is_back (t.prim p) = refl
  is_back (t.str n) = refl
  is_back (t.enumeration name ext bits ls) = refl
  is_back (t.bitmask name bits fs) = refl
  is_back (t.sequence n tc x) = λ i. t.sequence n tc (is_back x i)
  is_back (t.array ds tc x) = λ i. t.array ds tc (is_back x i)
  is_back (t.map_of n kc k vc v) = λ i. t.map_of n kc (is_back k i) vc (is_back v i)
  is_back (t.structure h ms) = λ i. t.structure h (members_back ms i)
  is_back (t.union h d cs) = λ i. t.union h (is_back d i) (cases_back cs i)
  is_back (t.alias name x) = λ i. t.alias name (is_back x i)

  members_back : (ms : Members) → (back (members_twin ms)).1 ≡ ms
  members_back t.no_members = refl
  members_back (t.member h x ms) = λ i. t.member h (is_back x i) (members_back ms i)

  cases_back : (cs : Cases) → (back (cases_twin cs)).2 ≡ cs
  cases_back t.no_cases = refl
  cases_back (t.one_case h x cs) = λ i. t.one_case h (is_back x i) (cases_back cs i)

pub Tree-set : IsSet Tree
Tree-set = retract_set twin (λ x. (back x).0) is_back (Twin-set (Coded-set primitive.the_row.coded) (Coded-set coded_ℕ) (Coded-set coded_text) (Coded-set ext.the_row.coded) (Coded-set (coded_list literal.the_row.coded)) (Coded-set (coded_list flag.the_row.coded)) (Coded-set try.the_row.coded) (Coded-set (coded_list coded_ℕ)) (Coded-set coded_struct) (Coded-set coded_union) (Coded-set coded_member) (Coded-set coded_case))
