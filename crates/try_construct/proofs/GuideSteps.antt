-- Guides that know nothing, guides of parts, and guides that are built of parts.
use Rattle.std.proofs.Common.{◌≡◌, refl, sym, ap, ℕ, zero, suc, ◌+◌, ◌<◌, Bool, List, [], ◌∷◌, length, get_or, arith, subst}
use Rattle.xt_shapes.specs.declared.leaves.Ext.{Ext}
use Rattle.xt_shapes.specs.Shape.{Shape, prim, str, enumeration, bitmask, sequence, array, map_of, structure, union, Members, no_members, member, Cases, no_cases, one_case}
use Rattle.type_trees.specs.declared.types.Member.{Member}
use Rattle.type_trees.specs.declared.types.Case.{Case}
use Rattle.type_trees.specs.Bridge.{type_shape, members_shape, cases_shape}
use Rattle.type_trees.proofs.Views.{member_tree_is, case_tree_is}
use Rattle.try_construct.specs.declared.guides.Guide.{Guide, Guide-F, roll-Guide, out-roll-Guide}
use Rattle.try_construct.specs.declared.guides.Known.{Known}
use Rattle.try_construct.specs.Guides.{IsNothing, IsGuide, AreGuides, AreCaseGuides, HasGuides, HasUnionGuides, knows_cases, part_at}

nothing_at : (g : Guide) (i : ℕ) → IsNothing g → part_at g i ≡ g
nothing_at g i n = rw n.parts refl

-- a guide that knows nothing is one of any type
mutual
  pub nothing_guides : (t : Shape) (g : Guide) → IsNothing g → IsGuide t g
  nothing_guides (prim p) g n = tt
  nothing_guides (str bound) g n = tt
  nothing_guides (enumeration ext bits ls) g n = rw n.known tt
  nothing_guides (bitmask bits flags) g n = tt
  nothing_guides (sequence bound tc t) g n = rw (nothing_at g 0 n) (nothing_guides t g n)
  nothing_guides (array dims tc t) g n = rw (nothing_at g 0 n) (nothing_guides t g n)
  nothing_guides (map_of bound kc k vc v) g n = (rw (nothing_at g 0 n) (nothing_guides k g n), rw (nothing_at g 1 n) (nothing_guides v g n))
  nothing_guides (structure ext ms) g n = nothing_members ms g 0 n
  nothing_guides (union ext disc_key disc cs) g n = (rw n.known tt, (rw (nothing_at g 0 n) (nothing_guides disc g n), nothing_cases cs g 1 n))

  pub nothing_members : (ms : Members) (g : Guide) (i : ℕ) → IsNothing g → AreGuides ms g i
  nothing_members no_members g i n = tt
  nothing_members (member h t ms) g i n = (rw (nothing_at g i n) (nothing_guides t g n), nothing_members ms g (suc i) n)

  pub nothing_cases : (cs : Cases) (g : Guide) (i : ℕ) → IsNothing g → AreCaseGuides cs g i
  nothing_cases no_cases g i n = tt
  nothing_cases (one_case h t cs) g i n = (rw (nothing_at g i n) (nothing_guides t g n), nothing_cases cs g (suc i) n)

placed : (t : Shape) (g : Guide) (a b : ℕ) → a ≡ b → IsGuide t (part_at g a) → IsGuide t (part_at g b)
placed t g a b e is = subst (λ (n : ℕ). IsGuide t (part_at g n)) e is

-- the guide of a structure's member
pub guide_of_member : (ms : List Member) (g : Guide) (k i : ℕ) (d : Member) → i < length ms → AreGuides (members_shape ms) g k → IsGuide (type_shape (get_or ms i d).ty) (part_at g (k + i))
guide_of_member [] g k i d lt are = absurd (omega arith)
guide_of_member (m ∷ ms) g k zero d lt are = let both = rw (member_tree_is m) at are in placed (type_shape m.ty) g k (k + 0) (omega arith) both.0
guide_of_member (m ∷ ms) g k (suc i) d lt are = let both = rw (member_tree_is m) at are in placed (type_shape (get_or ms i d).ty) g (suc k + i) (k + suc i) (omega arith) (guide_of_member ms g (suc k) i d (omega arith) both.1)

-- the guide of a union's case
pub guide_of_case : (cs : List Case) (g : Guide) (k i : ℕ) (d : Case) → i < length cs → AreCaseGuides (cases_shape cs) g k → IsGuide (type_shape (get_or cs i d).ty) (part_at g (k + i))
guide_of_case [] g k i d lt are = absurd (omega arith)
guide_of_case (c ∷ cs) g k zero d lt are = let both = rw (case_tree_is c) at are in placed (type_shape c.ty) g k (k + 0) (omega arith) both.0
guide_of_case (c ∷ cs) g k (suc i) d lt are = let both = rw (case_tree_is c) at are in placed (type_shape (get_or cs i d).ty) g (suc k + i) (k + suc i) (omega arith) (guide_of_case cs g (suc k) i d (omega arith) both.1)

-- guides that are those of each member are those of the members
members_guided : (ms : List Member) (g : Guide) (k : ℕ) → ((i : ℕ) (d : Member) → i < length ms → IsGuide (type_shape (get_or ms i d).ty) (part_at g (k + i))) → AreGuides (members_shape ms) g k
members_guided [] g k each = tt
members_guided (m ∷ ms) g k each = rw (member_tree_is m) (placed (type_shape m.ty) g (k + 0) k (omega arith) (each 0 m (omega arith)), members_guided ms g (suc k) (λ i d lt. placed (type_shape (get_or ms i d).ty) g (k + suc i) (suc k + i) (omega arith) (each (suc i) d (omega (arith, lt)))))

cases_guided : (cs : List Case) (g : Guide) (k : ℕ) → ((i : ℕ) (d : Case) → i < length cs → IsGuide (type_shape (get_or cs i d).ty) (part_at g (k + i))) → AreCaseGuides (cases_shape cs) g k
cases_guided [] g k each = tt
cases_guided (c ∷ cs) g k each = rw (case_tree_is c) (placed (type_shape c.ty) g (k + 0) k (omega arith) (each 0 c (omega arith)), cases_guided cs g (suc k) (λ i d lt. placed (type_shape (get_or cs i d).ty) g (k + suc i) (suc k + i) (omega arith) (each (suc i) d (omega (arith, lt)))))

-- a guide that is built of what is known and of parts
abbrev built : Known → List Guide → Guide
built k ps = roll-Guide (record { known = k; parts = ps })

part_is : (k : Known) (ps : List Guide) (i : ℕ) → part_at (built k ps) i ≡ get_or ps i (built k ps)
part_is k ps i = ap (λ (x : Guide-F Guide). get_or x.parts i (built k ps)) (out-roll-Guide (record { known = k; parts = ps }))

built_part : (t : Shape) (k : Known) (ps : List Guide) (i : ℕ) → IsGuide t (get_or ps i (built k ps)) → IsGuide t (part_at (built k ps) i)
built_part t k ps i is = subst (λ (g : Guide). IsGuide t g) (sym (part_is k ps i)) is

pub members_built : (ms : List Member) (k : Known) (ps : List Guide) → HasGuides (λ m. type_shape m.ty) ms (length ms) 0 ps → AreGuides (members_shape ms) (built k ps) 0
members_built ms k ps has = members_guided ms (built k ps) 0 (λ i d lt. built_part (type_shape (get_or ms i d).ty) k ps (0 + i) (has.each i d (built k ps) lt))

pub union_built : (ext : Ext) (disc_key : Bool) (t : Shape) (cs : List Case) (k : Known) (ps : List Guide) → knows_cases (cases_shape cs) k → HasUnionGuides t cs ps → IsGuide (union ext disc_key t (cases_shape cs)) (built k ps)
union_built ext disc_key t cs k ps knows has = (
  subst (λ (x : Guide-F Guide). knows_cases (cases_shape cs) x.known) (sym (out-roll-Guide (record { known = k; parts = ps }))) knows,
  (
    built_part t k ps 0 (has.disc (built k ps)),
    cases_guided cs (built k ps) 1 (λ i d lt. built_part (type_shape (get_or cs i d).ty) k ps (1 + i) (has.cases.each i d (built k ps) lt)),
  ),
)
