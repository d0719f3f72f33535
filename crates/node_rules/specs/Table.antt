-- The rules at a node of a type, by number, and the first that fails there (DDS-XTypes 1.3, 7.2.2; numbers and order are this profile's own).
-- The rules V15 and V16 are tried for the whole type, and V17 speaks of what a text or an object names as a base.
use Rattle.std.specs.Prelude.{ℕ, Bool, true, ◌&&◌, cond, map, List, [], ◌∷◌, length, Option, Some, None}
use Rattle.xt_shapes.specs.declared.leaves.Ext.{Ext}
use Rattle.type_trees.specs.declared.types.Name.{Name}
use Rattle.type_trees.specs.declared.types.Literal.{Literal}
use Rattle.type_trees.specs.declared.types.Flag.{Flag}
use Rattle.type_trees.specs.declared.types.StructType.{StructType, out-StructType}
use Rattle.type_trees.specs.declared.types.UnionType.{UnionType, out-UnionType}
use Rattle.type_trees.specs.Trees.{StructHead, UnionHead, Tree, prim, str, enumeration, bitmask, sequence, array, map_of, structure, union, alias, Members, no_members, member, Cases, no_cases, one_case}
use Rattle.type_trees.specs.Bridge.{literal_shape, flag_shape, shape, member_shapes, case_shapes}
use Rattle.xt_shapes.specs.Lists.{all}
use Rattle.xt_shapes.specs.Shape.{Shape, heads, case_heads}
use Rattle.xt_shapes.specs.Keyable.{counted_keyable}
use Rattle.node_rules.specs.Names.{name_fits, scope_fits}
use Rattle.xt_shapes.specs.NodeRules.{not_empty, not_mutable, hashes_apart, ids_fit, enum_fits, mask_fits, dims_fit, is_map_key, is_discriminator, labels_fit, keys_discard, is_light}
use Rattle.node_rules.specs.Rules.{bases_fit}

abbrev pub member_names : Members → List Name
member_names no_members = []
member_names (member head t ms) = head.name ∷ member_names ms

abbrev pub case_names : Cases → List Name
case_names no_cases = []
case_names (one_case head t cs) = head.name ∷ case_names cs

-- the heads of the program's structures and unions
abbrev pub struct_head : StructType → StructHead
struct_head t = let s = out-StructType t in record { name = s.name; ext = s.ext; nested = s.nested; hashed_ids = s.hashed_ids; bases = s.bases }

abbrev pub union_head : UnionType → UnionHead
union_head t = let u = out-UnionType t in record { name = u.name; ext = u.ext; nested = u.nested; hashed_ids = u.hashed_ids; disc_key = u.disc_key }

-- ---- V1: each full name has 1 to 255 octets and is an identifier; the name of a type or base is identifiers joined by `::`

abbrev pub enum_names : Option (List ℕ) → List Literal → Bool
enum_names name literals = scope_fits name && all (λ l. name_fits l.name) literals

abbrev pub mask_names : Option (List ℕ) → List Flag → Bool
mask_names name flags = scope_fits name && all (λ f. name_fits f.name) flags

abbrev pub struct_names : StructHead → Members → Bool
struct_names head ms = scope_fits head.name && all (λ b. scope_fits b.name) head.bases && all name_fits (member_names ms)

abbrev pub union_names : UnionHead → Cases → Bool
union_names head cs = scope_fits head.name && all name_fits (case_names cs)

-- ---- The rules that speak of a type's own node, by number, and whether each holds. V4: there is a member, case, literal or flag.

abbrev pub enum_rules : Option (List ℕ) → Ext → ℕ → List Literal → List (ℕ × Bool)
enum_rules name ext bits literals =
    let ls = map literal_shape literals in
    (1, enum_names name literals) ∷ (2, hashes_apart (map (λ l. l.hash) ls)) ∷ (4, not_empty ls) ∷ (5, enum_fits ext bits ls) ∷ []

abbrev pub mask_rules : Option (List ℕ) → ℕ → List Flag → List (ℕ × Bool)
mask_rules name bits flags =
    let fs = map flag_shape flags in
    (1, mask_names name flags) ∷ (2, hashes_apart (map (λ f. f.hash) fs)) ∷ (4, not_empty fs) ∷ (6, mask_fits bits fs) ∷ []

abbrev pub array_rules : List ℕ → Shape → List (ℕ × Bool)
array_rules dims element = (7, dims_fit dims) ∷ (14, is_light element) ∷ []

abbrev pub map_rules : Shape → Shape → List (ℕ × Bool)
map_rules key value = (8, is_map_key key) ∷ (14, is_light key && is_light value) ∷ []

abbrev pub struct_rules : StructHead → Members → List (ℕ × Bool)
struct_rules head ms =
    let hs = heads (member_shapes ms) in
    (1, struct_names head ms)
    ∷ (2, hashes_apart (map (λ h. h.hash) hs))
    ∷ (3, ids_fit (map (λ h. h.id) hs))
    ∷ (4, not_empty hs)
    ∷ (12, counted_keyable true (member_shapes ms))
    ∷ (13, keys_discard hs)
    ∷ (18, bases_fit head.bases (length hs))
    ∷ []

abbrev pub union_rules : UnionHead → Shape → Cases → List (ℕ × Bool)
union_rules head disc cs =
    let hs = case_heads (case_shapes cs) in
    (1, union_names head cs)
    ∷ (2, hashes_apart (map (λ h. h.hash) hs))
    ∷ (3, ids_fit (map (λ h. h.id) hs))
    ∷ (4, not_empty hs)
    ∷ (9, not_mutable head.ext)
    ∷ (10, is_discriminator disc)
    ∷ (11, labels_fit disc hs)
    ∷ []

abbrev pub rules_at : Tree → List (ℕ × Bool)
rules_at (prim p) = []
rules_at (str bound) = []
rules_at (enumeration name ext bits literals) = enum_rules name ext bits literals
rules_at (bitmask name bits flags) = mask_rules name bits flags
rules_at (sequence bound tc t) = (14, is_light (shape t)) ∷ []
rules_at (array dims tc t) = array_rules dims (shape t)
rules_at (map_of bound kc k vc v) = map_rules (shape k) (shape v)
rules_at (structure head ms) = struct_rules head ms
rules_at (union head disc cs) = union_rules head (shape disc) cs
rules_at (alias name t) = (1, scope_fits name) ∷ []

abbrev pub first_broken : List (ℕ × Bool) → Option ℕ
first_broken [] = None
first_broken (r ∷ rs) = cond r.1 (first_broken rs) (Some r.0)

-- the first rule that fails at the node itself
unfoldable pub failing : Tree → Option ℕ
failing t = first_broken (rules_at t)
