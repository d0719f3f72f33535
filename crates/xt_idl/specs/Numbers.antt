-- The numbers of members, which are the hashes of their names and their ids (DDS-XTypes 1.3, 7.2.2.4.4 and 7.3.4), as sets hold them (this
-- profile's own).
use Rattle.std.specs.Prelude.{◌≡◌, ℕ, Bool, true, not, ◌&&◌, ◌||◌, nat_eq, nat_lt, nat_le, List, [], ◌∷◌, map, length, slice_get, Some}
use Rattle.std.specs.BTreeSet.{contains}
use Rattle.std.specs.Ordering.{nat_cmp}
use Rattle.xt_shapes.specs.Lists.{has, all}
use Rattle.xt_shapes.specs.NodeRules.{is_low, is_discard}
use Rattle.node_rules.specs.Names.{name_fits, scope_fits}
use Rattle.type_trees.specs.Bridge.{name_number}
use Rattle.type_trees.specs.Trees.{MemberHead, Tree, structure}
use Rattle.idl_printer.specs.Parts.{members_behind}
use Rattle.idl_printer.specs.Lines.{last_base, count_of}
use Rattle.idl_tokens.specs.Classes.{Text}
use Rattle.idl_types.specs.State.{Declared}
use Rattle.idl_types.specs.Uses.{tree_at}
use Rattle.idl_types.specs.declared.declarations.UsedMember.{UsedMember}
use Rattle.idl_types.specs.declared.declarations.StructDefinition.{StructDefinition}
use Rattle.idl_types.specs.declared.declarations.Definition.{Definition}
use Rattle.idl_types.specs.declared.declarations.Definition.TheVariants as definition_of
use Rattle.idl_types.specs.Definitions.{ListedMembers, listed, members_before, bases_before}
pub use Rattle.xt_idl.specs.declared.numbers.MemberNumbers.{MemberNumbers}
use Rattle.xt_idl.specs.declared.numbers.NumberSets.{NumberSets}

-- ---- numbers

abbrev pub numbers_of : MemberHead → MemberNumbers
numbers_of m = record { hash = name_number m.name; id = m.id }

abbrev pub numbers_in : ListedMembers → List MemberNumbers
numbers_in = map (λ m. numbers_of m.0)

-- those of a member as its definition has it
abbrev pub own_numbers : UsedMember → MemberNumbers
own_numbers m = record { hash = name_number m.name; id = m.id }

-- the members that a structure doesn't have from its base
abbrev pub own_in : Tree → ListedMembers
own_in (structure head ms) = listed (members_behind (count_of (last_base head.bases)) ms)
own_in _ = []

abbrev pub numbers_own : Tree → List MemberNumbers
numbers_own t = numbers_in (own_in t)

-- the same by the definition
abbrev pub defined_own : Definition → List MemberNumbers
defined_own (definition_of.Struct s) = map own_numbers s.members
defined_own _ = []

-- ---- V2 and V3 speak of these

-- none has this hash or this id
abbrev pub lacks : MemberNumbers → List MemberNumbers → Bool
lacks n ns = not (has (λ x. nat_eq n.hash x.hash) ns) && not (has (λ x. nat_eq n.id x.id) ns)

-- no two have the same hash or the same id
abbrev pub apart : List MemberNumbers → Bool
apart [] = true
apart (n ∷ ns) = lacks n ns && apart ns

-- nor one that stands before them
abbrev pub apart_behind : List MemberNumbers → List MemberNumbers → Bool
apart_behind before ns = apart ns && all (λ n. lacks n before) ns

abbrev pub are_apart : Declared → Definition → Bool
are_apart ts (definition_of.Struct s) = apart_behind (numbers_in (members_before ts s.base)) (map own_numbers s.members)
are_apart ts _ = true

-- ---- sets

abbrev pub Holds : List MemberNumbers → NumberSets → Type 0
Holds ns sets =
    ((n : ℕ) → contains nat_cmp sets.hashes n ≡ has (λ x. nat_eq n x.hash) ns)
    × ((n : ℕ) → contains nat_cmp sets.ids n ≡ has (λ x. nat_eq n x.id) ns)

-- for each type the numbers of its own members
abbrev pub HoldAll : Declared → List NumberSets → Type 0
HoldAll ts sets = (length sets ≡ length ts) × ((at : ℕ) (s : NumberSets) → slice_get sets at ≡ Some s → Holds (numbers_own (tree_at ts at)) s)

-- ---- what the rules at a structure's node ask of one member: V1, V3 and V13

abbrev pub member_fits : UsedMember → Bool
member_fits m = name_fits m.name && (is_low m.id && (not m.key || is_discard m.tc))

-- a structure keeps the rules at its node, but that its keys may have their types, where its base keeps them
unfoldable pub structure_keeps : Declared → Text → StructDefinition → Bool
structure_keeps ts name s =
    are_apart ts (definition_of.Struct s) && (scope_fits (Some name) && (nat_lt 0 (length s.members) && (nat_le (length (bases_before ts s.base)) 15 && all member_fits s.members)))
