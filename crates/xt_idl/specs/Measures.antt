-- What is kept of a declared type, so that no use of it looks into it again: how deep it is, how many nodes it has and what it weighs, each
-- up to one more than a valid type may have, and which keys may have it (this profile's own).
use Rattle.std.specs.Prelude.{ℕ, ◌+◌, min, max, Bool, true, false, not, ◌&&◌, ◌||◌, cond, nat_le, List, map}
use Rattle.xt_shapes.specs.Lists.{all}
use Rattle.xt_shapes.specs.Keyable.{any_key, is_leaf, counted_keyable, keyable}
use Rattle.xt_shapes.specs.NodeRules.{is_map_key, is_light}
use Rattle.xt_shapes.specs.Weight.{weight, weights, greatest}
use Rattle.type_trees.specs.Trees.{Tree, structure, Members, no_members, Cases}
use Rattle.type_trees.specs.Bridge.{shape, member_shapes, case_shapes}
use Rattle.type_trees.specs.sizes.TypeNodes.{nodes, member_nodes, case_nodes}
use Rattle.type_rules.specs.Places.{depth, members_depth, cases_depth}
use Rattle.type_rules.specs.Valid.{first_fault}
use Rattle.idl_types.specs.State.{Declared}
use Rattle.idl_types.specs.declared.uses.Used.{Used}
use Rattle.idl_types.specs.declared.declarations.Definition.{Definition}
use Rattle.idl_types.specs.declared.declarations.Definition.TheVariants as definition_of
use Rattle.idl_types.specs.Uses.{whole}
use Rattle.idl_types.specs.Kept.{is_clear}
use Rattle.xt_idl.specs.declared.measures.Measure.{Measure}
use Rattle.xt_idl.specs.declared.measures.MembersMeasure.{MembersMeasure}
use Rattle.xt_idl.specs.declared.measures.CasesMeasure.{CasesMeasure}

abbrev pub deep : ℕ → ℕ
deep n = min 17 n

abbrev pub large : ℕ → ℕ
large n = min 65537 n

abbrev pub of_members : Members → MembersMeasure
of_members ms = record {
  depth = deep (members_depth ms);
  nodes = large (member_nodes ms);
  weight = large (weights (member_shapes ms));
  has_key = any_key (member_shapes ms);
  all_keyable = counted_keyable false (member_shapes ms);
  keys_keyable = counted_keyable true (member_shapes ms);
}

abbrev pub of_cases : Cases → CasesMeasure
of_cases cs = record { depth = deep (cases_depth cs); nodes = large (case_nodes cs); greatest = large (greatest (case_shapes cs)) }

-- the members of a structure
abbrev pub members_in : Tree → Members
members_in (structure head ms) = ms
members_in _ = no_members

abbrev pub measured : Tree → Measure
measured t = record {
  depth = deep (depth t);
  nodes = large (nodes t);
  weight = large (weight (shape t));
  is_leaf = is_leaf (shape t);
  is_keyable = keyable (shape t);
  is_map_key = is_map_key (shape t);
  members = of_members (members_in t);
}

abbrev pub all_measured : Declared → List Measure
all_measured = map (λ d. measured d.1)

-- ---- step by step

-- one member more, which is a key or optional
abbrev pub with_member : Bool → Bool → Measure → MembersMeasure → MembersMeasure
with_member key optional m s = record {
  depth = max s.depth m.depth;
  nodes = large (s.nodes + m.nodes);
  weight = large (s.weight + m.weight);
  has_key = s.has_key || key;
  all_keyable = s.all_keyable && (not optional && m.is_keyable);
  keys_keyable = s.keys_keyable && (not key || (not optional && m.is_keyable));
}

abbrev pub with_case : Measure → CasesMeasure → CasesMeasure
with_case m s = record { depth = max s.depth m.depth; nodes = large (s.nodes + m.nodes); greatest = max s.greatest m.weight }

abbrev pub of_structure : MembersMeasure → Measure
of_structure s = record {
  depth = deep (1 + s.depth);
  nodes = large (1 + s.nodes);
  weight = large (1 + s.weight);
  is_leaf = false;
  is_keyable = cond s.has_key s.keys_keyable s.all_keyable;
  is_map_key = false;
  members = s;
}

abbrev pub nothing : MembersMeasure
nothing = of_members no_members

abbrev pub of_union : Measure → CasesMeasure → Measure
of_union disc s = record {
  depth = deep (1 + max disc.depth s.depth);
  nodes = large (1 + disc.nodes + s.nodes);
  weight = large (2 + s.greatest);
  is_leaf = false;
  is_keyable = false;
  is_map_key = false;
  members = nothing;
}

abbrev pub of_alias : Measure → Measure
of_alias m = record {
  depth = deep (1 + m.depth);
  nodes = large (1 + m.nodes);
  weight = m.weight;
  is_leaf = m.is_leaf;
  is_keyable = m.is_keyable;
  is_map_key = m.is_map_key;
  members = nothing;
}

-- a collection of so many nodes
abbrev pub of_collection : ℕ → ℕ → ℕ → Bool → Measure
of_collection depth nodes weight is_keyable = record { depth = deep (1 + depth); nodes = large (1 + nodes); weight = weight; is_leaf = false; is_keyable = is_keyable; is_map_key = false; members = nothing }

-- ---- limits

-- as deep, large and heavy as a valid type may be, and its keys may have their types
abbrev pub is_within : Measure → Bool
is_within m = (nat_le m.depth 16 && (nat_le m.nodes 65536 && nat_le m.weight 65536)) && m.members.keys_keyable

-- no rule is broken in a type where it is used
unfoldable pub use_keeps : Declared → Used → Bool
use_keeps ts used = is_clear (first_fault (whole ts used))

-- an element, key or value of a collection may weigh so much
unfoldable pub use_light : Declared → Used → Bool
use_light ts used = is_light (shape (whole ts used))

-- a map may have this key and this value
unfoldable pub map_keeps : Declared → Used → Used → Bool
map_keeps ts key value = is_map_key (shape (whole ts key)) && (use_light ts key && use_light ts value)

-- no rule is broken in what a definition uses
unfoldable pub parts_keep : Declared → Definition → Bool
parts_keep ts (definition_of.Enum e) = true
parts_keep ts (definition_of.Mask m) = true
parts_keep ts (definition_of.Struct s) = all (λ m. use_keeps ts m.used) s.members
parts_keep ts (definition_of.Union u) = use_keeps ts u.disc && all (λ c. use_keeps ts c.used) u.cases
parts_keep ts (definition_of.Alias used) = use_keeps ts used
