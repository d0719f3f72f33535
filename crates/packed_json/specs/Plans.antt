-- What a plan says of a value's JSON (this profile's own).
use Rattle.std.specs.Prelude.{◌≡◌, ℕ, zero, suc, ℤ, List, [], ◌∷◌, ◌++◌, Bool, true, false, ◌&&◌, if◌then◌else◌, drop, Option, Some, None, option_and_then, slice_get, ⊤}
use Rattle.std.specs.Borrow.{Bor}
use Rattle.std.specs.BTreeMap.{BTreeMap, get}
use Rattle.std.specs.Ordering.{int_cmp}
use Rattle.json.specs.Print.{quoted}
use Rattle.serde_json.specs.Data as json
use Rattle.serde_json.specs.Data.{Data, put}
use Rattle.serde_json.specs.Written.{compact_text, members_text, comma_if}
use Rattle.xt_shapes.specs.Vals.{Val, int, listed, mapped, struct_of, union_of, Vals, no_vals, one_val, vals_of, Pairs, no_pairs, one_pair, pairs_of, Slots, no_slots, one_slot, Slot, absent, present}
use Rattle.try_construct.specs.declared.guides.CaseIndex.{CaseIndex}
use Rattle.try_construct.specs.Guides.{found_at}
use Rattle.type_trees.specs.declared.types.Case.{Case}
use Rattle.type_trees.specs.declared.types.Literal.{Literal}
use Rattle.type_trees.specs.declared.types.Member.{Member}
use Rattle.type_trees.specs.Trees.{Tree}
use Rattle.type_trees.specs.View.{tree}
use Rattle.json_values.specs.Names.{name_text}
use Rattle.json_values.specs.Order.{slot_data}
use Rattle.json_values.specs.Written.{int_data, prim_data, mask_data, octets_data, literal_data, list_data, data_of, json_text}
use Rattle.packed_json.specs.declared.plan.Plan.{Plan, fold-Plan}
use Rattle.packed_json.specs.declared.plan.Plan.TheOpen.{Plan-F, PlannedMap-F, PlannedMember-F, PlannedUnion-F}
use Rattle.packed_json.specs.declared.plan.PlannedMember.{PlannedMember, fold-PlannedMember}

-- the text of a value that fits
pub record Meaning : Type 0 where
  pub text : Val → List ℕ
  pub fits : Val → Bool

-- a member: the slot that it is, what stands before its value behind another member, and the value
pub record Part : Type 0 where
  pub at : ℕ
  pub key : List ℕ
  pub value : Meaning

-- ---- values without parts

abbrev pub leaf_meaning : (Val → Data) → Meaning
leaf_meaning f = record { text = λ v. compact_text (f v); fits = λ v. true }

-- names in quotes, by the values of the literals
abbrev pub Named : Type 0
Named = BTreeMap ℤ (List ℕ)

abbrev pub found_text : Option (List ℕ) → List ℕ
found_text None = []
found_text (Some name) = name

abbrev pub is_found : Option (List ℕ) → Bool
is_found None = false
is_found (Some name) = true

abbrev pub literal_text : Named → Val → List ℕ
literal_text names (int n) = found_text (get int_cmp names n)
literal_text names _ = []

abbrev pub is_literal : Named → Val → Bool
is_literal names (int n) = is_found (get int_cmp names n)
is_literal names _ = false

abbrev pub literal_meaning : Named → Meaning
literal_meaning names = record { text = literal_text names; fits = is_literal names }

-- ---- lists

-- values behind others or none, and the closing bracket
abbrev pub vals_text : (Val → List ℕ) → Bool → Vals → List ℕ
vals_text f later no_vals = 93 ∷ []
vals_text f later (one_val v vs) = comma_if later ++ (f v ++ vals_text f true vs)

abbrev pub vals_fit : (Val → Bool) → Vals → Bool
vals_fit f no_vals = true
vals_fit f (one_val v vs) = f v && vals_fit f vs

abbrev pub list_text : (Val → List ℕ) → Val → List ℕ
list_text f (listed vs) = 91 ∷ vals_text f false vs
list_text f _ = []

abbrev pub list_fits : (Val → Bool) → Val → Bool
list_fits f (listed vs) = vals_fit f vs
list_fits f _ = false

abbrev pub list_meaning : Meaning → Meaning
list_meaning m = record { text = list_text m.text; fits = list_fits m.fits }

-- ---- maps

-- a key and its value, in brackets
abbrev pub pair_text : List ℕ → List ℕ → List ℕ
pair_text k v = 91 ∷ (k ++ 44 ∷ (v ++ 93 ∷ []))

-- pairs behind others or none, and the closing bracket
abbrev pub pairs_text : (Val → List ℕ) → (Val → List ℕ) → Bool → Pairs → List ℕ
pairs_text f g later no_pairs = 93 ∷ []
pairs_text f g later (one_pair k v ps) = comma_if later ++ (pair_text (f k) (g v) ++ pairs_text f g true ps)

abbrev pub pairs_fit : (Val → Bool) → (Val → Bool) → Pairs → Bool
pairs_fit f g no_pairs = true
pairs_fit f g (one_pair k v ps) = (f k && g v) && pairs_fit f g ps

abbrev pub map_text : (Val → List ℕ) → (Val → List ℕ) → Val → List ℕ
map_text f g (mapped ps) = 91 ∷ pairs_text f g false ps
map_text f g _ = []

abbrev pub map_fits : (Val → Bool) → (Val → Bool) → Val → Bool
map_fits f g (mapped ps) = pairs_fit f g ps
map_fits f g _ = false

abbrev pub map_meaning : Meaning → Meaning → Meaning
map_meaning k v = record { text = map_text k.text v.text; fits = map_fits k.fits v.fits }

-- ---- structures

abbrev pub slot_at : Slots → ℕ → Slot
slot_at no_slots at = absent
slot_at (one_slot s ss) zero = s
slot_at (one_slot s ss) (suc at) = slot_at ss at

abbrev pub is_there : Slot → Bool
is_there absent = false
is_there (present v) = true

abbrev pub is_there_at : Slots → ℕ → Bool
is_there_at ss at = is_there (slot_at ss at)

abbrev pub slot_fits : (Val → Bool) → Slot → Bool
slot_fits f absent = true
slot_fits f (present v) = f v

-- what stands before a value: without its comma, where no member stands before it
abbrev pub key_behind : Bool → List ℕ → List ℕ
key_behind true key = key
key_behind false key = drop 1 key

-- a member, and what stands behind it; an absent one is left out
abbrev pub part_text : Part → Bool → Slot → (Bool → List ℕ) → List ℕ
part_text p later absent more = more later
part_text p later (present v) more = key_behind later p.key ++ (p.value.text v ++ more true)

-- the members, behind others or none, and what stands behind them
abbrev pub parts_text : List Part → Bool → Slots → (Bool → List ℕ) → List ℕ
parts_text [] later ss more = more later
parts_text (p ∷ ps) later ss more = part_text p later (slot_at ss p.at) (λ l. parts_text ps l ss more)

-- the closing brace, behind members or none
abbrev pub closing : Bool → List ℕ
closing later = 125 ∷ []

abbrev pub parts_fit : List Part → Slots → Bool
parts_fit [] ss = true
parts_fit (p ∷ ps) ss = slot_fits p.value.fits (slot_at ss p.at) && parts_fit ps ss

abbrev pub struct_text : List Part → Val → List ℕ
struct_text ps (struct_of ss) = 123 ∷ parts_text ps false ss closing
struct_text ps _ = []

abbrev pub struct_fits : List Part → Val → Bool
struct_fits ps (struct_of ss) = parts_fit ps ss
struct_fits ps _ = false

abbrev pub struct_meaning : List Part → Meaning
struct_meaning ps = record { text = struct_text ps; fits = struct_fits ps }

-- ---- unions

-- the case that a discriminator's number selects
abbrev pub found_case : CaseIndex → List Meaning → ℤ → Option Meaning
found_case index ms n = option_and_then (slice_get ms) (found_at index n)

-- what stands before a discriminator: `{"d":`
abbrev pub before_disc : List ℕ
before_disc = 123 ∷ 34 ∷ 100 ∷ 34 ∷ 58 ∷ []

-- what stands before the value of a case: `,"v":`
abbrev pub before_value : List ℕ
before_value = 44 ∷ 34 ∷ 118 ∷ 34 ∷ 58 ∷ []

-- the value of the case, if it is there, and the closing brace
abbrev pub body_text : Option Meaning → Slot → List ℕ
body_text found absent = 125 ∷ []
body_text None (present v) = 125 ∷ []
body_text (Some m) (present v) = before_value ++ (m.text v ++ 125 ∷ [])

abbrev pub body_fits : Option Meaning → Slot → Bool
body_fits found absent = true
body_fits None (present v) = false
body_fits (Some m) (present v) = m.fits v

abbrev pub union_text : Meaning → (ℤ → Option Meaning) → Val → List ℕ
union_text d find (union_of n b) = before_disc ++ (d.text (int n) ++ body_text (find n) b)
union_text d find _ = []

abbrev pub union_fits : Meaning → (ℤ → Option Meaning) → Val → Bool
union_fits d find (union_of n b) = d.fits (int n) && body_fits (find n) b
union_fits d find _ = false

abbrev pub union_meaning : Meaning → CaseIndex → List Meaning → Meaning
union_meaning d index ms = record { text = union_text d (found_case index ms); fits = union_fits d (found_case index ms) }

-- ---- plans

-- One level of a plan.
module _ (F : Type 0 → Type 0 → Type 0 → Type 0 → Type 0) where
  abbrev pub PlanLevel : Type 0
  PlanLevel = F Meaning Meaning Part Meaning

abbrev pub plan_level : PlanLevel Plan-F → Meaning
plan_level (Plan-F.Prim p) = leaf_meaning (int_data (prim_data p))
plan_level Plan-F.Text = leaf_meaning octets_data
plan_level Plan-F.Mask = leaf_meaning (int_data mask_data)
plan_level (Plan-F.Enum names) = literal_meaning names
plan_level (Plan-F.List m) = list_meaning m.value
plan_level (Plan-F.Map m) = m.value
plan_level (Plan-F.Struct ps) = struct_meaning ps
plan_level (Plan-F.Union u) = u.value

abbrev pub map_level : PlanLevel PlannedMap-F → Meaning
map_level m = map_meaning m.key m.value

abbrev pub member_level : PlanLevel PlannedMember-F → Part
member_level m = record { at = m.at; key = m.key; value = m.plan }

abbrev pub union_level : PlanLevel PlannedUnion-F → Meaning
union_level u = union_meaning u.disc u.index u.cases

abbrev pub meaning : Plan → Meaning
meaning = fold-Plan _ _ _ _ plan_level map_level member_level union_level

abbrev pub part : PlannedMember → Part
part = fold-PlannedMember _ _ _ _ plan_level map_level member_level union_level

-- ---- the plan of a type

-- what it writes of a value that fits is the value's JSON
abbrev pub IsPlanOf : Tree → Meaning → Type 0
IsPlanOf t m = (v : Val) → m.fits v ≡ true → m.text v ≡ json_text t v

-- the plan of a list of values of that type
abbrev pub IsListPlanOf : Tree → Meaning → Type 0
IsListPlanOf t m = (v : Val) → m.fits v ≡ true → m.text v ≡ compact_text (list_data (data_of t) v)

-- the value fits, and its text is appended
pub record Writes (m : Meaning) (v : Val) (old new : List ℕ) : Type 0 where
  pub fits : m.fits v ≡ true
  pub text : new ≡ old ++ m.text v

abbrev pub Entry : Type 0
Entry = Bor (List ℕ) × ℕ

-- the members of a JSON object under these keys, of the positions where there is something, whatever stands there
abbrev pub entries_by : (ℕ → Bool) → (ℕ → Data) → List Entry → json.Members
entries_by there f [] = json.no_members
entries_by there f (e ∷ es) = if there e.1 then json.member e.0.now (f e.1) (entries_by there f es) else entries_by there f es

-- a member goes in, if it is there
abbrev pub put_if : Bool → List ℕ → Data → json.Members → json.Members
put_if true name d found = put name d found
put_if false name d found = found

-- the members from a position on go in one after another, in the order of their names
abbrev pub put_from : (ℕ → Bool) → (ℕ → Data) → ℕ → List Member → json.Members → json.Members
put_from there f at [] found = found
put_from there f at (m ∷ ms) found = put_from there f (suc at) ms (put_if (there at) (name_text m.name) (f at) found)

-- these are the positions of the members, in the order of their names
abbrev pub IsOrderOf : List Member → List Entry → Type 0
IsOrderOf ms es = (there : ℕ → Bool) (f : ℕ → Data) → entries_by there f es ≡ put_from there f 0 ms json.no_members

-- what stands before a member's value, behind another member
abbrev pub key_text : List ℕ → List ℕ
key_text name = 44 ∷ (quoted name ++ 58 ∷ [])

-- the part of a member
pub record IsPlanned (ms : List Member) (e : Entry) (p : Part) : Type 0 where
  pub member : Member
  pub there : slice_get ms e.1 ≡ Some member
  pub at : p.at ≡ e.1
  pub key : p.key ≡ key_text e.0.now
  pub value : IsPlanOf (tree member.ty) p.value

-- what stands at each position of a structure's members
abbrev pub member_data : Option Member → Slot → Data
member_data None s = json.null
member_data (Some m) s = slot_data (tree m.ty) s

abbrev pub body_at : List Member → Slots → ℕ → Data
body_at ms ss at = member_data (slice_get ms at) (slot_at ss at)

-- what the parts write is the object of those entries whose members are there
abbrev pub PlansMembers : List Member → List Entry → List Part → Type 0
PlansMembers ms es ps = (ss : Slots) → parts_fit ps ss ≡ true → parts_text ps false ss closing ≡ members_text false (entries_by (is_there_at ss) (body_at ms ss) es)

-- each plan is that of the case at its place
abbrev pub PlansCases : List Case → List Meaning → Type 0
PlansCases cs [] = ⊤
PlansCases [] (m ∷ ms) = ⊥
PlansCases (c ∷ cs) (m ∷ ms) = IsPlanOf (tree c.ty) m × PlansCases cs ms

-- the texts of literals are their names in quotes
abbrev pub PlansLiterals : List Literal → Named → Type 0
PlansLiterals ls names = (n : ℤ) → is_found (get int_cmp names n) ≡ true → found_text (get int_cmp names n) ≡ compact_text (literal_data ls n)

-- the items of a list, with the closing bracket
pub record WritesItems (m : Meaning) (vs : List Val) (old new : List ℕ) : Type 0 where
  pub fit : vals_fit m.fits (vals_of vs) ≡ true
  pub text : new ≡ old ++ vals_text m.text false (vals_of vs)

-- a key and its value, in brackets
pub record WritesPair (k v : Meaning) (p : Val × Val) (old new : List ℕ) : Type 0 where
  pub key : k.fits p.0 ≡ true
  pub value : v.fits p.1 ≡ true
  pub text : new ≡ old ++ pair_text (k.text p.0) (v.text p.1)

-- the pairs of a map, with the closing bracket
pub record WritesPairs (k v : Meaning) (ps : List (Val × Val)) (old new : List ℕ) : Type 0 where
  pub fit : pairs_fit k.fits v.fits (pairs_of ps) ≡ true
  pub text : new ≡ old ++ pairs_text k.text v.text false (pairs_of ps)

-- the value of the case, if it is there, and the closing brace
pub record WritesBody (found : Option Meaning) (b : Slot) (old new : List ℕ) : Type 0 where
  pub fits : body_fits found b ≡ true
  pub text : new ≡ old ++ body_text found b

-- a member's value and what stands before it, behind others or none; or nothing, where it is absent
pub record WritesPart (p : Part) (later : Bool) (ss : Slots) (old new : List ℕ) (now : Bool) : Type 0 where
  pub fits : slot_fits p.value.fits (slot_at ss p.at) ≡ true
  pub text : (more : Bool → List ℕ) → new ++ more now ≡ old ++ part_text p later (slot_at ss p.at) more

-- the members of a structure, with the closing brace
pub record WritesParts (ps : List Part) (ss : Slots) (old new : List ℕ) : Type 0 where
  pub fit : parts_fit ps ss ≡ true
  pub text : new ≡ old ++ parts_text ps false ss closing
