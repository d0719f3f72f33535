-- What JSON that was read into a tape means for a type (this profile's own).
use Rattle.std.specs.Prelude.{◌≡◌, ℕ, ℤ, ◌≤◌, max, ◌||◌, not, Bool, true, false, List, [], ◌∷◌, ◌++◌, map, Option, Some, Ok, IfSome, option_and_then}
use Rattle.json.specs.Token.{Token}
use Rattle.json.specs.Json as json
use Rattle.json.specs.Json.{Json}
use Rattle.json.specs.Find.{BeginsWith, InItems, InMembers, as_number}
use Rattle.json.specs.Tree.{depth, items_depth, members_depth}
use Rattle.serde_json.specs.Data as rows
use Rattle.serde_json.specs.Data.{Data}
use Rattle.serde_json.specs.Find.{as_integer}
use Rattle.serde_json.specs.Read.{number_of, of_json, of_items, of_members}
use Rattle.xt_shapes.specs.Vals.{Val, int, Slot as Body, absent, present}
use Rattle.type_trees.specs.Trees.{Members, no_members, member}
use Rattle.json_values.specs.Names.{member_names}
use Rattle.json_values.specs.Steps.{Reading}
use Rattle.json_values.specs.Read.{items_of, has_other, slots_in}
use Rattle.packed_reader.specs.declared.values.OwnNumbers.{OwnNumbers}
use Rattle.packed_reader.specs.declared.values.Packed.{Packed}
use Rattle.packed_reader.specs.declared.values.PackedSlot.{PackedSlot}
use Rattle.packed_reader.specs.View.{packed_val, packed_slot, own_numbers}

-- the JSON is data of which f reads v, and nests at most n deep
pub record Means (f : Data → Reading Val) (n : ℕ) (j : Json) (v : Val) : Type 0 where
  pub found : Data
  pub of : of_json j ≡ Some found
  pub reads : f found ≡ Ok v
  pub within : depth j ≤ n

-- the same of each item
pub record AllMean (f : Data → Reading Val) (n : ℕ) (js : json.Items) (vs : List Val) : Type 0 where
  pub found : rows.Items
  pub of : of_items js ≡ Some found
  pub reads : items_of f found ≡ Ok vs
  pub within : items_depth js ≤ n

-- the members' keys are names of `ms`, and they mean these slots
pub record MembersMean (ms : Members) (n : ℕ) (js : json.Members) (bs : List Body) : Type 0 where
  pub found : rows.Members
  pub of : of_members js rows.no_members ≡ Some found
  pub known : has_other (member_names ms) found ≡ false
  pub reads : slots_in ms found ≡ Ok bs
  pub within : members_depth js ≤ n

-- a value that is read of the JSON from there on is one that it means
abbrev pub Reads : (Data → Reading Val) → ℕ → List Token → Option Packed → Type 0
Reads f n ts r = (j : Json) → BeginsWith ts j → IfSome r (λ value. Means f n j (packed_val value))

-- the same of a number
abbrev pub ReadsNumber : (Data → Reading Val) → List Token → Option ℤ → Type 0
ReadsNumber f ts r = (j : Json) → BeginsWith ts j → IfSome r (λ number. Means f 0 j (int number))

abbrev pub ListMeans : (Data → Reading Val) → ℕ → Json → List Val → Type 0
ListMeans f n j vs = (js : json.Items) × (j ≡ json.array js) × AllMean f n js vs

abbrev pub ReadsItems : (Data → Reading Val) → ℕ → List Token → Option (List Packed) → Type 0
ReadsItems f n ts r = (j : Json) → BeginsWith ts j → IfSome r (λ values. ListMeans f n j (map packed_val values))

abbrev pub ReadsRun : (Data → Reading Val) → List Token → Option OwnNumbers → Type 0
ReadsRun f ts r = (j : Json) → BeginsWith ts j → IfSome r (λ own. ListMeans f 0 j (own_numbers own))

abbrev pub ReadsMembers : Members → ℕ → List Token → Option (List PackedSlot) → Type 0
ReadsMembers ms n ts r = (j : Json) → BeginsWith ts j → IfSome r (λ slots. (js : json.Members) × (j ≡ json.object js) × MembersMean ms n js (map packed_slot slots))

-- the whole number of 64 bits that JSON is
abbrev pub whole_in : Json → Option ℤ
whole_in j = option_and_then as_integer (option_and_then number_of (as_number j))

-- a slot that has to be filled isn't
abbrev pub is_open : Bool → Body → Bool
is_open optional absent = not optional
is_open optional (present v) = false

abbrev pub has_open : Members → List Body → Bool
has_open no_members bs = false
has_open (member head t ms) [] = true
has_open (member head t ms) (b ∷ bs) = is_open head.optional b || has_open ms bs

-- ---- part of the way

-- whatever the items that are left mean, the items mean these values before it
abbrev pub AllMeanAfter : (Data → Reading Val) → ℕ → json.Items → json.Items → List Val → Type 0
AllMeanAfter f n js left done = (vs : List Val) → AllMean f n left vs → AllMean f n js (done ++ vs)

-- the items so far, of those from there on
abbrev pub ItemsSoFar : (Data → Reading Val) → ℕ → List Token → List Token → List Val → Type 0
ItemsSoFar f n whole rest done = (j : Json) → BeginsWith whole j → (js : json.Items) × (left : json.Items) × (j ≡ json.array js) × InItems rest left × AllMeanAfter f n js left done

-- the members before those that are left mean these slots
pub record MembersPassed (ms : Members) (n : ℕ) (js left : json.Members) (bs : List Body) : Type 0 where
  pub found : rows.Members
  pub of : of_members js rows.no_members ≡ of_members left found
  pub known : has_other (member_names ms) found ≡ false
  pub reads : slots_in ms found ≡ Ok bs
  pub within : members_depth js ≤ max n (members_depth left)

abbrev pub MembersSoFar : Members → ℕ → List Token → List Token → List PackedSlot → Type 0
MembersSoFar ms n whole rest slots = (j : Json) → BeginsWith whole j → (js : json.Members) × (left : json.Members) × (j ≡ json.object js) × InMembers rest left × MembersPassed ms n js left (map packed_slot slots)
