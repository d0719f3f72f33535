-- A walk that writes raw bits writes `bits`.
use Rattle.std.proofs.Common.{◌≡◌, ℕ, List, Bool, true, false, Option, Some, None, ap, ◌∙◌, if◌then◌else◌}
use Rattle.std.specs.Prelude.{bytes_eq, ◌==◌}
use Rattle.std.specs.Bool.{MatchBool}
use Rattle.json.specs.Json as json
use Rattle.json.specs.Json.{Json}
use Rattle.xt_shapes.specs.declared.leaves.Primitive.{Primitive}
use Rattle.type_trees.specs.Trees.{Tree, prim, str, enumeration, bitmask, sequence, array, map_of, structure, union, alias, Members, no_members, member, Cases, no_cases, one_case}
use Rattle.json_values.specs.Names.{name_text}
use Rattle.json_values.specs.Written.{value_key}
use Rattle.dynamic_data.specs.numbers.Floats.{leaf_bits}
use Rattle.dynamic_data.specs.numbers.Walks.{Turn, ItemsTurn, ArrayTurns, PairTurns, MembersTurn, ObjectTurns, BodyTurns, Turns, MemberTurns, SelectedTurns, CaseTurns, case_in}
use Rattle.dynamic_data.specs.numbers.Bits.{each_item, in_array, in_pair, each_member, in_object, in_body, bits, member_bits, selected_bits, case_bits}

abbrev pub Gives : Turn → (Json → Json) → Type 0
Gives T f = (j k : Json) → T j k → k ≡ f j

items_give : (T : Turn) (f : Json → Json) → Gives T f → (js ks : json.Items) → ItemsTurn T js ks → ks ≡ each_item f js
items_give T f one json.no_items ks h = h
items_give T f one (json.item j js) ks h = h.2 ∙ ap (λ x. json.item x h.1) (one j h.0 h.3) ∙ ap (json.item (f j)) (items_give T f one js h.1 h.4)

array_gives : (T : Turn) (f : Json → Json) → Gives T f → Gives (ArrayTurns T) (in_array f)
array_gives T f one (json.array js) k h = h.1 ∙ ap json.array (items_give T f one js h.0 h.2)
array_gives T f one json.null k h = h
array_gives T f one (json.boolean b) k h = h
array_gives T f one (json.number s) k h = h
array_gives T f one (json.string s) k h = h
array_gives T f one (json.object ms) k h = h

pair_gives : (T S : Turn) (f g : Json → Json) → Gives T f → Gives S g → Gives (PairTurns T S) (in_pair f g)
pair_gives T S f g one two (json.array (json.item a (json.item b json.no_items))) k h =
    h.2 ∙ ap (λ x. json.array (json.item x (json.item h.1 json.no_items))) (one a h.0 h.3) ∙ ap (λ x. json.array (json.item (f a) (json.item x json.no_items))) (two b h.1 h.4)
pair_gives T S f g one two (json.array json.no_items) k h = h
pair_gives T S f g one two (json.array (json.item a json.no_items)) k h = h
pair_gives T S f g one two (json.array (json.item a (json.item b (json.item c js)))) k h = h
pair_gives T S f g one two json.null k h = h
pair_gives T S f g one two (json.boolean b) k h = h
pair_gives T S f g one two (json.number s) k h = h
pair_gives T S f g one two (json.string s) k h = h
pair_gives T S f g one two (json.object ms) k h = h

members_give : (T : List ℕ → Turn) (f : List ℕ → Json → Json) → ((key : List ℕ) → Gives (T key) (f key)) → (ms ns : json.Members) → MembersTurn T ms ns → ns ≡ each_member f ms
members_give T f one json.no_members ns h = h
members_give T f one (json.member key j ms) ns h =
    h.2 ∙ ap (λ x. json.member key x h.1) (one key j h.0 h.3) ∙ ap (json.member key (f key j)) (members_give T f one ms h.1 h.4)

object_gives : (T : List ℕ → Turn) (f : List ℕ → Json → Json) → ((key : List ℕ) → Gives (T key) (f key)) → Gives (ObjectTurns T) (in_object f)
object_gives T f one (json.object ms) k h = h.1 ∙ ap json.object (members_give T f one ms h.0 h.2)
object_gives T f one json.null k h = h
object_gives T f one (json.boolean b) k h = h
object_gives T f one (json.number s) k h = h
object_gives T f one (json.string s) k h = h
object_gives T f one (json.array js) k h = h

either : (b : Bool) (P Q : Type 0) (k x y : Json) → (P → k ≡ x) → (Q → k ≡ y) → MatchBool b P Q → k ≡ (if b then x else y)
either true P Q k x y p q h = p h
either false P Q k x y p q h = q h

body_gives : (T : Turn) (f : Json → Json) → Gives T f → (key : List ℕ) → Gives (BodyTurns T key) (in_body f key)
body_gives T f one key j k h = either (bytes_eq key value_key) (T j k) (k ≡ j) k (f j) j (one j k) (λ same. same) h

selected_gives : (T : ℕ → Turn) (f : ℕ → Json → Json) → ((id : ℕ) → Gives (T id) (f id)) → (id : Option ℕ) → Gives (SelectedTurns T id) (selected_bits f id)
selected_gives T f one None j k h = h
selected_gives T f one (Some id) j k h = one id j k h

module _ (x : Json) (L : Primitive → Turn) (leaf : (p : Primitive) → Gives (L p) (leaf_bits x p)) where
  mutual
    pub turns_give : (t : Tree) → Gives (Turns L t) (bits x t)
    turns_give (prim p) j k h = leaf p j k h
    turns_give (str bound) j k h = h
    turns_give (enumeration name ext size literals) j k h = h
    turns_give (bitmask name size flags) j k h = h
    turns_give (sequence bound tc t) j k h = array_gives (Turns L t) (bits x t) (turns_give t) j k h
    turns_give (array dims tc t) j k h = array_gives (Turns L t) (bits x t) (turns_give t) j k h
    turns_give (map_of bound kc key vc value) j k h =
        array_gives (PairTurns (Turns L key) (Turns L value)) (in_pair (bits x key) (bits x value)) (pair_gives (Turns L key) (Turns L value) (bits x key) (bits x value) (turns_give key) (turns_give value)) j k h
    turns_give (structure head ms) j k h = object_gives (MemberTurns L ms) (member_bits x ms) (members_gives ms) j k h
    turns_give (union head disc cs) j k h =
        let id = case_in disc cs j in
        object_gives (BodyTurns (SelectedTurns (CaseTurns L cs) id)) (in_body (selected_bits (case_bits x cs) id))
        (body_gives (SelectedTurns (CaseTurns L cs) id) (selected_bits (case_bits x cs) id) (selected_gives (CaseTurns L cs) (case_bits x cs) (cases_give cs) id)) j k h
    turns_give (alias name t) j k h = turns_give t j k h

    members_gives : (ms : Members) (key : List ℕ) → Gives (MemberTurns L ms key) (member_bits x ms key)
    members_gives no_members key j k h = h
    members_gives (member head t ms) key j k h =
        either (bytes_eq (name_text head.name) key) (Turns L t j k) (MemberTurns L ms key j k) k (bits x t j) (member_bits x ms key j) (turns_give t j k) (members_gives ms key j k) h

    cases_give : (cs : Cases) (id : ℕ) → Gives (CaseTurns L cs id) (case_bits x cs id)
    cases_give no_cases id j k h = h
    cases_give (one_case head t cs) id j k h = either (head.id == id) (Turns L t j k) (CaseTurns L cs id j k) k (bits x t j) (case_bits x cs id j) (turns_give t j k) (cases_give cs id j k) h
