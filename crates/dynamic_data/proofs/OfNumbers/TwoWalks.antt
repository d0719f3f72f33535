-- The walk that changes nothing, and the one that writes raw bits.
use Rattle.std.proofs.Common.{◌≡◌, refl, ℕ, ◌==◌, List, Bool, true, false, Option, Some, None, bytes_eq}
use Rattle.std.specs.Bool.{MatchBool}
use Rattle.std.specs.Prelude.{if◌then◌else◌}
use Rattle.json.specs.Json as json
use Rattle.json.specs.Json.{Json}
use Rattle.type_trees.specs.Trees.{Tree, prim, str, enumeration, bitmask, sequence, array, map_of, structure, union, alias, Members, no_members, member, Cases, no_cases, one_case}
use Rattle.xt_shapes.specs.declared.leaves.Primitive.{Primitive}
use Rattle.json_values.specs.Names.{name_text}
use Rattle.json_values.specs.Written.{value_key}
use Rattle.dynamic_data.specs.numbers.Floats.{leaf_bits}
use Rattle.dynamic_data.specs.numbers.Bits.{each_item, in_array, in_pair, each_member, in_object, in_body, selected_bits, bits, member_bits, case_bits}
use Rattle.dynamic_data.specs.numbers.Walks.{Turn, ItemsTurn, ArrayTurns, PairTurns, MembersTurn, ObjectTurns, BodyTurns, SelectedTurns, case_in, Turns, MemberTurns, CaseTurns}
use Rattle.dynamic_data.proofs.OfNumbers.Leaves.{Stays}

-- ---- nothing is changed

abbrev pub Self : Turn → Type 0
Self S = (j : Json) → S j j

self_items : (S : Turn) → Self S → (js : json.Items) → ItemsTurn S js js
self_items S step json.no_items = refl
self_items S step (json.item j js) = (j, js, refl, step j, self_items S step js)

pub self_array : (S : Turn) → Self S → Self (ArrayTurns S)
self_array S step json.null = refl
self_array S step (json.boolean b) = refl
self_array S step (json.number n) = refl
self_array S step (json.string s) = refl
self_array S step (json.array js) = (js, refl, self_items S step js)
self_array S step (json.object ms) = refl

pub self_pair : (S P : Turn) → Self S → Self P → Self (PairTurns S P)
self_pair S P key value json.null = refl
self_pair S P key value (json.boolean b) = refl
self_pair S P key value (json.number n) = refl
self_pair S P key value (json.string s) = refl
self_pair S P key value (json.array json.no_items) = refl
self_pair S P key value (json.array (json.item a json.no_items)) = refl
self_pair S P key value (json.array (json.item a (json.item b json.no_items))) = (a, b, refl, key a, value b)
self_pair S P key value (json.array (json.item a (json.item b (json.item c js)))) = refl
self_pair S P key value (json.object ms) = refl

self_members : (S : List ℕ → Turn) → ((key : List ℕ) → Self (S key)) → (ms : json.Members) → MembersTurn S ms ms
self_members S step json.no_members = refl
self_members S step (json.member key j ms) = (j, ms, refl, step key j, self_members S step ms)

pub self_object : (S : List ℕ → Turn) → ((key : List ℕ) → Self (S key)) → Self (ObjectTurns S)
self_object S step json.null = refl
self_object S step (json.boolean b) = refl
self_object S step (json.number n) = refl
self_object S step (json.string s) = refl
self_object S step (json.array js) = refl
self_object S step (json.object ms) = (ms, refl, self_members S step ms)

pub self_either : (b : Bool) (S P : Turn) → Self S → Self P → (j : Json) → MatchBool b (S j j) (P j j)
self_either true S P p q j = p j
self_either false S P p q j = q j

pub self_selected : (S : ℕ → Turn) → ((id : ℕ) → Self (S id)) → (o : Option ℕ) → Self (SelectedTurns S o)
self_selected S step None j = refl
self_selected S step (Some id) j = step id j

mutual
  pub turns_self : (t : Tree) → Self (Turns Stays t)
  turns_self (prim p) = λ j. refl
  turns_self (str bound) = λ j. refl
  turns_self (enumeration name ext width literals) = λ j. refl
  turns_self (bitmask name width flags) = λ j. refl
  turns_self (sequence bound tc t) = self_array (Turns Stays t) (turns_self t)
  turns_self (array dims tc t) = self_array (Turns Stays t) (turns_self t)
  turns_self (map_of bound kc key vc value) = self_array (PairTurns (Turns Stays key) (Turns Stays value)) (self_pair (Turns Stays key) (Turns Stays value) (turns_self key) (turns_self value))
  turns_self (structure head ms) = self_object (MemberTurns Stays ms) (members_self ms)
  turns_self (union head disc cs) = λ j.
      let o = case_in disc cs j in
      self_object (BodyTurns (SelectedTurns (CaseTurns Stays cs) o))
      (λ key. self_either (bytes_eq key value_key) (SelectedTurns (CaseTurns Stays cs) o) (λ j k. k ≡ j) (self_selected (CaseTurns Stays cs) (cases_self cs) o) (λ j. refl)) j
  turns_self (alias name t) = turns_self t

  members_self : (ms : Members) (key : List ℕ) → Self (MemberTurns Stays ms key)
  members_self no_members key = λ j. refl
  members_self (member head t ms) key = self_either (bytes_eq (name_text head.name) key) (Turns Stays t) (MemberTurns Stays ms key) (turns_self t) (members_self ms key)

  cases_self : (cs : Cases) (id : ℕ) → Self (CaseTurns Stays cs id)
  cases_self no_cases id = λ j. refl
  cases_self (one_case head t cs) id = self_either (head.id == id) (Turns Stays t) (CaseTurns Stays cs id) (turns_self t) (cases_self cs id)

-- ---- raw bits are written

abbrev pub Leaf : Json → Primitive → Turn
Leaf too_large p j k = k ≡ leaf_bits too_large p j

abbrev By : Turn → (Json → Json) → Type 0
By S g = (j : Json) → S j (g j)

by_items : (S : Turn) (g : Json → Json) → By S g → (js : json.Items) → ItemsTurn S js (each_item g js)
by_items S g step json.no_items = refl
by_items S g step (json.item j js) = (g j, each_item g js, refl, step j, by_items S g step js)

by_array : (S : Turn) (g : Json → Json) → By S g → By (ArrayTurns S) (in_array g)
by_array S g step json.null = refl
by_array S g step (json.boolean b) = refl
by_array S g step (json.number n) = refl
by_array S g step (json.string s) = refl
by_array S g step (json.array js) = (each_item g js, refl, by_items S g step js)
by_array S g step (json.object ms) = refl

by_pair : (S P : Turn) (g h : Json → Json) → By S g → By P h → By (PairTurns S P) (in_pair g h)
by_pair S P g h key value json.null = refl
by_pair S P g h key value (json.boolean b) = refl
by_pair S P g h key value (json.number n) = refl
by_pair S P g h key value (json.string s) = refl
by_pair S P g h key value (json.array json.no_items) = refl
by_pair S P g h key value (json.array (json.item a json.no_items)) = refl
by_pair S P g h key value (json.array (json.item a (json.item b json.no_items))) = (g a, h b, refl, key a, value b)
by_pair S P g h key value (json.array (json.item a (json.item b (json.item c js)))) = refl
by_pair S P g h key value (json.object ms) = refl

by_members : (S : List ℕ → Turn) (g : List ℕ → Json → Json) → ((key : List ℕ) → By (S key) (g key)) → (ms : json.Members) → MembersTurn S ms (each_member g ms)
by_members S g step json.no_members = refl
by_members S g step (json.member key j ms) = (g key j, each_member g ms, refl, step key j, by_members S g step ms)

by_object : (S : List ℕ → Turn) (g : List ℕ → Json → Json) → ((key : List ℕ) → By (S key) (g key)) → By (ObjectTurns S) (in_object g)
by_object S g step json.null = refl
by_object S g step (json.boolean b) = refl
by_object S g step (json.number n) = refl
by_object S g step (json.string s) = refl
by_object S g step (json.array js) = refl
by_object S g step (json.object ms) = (each_member g ms, refl, by_members S g step ms)

by_either : (b : Bool) (S P : Turn) (g h : Json → Json) → By S g → By P h → (j : Json) → MatchBool b (S j (if b then g j else h j)) (P j (if b then g j else h j))
by_either true S P g h p q j = p j
by_either false S P g h p q j = q j

by_selected : (S : ℕ → Turn) (g : ℕ → Json → Json) → ((id : ℕ) → By (S id) (g id)) → (o : Option ℕ) → By (SelectedTurns S o) (selected_bits g o)
by_selected S g step None j = refl
by_selected S g step (Some id) j = step id j

module _ (x : Json) where
  mutual
    pub bits_turn : (t : Tree) → By (Turns (Leaf x) t) (bits x t)
    bits_turn (prim p) = λ j. refl
    bits_turn (str bound) = λ j. refl
    bits_turn (enumeration name ext width literals) = λ j. refl
    bits_turn (bitmask name width flags) = λ j. refl
    bits_turn (sequence bound tc t) = by_array (Turns (Leaf x) t) (bits x t) (bits_turn t)
    bits_turn (array dims tc t) = by_array (Turns (Leaf x) t) (bits x t) (bits_turn t)
    bits_turn (map_of bound kc key vc value) =
        by_array (PairTurns (Turns (Leaf x) key) (Turns (Leaf x) value)) (in_pair (bits x key) (bits x value)) (by_pair (Turns (Leaf x) key) (Turns (Leaf x) value) (bits x key) (bits x value) (bits_turn key) (bits_turn value))
    bits_turn (structure head ms) = by_object (MemberTurns (Leaf x) ms) (member_bits x ms) (members_turn ms)
    bits_turn (union head disc cs) = λ j.
        let o = case_in disc cs j in
        by_object (BodyTurns (SelectedTurns (CaseTurns (Leaf x) cs) o)) (in_body (selected_bits (case_bits x cs) o))
        (λ key. by_either (bytes_eq key value_key) (SelectedTurns (CaseTurns (Leaf x) cs) o) (λ j k. k ≡ j) (selected_bits (case_bits x cs) o) (λ j. j)
        (by_selected (CaseTurns (Leaf x) cs) (case_bits x cs) (cases_turn cs) o) (λ j. refl)) j
    bits_turn (alias name t) = bits_turn t

    members_turn : (ms : Members) (key : List ℕ) → By (MemberTurns (Leaf x) ms key) (member_bits x ms key)
    members_turn no_members key = λ j. refl
    members_turn (member head t ms) key =
        by_either (bytes_eq (name_text head.name) key) (Turns (Leaf x) t) (MemberTurns (Leaf x) ms key) (bits x t) (member_bits x ms key) (bits_turn t) (members_turn ms key)

    cases_turn : (cs : Cases) (id : ℕ) → By (CaseTurns (Leaf x) cs id) (case_bits x cs id)
    cases_turn no_cases id = λ j. refl
    cases_turn (one_case head t cs) id = by_either (head.id == id) (Turns (Leaf x) t) (CaseTurns (Leaf x) cs id) (bits x t) (case_bits x cs id) (bits_turn t) (cases_turn cs id)
