-- What a walk writes can be printed where what it reads can, and nests no deeper.
use Rattle.std.proofs.Common.{◌≡◌, ℕ, ◌≤◌, ◌==◌, List, Bool, true, false, Option, Some, None, bytes_eq, sym, subst, arith}
use Rattle.std.specs.Bool.{MatchBool}
use Rattle.json.specs.Json as json
use Rattle.json.specs.Json.{Json}
use Rattle.json.specs.Tree.{depth, items_depth, members_depth}
use Rattle.type_trees.specs.Trees.{Tree, prim, str, enumeration, bitmask, sequence, array, map_of, structure, union, alias, Members, no_members, member, Cases, no_cases, one_case}
use Rattle.xt_shapes.specs.declared.leaves.Primitive.{Primitive}
use Rattle.json_values.specs.Names.{name_text}
use Rattle.json_values.specs.Written.{value_key}
use Rattle.dynamic_data.specs.numbers.Walks.{Turn, ItemsTurn, ArrayTurns, PairTurns, MembersTurn, ObjectTurns, BodyTurns, SelectedTurns, case_in, Turns, MemberTurns, CaseTurns}
use Rattle.dynamic_data.proofs.OfNumbers.Sound.{Fine, FineItems, FineMembers, Sound}

abbrev pub Kept : Json → Json → Type 0
Kept j k = (Fine j → Fine k) × (depth k ≤ depth j)

-- what may stand in place of a value can be printed as the value can
abbrev pub Keeping : Turn → Type 0
Keeping S = (j k : Json) → S j k → Kept j k

pub same_kept : (j k : Json) → k ≡ j → Kept j k
same_kept j k same = subst (Kept j) (sym same) (λ h. h, omega arith)

pub kept_sound : (j k : Json) → Kept j k → Sound j → Sound k
kept_sound j k kept s = (kept.0 s.0, omega (arith, kept.1, s.1))

items_kept : (S : Turn) → Keeping S → (js ks : json.Items) → ItemsTurn S js ks → (FineItems js → FineItems ks) × (items_depth ks ≤ items_depth js)
items_kept S step json.no_items ks turn = subst (λ l. (FineItems json.no_items → FineItems l) × (items_depth l ≤ items_depth json.no_items)) (sym turn) (λ h. h, omega arith)
items_kept S step (json.item j js) ks turn =
    let first = step j turn.0 turn.3 in
    let rest = items_kept S step js turn.1 turn.4 in
    subst (λ l. (FineItems (json.item j js) → FineItems l) × (items_depth l ≤ items_depth (json.item j js))) (sym turn.2)
    (λ h. (first.0 h.0, rest.0 h.1), omega (arith, first.1, rest.1))

array_kept : (S : Turn) → Keeping S → Keeping (ArrayTurns S)
array_kept S step json.null k turn = same_kept json.null k turn
array_kept S step (json.boolean b) k turn = same_kept (json.boolean b) k turn
array_kept S step (json.number n) k turn = same_kept (json.number n) k turn
array_kept S step (json.string s) k turn = same_kept (json.string s) k turn
array_kept S step (json.array js) k turn =
    let items = items_kept S step js turn.0 turn.2 in
    subst (Kept (json.array js)) (sym turn.1) (items.0, omega (arith, items.1))
array_kept S step (json.object ms) k turn = same_kept (json.object ms) k turn

pair_kept : (S P : Turn) → Keeping S → Keeping P → Keeping (PairTurns S P)
pair_kept S P key value json.null k turn = same_kept json.null k turn
pair_kept S P key value (json.boolean b) k turn = same_kept (json.boolean b) k turn
pair_kept S P key value (json.number n) k turn = same_kept (json.number n) k turn
pair_kept S P key value (json.string s) k turn = same_kept (json.string s) k turn
pair_kept S P key value (json.array json.no_items) k turn = same_kept (json.array json.no_items) k turn
pair_kept S P key value (json.array (json.item a json.no_items)) k turn = same_kept (json.array (json.item a json.no_items)) k turn
pair_kept S P key value (json.array (json.item a (json.item b json.no_items))) k turn =
    let x = key a turn.0 turn.3 in
    let y = value b turn.1 turn.4 in
    subst (Kept (json.array (json.item a (json.item b json.no_items)))) (sym turn.2) (λ h. (x.0 h.0, (y.0 h.1.0, tt)), omega (arith, x.1, y.1))
pair_kept S P key value (json.array (json.item a (json.item b (json.item c js)))) k turn = same_kept (json.array (json.item a (json.item b (json.item c js)))) k turn
pair_kept S P key value (json.object ms) k turn = same_kept (json.object ms) k turn

members_kept : (S : List ℕ → Turn) → ((key : List ℕ) → Keeping (S key)) → (ms ns : json.Members) → MembersTurn S ms ns → (FineMembers ms → FineMembers ns) × (members_depth ns ≤ members_depth ms)
members_kept S step json.no_members ns turn = subst (λ l. (FineMembers json.no_members → FineMembers l) × (members_depth l ≤ members_depth json.no_members)) (sym turn) (λ h. h, omega arith)
members_kept S step (json.member key j ms) ns turn =
    let first = step key j turn.0 turn.3 in
    let rest = members_kept S step ms turn.1 turn.4 in
    subst (λ l. (FineMembers (json.member key j ms) → FineMembers l) × (members_depth l ≤ members_depth (json.member key j ms))) (sym turn.2)
    (λ h. (h.0, first.0 h.1, rest.0 h.2), omega (arith, first.1, rest.1))

object_kept : (S : List ℕ → Turn) → ((key : List ℕ) → Keeping (S key)) → Keeping (ObjectTurns S)
object_kept S step json.null k turn = same_kept json.null k turn
object_kept S step (json.boolean b) k turn = same_kept (json.boolean b) k turn
object_kept S step (json.number n) k turn = same_kept (json.number n) k turn
object_kept S step (json.string s) k turn = same_kept (json.string s) k turn
object_kept S step (json.array js) k turn = same_kept (json.array js) k turn
object_kept S step (json.object ms) k turn =
    let members = members_kept S step ms turn.0 turn.2 in
    subst (Kept (json.object ms)) (sym turn.1) (members.0, omega (arith, members.1))

either_kept : (b : Bool) (S P : Turn) → Keeping S → Keeping P → (j k : Json) → MatchBool b (S j k) (P j k) → Kept j k
either_kept true S P p q j k turn = p j k turn
either_kept false S P p q j k turn = q j k turn

selected_kept : (S : ℕ → Turn) → ((id : ℕ) → Keeping (S id)) → (o : Option ℕ) → Keeping (SelectedTurns S o)
selected_kept S step None j k turn = same_kept j k turn
selected_kept S step (Some id) j k turn = step id j k turn

module _ (T : Primitive → Turn) (leaves : (p : Primitive) → Keeping (T p)) where
  mutual
    pub turns_kept : (t : Tree) → Keeping (Turns T t)
    turns_kept (prim p) = leaves p
    turns_kept (str bound) = same_kept
    turns_kept (enumeration name ext width literals) = same_kept
    turns_kept (bitmask name width flags) = same_kept
    turns_kept (sequence bound tc t) = array_kept (Turns T t) (turns_kept t)
    turns_kept (array dims tc t) = array_kept (Turns T t) (turns_kept t)
    turns_kept (map_of bound kc key vc value) = array_kept (PairTurns (Turns T key) (Turns T value)) (pair_kept (Turns T key) (Turns T value) (turns_kept key) (turns_kept value))
    turns_kept (structure head ms) = object_kept (MemberTurns T ms) (each_kept ms)
    turns_kept (union head disc cs) = λ j k turn.
        let o = case_in disc cs j in
        object_kept (BodyTurns (SelectedTurns (CaseTurns T cs) o))
        (λ key. either_kept (bytes_eq key value_key) (SelectedTurns (CaseTurns T cs) o) (λ j k. k ≡ j) (selected_kept (CaseTurns T cs) (case_kept cs) o) same_kept) j k turn
    turns_kept (alias name t) = turns_kept t

    each_kept : (ms : Members) (key : List ℕ) → Keeping (MemberTurns T ms key)
    each_kept no_members key = same_kept
    each_kept (member head t ms) key = either_kept (bytes_eq (name_text head.name) key) (Turns T t) (MemberTurns T ms key) (turns_kept t) (each_kept ms key)

    case_kept : (cs : Cases) (id : ℕ) → Keeping (CaseTurns T cs id)
    case_kept no_cases id = same_kept
    case_kept (one_case head t cs) id = either_kept (head.id == id) (Turns T t) (CaseTurns T cs id) (turns_kept t) (case_kept cs id)
