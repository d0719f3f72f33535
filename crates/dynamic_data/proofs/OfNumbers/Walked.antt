-- What a walk has written so far of an array or an object.
use Rattle.std.proofs.Common.{◌≡◌, refl, ℕ, ◌+◌, ◌<◌, max, List, [], ◌∷◌, ◌++◌, length, drop, get_or, true, ◌&&◌, Result, Ok, Err, Vec, Global, sym, ap, ◌∙◌, subst, arith, eq-eqb, append_assoc, append-nil}
use Rattle.std.specs.Prelude.{OnOk}
use Rattle.std.specs.Borrow.{Bor}
use Rattle.std.proofs.lemmas.List.{drop_more}
use Rattle.std.proofs.lemmas.Bool.{and_parts}
use borrow.Author.Tests.{ne_eqb}
use Rattle.json.specs.Token.{Token, begin_array, end_array, begin_object, end_object, key}
use Rattle.json.specs.Json as json
use Rattle.json.specs.Json.{Json}
use Rattle.json.specs.Tree.{json_tokens, items_tokens, members_tokens}
use Rattle.json.specs.Value.{value_view, items_view, members_view}
use Rattle.json.specs.Written.{Written}
use Rattle.json.specs.declared.value.Value as v
use Rattle.json.specs.declared.value.Value.{Value}
use Rattle.xt_shapes.specs.declared.leaves.Primitive.{Primitive}
use Rattle.type_trees.specs.declared.types.Case.{Case}
use Rattle.type_trees.specs.View.{tree, cases_tree}
use Rattle.type_trees.proofs.Views.{case_tree_is}
use Rattle.type_rules.specs.Places.{depth, cases_depth}
use Rattle.json_values.specs.Names.{has_text_names, cases_have_text_names}
use Rattle.dynamic_data.specs.numbers.Walks.{Turn, ItemsTurn, ArrayTurns, PairTurns, MembersTurn, ObjectTurns, Turns, CaseTurns}
use Rattle.dynamic_data.specs.numbers.Forms.{Puts, PutsItems, PutsMembers}
use Rattle.dynamic_data.proofs.OfNumbers.JsonViews.{view_array, view_object}

-- Of all the items, those before the rest stand in the tokens that were written, and any that may stand in place of the rest complete them.
abbrev pub ItemsWritten : Turn → (all rest : json.Items) → (old new : List Token) → Type 0
ItemsWritten T all rest old new =
    (front : List Token) × (new ≡ old ++ front) × ((ls : json.Items) → ItemsTurn T rest ls → (ks : json.Items) × (items_tokens ks ≡ front ++ items_tokens ls) × ItemsTurn T all ks)

abbrev pub MembersWritten : (List ℕ → Turn) → (all rest : json.Members) → (old new : List Token) → Type 0
MembersWritten T all rest old new =
    (front : List Token) × (new ≡ old ++ front)
    × ((ls : json.Members) → MembersTurn T rest ls → (ns : json.Members) × (members_tokens ns ≡ front ++ members_tokens ls) × MembersTurn T all ns)

pub no_items_yet : (T : Turn) (all : json.Items) (old : List Token) → ItemsWritten T all all old old
no_items_yet T all old = ([], sym (append-nil old), λ ls turned. (ls, refl, turned))

pub no_members_yet : (T : List ℕ → Turn) (all : json.Members) (old : List Token) → MembersWritten T all all old old
no_members_yet T all old = ([], sym (append-nil old), λ ls turned. (ls, refl, turned))

pub one_more_item : (T : Turn) (all : json.Items) (j : Json) (rest : json.Items) (old new last : List Token) (k : Json)
    → ItemsWritten T all (json.item j rest) old new → last ≡ new ++ json_tokens k → T j k → ItemsWritten T all rest old last
one_more_item T all j rest old new last k before appended turned = (
  before.0 ++ json_tokens k,
  appended ∙ ap (λ ts. ts ++ json_tokens k) before.1 ∙ append_assoc old before.0 (json_tokens k),
  λ ls later.
      let whole = before.2 (json.item k ls) (k, ls, refl, turned, later) in
      (whole.0, whole.1 ∙ sym (append_assoc before.0 (json_tokens k) (items_tokens ls)), whole.2),
)

pub one_more_member : (T : List ℕ → Turn) (all : json.Members) (name : List ℕ) (j : Json) (rest : json.Members) (old new named last : List Token) (k : Json)
    → MembersWritten T all (json.member name j rest) old new → named ≡ new ++ key name ∷ [] → last ≡ named ++ json_tokens k → T name j k → MembersWritten T all rest old last
one_more_member T all name j rest old new named last k before keyed appended turned = (
  before.0 ++ (key name ∷ json_tokens k),
  appended ∙ ap (λ ts. ts ++ json_tokens k) (keyed ∙ ap (λ ts. ts ++ key name ∷ []) before.1) ∙ append_assoc (old ++ before.0) (key name ∷ []) (json_tokens k) ∙ append_assoc old before.0 (key name ∷ json_tokens k),
  λ ls later.
      let whole = before.2 (json.member name k ls) (k, ls, refl, turned, later) in
      (whole.0, whole.1 ∙ sym (append_assoc before.0 (key name ∷ json_tokens k) (members_tokens ls)), whole.2),
)

pub all_items : (T : Turn) (all : json.Items) (old new last : List Token) → ItemsWritten T all json.no_items old new → last ≡ new ++ end_array ∷ []
    → (ks : json.Items) × (last ≡ old ++ items_tokens ks) × ItemsTurn T all ks
all_items T all old new last before closed =
    let whole = before.2 json.no_items refl in (
      whole.0,
      closed ∙ ap (λ ts. ts ++ end_array ∷ []) before.1 ∙ append_assoc old before.0 (end_array ∷ []) ∙ ap (λ ts. old ++ ts) (sym whole.1),
      whole.2,
    )

pub all_members : (T : List ℕ → Turn) (all : json.Members) (old new last : List Token) → MembersWritten T all json.no_members old new → last ≡ new ++ end_object ∷ []
    → (ns : json.Members) × (last ≡ old ++ members_tokens ns) × MembersTurn T all ns
all_members T all old new last before closed =
    let whole = before.2 json.no_members refl in (
      whole.0,
      closed ∙ ap (λ ts. ts ++ end_object ∷ []) before.1 ∙ append_assoc old before.0 (end_object ∷ []) ∙ ap (λ ts. old ++ ts) (sym whole.1),
      whole.2,
    )

-- an array and an object, from their brackets
on_ok : {A E : Type 0} (P Q : Type 0) (r : Result A E) → (P → Q) → OnOk r P → OnOk r Q
on_ok P Q (Ok x) f h = f h
on_ok P Q (Err e) f h = h

pub array_put : {E : Type 0} (T : Turn) (js : json.Items) (r : Result (Unit {0}) E) (old mid new : Written) → mid.before ≡ old.before → mid.tokens ≡ old.tokens ++ begin_array ∷ []
    → PutsItems T js r mid new → Puts (ArrayTurns T) (json.array js) r old new
array_put T js r old mid new same opened put = (
  put.0 ∙ same,
  on_ok _ _ r (λ items. (json.array items.0, items.1 ∙ ap (λ ts. ts ++ items_tokens items.0) opened ∙ append_assoc old.tokens (begin_array ∷ []) (items_tokens items.0), (items.0, refl, items.2))) put.1,
)

pub object_put : {E : Type 0} (T : List ℕ → Turn) (ms : json.Members) (r : Result (Unit {0}) E) (old mid new : Written) → mid.before ≡ old.before → mid.tokens ≡ old.tokens ++ begin_object ∷ []
    → PutsMembers T ms r mid new → Puts (ObjectTurns T) (json.object ms) r old new
object_put T ms r old mid new same opened put = (
  put.0 ∙ same,
  on_ok _ _ r (λ members. (json.object members.0, members.1 ∙ ap (λ ts. ts ++ members_tokens members.0) opened ∙ append_assoc old.tokens (begin_object ∷ []) (members_tokens members.0), (members.0, refl, members.2))) put.1,
)

-- what may stand in place of a value, by a weaker rule
pub put_as : {E : Type 0} (T S : Turn) (j : Json) (r : Result (Unit {0}) E) (old mid new : Written) → mid ≡ old → ((k : Json) → T j k → S j k) → Puts T j r mid new → Puts S j r old new
put_as T S j r old mid new same weaker put =
    subst (λ w. Puts S j r w new) same (put.0, on_ok _ _ r (λ one. (one.0, one.1, weaker one.0 one.2)) put.1)

-- ---- a pair

no_pair : (T S : Turn) (items : List (Value Global)) (k : Json) → (length items ≡ 2 → ⊥) → k ≡ json.array (items_view items) → PairTurns T S (json.array (items_view items)) k
no_pair T S [] k other same = same
no_pair T S (a ∷ []) k other same = same
no_pair T S (a ∷ b ∷ []) k other same = absurd (other refl)
no_pair T S (a ∷ b ∷ c ∷ rest) k other same = same

pub not_two : (T S : Turn) (j : Json) (items : List (Value Global)) (k : Json) → j ≡ json.array (items_view items) → (length items ≡ 2 → ⊥) → k ≡ j → PairTurns T S j k
not_two T S j items k is other same = subst (λ x. PairTurns T S x k) (sym is) (no_pair T S items k other (same ∙ is))

pub two_turned : (T S : Turn) (items : List (Value Global)) (a b : Value Global) (old opened first second last : List Token) → length items ≡ 2 → a ≡ get_or items 0 a → b ≡ get_or items 1 b
    → opened ≡ old ++ begin_array ∷ []
    → (c : Json) × (first ≡ opened ++ json_tokens c) × T (value_view a) c
    → (d : Json) × (second ≡ first ++ json_tokens d) × S (value_view b) d
    → last ≡ second ++ end_array ∷ []
    → (k : Json) × (last ≡ old ++ json_tokens k) × PairTurns T S (json.array (items_view items)) k
two_turned T S [] a b old opened first second last is is_a is_b begun one two closed = absurd (omega arith)
two_turned T S (x ∷ []) a b old opened first second last is is_a is_b begun one two closed = absurd (omega arith)
two_turned T S (x ∷ y ∷ z ∷ rest) a b old opened first second last is is_a is_b begun one two closed = absurd (omega arith)
two_turned T S (x ∷ y ∷ []) a b old opened first second last is is_a is_b begun one two closed =
    let c = one.0 in
    let d = two.0 in
    let pair = json.item c (json.item d json.no_items) in
    let end = end_array ∷ [] in
    let shown : last ≡ old ++ json_tokens (json.array pair) =
    closed ∙ ap (λ ts. ts ++ end) (two.1 ∙ ap (λ ts. ts ++ json_tokens d) (one.1 ∙ ap (λ ts. ts ++ json_tokens c) begun))
    ∙ append_assoc ((old ++ begin_array ∷ []) ++ json_tokens c) (json_tokens d) end
    ∙ append_assoc (old ++ begin_array ∷ []) (json_tokens c) (json_tokens d ++ end)
    ∙ append_assoc old (begin_array ∷ []) (json_tokens c ++ (json_tokens d ++ end)) in
    (json.array pair, shown, (c, d, refl, subst (λ v. T (value_view v) c) is_a one.2, subst (λ v. S (value_view v) d) is_b two.2))

-- ---- cases, one by one

pub case_here : (L : Primitive → Turn) (c : Case) (cs : List Case) (i id : ℕ) (j k : Json) → i < length cs → c ≡ get_or cs i c → c.id ≡ id
    → Turns L (tree c.ty) j k → CaseTurns L (cases_tree (drop i cs)) id j k
case_here L c cs i id j k within is same turned = rw (drop_more cs i c within, ← is, case_tree_is c, eq-eqb c.id id same) turned

pub case_past : (L : Primitive → Turn) (c : Case) (cs : List Case) (i id : ℕ) (j k : Json) → i < length cs → c ≡ get_or cs i c → (c.id ≡ id → ⊥)
    → CaseTurns L (cases_tree (drop (i + 1) cs)) id j k → CaseTurns L (cases_tree (drop i cs)) id j k
case_past L c cs i id j k within is other later = rw (drop_more cs i c within, ← is, case_tree_is c, ne_eqb c.id id other) later

pub cases_depth_at : (c : Case) (cs : List Case) (i : ℕ) → i < length cs → c ≡ get_or cs i c
    → cases_depth (cases_tree (drop i cs)) ≡ max (depth (tree c.ty)) (cases_depth (cases_tree (drop (i + 1) cs)))
cases_depth_at c cs i within is = rw (drop_more cs i c within, ← is, case_tree_is c) refl

pub cases_named_at : (c : Case) (cs : List Case) (i : ℕ) → i < length cs → c ≡ get_or cs i c → cases_have_text_names (cases_tree (drop i cs)) ≡ true
    → cases_have_text_names (cases_tree (drop (i + 1) cs)) ≡ true
cases_named_at c cs i within is h =
    let here : cases_have_text_names (cases_tree (drop i cs)) ≡ has_text_names (tree c.ty) && cases_have_text_names (cases_tree (drop (i + 1) cs)) = rw (drop_more cs i c within, ← is, case_tree_is c) refl in
    (and_parts _ _ (sym here ∙ h)).1

-- ---- from the program's values

pub array_of : {E : Type 0} (T : Turn) (part : Value Global) (items : Vec (Value Global) Global) (slice : List (Value Global)) (r : Result (Unit {0}) E) (old mid new : Written)
    → part ≡ v.Array items → slice ≡ items.items → mid.before ≡ old.before → mid.tokens ≡ old.tokens ++ begin_array ∷ []
    → PutsItems T (items_view slice) r mid new → Puts (ArrayTurns T) (value_view part) r old new
array_of T part items slice r old mid new is same before opened put =
    subst (λ j. Puts (ArrayTurns T) j r old new) (ap (λ vs. json.array (items_view vs)) same ∙ sym (ap value_view is ∙ view_array items)) (array_put T (items_view slice) r old mid new before opened put)

pub object_of : {E : Type 0} (T : List ℕ → Turn) (part : Value Global) (ms : Vec (Bor (List ℕ) × Value Global) Global) (slice : List (Bor (List ℕ) × Value Global)) (r : Result (Unit {0}) E) (old mid new : Written)
    → part ≡ v.Object ms → slice ≡ ms.items → mid.before ≡ old.before → mid.tokens ≡ old.tokens ++ begin_object ∷ []
    → PutsMembers T (members_view slice) r mid new → Puts (ObjectTurns T) (value_view part) r old new
object_of T part ms slice r old mid new is same before opened put =
    subst (λ j. Puts (ObjectTurns T) j r old new) (ap (λ vs. json.object (members_view vs)) same ∙ sym (ap value_view is ∙ view_object ms)) (object_put T (members_view slice) r old mid new before opened put)
