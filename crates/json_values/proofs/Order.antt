-- Slots listed under their members' names, one slot on.
use Rattle.std.proofs.Common.{◌≡◌, refl, ℕ, zero, suc, ◌+◌, ◌<◌, ◌≤◌, List, [], ◌∷◌, length, get_or, drop, Option, Some, None, Bor, Ordering, Less, Equal, Greater, slice_get, true, sym, subst, ◌∙◌, arith}
use Rattle.std.proofs.lemmas.List.{drop_all}
use Rattle.std.proofs.lemmas.Option.{slice_get-get_or}
use Rattle.std.specs.Cmp.Lexicographic.{slice_cmp}
use Rattle.std.specs.Ordering.{match_ordering, nat_cmp}
use Rattle.std.specs.Str.{is_utf8}
use Rattle.std.proofs.lemmas.Bool.{and_parts}
use Rattle.type_trees.specs.declared.values.Value.{Value}
use Rattle.std.specs.BTreeMap.{insert_entry}
use Rattle.serde_json.specs.Data as json
use Rattle.serde_json.specs.Data.{put}
use Rattle.type_trees.specs.declared.types.Member.{Member}
use Rattle.type_trees.specs.declared.values.Slot.{Slot}
use Rattle.type_trees.specs.declared.values.Slot as s
use Rattle.type_trees.specs.Trees.{Members, no_members, member}
use Rattle.xt_shapes.specs.Vals.{no_slots}
use Rattle.type_trees.specs.View.{tree, members_tree, body_val, slots_val}
use Rattle.type_trees.proofs.Views.{member_tree_is, body_val_absent, body_val_present}
use Rattle.json_values.specs.Names.{name_text, has_text_names, members_have_text_names}
use Rattle.json_values.specs.Order.{at_data, both_data, slot_data, entries_data, put_both, put_at}
use Rattle.json_values.specs.Written.{slots_data}

abbrev Entry : Type 0
Entry = Bor (List ℕ) × ℕ

abbrev text_cmp : Bor (List ℕ) → Bor (List ℕ) → Ordering
text_cmp s t = slice_cmp nat_cmp s.now t.now

entries_by : (ms : List Member) (ss : List Slot) (o : Ordering) (a b c : List Entry) → entries_data ms ss (match_ordering o a b c) ≡ match_ordering o (entries_data ms ss a) (entries_data ms ss b) (entries_data ms ss c)
entries_by ms ss Less a b c = refl
entries_by ms ss Equal a b c = refl
entries_by ms ss Greater a b c = refl

pub entries_insert : (ms : List Member) (ss : List Slot) (es : List Entry) (k : Bor (List ℕ)) (at : ℕ) → entries_data ms ss (insert_entry text_cmp es k at) ≡ put k.now (at_data ms ss at) (entries_data ms ss es)
entries_insert ms ss [] k at = refl
entries_insert ms ss (e ∷ es) k at = entries_by ms ss (text_cmp k e.0) _ _ _ ∙ rw (entries_insert ms ss es k at)

pub at_present : (ms : List Member) (ss : List Slot) (at : ℕ) (m : Member) (t : Slot) → at < length ms → at < length ss → m ≡ get_or ms at m → t ≡ get_or ss at t → at_data ms ss at ≡ slot_data (tree m.ty) (body_val t)
at_present ms ss at m t p q is_m is_t = rw (slice_get-get_or ms at m p, slice_get-get_or ss at t q, ← is_m, ← is_t, member_tree_is m) refl

none_right : (m : Option Member) (found : json.Members) → put_both m None found ≡ found
none_right None found = refl
none_right (Some m) found = refl

absent_right : (m : Option Member) (found : json.Members) → put_both m (Some s.Absent) found ≡ found
absent_right None found = refl
absent_right (Some m) found = rw body_val_absent refl

none_data : (m : Option Member) → both_data m None ≡ json.null
none_data None = refl
none_data (Some m) = refl

slice_get_past : {A : Type 0} (xs : List A) (at : ℕ) → length xs ≤ at → slice_get xs at ≡ None
slice_get_past [] at past = refl
slice_get_past (x ∷ xs) zero past = absurd (omega arith)
slice_get_past (x ∷ xs) (suc at) past = slice_get_past xs at (omega arith)

pub named_member : (ms : List Member) (at : ℕ) (m : Member) → at < length ms → members_have_text_names (members_tree ms) ≡ true → (is_utf8 (name_text (get_or ms at m).name) ≡ true) × (has_text_names (tree (get_or ms at m).ty) ≡ true)
named_member [] at m within named = absurd (omega arith)
named_member (x ∷ ms) zero m within named =
    let opened = rw (member_tree_is x) at named in
    let parts = and_parts (is_utf8 (name_text x.name)) _ opened in
    (parts.0, (and_parts (has_text_names (tree x.ty)) _ parts.1).0)
named_member (x ∷ ms) (suc at) m within named =
    let opened = rw (member_tree_is x) at named in
    let parts = and_parts (is_utf8 (name_text x.name)) _ opened in
    named_member ms at m (omega arith) (and_parts (has_text_names (tree x.ty)) _ parts.1).1

slots_none : (ms : Members) (found : json.Members) → slots_data ms no_slots found ≡ found
slots_none no_members found = refl
slots_none (member head t ms) found = refl

slots_past : (ms : Members) (at : ℕ) (found : json.Members) → slots_data ms (slots_val (drop {A = Slot} at [])) found ≡ found
slots_past ms zero found = slots_none ms found
slots_past ms (suc at) found = slots_none ms found

pub put_past : (ms : List Member) (ss : List Slot) (at : ℕ) (found : json.Members) → length ss ≤ at → put_at ms ss at found ≡ found
put_past ms ss at found past = rw (slice_get_past ss at past) (none_right (slice_get ms at) found)

-- one slot on
pub order_next : (ms : List Member) (ss : List Slot) (at : ℕ) (found : json.Members) → at < length ms
    → slots_data (members_tree (drop at ms)) (slots_val (drop at ss)) found ≡ slots_data (members_tree (drop (at + 1) ms)) (slots_val (drop (at + 1) ss)) (put_at ms ss at found)
order_next ms [] at found within =
    slots_past (members_tree (drop at ms)) at found ∙ sym (slots_past (members_tree (drop (at + 1) ms)) (at + 1) (put_at ms [] at found) ∙ put_past ms [] at found (omega arith))
order_next [] (t ∷ ss) at found within = absurd (omega arith)
order_next (m ∷ ms) (t ∷ ss) zero found within = refl
order_next (m ∷ ms) (t ∷ ss) (suc at) found within =
    let e : suc at + 1 ≡ suc (at + 1) = omega arith in
    rw e (order_next ms ss at found (omega arith))

pub order_end : (ms : List Member) (ss : List Slot) (at : ℕ) (found : json.Members) → length ms ≤ at → slots_data (members_tree (drop at ms)) (slots_val (drop at ss)) found ≡ found
order_end ms ss at found past = rw (drop_all at ms past) refl

pub put_absent : (ms : List Member) (ss : List Slot) (at : ℕ) (t : Slot) (found : json.Members) → at < length ss → t ≡ get_or ss at t → t ≡ s.Absent → put_at ms ss at found ≡ found
put_absent ms ss at t found within is_t is = rw (slice_get-get_or ss at t within, ← is_t, is) (absent_right (slice_get ms at) found)

pub put_present : (ms : List Member) (ss : List Slot) (at : ℕ) (m : Member) (t : Slot) (v : Value) (found : json.Members) → at < length ms → at < length ss → m ≡ get_or ms at m → t ≡ get_or ss at t → t ≡ s.Present v
    → put_at ms ss at found ≡ put (name_text m.name) (at_data ms ss at) found
put_present ms ss at m t v found p q is_m is_t is =
    rw (slice_get-get_or ms at m p, slice_get-get_or ss at t q, ← is_m, ← is_t, is, member_tree_is m, body_val_present v) refl

pub at_members_past : (ms : List Member) (ss : List Slot) (at : ℕ) → length ms ≤ at → at_data ms ss at ≡ json.null
at_members_past ms ss at past = rw (slice_get_past ms at past) refl

pub at_slots_past : (ms : List Member) (ss : List Slot) (at : ℕ) → length ss ≤ at → at_data ms ss at ≡ json.null
at_slots_past ms ss at past = rw (slice_get_past ss at past) (none_data (slice_get ms at))

pub members_named : (ms : List Member) (at : ℕ) (m : Member) → at < length ms → m ≡ get_or ms at m → members_have_text_names (members_tree ms) ≡ true → (is_utf8 (name_text m.name) ≡ true) × (has_text_names (tree m.ty) ≡ true)
members_named ms at m within is named = subst (λ x. (is_utf8 (name_text x.name) ≡ true) × (has_text_names (tree x.ty) ≡ true)) (sym is) (named_member ms at m within named)
