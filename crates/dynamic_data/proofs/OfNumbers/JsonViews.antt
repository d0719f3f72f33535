-- The lists and objects of JSON, and the parts that can be written.
use Rattle.std.proofs.Common.{◌≡◌, ℕ, ◌+◌, ◌<◌, List, length, drop, get_or, Bool, true, false, cond, Option, Some, None, Vec, Global, rules, subst, refl}
use Rattle.std.specs.Str.{bytes_eq}
use Rattle.std.specs.Borrow.{Bor}
use Rattle.std.proofs.lemmas.List.{drop_more}
use Rattle.json.specs.Json.{Json, null, boolean, number, string, array, object, item, Members, no_members, member}
use Rattle.json.specs.Find.{get, get_member, later_or}
use Rattle.json.specs.Tree.{HasNumbers, MembersHaveNumbers}
use Rattle.json.specs.Value.{value_view, items_view, members_view}
use Rattle.json.specs.declared.value.Value as v
use Rattle.json.specs.declared.value.Value.{Value, the_lemmas}

pub view_array : {A : Type 0} → (items : Vec (Value A) A) → value_view (v.Array items) ≡ array (items_view items.items)
view_array items = search (rules, the_lemmas)

pub view_object : {A : Type 0} → (ms : Vec (Bor (List ℕ) × Value A) A) → value_view (v.Object ms) ≡ object (members_view ms.items)
view_object ms = search (rules, the_lemmas)

-- the item at a place, before the rest
pub items_at : {A : Type 0} → (vs : List (Value A)) (i : ℕ) (d : Value A) → i < length vs → d ≡ get_or vs i d → items_view (drop i vs) ≡ item (value_view d) (items_view (drop (i + 1) vs))
items_at vs i d within is = rw (drop_more vs i d within, ← is) refl

pub members_at : {A : Type 0} → (ms : List (Bor (List ℕ) × Value A)) (i : ℕ) (d : Bor (List ℕ) × Value A) → i < length ms → d ≡ get_or ms i d
    → members_view (drop i ms) ≡ member d.0.now (value_view d.1) (members_view (drop (i + 1) ms))
members_at ms i d within is = rw (drop_more ms i d within, ← is) refl

-- a part that is found can be written
picked : (o : Option Json) (b : Bool) (j d : Json) → HasNumbers j → ((e : Json) → o ≡ Some e → HasNumbers e) → later_or o (cond b (Some j) None) ≡ Some d → HasNumbers d
picked (Some e) b j d own rest is = rest d is
picked None true j d own rest is = subst HasNumbers (cc is) own
picked None false j d own rest is = absurd (cc is)

found : (name : List ℕ) (ms : Members) (d : Json) → MembersHaveNumbers ms → get_member name ms ≡ Some d → HasNumbers d
found name no_members d has is = absurd (cc is)
found name (member k j ms) d has is = picked (get_member name ms) (bytes_eq k name) j d has.0 (λ e. found name ms e has.1) is

pub part_is_writable : (name : List ℕ) (j d : Json) → HasNumbers j → get name j ≡ Some d → HasNumbers d
part_is_writable name null d has is = absurd (cc is)
part_is_writable name (boolean b) d has is = absurd (cc is)
part_is_writable name (number s) d has is = absurd (cc is)
part_is_writable name (string s) d has is = absurd (cc is)
part_is_writable name (array js) d has is = absurd (cc is)
part_is_writable name (object ms) d has is = found name ms d has is
