-- What parts write, one part more.
use Rattle.std.proofs.Common.{◌≡◌, refl, sym, ap, ◌∙◌, ℕ, Bool, true, false, if◌then◌else◌, List, [], ◌∷◌, ◌++◌, map, slice_get, Option, Some, subst, append_assoc}
use Rattle.std.proofs.lemmas.Bool.{and_parts}
use Rattle.json.specs.Print.{quoted}
use Rattle.serde_json.specs.Data as json
use Rattle.serde_json.specs.Written.{compact_text, members_text, comma_if}
use Rattle.xt_shapes.specs.Vals.{Val, int, text, listed, mapped, union_of, Slot, Slots, struct_of, absent, present}
use Rattle.type_trees.specs.declared.types.Member.{Member}
use Rattle.type_trees.specs.Trees.{Tree}
use Rattle.type_trees.specs.View.{tree, members_tree}
use Rattle.json_values.specs.Order.{slot_data}
use Rattle.json_values.specs.Written.{slots_data, struct_data}
use Rattle.packed_json.specs.Plans.{Part, Entry, IsPlanned, IsPlanOf, IsOrderOf, PlansMembers, part_text, parts_text, closing, parts_fit, slot_fits, slot_at, is_there, is_there_at, entries_by, body_at, member_data, key_behind, key_text, struct_fits, struct_text}
use Rattle.type_trees.specs.declared.types.StructType.{StructType, out-StructType}
use Rattle.type_trees.specs.View.{struct_tree}
use Rattle.type_trees.proofs.Views.{struct_tree_is}
use Rattle.packed_json.specs.declared.plan.Plan as p
use Rattle.packed_json.specs.declared.plan.PlannedMember.{PlannedMember}
use Rattle.packed_json.specs.Plans.{meaning, part}
use Rattle.packed_json.proofs.Meanings.{part_is, plan_struct}
use Rattle.packed_json.proofs.Orders.{slots_are}

-- what stands behind a member, or behind members, may be said in another way
part_same : (p : Part) (later : Bool) (s : Slot) (f g : Bool → List ℕ) → ((l : Bool) → f l ≡ g l) → part_text p later s f ≡ part_text p later s g
part_same p later absent f g same = same later
part_same p later (present v) f g same = ap (λ x. key_behind later p.key ++ (p.value.text v ++ x)) (same true)

parts_same : (ps : List Part) (later : Bool) (ss : Slots) (f g : Bool → List ℕ) → ((l : Bool) → f l ≡ g l) → parts_text ps later ss f ≡ parts_text ps later ss g
parts_same [] later ss f g same = same later
parts_same (p ∷ ps) later ss f g same = part_same p later (slot_at ss p.at) _ _ (λ l. parts_same ps l ss f g same)

parts_end : (ps : List Part) (p : Part) (later : Bool) (ss : Slots) (more : Bool → List ℕ) → parts_text (ps ++ p ∷ []) later ss more ≡ parts_text ps later ss (λ l. part_text p l (slot_at ss p.at) more)
parts_end [] p later ss more = refl
parts_end (q ∷ ps) p later ss more = part_same q later (slot_at ss q.at) _ _ (λ l. parts_end ps p l ss more)

pub fit_end : (ps : List Part) (p : Part) (ss : Slots) → parts_fit (ps ++ p ∷ []) ss ≡ true → (parts_fit ps ss ≡ true) × (slot_fits p.value.fits (slot_at ss p.at) ≡ true)
fit_end [] p ss fit = (refl, (and_parts (slot_fits p.value.fits (slot_at ss p.at)) true fit).0)
fit_end (q ∷ ps) p ss fit =
    let parts = and_parts (slot_fits q.value.fits (slot_at ss q.at)) (parts_fit (ps ++ p ∷ []) ss) fit in
    let rest = fit_end ps p ss parts.1 in
    (rw (parts.0, rest.0) refl, rest.1)

-- what is planned and what is still to come is the whole
abbrev pub Goes : List Member → List Entry → List Entry → List Part → Type 0
Goes ms rest es ps = (ss : Slots) → parts_fit ps ss ≡ true → parts_text ps false ss (λ l. members_text l (entries_by (is_there_at ss) (body_at ms ss) rest)) ≡ members_text false (entries_by (is_there_at ss) (body_at ms ss) es)

-- a key with its colon, behind others or none
key_is : (later : Bool) (name rest : List ℕ) → key_behind later (key_text name) ++ rest ≡ comma_if later ++ (quoted name ++ 58 ∷ rest)
key_is true name rest = ap (λ x. 44 ∷ x) (append_assoc (quoted name) (58 ∷ []) rest)
key_is false name rest = append_assoc (quoted name) (58 ∷ []) rest

-- a member that is there, or that is left out
slot_is : (t : Tree) (p : Part) (later : Bool) (s : Slot) (name : List ℕ) (rest : json.Members) → IsPlanOf t p.value → p.key ≡ key_text name → slot_fits p.value.fits s ≡ true
    → part_text p later s (λ l. members_text l rest) ≡ members_text later (if is_there s then json.member name (slot_data t s) rest else rest)
slot_is t p later absent name rest is key fits = refl
slot_is t p later (present v) name rest is key fits = rw (key, is v fits) (key_is later name _)

part_is_text : (ms : List Member) (later : Bool) (e : Entry) (rest : List Entry) (p : Part) (ss : Slots) → IsPlanned ms e p → slot_fits p.value.fits (slot_at ss p.at) ≡ true
    → part_text p later (slot_at ss p.at) (λ l. members_text l (entries_by (is_there_at ss) (body_at ms ss) rest)) ≡ members_text later (entries_by (is_there_at ss) (body_at ms ss) (e ∷ rest))
part_is_text ms later e rest p ss is fits =
    let behind = entries_by (is_there_at ss) (body_at ms ss) rest in
    let fits_there : slot_fits p.value.fits (slot_at ss e.1) ≡ true = ap (λ at. slot_fits p.value.fits (slot_at ss at)) (sym is.at) ∙ fits in
    let text = slot_is (tree is.member.ty) p later (slot_at ss e.1) e.0.now behind is.value is.key fits_there in
    ap (λ at. part_text p later (slot_at ss at) (λ l. members_text l behind)) is.at ∙ text ∙ ap (λ (m : Option Member). members_text later (if is_there_at ss e.1 then json.member e.0.now (member_data m (slot_at ss e.1)) behind else behind)) (sym is.there)

pub goes_on : (ms : List Member) (e : Entry) (rest es : List Entry) (ps : List Part) (p : Part) → IsPlanned ms e p → Goes ms (e ∷ rest) es ps → Goes ms rest es (ps ++ p ∷ [])
goes_on ms e rest es ps p is before ss fit =
    let parts = fit_end ps p ss fit in
    parts_end ps p false ss _ ∙ parts_same ps false ss _ _ (λ l. part_is_text ms l e rest p ss is parts.1) ∙ before ss parts.0

-- ---- a whole structure

pub structure_text : (ms : List Member) (es : List Entry) (ps : List Part) (ss : Slots) → IsOrderOf ms es → PlansMembers ms es ps → parts_fit ps ss ≡ true
    → parts_text ps false ss closing ≡ members_text false (slots_data (members_tree ms) ss json.no_members)
structure_text ms es ps ss order planned fit = planned ss fit ∙ ap (members_text false) (order (is_there_at ss) (body_at ms ss) ∙ slots_are ms ss)

pub struct_planned : (ms : List Member) (es : List Entry) (ps : List Part) → IsOrderOf ms es → PlansMembers ms es ps
    → (v : Val) → struct_fits ps v ≡ true → struct_text ps v ≡ compact_text (struct_data (λ xs. slots_data (members_tree ms) xs json.no_members) v)
struct_planned ms es ps order planned (int i) fits = absurd cc
struct_planned ms es ps order planned (text s) fits = absurd cc
struct_planned ms es ps order planned (listed vs) fits = absurd cc
struct_planned ms es ps order planned (mapped xs) fits = absurd cc
struct_planned ms es ps order planned (union_of d b) fits = absurd cc
struct_planned ms es ps order planned (struct_of ss) fits = ap (λ s. 123 ∷ s) (structure_text ms es ps ss order planned fits)

pub structure_planned : (k : StructType) (ms : List Member) (es : List Entry) (xs : List PlannedMember) → ms ≡ (out-StructType k).members → IsOrderOf ms es → PlansMembers ms es (map part xs)
    → IsPlanOf (struct_tree k) (meaning (p.Struct xs))
structure_planned k ms es xs is order planned = rw (plan_struct xs, struct_tree_is k, ← is) (struct_planned ms es (map part xs) order planned)

pub planned_member : (ms : List Member) (e : Entry) (x : PlannedMember) (m : Member) → slice_get ms e.1 ≡ Some m → x.at ≡ e.1 → x.key ≡ key_text e.0.now → IsPlanOf (tree m.ty) (meaning x.plan) → IsPlanned ms e (part x)
planned_member ms e x m there at key value = rw (part_is x) (record { member = m; there = there; at = at; key = key; value = value })

part_end : (xs : List PlannedMember) (x : PlannedMember) → map part (xs ++ x ∷ []) ≡ map part xs ++ part x ∷ []
part_end [] x = refl
part_end (y ∷ xs) x = rw (part_end xs x) refl

-- one member more is planned
pub members_step : (ms : List Member) (e : Entry) (here rest es : List Entry) (xs ys : List PlannedMember) (x : PlannedMember) → here ≡ e ∷ rest → ys ≡ xs ++ x ∷ [] → IsPlanned ms e (part x) → Goes ms here es (map part xs) → Goes ms rest es (map part ys)
members_step ms e here rest es xs ys x is_here is_ys is before =
    rw (is_ys, part_end xs x) (goes_on ms e rest es (map part xs) (part x) is (subst (λ it. Goes ms it es (map part xs)) is_here before))
