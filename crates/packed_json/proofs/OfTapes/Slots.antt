-- Slots that are filled by an object's members.
use Rattle.std.proofs.Common.{◌≡◌, refl, ℕ, zero, suc, ◌+◌, ◌<◌, ◌≤◌, max, Bool, true, false, not, ◌&&◌, ◌||◌, List, [], ◌∷◌, length, get_or, drop, map, Option, Some, None, is_some, Ok, Err, option_map, bytes_eq, true≢false, sym, ap, subst, ◌∙◌, arith}
use Rattle.std.specs.Prelude.{replicate}
use Rattle.std.proofs.Math.ListN.{set}
use Rattle.std.proofs.lemmas.Bool.{and_parts, or_parts}
use Rattle.std.proofs.lemmas.Grind.{common_steps}
use Rattle.std.proofs.lemmas.List.{map-set, drop_more, drop_all, length-drop}
use Rattle.std.proofs.lemmas.List.Quantifiers.{position-Some}
use Rattle.xt_lists.specs.Over.{written_over}
use Rattle.json.specs.Token.{Token}
use Rattle.json.specs.Json as json
use Rattle.json.specs.Json.{Json}
use Rattle.json.specs.Find.{BeginsWith}
use Rattle.json.specs.Tree.{depth, members_depth}
use Rattle.serde_json.specs.Data as rows
use Rattle.serde_json.specs.Data.{Data, put}
use Rattle.serde_json.specs.Find.{get_member}
use Rattle.serde_json.specs.Read.{of_json, of_members}
use Rattle.serde_json.proofs.Views.{get_member-put, get_member-put_other}
use Rattle.xt_shapes.specs.declared.leaves.Step.{Step}
use Rattle.xt_shapes.specs.Vals.{Val, struct_of, Slot as Body, absent, present, slots_of}
use Rattle.type_trees.specs.declared.types.Member.{Member}
use Rattle.type_trees.specs.declared.types.StructType.{StructType, out-StructType}
use Rattle.packed_reader.specs.declared.values.Packed as p
use Rattle.packed_reader.specs.declared.values.Packed.{Packed}
use Rattle.packed_reader.specs.declared.values.PackedSlot as s
use Rattle.packed_reader.specs.declared.values.PackedSlot.{PackedSlot}
use Rattle.packed_reader.specs.View.{packed_val, packed_slot}
use Rattle.packed_reader.proofs.Views.{packed_present, packed_struct}
use Rattle.type_trees.specs.Trees.{Tree, MemberHead, Members, no_members, member}
use Rattle.type_trees.specs.View.{tree, members_tree, struct_tree}
use Rattle.type_trees.proofs.Views.{member_tree_is, struct_tree_is}
use Rattle.type_rules.specs.Places as places
use Rattle.json_values.specs.Names.{name_text, is_among, member_names}
use Rattle.json_values.specs.Steps.{Reading, beneath, and_then, mapped_to}
use Rattle.json_values.specs.Read.{value_of, slot_of, slots_in, has_other, has_missing, struct_where}
use Rattle.dynamic_data.specs.Faithful.{are_apart, is_faithful, members_are_faithful}
use Rattle.dynamic_data.specs.numbers.Places.{place_of}
use Rattle.packed_json.specs.Tapes.{Means, MembersMean, MembersPassed, ReadsMembers, is_open, has_open}
use Rattle.dynamic_data.proofs.BackLeaves.{at_false, bytes_same, bytes_equal, not_true}
use Rattle.dynamic_data.proofs.BackMembers.{other_put}
use Rattle.packed_json.proofs.OfTapes.Lists.{split}

-- ---- what a member's slot becomes

differs : (n k : List ℕ) → bytes_eq n k ≡ false → n ≡ k → ⊥
differs n k is same = true≢false (sym (subst (λ m. bytes_eq n m ≡ true) same (bytes_same n)) ∙ is)

-- the value at a name that no member has changes no slot
slots_same : (ms : Members) (k : List ℕ) (d : Data) (os : rows.Members) → is_among k (member_names ms) ≡ false → slots_in ms (put k d os) ≡ slots_in ms os
slots_same no_members k d os other = refl
slots_same (member h t ms) k d os other =
    let parts = or_parts (bytes_eq (name_text h.name) k) _ other in
    rw (get_member-put_other (name_text h.name) k d os (differs (name_text h.name) k parts.0), slots_same ms k d os parts.1) refl

not_at : (n : List ℕ) (ms : List Member) (at : ℕ) (m : Member) → at < length ms → m ≡ get_or ms at m → is_among n (member_names (members_tree ms)) ≡ false → bytes_eq (name_text m.name) n ≡ false
not_at n [] at m within is other = absurd (omega arith)
not_at n (x ∷ ms) zero m within is other =
    let opened = rw (member_tree_is x) at other in
    subst (λ (y : Member). bytes_eq (name_text y.name) n ≡ false) (sym is) (or_parts (bytes_eq (name_text x.name) n) _ opened).0
not_at n (x ∷ ms) (suc at) m within is other =
    let opened = rw (member_tree_is x) at other in
    not_at n ms at m (omega arith) is (or_parts (bytes_eq (name_text x.name) n) _ opened).1

put_here : (h : MemberHead) (t : Tree) (ms : Members) (d : Data) (v : Val) (os : rows.Members) (bs : List Body) → is_among (name_text h.name) (member_names ms) ≡ false → value_of t d ≡ Ok v
    → slots_in (member h t ms) os ≡ Ok bs → slots_in (member h t ms) (put (name_text h.name) d os) ≡ Ok (set bs 0 (present v))
put_here h t ms d v os bs alone reads so_far =
    let parts = split (slot_of h.id (value_of t) (get_member (name_text h.name) os)) (slots_in ms os) (λ b cs. b ∷ cs) bs so_far in
    let new : slot_of h.id (value_of t) (get_member (name_text h.name) (put (name_text h.name) d os)) ≡ Ok (present v) = rw (get_member-put (name_text h.name) d os, reads) refl in
    ap (λ r. and_then r (λ b. mapped_to (λ cs. b ∷ cs) (slots_in ms (put (name_text h.name) d os)))) new
    ∙ ap (mapped_to (λ cs. present v ∷ cs)) (slots_same ms (name_text h.name) d os alone ∙ parts.3) ∙ ap (λ l. Ok (set l 0 (present v))) parts.4

put_later : (h : MemberHead) (t : Tree) (ms : Members) (k : List ℕ) (d : Data) (v : Val) (at : ℕ) (os : rows.Members) (bs : List Body) → (name_text h.name ≡ k → ⊥)
    → ((cs : List Body) → slots_in ms os ≡ Ok cs → slots_in ms (put k d os) ≡ Ok (set cs at (present v)))
    → slots_in (member h t ms) os ≡ Ok bs → slots_in (member h t ms) (put k d os) ≡ Ok (set bs (suc at) (present v))
put_later h t ms k d v at os bs other later so_far =
    let parts = split (slot_of h.id (value_of t) (get_member (name_text h.name) os)) (slots_in ms os) (λ b cs. b ∷ cs) bs so_far in
    ap (λ o. and_then (slot_of h.id (value_of t) o) (λ b. mapped_to (λ cs. b ∷ cs) (slots_in ms (put k d os)))) (get_member-put_other (name_text h.name) k d os other)
    ∙ ap (λ r. and_then r (λ b. mapped_to (λ cs. b ∷ cs) (slots_in ms (put k d os)))) parts.2
    ∙ ap (mapped_to (λ cs. parts.0 ∷ cs)) (later parts.1 parts.3) ∙ ap (λ l. Ok (set l (suc at) (present v))) parts.4

abbrev head_of : Member → MemberHead
head_of x = record { id = x.id; name = x.name; tc = x.tc; optional = x.optional; must_understand = x.must_understand; key = x.key }

slots_put : (ms : List Member) (at : ℕ) (m : Member) (d : Data) (v : Val) (os : rows.Members) (bs : List Body) → at < length ms → m ≡ get_or ms at m → are_apart (member_names (members_tree ms)) ≡ true
    → value_of (tree m.ty) d ≡ Ok v → slots_in (members_tree ms) os ≡ Ok bs → slots_in (members_tree ms) (put (name_text m.name) d os) ≡ Ok (set bs at (present v))
slots_put [] at m d v os bs within is apart reads so_far = absurd (omega arith)
slots_put (x ∷ ms) zero m d v os bs within is apart reads so_far =
    let apart' = rw (member_tree_is x) at apart in
    let so_far' = rw (member_tree_is x) at so_far in
    let alone = not_true _ (and_parts (not (is_among (name_text x.name) (member_names (members_tree ms)))) _ apart').0 in
    subst (λ (y : Member). slots_in (members_tree (x ∷ ms)) (put (name_text y.name) d os) ≡ Ok (set bs 0 (present v))) (sym is)
    (rw (member_tree_is x) (put_here (head_of x) (tree x.ty) (members_tree ms) d v os bs alone (subst (λ (y : Member). value_of (tree y.ty) d ≡ Ok v) is reads) so_far'))
slots_put (x ∷ ms) (suc at) m d v os bs within is apart reads so_far =
    let apart' = rw (member_tree_is x) at apart in
    let so_far' = rw (member_tree_is x) at so_far in
    let both = and_parts (not (is_among (name_text x.name) (member_names (members_tree ms)))) _ apart' in
    let other = not_at (name_text x.name) ms at m (omega arith) is (not_true _ both.0) in
    rw (member_tree_is x)
    (put_later (head_of x) (tree x.ty) (members_tree ms) (name_text m.name) d v at os bs (λ same. differs (name_text m.name) (name_text x.name) other (sym same))
    (λ cs here. slots_put ms at m d v os cs (omega arith) is both.1 reads here) so_far')

-- ---- a name that is found

pub found_at : (ms : List Member) (key : List ℕ) (at : ℕ) (m : Member) → place_of ms key ≡ Some at → m ≡ get_or ms at m → (at < length ms) × (name_text m.name ≡ key)
found_at ms key at m found is =
    let (within, named, others) = position-Some (λ (x : Member). bytes_eq (name_text x.name) key) ms at m found in
    (within, bytes_equal (name_text m.name) key (subst (λ (y : Member). bytes_eq (name_text y.name) key ≡ true) (sym is) named))

or_right : (b c : Bool) → c ≡ true → (b || c) ≡ true
or_right true c h = refl
or_right false c h = h

among_at : (ms : List Member) (at : ℕ) (m : Member) → at < length ms → m ≡ get_or ms at m → is_among (name_text m.name) (member_names (members_tree ms)) ≡ true
among_at [] at m within is = absurd (omega arith)
among_at (x ∷ ms) zero m within is =
    rw (member_tree_is x) (subst (λ (y : Member). (bytes_eq (name_text y.name) (name_text m.name) || is_among (name_text m.name) (member_names (members_tree ms))) ≡ true) is (rw (bytes_same (name_text m.name)) refl))
among_at (x ∷ ms) (suc at) m within is =
    rw (member_tree_is x) (or_right (bytes_eq (name_text x.name) (name_text m.name)) _ (among_at ms at m (omega arith) is))

depth_cons : (x : Member) (ms : List Member) → places.members_depth (members_tree (x ∷ ms)) ≡ max (places.depth (tree x.ty)) (places.members_depth (members_tree ms))
depth_cons x ms = rw (member_tree_is x) refl

pub depth_at : (ms : List Member) (at : ℕ) (m : Member) → at < length ms → m ≡ get_or ms at m → places.depth (tree m.ty) ≤ places.members_depth (members_tree ms)
depth_at [] at m within is = absurd (omega arith)
depth_at (x ∷ ms) zero m within is = omega (arith, depth_cons x ms, ap (λ (y : Member). places.depth (tree y.ty)) is)
depth_at (x ∷ ms) (suc at) m within is = omega (arith, depth_cons x ms, depth_at ms at m (omega arith) is)

pub faithful_at : (ms : List Member) (at : ℕ) (m : Member) → at < length ms → m ≡ get_or ms at m → members_are_faithful (members_tree ms) ≡ true → is_faithful (tree m.ty) ≡ true
faithful_at [] at m within is h = absurd (omega arith)
faithful_at (x ∷ ms) zero m within is h =
    let opened = rw (member_tree_is x) at h in
    subst (λ (y : Member). is_faithful (tree y.ty) ≡ true) (sym is) (and_parts (is_faithful (tree x.ty)) _ opened).0
faithful_at (x ∷ ms) (suc at) m within is h =
    let opened = rw (member_tree_is x) at h in
    faithful_at ms at m (omega arith) is (and_parts (is_faithful (tree x.ty)) _ opened).1

-- ---- member by member

none_found : (ms : Members) → slots_in ms rows.no_members ≡ Ok (replicate (length (member_names ms)) absent)
none_found no_members = refl
none_found (member h t ms) = rw (none_found ms) refl

names_count : (ms : List Member) → length (member_names (members_tree ms)) ≡ length ms
names_count [] = refl
names_count (x ∷ ms) = ap suc (names_count ms)

pub members_begin : (ms : List Member) (n : ℕ) (js : json.Members) (bs : List Body) → bs ≡ replicate (length ms) absent → MembersPassed (members_tree ms) n js js bs
members_begin ms n js bs is = record {
  found = rows.no_members;
  of = refl;
  known = refl;
  reads = none_found (members_tree ms) ∙ ap (λ k. Ok (replicate k absent)) (names_count ms) ∙ ap (λ l. Ok l) (sym is);
  within = omega arith;
}

next_of : (key : List ℕ) (j : Json) (d : Data) (more : json.Members) (found : rows.Members) → of_json j ≡ Some d → of_members (json.member key j more) found ≡ of_members more (put key d found)
next_of key j d more found of = rw of refl

pub members_next : (ms : List Member) (n : ℕ) (js left more : json.Members) (key : List ℕ) (j : Json) (at : ℕ) (m : Member) (v : Val) (bs cs : List Body) → left ≡ json.member key j more → place_of ms key ≡ Some at → m ≡ get_or ms at m
    → are_apart (member_names (members_tree ms)) ≡ true → places.members_depth (members_tree ms) ≤ n → Means (value_of (tree m.ty)) (places.depth (tree m.ty)) j v → cs ≡ set bs at (present v)
    → MembersPassed (members_tree ms) n js left bs → MembersPassed (members_tree ms) n js more cs
members_next ms n js left more key j at m v bs cs is found is_m apart deep means becomes h =
    let here = found_at ms key at m found is_m in
    let level : places.depth (tree m.ty) ≤ n = omega (arith, depth_at ms at m here.0 is_m) in
    let size : members_depth left ≡ max (depth j) (members_depth more) = ap members_depth is in
    let known' = other_put (member_names (members_tree ms)) (name_text m.name) means.found h.found (among_at ms at m here.0 is_m) h.known in
    let reads' = slots_put ms at m means.found v h.found bs here.0 is_m apart means.reads h.reads in record {
      found = put key means.found h.found;
      of = h.of ∙ ap (λ l. of_members l h.found) is ∙ next_of key j means.found more h.found means.of;
      known = subst (λ k. has_other (member_names (members_tree ms)) (put k means.found h.found) ≡ false) here.1 known';
      reads = subst (λ k. slots_in (members_tree ms) (put k means.found h.found) ≡ Ok (set bs at (present v))) here.1 reads' ∙ ap (λ l. Ok l) (sym becomes);
      within = omega (arith, h.within, means.within);
    }

pub members_end : (ms : Members) (n : ℕ) (js left : json.Members) (bs : List Body) → left ≡ json.no_members → MembersPassed ms n js left bs → MembersMean ms n js bs
members_end ms n js left bs is h =
    let size : members_depth left ≡ 0 = ap members_depth is in
    record { found = h.found; of = h.of ∙ ap (λ l. of_members l h.found) is; known = h.known; reads = h.reads; within = omega (arith, h.within) }

-- ---- the whole structure

missing_at : (optional : Bool) (id : ℕ) (f : Data → Reading Val) (o : Option Data) (b : Body) → slot_of id f o ≡ Ok b → (not optional && not (is_some o)) ≡ is_open optional b
missing_at true id f None b is = let same : absent ≡ b = cc in ap (is_open true) same
missing_at false id f None b is = let same : absent ≡ b = cc in ap (is_open false) same
missing_at optional id f (Some d) b is = filled optional (beneath (Step.Member id) (f d)) b is
  where
    filled : (optional : Bool) (r : Reading Val) (b : Body) → mapped_to present r ≡ Ok b → (not optional && false) ≡ is_open optional b
    filled true (Ok v) b is = let same : present v ≡ b = cc in ap (is_open true) same
    filled false (Ok v) b is = let same : present v ≡ b = cc in ap (is_open false) same
    filled optional (Err e) b is = absurd cc

missing_is : (ms : Members) (os : rows.Members) (bs : List Body) → slots_in ms os ≡ Ok bs → has_missing ms os ≡ has_open ms bs
missing_is no_members os bs reads = refl
missing_is (member h t ms) os bs reads =
    let parts = split (slot_of h.id (value_of t) (get_member (name_text h.name) os)) (slots_in ms os) (λ b cs. b ∷ cs) bs reads in
    ap (λ x. x || has_missing ms os) (missing_at h.optional h.id (value_of t) (get_member (name_text h.name) os) parts.0 parts.2)
    ∙ ap (λ x. is_open h.optional parts.0 || x) (missing_is ms os parts.1 parts.3) ∙ ap (has_open (member h t ms)) parts.4

pub struct_means : (ms : Members) (n : ℕ) (js : json.Members) (bs : List Body) → MembersMean ms n js bs → has_open ms bs ≡ false → Means (struct_where ms (slots_in ms)) (1 + n) (json.object js) (struct_of (slots_of bs))
struct_means ms n js bs h full = record {
  found = rows.object h.found;
  of = ap (option_map rows.object) h.of;
  reads = at_false (has_other (member_names ms) h.found) _ _ h.known ∙ at_false (has_missing ms h.found) _ _ (missing_is ms h.found bs h.reads ∙ full) ∙ ap (mapped_to (λ cs. struct_of (slots_of cs))) h.reads;
  within = omega (arith, h.within);
}

some_open : (ms : List Member) → 0 < length ms → true ≡ has_open (members_tree ms) []
some_open [] h = absurd (omega arith)
some_open (x ∷ ms) h = refl

pub open_past : (ms : List Member) (ss : List PackedSlot) (at : ℕ) → at < length ms → length ss ≤ at → true ≡ has_open (members_tree (drop at ms)) (map packed_slot (drop at ss))
open_past ms ss at within past = rw (drop_all at ss past) (some_open (drop at ms) (omega (arith, length-drop at ms)))

pub open_next : (ms : List Member) (ss : List PackedSlot) (at : ℕ) (m : Member) (b : PackedSlot) → at < length ms → at < length ss → m ≡ get_or ms at m → b ≡ get_or ss at b
    → has_open (members_tree (drop at ms)) (map packed_slot (drop at ss)) ≡ (is_open m.optional (packed_slot b) || has_open (members_tree (drop (at + 1) ms)) (map packed_slot (drop (at + 1) ss)))
open_next ms ss at m b p q is_m is_b = rw (drop_more ms at m p, ← is_m, drop_more ss at b q, ← is_b, member_tree_is m) refl

pub structure_means : (kind : StructType) (ts : List Token) (slots : List PackedSlot) → ReadsMembers (members_tree (out-StructType kind).members) (places.members_depth (members_tree (out-StructType kind).members)) ts (Some slots)
    → has_open (members_tree (out-StructType kind).members) (map packed_slot slots) ≡ false → (j : Json) → BeginsWith ts j → Means (value_of (struct_tree kind)) (places.depth (struct_tree kind)) j (packed_val (p.Struct slots))
structure_means kind ts slots h full j begins =
    let ms = members_tree (out-StructType kind).members in
    let n = places.members_depth ms in
    let found = h j begins in
    rw (struct_tree_is kind, packed_struct slots)
    (subst (λ k. Means (struct_where ms (slots_in ms)) (1 + n) k (struct_of (slots_of (map packed_slot slots)))) (sym found.1) (struct_means ms n found.0 (map packed_slot slots) found.2 full))

-- ---- one slot is filled

over_set : (old : List PackedSlot) (at : ℕ) (b : PackedSlot) → written_over old (set old at b) ≡ set old at b
over_set old at b = grind (arith, common_steps)

pub filled : (old given : List PackedSlot) (at : ℕ) (w : Packed) → given ≡ old → map packed_slot (written_over old (set given at (s.Present w))) ≡ set (map packed_slot old) at (present (packed_val w))
filled old given at w e =
    ap (λ g. map packed_slot (written_over old (set g at (s.Present w)))) e ∙ ap (map packed_slot) (over_set old at (s.Present w)) ∙ map-set packed_slot old at (s.Present w) ∙ ap (set (map packed_slot old) at) (packed_present w)
