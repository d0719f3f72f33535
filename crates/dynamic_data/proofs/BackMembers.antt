-- A structure's members are read from their JSON as they were.
use Rattle.std.proofs.Common.{◌≡◌, refl, ℕ, List, [], ◌∷◌, Bool, true, false, not, ◌&&◌, ◌||◌, Option, Some, None, Ok, Ordering, Less, Equal, Greater, bytes_eq, true≢false, sym, ap, subst, ◌∙◌}
use Rattle.std.specs.Bool.{⊤}
use Rattle.std.specs.Cmp.Lexicographic.{slice_cmp}
use Rattle.std.specs.Ordering.{nat_cmp, match_ordering}
use Rattle.std.proofs.lemmas.Bool.{and_parts, or_parts}
use Rattle.serde_json.specs.Data as json
use Rattle.serde_json.specs.Data.{Data, put}
use Rattle.serde_json.specs.Find.{get_member}
use Rattle.serde_json.proofs.Views.{get_member-put, get_member-put_other}
use Rattle.type_trees.specs.Trees.{Tree, Members, no_members, member}
use Rattle.xt_shapes.specs.Vals.{Val, struct_of, Slot as Body, absent, present, Slots, no_slots, one_slot, slots_of, each_slot}
use Rattle.xt_shapes.specs.Typing.{has_type, have_types, of_slot}
use Rattle.type_trees.specs.Bridge.{shape, member_shapes}
use Rattle.dynamic_data.specs.Faithful.{are_apart}
use Rattle.json_values.specs.Names.{name_text, is_among, member_names}
use Rattle.json_values.specs.Steps.{mapped_to}
use Rattle.json_values.specs.Read.{value_of, slot_of, slots_in, has_other, has_missing, struct_where}
use Rattle.json_values.specs.Written.{data_of, slots_data}
use Rattle.dynamic_data.proofs.BackLeaves.{at_false, bytes_same, not_true}

-- ---- what is found at a name

differs : (n k : List ℕ) (b : Bool) → bytes_eq n k ≡ b → b ≡ false → n ≡ k → ⊥
differs n k b is not same = true≢false (sym (subst (λ m. bytes_eq n m ≡ true) same (bytes_same n)) ∙ is ∙ not)

-- a name that is not among the members' finds what was there before
pub stays : (k : List ℕ) (ms : Members) (ss : Slots) (found : json.Members) → is_among k (member_names ms) ≡ false → get_member k (slots_data ms ss found) ≡ get_member k found
stays k no_members ss found other = refl
stays k (member h t ms) no_slots found other = refl
stays k (member h t ms) (one_slot absent ss) found other = stays k ms ss found (or_parts (bytes_eq (name_text h.name) k) _ other).1
stays k (member h t ms) (one_slot (present v) ss) found other =
    let parts = or_parts (bytes_eq (name_text h.name) k) _ other in
    stays k ms ss (put (name_text h.name) (data_of t v) found) parts.1
    ∙ get_member-put_other k (name_text h.name) (data_of t v) found (λ same. differs (name_text h.name) k _ refl parts.0 (sym same))

abbrev NoneOf : List (List ℕ) → json.Members → Type 0
NoneOf [] found = ⊤
NoneOf (n ∷ ns) found = (get_member n found ≡ None) × NoneOf ns found

none_put : (k : List ℕ) (d : Data) (ns : List (List ℕ)) (found : json.Members) → is_among k ns ≡ false → NoneOf ns found → NoneOf ns (put k d found)
none_put k d [] found other none = tt
none_put k d (n ∷ ns) found other none =
    let parts = or_parts (bytes_eq n k) _ other in
    (get_member-put_other n k d found (differs n k _ refl parts.0) ∙ none.0, none_put k d ns found parts.1 none.1)

none_empty : (ns : List (List ℕ)) → NoneOf ns json.no_members
none_empty [] = tt
none_empty (n ∷ ns) = (refl, none_empty ns)

abbrev pub body_option : (Val → Data) → Body → Option Data
body_option f absent = None
body_option f (present v) = Some (f v)

-- at each member's name stands the JSON of its slot
abbrev pub Agrees : Members → Slots → json.Members → Type 0
Agrees no_members ss os = ⊤
Agrees (member h t ms) no_slots os = ⊤
Agrees (member h t ms) (one_slot b ss) os = (get_member (name_text h.name) os ≡ body_option (data_of t) b) × Agrees ms ss os

agrees : (ms : Members) (ss : Slots) (found : json.Members) → are_apart (member_names ms) ≡ true → NoneOf (member_names ms) found → Agrees ms ss (slots_data ms ss found)
agrees no_members ss found apart none = tt
agrees (member h t ms) no_slots found apart none = tt
agrees (member h t ms) (one_slot absent ss) found apart none =
    let parts = and_parts (not (is_among (name_text h.name) (member_names ms))) _ apart in
    (stays (name_text h.name) ms ss found (not_true _ parts.0) ∙ none.0, agrees ms ss found parts.1 none.1)
agrees (member h t ms) (one_slot (present v) ss) found apart none =
    let parts = and_parts (not (is_among (name_text h.name) (member_names ms))) _ apart in
    let n = name_text h.name in (
      stays n ms ss (put n (data_of t v) found) (not_true _ parts.0) ∙ get_member-put n (data_of t v) found,
      agrees ms ss (put n (data_of t v) found) parts.1 (none_put n (data_of t v) (member_names ms) found (not_true _ parts.0) none.1),
    )

-- ---- no other names

other_by : (names : List (List ℕ)) (o : Ordering) (a b c : json.Members) → has_other names a ≡ false → has_other names b ≡ false → has_other names c ≡ false → has_other names (match_ordering o a b c) ≡ false
other_by names Less a b c ha hb hc = ha
other_by names Equal a b c ha hb hc = hb
other_by names Greater a b c ha hb hc = hc

both_false : (b c : Bool) → b ≡ false → c ≡ false → (b || c) ≡ false
both_false b c hb hc = rw hb hc

not_among : (b : Bool) → b ≡ true → not b ≡ false
not_among b h = rw h refl

pub other_put : (names : List (List ℕ)) (k : List ℕ) (d : Data) (ms : json.Members) → is_among k names ≡ true → has_other names ms ≡ false → has_other names (put k d ms) ≡ false
other_put names k d json.no_members among none = both_false _ false (not_among _ among) refl
other_put names k d (json.member l e ms) among none =
    let parts = or_parts (not (is_among l names)) _ none in
    other_by names (slice_cmp nat_cmp k l) _ _ _ (both_false _ _ (not_among _ among) none) (both_false _ _ parts.0 parts.1) (both_false _ _ parts.0 (other_put names k d ms among parts.1))

abbrev AllAmong : List (List ℕ) → List (List ℕ) → Type 0
AllAmong names [] = ⊤
AllAmong names (n ∷ ns) = (is_among n names ≡ true) × AllAmong names ns

or_right : (b c : Bool) → c ≡ true → (b || c) ≡ true
or_right true c h = refl
or_right false c h = h

among_more : (x : List ℕ) (names ns : List (List ℕ)) → AllAmong names ns → AllAmong (x ∷ names) ns
among_more x names [] h = tt
among_more x names (n ∷ ns) h = (or_right (bytes_eq x n) _ h.0, among_more x names ns h.1)

among_self : (names : List (List ℕ)) → AllAmong names names
among_self [] = tt
among_self (n ∷ ns) = (rw (bytes_same n) refl, among_more n ns ns (among_self ns))

no_others : (names : List (List ℕ)) (ms : Members) (ss : Slots) (found : json.Members) → AllAmong names (member_names ms) → has_other names found ≡ false → has_other names (slots_data ms ss found) ≡ false
no_others names no_members ss found all none = none
no_others names (member h t ms) no_slots found all none = none
no_others names (member h t ms) (one_slot absent ss) found all none = no_others names ms ss found all.1 none
no_others names (member h t ms) (one_slot (present v) ss) found all none =
    no_others names ms ss (put (name_text h.name) (data_of t v) found) all.1 (other_put names (name_text h.name) (data_of t v) found all.0 none)

-- ---- the slots

pub slots_back : (ss : Slots) → slots_of (each_slot ss) ≡ ss
slots_back no_slots = refl
slots_back (one_slot b ss) = ap (one_slot b) (slots_back ss)

-- each value of a type is read from its JSON as it was
abbrev pub Good : Tree → Type 0
Good t = (v : Val) → has_type (shape t) v ≡ true → value_of t (data_of t v) ≡ Ok v

abbrev pub AllGood : Members → Type 0
AllGood no_members = ⊤
AllGood (member h t ms) = Good t × AllGood ms

slot_read : (id : ℕ) (optional : Bool) (t : Tree) (b : Body) → Good t → of_slot optional (λ w. has_type (shape t) w) b ≡ true → slot_of id (value_of t) (body_option (data_of t) b) ≡ Ok b
slot_read id optional t absent good fits = refl
slot_read id optional t (present v) good fits = rw (good v fits) refl

slots_read : (ms : Members) (ss : Slots) (os : json.Members) → AllGood ms → have_types (member_shapes ms) ss ≡ true → Agrees ms ss os → slots_in ms os ≡ Ok (each_slot ss)
unfolding have_types
slots_read no_members no_slots os good fits agree = refl
slots_read no_members (one_slot b ss) os good fits agree = cc fits
slots_read (member h t ms) no_slots os good fits agree = cc fits
slots_read (member h t ms) (one_slot b ss) os good fits agree =
    let parts = and_parts (of_slot h.optional (λ w. has_type (shape t) w) b) _ fits in
    rw (agree.0, slot_read h.id h.optional t b good.0 parts.0, slots_read ms ss os good.1 parts.1 agree.1) refl

never : (b : Bool) → (b && false) ≡ false
never true = refl
never false = refl

none_missing : (ms : Members) (ss : Slots) (os : json.Members) → have_types (member_shapes ms) ss ≡ true → Agrees ms ss os → has_missing ms os ≡ false
unfolding have_types
none_missing no_members ss os fits agree = refl
none_missing (member h t ms) no_slots os fits agree = cc fits
none_missing (member h t ms) (one_slot absent ss) os fits agree =
    let parts = and_parts h.optional _ fits in
    rw parts.0 (none_missing ms ss os parts.1 agree.1)
none_missing (member h t ms) (one_slot (present v) ss) os fits agree =
    let parts = and_parts (has_type (shape t) v) _ fits in
    both_false _ _ (rw agree.0 (never (not h.optional))) (none_missing ms ss os parts.1 agree.1)

pub back_struct : (ms : Members) (ss : Slots) → AllGood ms → are_apart (member_names ms) ≡ true → have_types (member_shapes ms) ss ≡ true
    → struct_where ms (slots_in ms) (json.object (slots_data ms ss json.no_members)) ≡ Ok (struct_of ss)
back_struct ms ss good apart fits =
    let os = slots_data ms ss json.no_members in
    let agree = agrees ms ss json.no_members apart (none_empty (member_names ms)) in
    at_false (has_other (member_names ms) os) _ _ (no_others (member_names ms) ms ss json.no_members (among_self (member_names ms)) refl)
    ∙ at_false (has_missing ms os) _ _ (none_missing ms ss os fits agree)
    ∙ ap (mapped_to (λ bs. struct_of (slots_of bs))) (slots_read ms ss os good fits agree) ∙ ap (λ ts. Ok (struct_of ts)) (slots_back ss)
