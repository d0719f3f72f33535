-- Members listed under their names, one member on.
use Rattle.std.proofs.Common.{◌≡◌, refl, sym, ap, ◌∙◌, ℕ, suc, ◌+◌, ◌<◌, ◌≤◌, Bool, true, false, if◌then◌else◌, List, [], ◌∷◌, length, get_or, drop, Bor, Ordering, Less, Equal, Greater, Some, None, cond, arith}
use Rattle.std.proofs.lemmas.List.{drop_all}
use Rattle.std.proofs.Math.Seq.{drop-cons}
use Rattle.std.specs.Cmp.Lexicographic.{slice_cmp, nat_list_cmp_total}
use Rattle.std.specs.List.{AllByRecursion}
use Rattle.std.specs.List.Sorted.{IsStrictlySortedBy}
use Rattle.std.specs.Map.{keys_of, lookup}
use Rattle.std.specs.Ordering.{match_ordering, nat_cmp, is_eq}
use Rattle.std.specs.BTreeMap.{insert_entry, is_at}
use Rattle.serde_json.specs.Data as json
use Rattle.serde_json.specs.Data.{Data, put}
use Rattle.xt_shapes.specs.Vals.{Slots, no_slots, one_slot, absent, present}
use Rattle.type_trees.specs.declared.types.Member.{Member}
use Rattle.type_trees.specs.View.{members_tree}
use Rattle.type_trees.proofs.Views.{member_tree_is}
use Rattle.json_values.specs.Names.{name_text}
use Rattle.json_values.specs.Written.{slots_data}
use Rattle.packed_json.specs.Plans.{Entry, entries_by, put_if, put_from, is_there_at, body_at}

abbrev octets_cmp : Bor (List ℕ) → Bor (List ℕ) → Ordering
octets_cmp s t = slice_cmp nat_cmp s.now t.now

-- ---- keys that rise

-- the key stands before those of all entries
IsBefore : Bor (List ℕ) → List Entry → Type 0
IsBefore k es = AllByRecursion (λ l. octets_cmp k l ≡ Less) (keys_of es)

before_all : (k l : Bor (List ℕ)) (es : List Entry) → octets_cmp k l ≡ Less → IsBefore l es → IsBefore k es
unfolding IsBefore
before_all k l [] less all = tt
before_all k l (e ∷ es) less all = (nat_list_cmp_total.trans k.now l.now e.0.now less all.0, before_all k l es less all.1)

-- a key that stands before all others goes in front of those that are there
put_front : (there : ℕ → Bool) (f : ℕ → Data) (k : Bor (List ℕ)) (d : Data) (es : List Entry) → IsBefore k es → put k.now d (entries_by there f es) ≡ json.member k.now d (entries_by there f es)
unfolding IsBefore
put_front there f k d [] before = refl
put_front there f k d (e ∷ es) before =
    let rest = entries_by there f es in
    let first : match_ordering (octets_cmp k e.0) (json.member k.now d (json.member e.0.now (f e.1) rest)) (json.member e.0.now d rest) (json.member e.0.now (f e.1) (put k.now d rest)) ≡ json.member k.now d (json.member e.0.now (f e.1) rest)
    = ap (λ (o : Ordering). match_ordering o (json.member k.now d (json.member e.0.now (f e.1) rest)) (json.member e.0.now d rest) (json.member e.0.now (f e.1) (put k.now d rest))) before.0 in
    elim (there e.1) as (λ b. put k.now d (if b then json.member e.0.now (f e.1) rest else rest) ≡ json.member k.now d (if b then json.member e.0.now (f e.1) rest else rest)) [ true ↦ first | false ↦ put_front there f k d es before.1 ]

-- ---- one entry more

-- in front of all
first_in : (here : Bool) (k : List ℕ) (d : Data) (rest : json.Members) → put k d rest ≡ json.member k d rest → (if here then json.member k d rest else rest) ≡ put_if here k d rest
first_in true k d rest front = sym front
first_in false k d rest front = refl

-- behind the first
later_in : (here : Bool) (k l : List ℕ) (d e : Data) (rest : json.Members) → slice_cmp nat_cmp k l ≡ Greater → json.member l e (put_if here k d rest) ≡ put_if here k d (json.member l e rest)
later_in true k l d e rest greater = sym (ap (λ (o : Ordering). match_ordering o (json.member k d (json.member l e rest)) (json.member l d rest) (json.member l e (put k d rest))) greater)
later_in false k l d e rest greater = refl

later_so : (there here : Bool) (k l : List ℕ) (d e : Data) (rest new : json.Members) → slice_cmp nat_cmp k l ≡ Greater → new ≡ put_if here k d rest → (if there then json.member l e new else new) ≡ put_if here k d (if there then json.member l e rest else rest)
later_so true here k l d e rest new greater is = ap (json.member l e) is ∙ later_in here k l d e rest greater
later_so false here k l d e rest new greater is = is

-- What is answered of the entries behind the first, of which the key is none, is answered of all.
insert_by : (there : ℕ → Bool) (f : ℕ → Data) (e : Entry) (es : List Entry) (k : Bor (List ℕ)) (at : ℕ) (o : Ordering) → octets_cmp k e.0 ≡ o → IsBefore e.0 es → lookup (is_at (octets_cmp k)) (e ∷ es) ≡ None
    → (lookup (is_at (octets_cmp k)) es ≡ None → entries_by there f (insert_entry octets_cmp es k at) ≡ put_if (there at) k.now (f at) (entries_by there f es))
    → entries_by there f (insert_entry octets_cmp (e ∷ es) k at) ≡ put_if (there at) k.now (f at) (entries_by there f (e ∷ es))
unfolding IsBefore
insert_by there f e es k at Less is before none rest =
    let front = put_front there f k (f at) (e ∷ es) (is, before_all k e.0 es is before) in
    ap (λ (o : Ordering). entries_by there f (match_ordering o ((k, at) ∷ e ∷ es) ((e.0, at) ∷ es) (e ∷ insert_entry octets_cmp es k at))) is ∙ first_in (there at) k.now (f at) (entries_by there f (e ∷ es)) front
insert_by there f e es k at Equal is before none rest =
    let found = ap (λ (o : Ordering). cond (is_eq o) (Some e.1) (lookup (is_at (octets_cmp k)) es)) is in
    absurd (let some : Some e.1 ≡ None = sym found ∙ none in cc)
insert_by there f e es k at Greater is before none rest =
    let found = ap (λ (o : Ordering). cond (is_eq o) (Some e.1) (lookup (is_at (octets_cmp k)) es)) is in
    ap (λ (o : Ordering). entries_by there f (match_ordering o ((k, at) ∷ e ∷ es) ((e.0, at) ∷ es) (e ∷ insert_entry octets_cmp es k at))) is
    ∙ later_so (there e.1) (there at) k.now e.0.now (f at) (f e.1) (entries_by there f es) (entries_by there f (insert_entry octets_cmp es k at)) is (rest (sym found ∙ none))

pub entries_insert : (there : ℕ → Bool) (f : ℕ → Data) (es : List Entry) (k : Bor (List ℕ)) (at : ℕ) → IsStrictlySortedBy octets_cmp (keys_of es) → lookup (is_at (octets_cmp k)) es ≡ None
    → entries_by there f (insert_entry octets_cmp es k at) ≡ put_if (there at) k.now (f at) (entries_by there f es)
unfolding IsStrictlySortedBy IsBefore
entries_insert there f [] k at sorted none = first_in (there at) k.now (f at) json.no_members refl
entries_insert there f (e ∷ es) k at sorted none = insert_by there f e es k at (octets_cmp k e.0) refl sorted.0 none (λ n. entries_insert there f es k at sorted.1 n)

-- ---- one member on

pub order_next : (there : ℕ → Bool) (f : ℕ → Data) (ms : List Member) (at : ℕ) (m : Member) (found : json.Members) → at < length ms → m ≡ get_or ms at m
    → put_from there f at (drop at ms) found ≡ put_from there f (at + 1) (drop (at + 1) ms) (put_if (there at) (name_text m.name) (f at) found)
order_next there f ms at m found within is =
    let next : at + 1 ≡ suc at = omega arith in
    let cut : drop at ms ≡ get_or ms at m ∷ drop (suc at) ms = drop-cons ms at m within in
    rw (cut, next, ← is) refl

pub order_end : (there : ℕ → Bool) (f : ℕ → Data) (ms : List Member) (at : ℕ) (found : json.Members) → length ms ≤ at → put_from there f at (drop at ms) found ≡ found
order_end there f ms at found past = rw (drop_all at ms past) refl

-- where nothing is there, nothing goes in
none_put : (ms : List Member) (at : ℕ) (there : ℕ → Bool) (f : ℕ → Data) (found : json.Members) → ((i : ℕ) → there (at + i) ≡ false) → put_from there f at ms found ≡ found
none_put [] at there f found none = refl
none_put (m ∷ ms) at there f found none =
    let here : there at ≡ false = ap there (omega arith) ∙ none 0 in
    let later : (i : ℕ) → there (suc at + i) ≡ false = λ i. ap there (omega arith) ∙ none (suc i) in
    rw here (none_put ms (suc at) there f found later)

-- the members go in as a structure's slots do
slots_put : (ms : List Member) (ss : Slots) (at : ℕ) (there : ℕ → Bool) (f : ℕ → Data) (found : json.Members) → ((i : ℕ) → there (at + i) ≡ is_there_at ss i) → ((i : ℕ) → f (at + i) ≡ body_at ms ss i)
    → put_from there f at ms found ≡ slots_data (members_tree ms) ss found
slots_put [] ss at there f found here same = refl
slots_put (m ∷ ms) no_slots at there f found here same = none_put (m ∷ ms) at there f found here
slots_put (m ∷ ms) (one_slot absent ss) at there f found here same =
    let none : there at ≡ false = ap there (omega arith) ∙ here 0 in
    let later : (i : ℕ) → there (suc at + i) ≡ is_there_at ss i = λ i. ap there (omega arith) ∙ here (suc i) in
    let rest : (i : ℕ) → f (suc at + i) ≡ body_at ms ss i = λ i. ap f (omega arith) ∙ same (suc i) in
    rw none (slots_put ms ss (suc at) there f found later rest)
slots_put (m ∷ ms) (one_slot (present v) ss) at there f found here same =
    let some : there at ≡ true = ap there (omega arith) ∙ here 0 in
    let first : f at ≡ body_at (m ∷ ms) (one_slot (present v) ss) 0 = ap f (omega arith) ∙ same 0 in
    let later : (i : ℕ) → there (suc at + i) ≡ is_there_at ss i = λ i. ap there (omega arith) ∙ here (suc i) in
    let rest : (i : ℕ) → f (suc at + i) ≡ body_at ms ss i = λ i. ap f (omega arith) ∙ same (suc i) in
    rw (some, first, member_tree_is m, slots_put ms ss (suc at) there f _ later rest) refl

pub slots_are : (ms : List Member) (ss : Slots) → put_from (is_there_at ss) (body_at ms ss) 0 ms json.no_members ≡ slots_data (members_tree ms) ss json.no_members
slots_are ms ss = slots_put ms ss 0 (is_there_at ss) (body_at ms ss) json.no_members (λ i. ap (is_there_at ss) (omega arith)) (λ i. ap (body_at ms ss) (omega arith))
