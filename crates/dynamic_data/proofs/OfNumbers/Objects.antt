-- Objects that have the same keys, and at each key data that go together.
use Rattle.std.proofs.Common.{◌≡◌, refl, ℕ, List, not, ◌&&◌, ◌||◌, Option, Some, None, is_some, option_map, option_and_then, Ordering, Less, Equal, Greater, is_eq, sym, ap, subst, ◌∙◌}
use Rattle.std.proofs.lemmas.Map.Text.{is_eq-slice_cmp}
use Rattle.std.proofs.lemmas.Slice.Eq.{bytes_eq-Decides}
use Rattle.std.specs.Cmp.Lexicographic.{slice_cmp}
use Rattle.std.specs.Ordering.{nat_cmp, match_ordering}
use Rattle.json.specs.Json as json
use Rattle.json.specs.Json.{Json}
use Rattle.serde_json.specs.Data as rows
use Rattle.serde_json.specs.Data.{Data, put}
use Rattle.serde_json.specs.Find.{get_member}
use Rattle.serde_json.specs.Read.{of_json, of_members}
use Rattle.type_trees.specs.Trees.{Members, no_members, member}
use Rattle.json_values.specs.Names.{name_text, is_among}
use Rattle.json_values.specs.Steps.{Reading}
use Rattle.json_values.specs.Read.{has_other, has_missing}
use Rattle.dynamic_data.specs.numbers.Bits.{each_member, in_object}
use Rattle.dynamic_data.specs.numbers.Walks.{Turn, MembersTurn, ObjectTurns}
use Rattle.dynamic_data.proofs.OfNumbers.Onward.{and_then_some, map_some}
use Rattle.dynamic_data.proofs.OfNumbers.Sound.{Sound, SoundMembers, sound_members, first_member, later_members}
use Rattle.dynamic_data.proofs.OfNumbers.Arrays.{Keeps, Comes, unturned}

-- what holds of two data at a key
abbrev pub AtKey : Type 1
AtKey = List ℕ → Data → Data → Type 0

abbrev pub MembersKeep : AtKey → rows.Members → rows.Members → Type 0
MembersKeep K rows.no_members es = es ≡ rows.no_members
MembersKeep K (rows.member k d ds) es = (e : Data) × (rest : rows.Members) × (es ≡ rows.member k e rest) × K k d e × MembersKeep K ds rest

abbrev pub FoundKeep : (Data → Data → Type 0) → Option Data → Option Data → Type 0
FoundKeep P None o = o ≡ None
FoundKeep P (Some d) o = (e : Data) × (o ≡ Some e) × P d e

pub same_key : (k l : List ℕ) → slice_cmp nat_cmp k l ≡ Equal → k ≡ l
same_key k l is = (bytes_eq-Decides k l).0 (sym (is_eq-slice_cmp k l) ∙ ap is_eq is)

put_at : (K : AtKey) (o : Ordering) (k l : List ℕ) (d e x y : Data) (ms rest : rows.Members) → slice_cmp nat_cmp k l ≡ o → K k d e → K l x y → MembersKeep K ms rest → MembersKeep K (put k d ms) (put k e rest)
    → MembersKeep K (match_ordering o (rows.member k d (rows.member l x ms)) (rows.member l d ms) (rows.member l x (put k d ms)))
    (match_ordering o (rows.member k e (rows.member l y rest)) (rows.member l e rest) (rows.member l y (put k e rest)))
put_at K Less k l d e x y ms rest is new old more later = (e, rows.member l y rest, refl, new, (y, rest, refl, old, more))
put_at K Equal k l d e x y ms rest is new old more later = (e, rest, refl, subst (λ m. K m d e) (same_key k l is) new, more)
put_at K Greater k l d e x y ms rest is new old more later = (y, put k e rest, refl, old, later)

put_kept : (K : AtKey) (k : List ℕ) (d e : Data) → K k d e → (ds es : rows.Members) → MembersKeep K ds es → MembersKeep K (put k d ds) (put k e es)
put_kept K k d e new rows.no_members es h = subst (λ m. MembersKeep K (rows.member k d rows.no_members) (put k e m)) (sym h) (e, rows.no_members, refl, new, refl)
put_kept K k d e new (rows.member l x ms) es h =
    subst (λ m. MembersKeep K (put k d (rows.member l x ms)) (put k e m)) (sym h.2) (put_at K (slice_cmp nat_cmp k l) k l d e x h.0 ms h.1 refl new h.3 h.4 (put_kept K k d e new ms h.1 h.4))

get_at : (K : AtKey) (o : Ordering) (k l : List ℕ) (x y : Data) (p q : Option Data) → slice_cmp nat_cmp k l ≡ o → K l x y → FoundKeep (K k) p q → FoundKeep (K k) (match_ordering o p (Some x) p) (match_ordering o q (Some y) q)
get_at K Less k l x y p q is here more = more
get_at K Equal k l x y p q is here more = (y, refl, subst (λ m. K m x y) (sym (same_key k l is)) here)
get_at K Greater k l x y p q is here more = more

pub get_kept : (K : AtKey) (k : List ℕ) (ds es : rows.Members) → MembersKeep K ds es → FoundKeep (K k) (get_member k ds) (get_member k es)
get_kept K k rows.no_members es h = ap (get_member k) h
get_kept K k (rows.member l x ms) es h =
    subst (λ m. FoundKeep (K k) (get_member k (rows.member l x ms)) (get_member k m)) (sym h.2)
    (get_at K (slice_cmp nat_cmp k l) k l x h.0 (get_member k ms) (get_member k h.1) refl h.3 (get_kept K k ms h.1 h.4))

pub other_kept : (K : AtKey) (names : List (List ℕ)) (ds es : rows.Members) → MembersKeep K ds es → has_other names es ≡ has_other names ds
other_kept K names rows.no_members es h = ap (has_other names) h
other_kept K names (rows.member l x ms) es h = ap (has_other names) h.2 ∙ ap (λ b. not (is_among l names) || b) (other_kept K names ms h.1 h.4)

found_same : (P : Data → Data → Type 0) (o q : Option Data) → FoundKeep P o q → is_some q ≡ is_some o
found_same P None q h = ap (λ x. is_some x) h
found_same P (Some d) q h = ap (λ x. is_some x) h.1

pub missing_kept : (K : AtKey) (ms : Members) (ds es : rows.Members) → MembersKeep K ds es → has_missing ms es ≡ has_missing ms ds
missing_kept K no_members ds es h = refl
missing_kept K (member head t ms) ds es h =
    let n = name_text head.name in
    ap (λ b. (not head.optional && not b) || has_missing ms es) (found_same (K n) (get_member n ds) (get_member n es) (get_kept K n ds es h))
    ∙ ap (λ b. (not head.optional && not (is_some (get_member n ds))) || b) (missing_kept K ms ds es h)

-- ---- from JSON

-- what may stand at each key goes with what stood there, after g
abbrev pub KeysCome : AtKey → (List ℕ → Turn) → (List ℕ → Json → Json) → Type 0
KeysCome K S g = (key : List ℕ) (j k : Json) (d : Data) → Sound j → of_json j ≡ Some d → S key j k → (e : Data) × (of_json (g key k) ≡ Some e) × K key d e

members_come : (K : AtKey) (S : List ℕ → Turn) (g : List ℕ → Json → Json) → KeysCome K S g → (js ns : json.Members) (found before os : rows.Members) → SoundMembers js → MembersKeep K found before → of_members js found ≡ Some os
    → MembersTurn S js ns → (ps : rows.Members) × (of_members (each_member g ns) before ≡ Some ps) × MembersKeep K os ps
members_come K S g step json.no_members ns found before os s kept is turn =
    let same : found ≡ os = cc in
    (before, ap (λ l. of_members (each_member g l) before) turn, subst (λ l. MembersKeep K l before) same kept)
members_come K S g step (json.member key j js) ns found before os s kept is turn =
    let a = and_then_some (λ d. of_members js (put key d found)) (of_json j) os is in
    let c = step key j turn.0 a.0 (first_member key j js s) a.1 turn.3 in
    let r = members_come K S g step js turn.1 (put key a.0 found) (put key c.0 before) os (later_members key j js s) (put_kept K key a.0 c.0 c.2 found before kept) a.2 turn.4 in (
      r.0,
      ap (λ l. of_members (each_member g l) before) turn.2 ∙ ap (option_and_then (λ d. of_members (each_member g turn.1) (put key d before))) c.1 ∙ r.1,
      r.2,
    )

pub object_come : {A : Type 0} (K : AtKey) (S : List ℕ → Turn) (g : List ℕ → Json → Json) (F : Data → Reading A) → KeysCome K S g → (j k : Json) (d : Data) → Sound j → of_json j ≡ Some d → ObjectTurns S j k
    → ((js : json.Members) (os ps : rows.Members) → j ≡ json.object js → of_members js rows.no_members ≡ Some os → MembersKeep K os ps → Keeps F (rows.object os) (rows.object ps)) → Comes F (in_object g k) d
object_come K S g F step json.null k d s is turn keep = unturned F (in_object g) json.null k d turn refl is
object_come K S g F step (json.boolean b) k d s is turn keep = unturned F (in_object g) (json.boolean b) k d turn refl is
object_come K S g F step (json.number n) k d s is turn keep = unturned F (in_object g) (json.number n) k d turn refl is
object_come K S g F step (json.string t) k d s is turn keep = unturned F (in_object g) (json.string t) k d turn refl is
object_come K S g F step (json.array js) k d s is turn keep = unturned F (in_object g) (json.array js) k d turn refl is
object_come K S g F step (json.object js) k d s is turn keep =
    let a = map_some rows.object (of_members js rows.no_members) d is in
    let r = members_come K S g step js turn.0 rows.no_members rows.no_members a.0 (sound_members js s) refl a.1 turn.2 in (
      rows.object r.0,
      ap (λ l. of_json (in_object g l)) turn.1 ∙ ap (option_map rows.object) r.1,
      subst (λ x. Keeps F x (rows.object r.0)) (sym a.2) (keep js a.0 r.0 refl a.1 r.2),
    )
