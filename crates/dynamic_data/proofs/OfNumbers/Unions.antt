-- A union is read of an object as of another with the same discriminator, where the body of the selected case reads the same.
use Rattle.std.proofs.Common.{◌≡◌, refl, ℕ, ℤ, List, [], ◌∷◌, Bool, true, false, cond, Option, Some, None, Ok, option_and_then, bytes_eq, true≢false, sym, ap, subst, ◌∙◌}
use Rattle.std.specs.Bool.{MatchBool}
use Rattle.std.proofs.lemmas.Slice.Eq.{bytes_eq-Decides}
use Rattle.json.specs.Json as json
use Rattle.json.specs.Json.{Json}
use Rattle.json.specs.Find as find
use Rattle.json.specs.Find.{get, later_or}
use Rattle.json.specs.Print.{print}
use Rattle.json.specs.Tree.{json_tokens}
use Rattle.serde_json.specs.Data as rows
use Rattle.serde_json.specs.Data.{Data, put}
use Rattle.serde_json.specs.Find.{get_member}
use Rattle.serde_json.specs.Read.{of_json, of_members}
use Rattle.serde_json.proofs.Views.{get_member-put, get_member-put_other}
use Rattle.type_trees.specs.Bridge.{case_shapes}
use Rattle.type_trees.specs.Trees.{Tree, Cases}
use Rattle.xt_shapes.specs.declared.leaves.Step.{Step}
use Rattle.xt_shapes.specs.Select.{select}
use Rattle.xt_shapes.specs.Vals.{Val, number_in, union_of, present}
use Rattle.json_values.specs.declared.faults.JsonRule.{JsonRule}
use Rattle.json_values.specs.Steps.{Reading, beneath}
use Rattle.json_values.specs.Read.{value_of, case_reading, body_of, with_disc, union_where, has_other, if_json, read_as}
use Rattle.json_values.specs.Written.{disc_key, value_key}
use Rattle.dynamic_data.specs.numbers.Bits.{in_object, in_body}
use Rattle.dynamic_data.specs.numbers.Walks.{Turn, MembersTurn, ObjectTurns, BodyTurns, case_in, disc_in, read_number}
use Rattle.dynamic_data.proofs.OfNumbers.Onward.{Onward, and_then_some, beneath_ok, onward_mapped, onward_next, onward_unless}
use Rattle.dynamic_data.proofs.OfNumbers.Sound.{Sound, SoundMembers, sound_members, first_member, later_members}
use Rattle.dynamic_data.proofs.OfNumbers.Arrays.{Keeps, Comes}
use Rattle.dynamic_data.proofs.OfNumbers.Objects.{AtKey, KeysCome, MembersKeep, FoundKeep, get_kept, other_kept, object_come}

-- what a printed value means is what it is read as
abbrev pub Printed : Type 0
Printed = (t : Tree) (j : Json) → Sound j → read_as t (print (json_tokens j)) ≡ if_json t (of_json j)

-- ---- what stands at a key

-- what is found at a key of an object of JSON is found in its data
abbrev Linked : Option Json → Option Data → Option Data → Type 0
Linked None before after = after ≡ before
Linked (Some j) before after = (d : Data) × (of_json j ≡ Some d) × (after ≡ Some d) × Sound j

differs : (k key : List ℕ) → bytes_eq k key ≡ false → key ≡ k → ⊥
differs k key apart same = true≢false (sym ((bytes_eq-Decides k key).1 (sym same)) ∙ apart)

linked_here : (key k : List ℕ) (b : Bool) (j : Json) (d : Data) (found : rows.Members) (after : Option Data) → bytes_eq k key ≡ b → Sound j → of_json j ≡ Some d → after ≡ get_member key (put k d found)
    → Linked (cond b (Some j) None) (get_member key found) after
linked_here key k true j d found after is s of e =
    let same : k ≡ key = (bytes_eq-Decides k key).0 is in
    (d, of, e ∙ subst (λ m. get_member m (put k d found) ≡ Some d) same (get_member-put k d found), s)
linked_here key k false j d found after is s of e = e ∙ get_member-put_other key k d found (differs k key is)

linked_later : (later earlier : Option Json) (before middle after : Option Data) → Linked later middle after → (after ≡ middle → Linked earlier before after) → Linked (later_or later earlier) before after
linked_later None earlier before middle after h here = here h
linked_later (Some j) earlier before middle after h here = h

linked : (key : List ℕ) (js : json.Members) (found os : rows.Members) → SoundMembers js → of_members js found ≡ Some os → Linked (find.get_member key js) (get_member key found) (get_member key os)
linked key json.no_members found os s is =
    let same : os ≡ found = cc in
    ap (get_member key) same
linked key (json.member k j js) found os s is =
    let a = and_then_some (λ d. of_members js (put k d found)) (of_json j) os is in
    linked_later (find.get_member key js) (cond (bytes_eq k key) (Some j) None) (get_member key found) (get_member key (put k a.0 found)) (get_member key os) (linked key js (put k a.0 found) os (later_members k j js s) a.2)
    (linked_here key k (bytes_eq k key) j a.0 found (get_member key os) refl (first_member k j js s) a.1)

-- ---- the discriminator

number_read : (t : Tree) (o : Option Json) (d : Data) (v : Val) → Printed → Linked o None (Some d) → value_of t d ≡ Ok v → disc_in t o ≡ Some (number_in v)
number_read t None d v printed link reads = absurd cc
number_read t (Some j) d v printed link reads =
    let same : link.0 ≡ d = cc in
    ap read_number (printed t j link.3 ∙ ap (if_json t) (link.1 ∙ ap Some same) ∙ reads)

case_read : (disc : Tree) (cs : Cases) (js : json.Members) (os : rows.Members) (d : Data) (v : Val) → Printed → SoundMembers js → of_members js rows.no_members ≡ Some os → get_member disc_key os ≡ Some d → value_of disc d ≡ Ok v
    → case_in disc cs (json.object js) ≡ select (case_shapes cs) (number_in v)
case_read disc cs js os d v printed s is found reads =
    ap (option_and_then (select (case_shapes cs)))
    (number_read disc (find.get_member disc_key js) d v printed (subst (Linked (find.get_member disc_key js) None) found (linked disc_key js rows.no_members os s is)) reads)

-- no walk changes the discriminator
disc_at : (T : Turn) (key : List ℕ) (b : Bool) (j k : Json) → bytes_eq key disc_key ≡ b → BodyTurns T key j k → cond b (Some k) None ≡ cond b (Some j) None
disc_at T key true j k is turn =
    let same : key ≡ disc_key = (bytes_eq-Decides key disc_key).0 is in
    let kept : k ≡ j = subst (λ m. BodyTurns T m j k) same turn in
    ap Some kept
disc_at T key false j k is turn = refl

disc_kept : (T : Turn) (js ns : json.Members) → MembersTurn (BodyTurns T) js ns → find.get_member disc_key ns ≡ find.get_member disc_key js
disc_kept T json.no_members ns turn = ap (find.get_member disc_key) turn
disc_kept T (json.member key j js) ns turn =
    ap (find.get_member disc_key) turn.2 ∙ ap (λ o. later_or o (cond (bytes_eq key disc_key) (Some turn.0) None)) (disc_kept T js turn.1 turn.4)
    ∙ ap (later_or (find.get_member disc_key js)) (disc_at T key (bytes_eq key disc_key) j turn.0 refl turn.3)

got : (T : Turn) (j k : Json) → ObjectTurns (BodyTurns T) j k → get disc_key k ≡ get disc_key j
got T json.null k turn = ap (get disc_key) turn
got T (json.boolean b) k turn = ap (get disc_key) turn
got T (json.number n) k turn = ap (get disc_key) turn
got T (json.string t) k turn = ap (get disc_key) turn
got T (json.array js) k turn = ap (get disc_key) turn
got T (json.object js) k turn = ap (get disc_key) turn.1 ∙ disc_kept T js turn.0 turn.2

pub case_kept : (disc : Tree) (cs : Cases) (T : Turn) (j k : Json) → ObjectTurns (BodyTurns T) j k → case_in disc cs k ≡ case_in disc cs j
case_kept disc cs T j k turn = ap (λ o. option_and_then (select (case_shapes cs)) (disc_in disc o)) (got T j k turn)

-- ---- the body

abbrev pub CaseKeeps : Cases → Option ℕ → Data → Data → Type 0
CaseKeeps cs None d e = e ≡ d
CaseKeeps cs (Some id) d e = Keeps (case_reading cs id) d e

-- at the body's key the selected case reads the same, and at another the same stands
abbrev pub BodyKeeps : Cases → Option ℕ → AtKey
BodyKeeps cs o key d e = MatchBool (bytes_eq key value_key) (CaseKeeps cs o d e) (e ≡ d)

body_come_at : (cs : Cases) (o : Option ℕ) (T : Turn) (g : Json → Json) (b : Bool)
    → ((j k : Json) (d : Data) → Sound j → of_json j ≡ Some d → T j k → (e : Data) × (of_json (g k) ≡ Some e) × CaseKeeps cs o d e)
    → (j k : Json) (d : Data) → Sound j → of_json j ≡ Some d → MatchBool b (T j k) (k ≡ j) → (e : Data) × (of_json (cond b (g k) k) ≡ Some e) × MatchBool b (CaseKeeps cs o d e) (e ≡ d)
body_come_at cs o T g true step j k d s is turn = step j k d s is turn
body_come_at cs o T g false step j k d s is turn = (d, ap of_json turn ∙ is, refl)

pub body_come : (cs : Cases) (o : Option ℕ) (T : Turn) (g : Json → Json)
    → ((j k : Json) (d : Data) → Sound j → of_json j ≡ Some d → T j k → (e : Data) × (of_json (g k) ≡ Some e) × CaseKeeps cs o d e)
    → KeysCome (BodyKeeps cs o) (BodyTurns T) (in_body g)
body_come cs o T g step key j k d s is turn = body_come_at cs o T g (bytes_eq key value_key) step j k d s is turn

body_onward : (cs : Cases) (n : ℤ) (o : Option ℕ) (b c : Option Data) → FoundKeep (CaseKeeps cs o) b c → Onward (body_of n o (case_reading cs) b) (body_of n o (case_reading cs) c)
body_onward cs n None None c h = subst (λ x. Onward (body_of n None (case_reading cs) None) (body_of n None (case_reading cs) x)) (sym h) (λ v e. e)
body_onward cs n None (Some d) c h = λ v e. absurd cc
body_onward cs n (Some id) None c h = λ v e. absurd cc
body_onward cs n (Some id) (Some d) c h =
    subst (λ x. Onward (body_of n (Some id) (case_reading cs) (Some d)) (body_of n (Some id) (case_reading cs) x)) (sym h.1)
    (onward_mapped (λ v. union_of n (present v)) (case_reading cs id d) (case_reading cs id h.0) h.2)

-- ---- the union

abbrev part : Cases → ℤ → Option Data → Reading Val
part cs n body = body_of n (select (case_shapes cs) n) (case_reading cs) body

disc_onward : (disc : Tree) (cs : Cases) (o p : Option Data) (b c : Option Data) → FoundKeep (λ d e. e ≡ d) o p → ((d : Data) (v : Val) → o ≡ Some d → value_of disc d ≡ Ok v → Onward (part cs (number_in v) b) (part cs (number_in v) c))
    → Onward (with_disc (value_of disc) (part cs) o b) (with_disc (value_of disc) (part cs) p c)
disc_onward disc cs None p b c same more = λ v e. absurd cc
disc_onward disc cs (Some d) p b c same more =
    subst (λ x. Onward (with_disc (value_of disc) (part cs) (Some d) b) (with_disc (value_of disc) (part cs) x c)) (sym (same.1 ∙ ap Some same.2))
    (onward_next (beneath Step.Disc (value_of disc d)) (beneath Step.Disc (value_of disc d)) (λ v. part cs (number_in v) b) (λ v. part cs (number_in v) c) (λ v e. e)
    (λ v reads. more d v refl (beneath_ok Step.Disc (value_of disc d) v reads)))

union_kept : (disc : Tree) (cs : Cases) (js : json.Members) (os ps : rows.Members) → Printed → SoundMembers js → of_members js rows.no_members ≡ Some os → MembersKeep (BodyKeeps cs (case_in disc cs (json.object js))) os ps
    → Keeps (union_where (value_of disc) (part cs)) (rows.object os) (rows.object ps)
union_kept disc cs js os ps printed s is h =
    let o = case_in disc cs (json.object js) in
    let K = BodyKeeps cs o in
    let body : FoundKeep (CaseKeeps cs o) (get_member value_key os) (get_member value_key ps) = get_kept K value_key os ps h in
    onward_unless (has_other (disc_key ∷ value_key ∷ []) os) (has_other (disc_key ∷ value_key ∷ []) ps) JsonRule.Unknown _ _ (other_kept K (disc_key ∷ value_key ∷ []) os ps h)
    (disc_onward disc cs (get_member disc_key os) (get_member disc_key ps) (get_member value_key os) (get_member value_key ps) (get_kept K disc_key os ps h)
    (λ d v found reads. body_onward cs (number_in v) (select (case_shapes cs) (number_in v)) (get_member value_key os) (get_member value_key ps)
    (subst (λ q. FoundKeep (CaseKeeps cs q) (get_member value_key os) (get_member value_key ps)) (case_read disc cs js os d v printed s is found reads) body)))

sound_of : (j : Json) (js : json.Members) → j ≡ json.object js → Sound j → SoundMembers js
sound_of j js same s = sound_members js (subst Sound same s)

pub union_come : (disc : Tree) (cs : Cases) (S : Option ℕ → Turn) (g : Option ℕ → Json → Json) → Printed → ((o : Option ℕ) → KeysCome (BodyKeeps cs o) (BodyTurns (S o)) (in_body (g o)))
    → (j k : Json) (d : Data) → Sound j → of_json j ≡ Some d → ObjectTurns (BodyTurns (S (case_in disc cs j))) j k → Comes (union_where (value_of disc) (part cs)) (in_object (in_body (g (case_in disc cs k))) k) d
union_come disc cs S g printed step j k d s is turn =
    let o = case_in disc cs j in
    subst (λ q. Comes (union_where (value_of disc) (part cs)) (in_object (in_body (g q)) k) d) (sym (case_kept disc cs (S o) j k turn))
    (object_come (BodyKeeps cs o) (BodyTurns (S o)) (in_body (g o)) (union_where (value_of disc) (part cs)) (step o) j k d s is turn
    (λ js os ps same found h. union_kept disc cs js os ps printed (sound_of j js same s) found (subst (λ i. MembersKeep (BodyKeeps cs (case_in disc cs i)) os ps) same h)))
