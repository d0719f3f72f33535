-- Members of a structure are read as they are printed.
use Rattle.std.proofs.Common.{◌≡◌, ℕ, zero, suc, ◌≤◌, Bool, true, false, not, ◌&&◌, ◌||◌, List, [], ◌∷◌, ◌++◌, length, drop, Ok, refl, sym, ap, ◌∙◌, append_assoc, length-append, arith}
use Rattle.std.proofs.lemmas.List.{append-nil}
use Rattle.std.proofs.lemmas.Bool.{false≢true, not-true, and_parts, and_from, le-leb}
use Rattle.std.specs.Prelude.{codes, nat_le}
use Rattle.xt_shapes.specs.declared.leaves.Try.{Try}
use Rattle.xt_shapes.specs.Lists.{all}
use Rattle.type_trees.specs.declared.types.Name.{Name}
use Rattle.type_trees.specs.declared.types.Name.TheVariants as name_of
use Rattle.type_trees.specs.Trees.{Tree, Members, no_members, member, MemberHead}
use Rattle.type_rules.specs.Places.{depth}
use Rattle.node_rules.specs.Names.{is_identifier}
use Rattle.idl_tokens.specs.Classes.{Text}
use Rattle.idl_tokens.specs.Tokens.{skip}
use Rattle.idl_tokens.specs.Tokens as tokens
use Rattle.idl_tokens.specs.declared.tokens.TokenKind.TheVariants.{Word, Mark}
use Rattle.xt_annotations.specs.declared.notes.Note.{Note}
use Rattle.xt_annotations.specs.declared.notes.Note.TheVariants as note
use Rattle.xt_annotations.specs.declared.notes.Placed.{Placed}
use Rattle.xt_annotations.specs.declared.places.Site.{Site}
use Rattle.xt_annotations.specs.declared.places.Setting.{Setting}
use Rattle.xt_annotations.specs.Places.{allowed, setting, same_setting, is_wide}
use Rattle.xt_annotations.specs.Places.{has as has_setting}
use Rattle.xt_annotations.specs.Members.{with_note, with_notes}
use Rattle.idl_tokens.specs.names.Sets.{has}
use Rattle.idl_input.specs.Words.{is_keyword}
use Rattle.idl_input.specs.Input.{Parser, left}
use Rattle.idl_types.specs.State.{State}
use Rattle.idl_types.specs.Definitions.{ListedMembers, listed}
use Rattle.idl_definitions.specs.Lists.{comma_from, with_commas, braced_from}
use Rattle.idl_definitions.specs.Members.{Listed, new_name, gives_id, id_for, a_member, shaped, with_member, another, members_of_type}
use Rattle.idl_definitions.specs.Structures.{inherited, members}
use Rattle.idl_printer.specs.Words.{name_text, text_if, try_text, id_text}
use Rattle.idl_printer.specs.Uses.{dims_text, declarator_text}
use Rattle.idl_printer.specs.Parts.{member_notes, declared_text, member_text, members_text}
use Rattle.idl_laws.specs.Printable.{IsTyped}
use Rattle.idl_laws.proofs.Fronts.{Front, front_at, skip_blank, mark_front}
use Rattle.idl_laws.proofs.Steps.{at, Reads, not_seen, left_is, sees_is, after_if_is, want_is, name_is}
use Rattle.idl_laws.proofs.NoteTexts.{note_text, is_told, notes_text, notes_of}
use Rattle.idl_laws.proofs.Notes.{sets, fit_from, fit, behind_notes, notes_read}
use Rattle.idl_laws.proofs.Names.{is_free}
use Rattle.idl_laws.proofs.Scopes.{Knows}
use Rattle.idl_laws.proofs.Ahead.{sees_no, after_if_no, behind_skips}
use Rattle.idl_laws.proofs.Types.{try_notes, try_notes_text}
use Rattle.idl_laws.proofs.Declarators.{base_type, dims_of, dims_hold, EndsDeclarator, base_type_read, declarator_ends_notes, declarator_name, declarator_ends, dimensioned_read}

-- a name in full, free for an identifier, and not among earlier ones
pub record IsNewName (before : List Text) (n : Name) : Type 0 where
  pub s : Text
  pub is : n ≡ name_of.Full s
  pub free : is_free s ≡ true
  pub new : has s before ≡ false

-- members that are read, behind earlier names
abbrev pub AreMembers : State → List Text → Members → Type 0
AreMembers s before no_members = Unit {0}
AreMembers s before (member m t ms) =
    IsNewName before m.name × ((m.id ≤ 268435454) × ((IsTyped s.types t × ((depth t ≤ 16) × (dims_hold t ≡ true))) × AreMembers s (before ++ name_text m.name ∷ []) ms))

abbrev pub some_members : Members → Bool
some_members no_members = false
some_members (member m t ms) = true

-- ---- what the notes of a member say

abbrev pub noted_if : Bool → Note → List Note
noted_if true n = n ∷ []
noted_if false n = []

abbrev pub must_said : Bool → Try → List Note
must_said must tc = noted_if must (note.MustUnderstand true) ++ try_notes tc

abbrev pub optional_said : Bool → Bool → Try → List Note
optional_said optional must tc = noted_if optional (note.Optional true) ++ must_said must tc

abbrev pub key_said : Bool → Bool → Bool → Try → List Note
key_said key optional must tc = noted_if key (note.Key true) ++ optional_said optional must tc

-- the notes that are printed before a member
abbrev pub said : ℕ → Bool → Bool → Bool → Try → List Note
said id key optional must tc = note.Id id ∷ key_said key optional must tc

notes_text-append : (a b : List Note) → notes_text (a ++ b) ≡ notes_text a ++ notes_text b
notes_text-append [] b = refl
notes_text-append (n ∷ a) b = ap (λ (z : Text). note_text n ++ z) (notes_text-append a b) ∙ sym (append_assoc (note_text n) (notes_text a) (notes_text b))

pub noted_if_text : (b : Bool) (n : Note) → notes_text (noted_if b n) ≡ text_if b (note_text n)
noted_if_text true n = append-nil (note_text n)
noted_if_text false n = refl

five_parts : (a b c d e : Text) → a ++ (b ++ (c ++ (d ++ e))) ≡ (a ++ b ++ c ++ d) ++ e
five_parts a b c d e = simp append_assoc refl

key_said_text : (key optional must : Bool) (tc : Try)
    → notes_text (key_said key optional must tc) ≡ text_if key (codes "@key ") ++ (text_if optional (codes "@optional ") ++ (text_if must (codes "@must_understand ") ++ try_text tc))
key_said_text key optional must tc = simp (notes_text-append, noted_if_text, try_notes_text) refl

said_text : (id : ℕ) (key optional must : Bool) (tc : Try) → notes_text (said id key optional must tc) ≡ member_notes id key optional must ++ try_text tc
unfolding member_notes
said_text id key optional must tc =
    ap (λ (z : Text). id_text id ++ z) (key_said_text key optional must tc)
    ∙ five_parts (id_text id) (text_if key (codes "@key ")) (text_if optional (codes "@optional ")) (text_if must (codes "@must_understand ")) (try_text tc)

-- ---- each note of a member may be printed

all-append : (p : Note → Bool) (a b : List Note) → all p a ≡ true → all p b ≡ true → all p (a ++ b) ≡ true
all-append p [] b h k = k
all-append p (n ∷ a) b h k = let both = and_parts (p n) (all p a) h in and_from (p n) (all p (a ++ b)) both.0 (all-append p a b both.1 k)

pub noted_if_told : (b : Bool) (n : Note) → is_told n ≡ true → all is_told (noted_if b n) ≡ true
noted_if_told true n h = rw h refl
noted_if_told false n h = refl

pub try_told : (tc : Try) → all is_told (try_notes tc) ≡ true
try_told Try.Discard = refl
try_told Try.UseDefault = refl
try_told Try.Trim = refl

said_told : (id : ℕ) (key optional must : Bool) (tc : Try) → id ≤ 268435454 → all is_told (said id key optional must tc) ≡ true
said_told id key optional must tc fits =
    let last = all-append is_told (noted_if must (note.MustUnderstand true)) (try_notes tc) (noted_if_told must (note.MustUnderstand true) refl) (try_told tc) in
    let more = all-append is_told (noted_if optional (note.Optional true)) (must_said must tc) (noted_if_told optional (note.Optional true) refl) last in
    and_from (nat_le id 268435454) (all is_told (key_said key optional must tc)) (le-leb id 268435454 fits)
    (all-append is_told (noted_if key (note.Key true)) (optional_said optional must tc) (noted_if_told key (note.Key true) refl) more)

-- ---- and may stand there

sets_more : (s : Setting) (before : List Note) (n : Note) → sets s before ≡ false → same_setting (setting n) s ≡ false → sets s (before ++ n ∷ []) ≡ false
sets_more s [] n h k = rw k refl
sets_more s (b ∷ before) n h k =
    elim (same_setting (setting b) s) as (λ x. (x || sets s before) ≡ false → (x || sets s (before ++ n ∷ [])) ≡ false) [ true ↦ λ e. e | false ↦ λ e. sets_more s before n e k ] h

fit_if : (before : List Note) (b : Bool) (n : Note) (ns : List Note) → (not (is_wide Site.Member n) && allowed Site.Member (setting n)) ≡ true
    → not (same_setting (setting n) Setting.HashId) ≡ true → sets (setting n) before ≡ false
    → fit_from Site.Member before ns ≡ true → fit_from Site.Member (before ++ n ∷ []) ns ≡ true → fit_from Site.Member before (noted_if b n ++ ns) ≡ true
fit_if before true n ns may other unset without behind = rw (may, unset, other) behind
fit_if before false n ns may other unset without behind = without

try_fit : (before : List Note) (tc : Try) → sets Setting.TryConstruct before ≡ false → fit_from Site.Member before (try_notes tc) ≡ true
unfolding same_setting
try_fit before Try.Discard unset = refl
try_fit before Try.UseDefault unset = rw unset refl
try_fit before Try.Trim unset = rw unset refl

must_fit : (before : List Note) (must : Bool) (tc : Try) → sets Setting.MustUnderstand before ≡ false → sets Setting.TryConstruct before ≡ false
    → fit_from Site.Member before (must_said must tc) ≡ true
unfolding same_setting
must_fit before must tc own unset =
    let n : Note = note.MustUnderstand true in
    fit_if before must n (try_notes tc) refl refl own (try_fit before tc unset) (try_fit (before ++ n ∷ []) tc (sets_more Setting.TryConstruct before n unset refl))

optional_fit : (before : List Note) (optional must : Bool) (tc : Try) → sets Setting.Optional before ≡ false → sets Setting.MustUnderstand before ≡ false → sets Setting.TryConstruct before ≡ false
    → fit_from Site.Member before (optional_said optional must tc) ≡ true
unfolding same_setting
optional_fit before optional must tc own unset last =
    let n : Note = note.Optional true in
    fit_if before optional n (must_said must tc) refl refl own (must_fit before must tc unset last)
    (must_fit (before ++ n ∷ []) must tc (sets_more Setting.MustUnderstand before n unset refl) (sets_more Setting.TryConstruct before n last refl))

said_fit : (id : ℕ) (key optional must : Bool) (tc : Try) → fit Site.Member (said id key optional must tc) ≡ true
unfolding same_setting
said_fit id key optional must tc =
    let before : List Note = note.Id id ∷ [] in
    fit_if before key (note.Key true) (optional_said optional must tc) refl refl refl (optional_fit before optional must tc refl refl refl)
    (optional_fit (before ++ note.Key true ∷ []) optional must tc refl refl refl)

-- ---- the member that the notes give

abbrev with_list : List Note → MemberHead → MemberHead
with_list [] m = m
with_list (n ∷ ns) m = with_list ns (with_note n m)

with_notes_list : (placed : List Placed) (m : MemberHead) → with_notes placed m ≡ with_list (notes_of placed) m
with_notes_list [] m = refl
with_notes_list (p ∷ ps) m = with_notes_list ps (with_note p.note m)

abbrev pub head : ℕ → Name → Try → Bool → Bool → Bool → MemberHead
head id name tc optional must key = record { id = id; name = name; tc = tc; optional = optional; must_understand = must; key = key }

try_given : (id : ℕ) (name : Name) (key optional must : Bool) (tc : Try) → with_list (try_notes tc) (head id name Try.Discard optional must key) ≡ head id name tc optional must key
try_given id name key optional must Try.Discard = refl
try_given id name key optional must Try.UseDefault = refl
try_given id name key optional must Try.Trim = refl

must_given : (id : ℕ) (name : Name) (key optional must : Bool) (tc : Try) → with_list (must_said must tc) (head id name Try.Discard optional false key) ≡ head id name tc optional must key
must_given id name key optional true tc = try_given id name key optional true tc
must_given id name key optional false tc = try_given id name key optional false tc

optional_given : (id : ℕ) (name : Name) (key optional must : Bool) (tc : Try)
    → with_list (optional_said optional must tc) (head id name Try.Discard false false key) ≡ head id name tc optional must key
optional_given id name key true must tc = must_given id name key true must tc
optional_given id name key false must tc = must_given id name key false must tc

pub said_given : (id : ℕ) (s : Text) (key optional must : Bool) (tc : Try) (placed : List Placed) → notes_of placed ≡ said id key optional must tc
    → a_member placed 0 s ≡ head id (name_of.Full s) tc optional must key
said_given id s true optional must tc placed are = with_notes_list placed (head 0 (name_of.Full s) Try.Discard false false false) ∙ rw are (optional_given id (name_of.Full s) true optional must tc)
said_given id s false optional must tc placed are = with_notes_list placed (head 0 (name_of.Full s) Try.Discard false false false) ∙ rw are (optional_given id (name_of.Full s) false optional must tc)

has_setting_sets : (s : Setting) (placed : List Placed) → has_setting s placed ≡ sets s (notes_of placed)
has_setting_sets s [] = refl
has_setting_sets s (p ∷ ps) = ap (λ (z : Bool). same_setting (setting p.note) s || z) (has_setting_sets s ps)

-- the notes give the id
pub said_gives_id : (id : ℕ) (ns : List Note) (placed : List Placed) → notes_of placed ≡ note.Id id ∷ ns → gives_id placed ≡ true
unfolding same_setting
said_gives_id id ns placed are = ap (λ (z : Bool). z || has_setting Setting.HashId placed) (has_setting_sets Setting.Id placed ∙ ap (sets Setting.Id) are)

-- ---- a declarator behind a type

pub shaped_read : (known : List (Text × Tree)) (place : ℕ) (s : Text) (placed : List Placed) (hashed : Bool) (following : ℕ) (t : Tree) (rest : Text) → IsTyped known t → dims_hold t ≡ true
    → gives_id placed ≡ true → EndsDeclarator rest
    → Reads (shaped place s placed hashed following (base_type t)) (dims_text (dims_of t) ++ rest) (a_member placed 0 s, t) rest
unfolding shaped id_for
shaped_read known place s placed hashed following t rest typed holds gives over size = rw (dimensioned_read known t typed holds rest over size, gives) refl

another_read : (known : List (Text × Tree)) (s : Text) (placed : List Placed) (hashed : Bool) (r : Listed) (t : Tree) (text rest : Text) → Front Word s text (dims_text (dims_of t) ++ rest)
    → is_keyword s ≡ false → has s r.names ≡ false
    → IsTyped known t → dims_hold t ≡ true → gives_id placed ≡ true → EndsDeclarator rest → Reads (another placed hashed (base_type t) r) text (with_member r s (a_member placed 0 s, t)) rest
unfolding another new_name
another_read known s placed hashed r t text rest f free new typed holds gives over size =
    rw (name_is f free size, new, shaped_read known _ s placed hashed r.following t rest typed holds gives over size) refl

comma_one : {A : Type 0} (step : A → Parser A) (n : ℕ) (a b : A) (text rest : Text) (size : ℕ) → 1 ≤ n → step a (at text size) ≡ Ok (b, at rest size) → tokens.sees (codes ",") rest ≡ false
    → comma_from step n a (at text size) ≡ Ok (b, at rest size)
unfolding comma_from
comma_one step zero a b text rest size some reads over = absurd (omega arith)
comma_one step (suc n) a b text rest size some reads over = rw (reads, sees_no (codes ",") rest over size, after_if_no (codes ",") rest over size) refl

-- a free name has an octet
free_long : (s : Text) → is_free s ≡ true → 1 ≤ length s
free_long [] free = absurd (false≢true free)
free_long (b ∷ s) free = omega arith

-- a name in a list of one
one_read : (s : State) (name : Text) (placed : List Placed) (hashed : Bool) (r : Listed) (t : Tree) (rest : Text) → is_free name ≡ true → has name r.names ≡ false → IsTyped s.types t
    → dims_hold t ≡ true → gives_id placed ≡ true
    → Reads (with_commas (another placed hashed (base_type t)) r) (32 ∷ name ++ dims_text (dims_of t) ++ (59 ∷ rest)) (with_member r name (a_member placed 0 name, t)) (59 ∷ rest)
one_read s name placed hashed r t rest free new typed holds gives size =
    let over = declarator_ends rest in
    let f = declarator_name t name (59 ∷ rest) free over in
    let parts = and_parts (is_identifier name) (not (is_keyword name)) free in
    let text : Text = 32 ∷ name ++ dims_text (dims_of t) ++ (59 ∷ rest) in
    let some : 1 ≤ left (at text size) = omega (arith, left_is f size, free_long name free) in
    comma_one (another placed hashed (base_type t)) (left (at text size)) r (with_member r name (a_member placed 0 name, t)) text (59 ∷ rest) size some
    (another_read s.types name placed hashed r t text (59 ∷ rest) f (not-true (is_keyword name) parts.1) new typed holds gives over size) (not_seen (codes ",") (mark_front 59 rest refl) refl)

-- ---- a member

member_behind : (a b c rest : Text) → (a ++ (b ++ c ++ codes "; ")) ++ rest ≡ (a ++ b) ++ (c ++ (59 ∷ 32 ∷ rest))
member_behind a b c rest = simp append_assoc refl

member_parts : (id : ℕ) (key optional must : Bool) (tc : Try) (t : Tree) (name rest : Text)
    → (member_notes id key optional must ++ declared_text tc t name) ++ rest ≡ notes_text (said id key optional must tc) ++ (declarator_text t name ++ (59 ∷ 32 ∷ rest))
unfolding declared_text
member_parts id key optional must tc t name rest =
    member_behind (member_notes id key optional must) (try_text tc) (declarator_text t name) rest
    ∙ ap (λ (z : Text). z ++ (declarator_text t name ++ (59 ∷ 32 ∷ rest))) (sym (said_text id key optional must tc))

named_read : (s : State) → Knows s → (hashed : Bool) (r : Listed) (id : ℕ) (key optional must : Bool) (tc : Try) (t : Tree) (name : Text) → is_free name ≡ true → has name r.names ≡ false
    → id ≤ 268435454
    → IsTyped s.types t → depth t ≤ 16 → dims_hold t ≡ true → (text rest : Text) → skip text ≡ skip (notes_text (said id key optional must tc) ++ (declarator_text t name ++ (59 ∷ 32 ∷ rest)))
    → Reads (members_of_type s hashed r) text (with_member r name (head id (name_of.Full name) tc optional must key, t)) (32 ∷ rest)
unfolding members_of_type
named_read s knows hashed r id key optional must tc t name free new fits typed shallow holds text rest begins size =
    let notes = said id key optional must tc in
    let after : Text = 59 ∷ 32 ∷ rest in
    let body : Text = declarator_text t name ++ after in
    let over = declarator_ends (32 ∷ rest) in
    let n = notes_read Site.Member notes text body begins (said_told id key optional must tc fits) (said_fit id key optional must tc) (declarator_ends_notes s.types t name after typed) size in
    let reads_type = base_type_read s knows t name shallow typed free (behind_notes notes text body) after (behind_skips notes text body begins) over size in
    let reads_name = one_read s name n.placed hashed r t (32 ∷ rest) free new typed holds (said_gives_id id (key_said key optional must tc) n.placed n.are) size in
    rw (n.reads, reads_type, reads_name, want_is (mark_front 59 (32 ∷ rest) refl) refl size, said_given id name key optional must tc n.placed n.are) refl

member_read : (s : State) → Knows s → (hashed : Bool) (r : Listed) (m : MemberHead) (t : Tree) → IsNewName r.names m.name → m.id ≤ 268435454 → IsTyped s.types t → depth t ≤ 16 → dims_hold t ≡ true
    → (text rest : Text) → skip text ≡ skip (member_text m t ++ rest) → Reads (members_of_type s hashed r) text (with_member r (name_text m.name) (m, t)) (32 ∷ rest)
member_read s knows hashed r m t n fits typed shallow holds text rest begins size =
    let spelled : name_text m.name ≡ n.s = ap name_text n.is in
    let whole : head m.id (name_of.Full n.s) m.tc m.optional m.must_understand m.key ≡ m = ap (λ (z : Name). head m.id z m.tc m.optional m.must_understand m.key) (sym n.is) in
    let there = begins ∙ ap skip (member_parts m.id m.key m.optional m.must_understand m.tc t (name_text m.name) rest)
    ∙ ap (λ (z : Text). skip (notes_text (said m.id m.key m.optional m.must_understand m.tc) ++ (declarator_text t z ++ (59 ∷ 32 ∷ rest)))) spelled in
    named_read s knows hashed r m.id m.key m.optional m.must_understand m.tc t n.s n.free n.new fits typed shallow holds text rest there size
    ∙ ap (λ (z : MemberHead). Ok (with_member r n.s (z, t), at (32 ∷ rest) size)) whole ∙ ap (λ (z : Text). Ok (with_member r z (m, t), at (32 ∷ rest) size)) (sym spelled)

-- ---- members up to the closing brace

abbrev count : Members → ℕ
count no_members = 0
count (member m t ms) = suc (count ms)

-- what is gathered of members
abbrev gathered : Listed → Members → Listed
gathered r no_members = r
gathered r (member m t ms) = gathered (with_member r (name_text m.name) (m, t)) ms

gathered_members : (r : Listed) (ms : Members) → (gathered r ms).members ≡ r.members ++ listed ms
gathered_members r no_members = sym (append-nil r.members)
gathered_members r (member m t ms) = gathered_members (with_member r (name_text m.name) (m, t)) ms ∙ append_assoc r.members ((m, t) ∷ []) (listed ms)

-- a member begins by `@`
member_first : (m : MemberHead) (t : Tree) → member_text m t ≡ 64 ∷ drop 1 (member_text m t)
unfolding member_notes
member_first m t = refl

members_first : (m : MemberHead) (t : Tree) (ms : Members) (rest : Text) → members_text (member m t ms) ++ rest ≡ 64 ∷ (drop 1 (member_text m t) ++ members_text ms ++ rest)
members_first m t ms rest = ap (λ (z : Text). z ++ members_text ms ++ rest) (member_first m t)

members_front : (m : MemberHead) (t : Tree) (ms : Members) (text rest : Text) → skip text ≡ skip (members_text (member m t ms) ++ rest)
    → Front Mark (64 ∷ []) text (drop 1 (member_text m t) ++ members_text ms ++ rest)
members_front m t ms text rest begins = front_at text (begins ∙ ap skip (members_first m t ms rest)) (mark_front 64 (drop 1 (member_text m t) ++ members_text ms ++ rest) refl)

members_long : (ms : Members) → count ms ≤ length (members_text ms)
members_long no_members = omega arith
members_long (member m t ms) = omega (arith, members_long ms, length-append (member_text m t) (members_text ms), ap length (member_first m t))

members_within : (ms : Members) (text rest : Text) (size : ℕ) → some_members ms ≡ true → skip text ≡ skip (members_text ms ++ rest) → count ms ≤ left (at text size)
members_within no_members text rest size some begins = absurd (false≢true some)
members_within (member m t ms) text rest size some begins =
    omega (arith, left_is (members_front m t ms text rest begins) size, ap length (members_first m t ms rest), length-append (members_text (member m t ms)) rest, members_long (member m t ms))

-- one part in braces, before another one, and the last one
pub brace_step : {A : Type 0} (step : A → Parser A) (n : ℕ) (r next : A) (text rest : Text) (size : ℕ) → step r (at text size) ≡ Ok (next, at rest size) → tokens.sees (codes "}") rest ≡ false
    → braced_from step (suc n) r (at text size) ≡ braced_from step n next (at rest size)
unfolding braced_from
brace_step step n r next text rest size reads more = rw (reads, sees_no (codes "}") rest more size, after_if_no (codes "}") rest more size) refl

pub brace_last : {A : Type 0} (step : A → Parser A) (n : ℕ) (r next : A) (text left rest : Text) (size : ℕ) → step r (at text size) ≡ Ok (next, at left size) → Front Mark (codes "}") left rest
    → braced_from step (suc n) r (at text size) ≡ Ok (next, at rest size)
unfolding braced_from
brace_last step n r next text left rest size reads f = rw (reads, sees_is f refl size, after_if_is f refl size) refl

braced_read : (s : State) → Knows s → (hashed : Bool) (ms : Members) (n : ℕ) (r : Listed) → AreMembers s r.names ms → some_members ms ≡ true → count ms ≤ n → (text rest : Text)
    → skip text ≡ skip (members_text ms ++ (125 ∷ rest))
    → Reads (braced_from (members_of_type s hashed) n r) text (gathered r ms) rest
braced_read s knows hashed no_members n r are some within text rest begins size = absurd (false≢true some)
braced_read s knows hashed (member m t ms) zero r are some within text rest begins size = absurd (omega arith)
braced_read s knows hashed (member m t no_members) (suc n) r are some within text rest begins size =
    let there = begins ∙ ap skip (append_assoc (member_text m t) (members_text no_members) (125 ∷ rest)) in
    let over = front_at (32 ∷ 125 ∷ rest) (skip_blank (125 ∷ rest)) (mark_front 125 rest refl) in
    brace_last (members_of_type s hashed) n r (with_member r (name_text m.name) (m, t)) text (32 ∷ 125 ∷ rest) rest size
    (member_read s knows hashed r m t are.0 are.1.0 are.1.1.0.0 are.1.1.0.1.0 are.1.1.0.1.1 text (125 ∷ rest) there size) over
braced_read s knows hashed (member m t (member n2 t2 ms)) (suc n) r are some within text rest begins size =
    let next = with_member r (name_text m.name) (m, t) in
    let behind : Text = members_text (member n2 t2 ms) ++ (125 ∷ rest) in
    let there = begins ∙ ap skip (append_assoc (member_text m t) (members_text (member n2 t2 ms)) (125 ∷ rest)) in
    let more = not_seen (codes "}") (members_front n2 t2 ms (32 ∷ behind) (125 ∷ rest) (skip_blank behind)) refl in
    brace_step (members_of_type s hashed) n r next text (32 ∷ behind) size (member_read s knows hashed r m t are.0 are.1.0 are.1.1.0.0 are.1.1.0.1.0 are.1.1.0.1.1 text behind there size) more
    ∙ braced_read s knows hashed (member n2 t2 ms) n next are.1.1.1 refl (omega arith) (32 ∷ behind) rest (skip_blank behind) size

-- members behind those of a base, and the closing brace
pub members_read : (s : State) → Knows s → (hashed : Bool) (ms : Members) → AreMembers s [] ms → some_members ms ≡ true → (base : ListedMembers) (text rest : Text)
    → skip text ≡ skip (members_text ms ++ codes "}" ++ rest) → Reads (members s hashed base) text (base ++ listed ms) rest
members_read s knows hashed ms are some base text rest begins size =
    let there = begins ∙ ap skip (append_assoc (members_text ms) (codes "}") rest) in
    rw (
      braced_read s knows hashed ms (left (at text size)) (inherited base) are some (members_within ms text (125 ∷ rest) size some there) text rest there size,
      gathered_members (inherited base) ms,
    ) refl
