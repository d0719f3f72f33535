-- Cases and unions are read as they are printed.
use Rattle.std.proofs.Common.{◌≡◌, refl, sym, ◌∙◌, ap, ℕ, zero, suc, ◌≤◌, Bool, true, false, not, ◌||◌, nat_le, List, [], ◌∷◌, ◌++◌, drop, length, Some, Ok, append_assoc, append-nil, length-append, arith}
use Rattle.std.proofs.lemmas.Bool.{false≢true, not-true, and_parts, and_from, le-leb}
use Rattle.std.specs.Prelude.{ℤ, codes}
use Rattle.xt_shapes.specs.declared.leaves.Try.{Try}
use Rattle.xt_shapes.specs.Lists.{all}
use Rattle.xt_shapes.specs.NodeRules.{not_empty}
use Rattle.type_trees.specs.declared.types.Name.{Name}
use Rattle.type_trees.specs.declared.types.Name.TheVariants as name_of
use Rattle.type_trees.specs.Trees.{Tree, union, UnionHead, Cases, no_cases, one_case, CaseHead}
use Rattle.type_trees.specs.View.{cases_of}
use Rattle.type_rules.specs.Places.{depth}
use Rattle.node_rules.specs.Names.{is_identifier}
use Rattle.xt_annotations.specs.declared.notes.Note.{Note}
use Rattle.xt_annotations.specs.declared.notes.Note.TheVariants as note
use Rattle.xt_annotations.specs.declared.notes.Placed.{Placed}
use Rattle.xt_annotations.specs.declared.places.Site.{Site}
use Rattle.xt_annotations.specs.Places.{same_setting}
use Rattle.idl_tokens.specs.declared.tokens.TokenKind.TheVariants.{Word, Mark}
use Rattle.idl_tokens.specs.Classes.{Text}
use Rattle.idl_tokens.specs.Tokens.{skip}
use Rattle.idl_tokens.specs.names.Sets.{has}
use Rattle.idl_input.specs.Words.{is_keyword}
use Rattle.idl_input.specs.Input.{place, left}
use Rattle.idl_types.specs.State.{State}
use Rattle.idl_definitions.specs.declared.settings.Settings.{Settings}
use Rattle.idl_definitions.specs.Lists.{braced_from, to_brace}
use Rattle.idl_definitions.specs.Members.{new_name}
use Rattle.idl_definitions.specs.Notes.{settings}
use Rattle.idl_definitions.specs.Unions.{Gathered, no_cases_yet, a_case, with_case, case, discriminator, union_def}
use Rattle.idl_printer.specs.Words.{name_text, text_if, try_text, id_text}
use Rattle.idl_printer.specs.Uses.{type_text, dims_text, declarator_text}
use Rattle.idl_printer.specs.Parts.{declared_text, label_text, labels_text, case_text, cases_text}
use Rattle.idl_laws.specs.Printable.{IsTyped, IsUse}
use Rattle.idl_laws.proofs.Fronts.{Front, front_at, skip_blank, word_front, mark_front}
use Rattle.idl_laws.proofs.Steps.{at, Reads, is_other, not_seen, left_is, next_is, want_is, name_is}
use Rattle.idl_laws.proofs.NoteTexts.{is_told, notes_text, notes_of}
use Rattle.idl_laws.proofs.Notes.{fit, behind_notes, notes_read, settings_are}
use Rattle.idl_laws.proofs.Names.{is_free}
use Rattle.idl_laws.proofs.Scopes.{Knows}
use Rattle.idl_laws.proofs.Ahead.{word_at, behind_skips, mark_at}
use Rattle.idl_laws.proofs.Types.{try_notes, try_notes_text, type_read, type_ends_notes, type_ends_at_parenthesis}
use Rattle.idl_laws.proofs.Declarators.{dims_of, dims_hold, base_type_read, declarator_ends_notes, declarator_name, declarator_ends}
use Rattle.idl_laws.proofs.Members.{IsNewName, noted_if, noted_if_text, noted_if_told, head, said_given, said_gives_id, shaped_read, try_told, brace_step, brace_last}
use Rattle.idl_laws.proofs.Labels.{EachLabel, EndsLabels, colon, all_labels, all_labels_step, labels_read}
use Rattle.idl_laws.proofs.Definitions.{IsNewType, ReadsMade, new_type_read}

-- ---- a case

-- the notes that are printed before a case
abbrev case_notes : ℕ → Try → List Note
case_notes id tc = note.Id id ∷ try_notes tc

case_told : (id : ℕ) (tc : Try) → id ≤ 268435454 → all is_told (case_notes id tc) ≡ true
case_told id tc fits = and_from (nat_le id 268435454) (all is_told (try_notes tc)) (le-leb id 268435454 fits) (try_told tc)

case_fit : (id : ℕ) (tc : Try) → fit Site.Case (case_notes id tc) ≡ true
unfolding same_setting
case_fit id Try.Discard = refl
case_fit id Try.UseDefault = refl
case_fit id Try.Trim = refl

-- what is printed of a case behind its labels
abbrev case_body : ℕ → Try → Tree → Text → Text → Text
case_body id tc t name rest = notes_text (case_notes id tc) ++ (declarator_text t name ++ (59 ∷ 32 ∷ rest))

body_ends_labels : (id : ℕ) (tc : Try) (t : Tree) (name rest : Text) → EndsLabels (case_body id tc t name rest)
body_ends_labels id tc t name rest =
    let body = case_body id tc t name rest in
    record { no_case = not_seen (codes "case") (mark_front 64 (drop 1 body) refl) refl; no_default = not_seen (codes "default") (mark_front 64 (drop 1 body) refl) refl }

case_named : (s : State) → Knows s → (hashed : Bool) (disc : Tree) (r : Gathered) (ls : List ℤ) (is_default : Bool) (id : ℕ) (tc : Try) (t : Tree) (name : Text) → (not_empty ls || is_default) ≡ true → EachLabel disc ls
    → is_free name ≡ true → has name r.names ≡ false → id ≤ 268435454 → IsTyped s.types t → depth t ≤ 16 → dims_hold t ≡ true
    → (text rest : Text) → skip text ≡ skip (all_labels disc ls is_default (case_body id tc t name rest))
    → Reads (case s hashed disc r) text (with_case r name (a_case ls is_default (head id (name_of.Full name) tc false false false, t))) (32 ∷ rest)
unfolding case new_name
case_named s knows hashed disc r ls is_default id tc t name some each free new fits typed shallow holds text rest begins size =
    let notes = case_notes id tc in
    let after : Text = 59 ∷ 32 ∷ rest in
    let body = declarator_text t name ++ after in
    let noted = case_body id tc t name rest in
    let over = declarator_ends (32 ∷ rest) in
    let reads_labels = labels_read disc ls is_default some each text noted begins (body_ends_labels id tc t name rest) size in
    let n = notes_read Site.Case notes (32 ∷ noted) body (skip_blank noted) (case_told id tc fits) (case_fit id tc) (declarator_ends_notes s.types t name after typed) size in
    let reads_type = base_type_read s knows t name shallow typed free (32 ∷ body) after (skip_blank body) over size in
    let word = and_parts (is_identifier name) (not (is_keyword name)) free in
    let reads_name = name_is (declarator_name t name after free over) (not-true (is_keyword name) word.1) size in
    let place = place (at (32 ∷ name ++ dims_text (dims_of t) ++ after) size) in
    let reads_shape = shaped_read s.types place name n.placed hashed r.following t after typed holds (said_gives_id id (try_notes tc) n.placed n.are) over size in
    rw (reads_labels, n.reads, reads_type, reads_name, new, reads_shape, want_is (mark_front 59 (32 ∷ rest) refl) refl size, said_given id name false false false tc n.placed n.are) refl

case_behind : (l d i y t rest : Text) → (l ++ d ++ i ++ (y ++ t ++ codes "; ")) ++ rest ≡ l ++ (d ++ ((i ++ y) ++ (t ++ (59 ∷ 32 ∷ rest))))
case_behind l d i y t rest = simp append_assoc

case_parts : (disc : Tree) (c : CaseHead) (t : Tree) (rest : Text) → case_text disc c t ++ rest ≡ all_labels disc c.labels c.is_default (case_body c.id c.tc t (name_text c.name) rest)
unfolding case_text declared_text
case_parts disc c t rest =
    let labels = labels_text disc c.labels in
    let default = text_if c.is_default (codes "default: ") in
    let declared = declarator_text t (name_text c.name) in
    case_behind labels default (id_text c.id) (try_text c.tc) declared rest ∙ ap (λ (z : Text). labels ++ (default ++ ((id_text c.id ++ z) ++ (declared ++ (59 ∷ 32 ∷ rest))))) (sym (try_notes_text c.tc))

case_read : (s : State) → Knows s → (hashed : Bool) (disc : Tree) (r : Gathered) (c : CaseHead) (t : Tree) → (not_empty c.labels || c.is_default) ≡ true → EachLabel disc c.labels → IsNewName r.names c.name → c.id ≤ 268435454
    → IsTyped s.types t → depth t ≤ 16 → dims_hold t ≡ true → (text rest : Text) → skip text ≡ skip (case_text disc c t ++ rest) → Reads (case s hashed disc r) text (with_case r (name_text c.name) (c, t)) (32 ∷ rest)
case_read s knows hashed disc r c t some each n fits typed shallow holds text rest begins size =
    let spelled : name_text c.name ≡ n.s = ap name_text n.is in
    let there = begins ∙ ap skip (case_parts disc c t rest) ∙ ap (λ (z : Text). skip (all_labels disc c.labels c.is_default (case_body c.id c.tc t z rest))) spelled in
    case_named s knows hashed disc r c.labels c.is_default c.id c.tc t n.s some each n.free n.new fits typed shallow holds text rest there size
    ∙ ap (λ (z : Name). Ok (with_case r n.s (record { id = c.id; name = z; tc = c.tc; labels = c.labels; is_default = c.is_default }, t), at (32 ∷ rest) size)) (sym n.is) ∙ ap (λ (z : Text). Ok (with_case r z (c, t), at (32 ∷ rest) size)) (sym spelled)

-- ---- cases up to the closing brace

-- cases that are read, behind earlier names
abbrev pub AreCases : State → Tree → List Text → Cases → Type 0
AreCases s disc before no_cases = Unit {0}
AreCases s disc before (one_case c t cs) =
    IsNewName before c.name × ((c.id ≤ 268435454) × ((((not_empty c.labels || c.is_default) ≡ true) × EachLabel disc c.labels) × ((IsTyped s.types t × ((depth t ≤ 16) × (dims_hold t ≡ true))) × AreCases s disc (before ++ name_text c.name ∷ []) cs)))

abbrev pub some_cases : Cases → Bool
some_cases no_cases = false
some_cases (one_case c t cs) = true

abbrev count : Cases → ℕ
count no_cases = 0
count (one_case c t cs) = suc (count cs)

-- what is gathered of cases
abbrev gathered : Gathered → Cases → Gathered
gathered r no_cases = r
gathered r (one_case c t cs) = gathered (with_case r (name_text c.name) (c, t)) cs

abbrev listed : Cases → List (CaseHead × Tree)
listed no_cases = []
listed (one_case c t cs) = (c, t) ∷ listed cs

cases_listed : (cs : Cases) → cases_of (listed cs) ≡ cs
cases_listed no_cases = refl
cases_listed (one_case c t cs) = ap (λ rest. one_case c t rest) (cases_listed cs)

gathered_cases : (r : Gathered) (cs : Cases) → (gathered r cs).cases ≡ r.cases ++ listed cs
gathered_cases r no_cases = sym (append-nil r.cases)
gathered_cases r (one_case c t cs) = gathered_cases (with_case r (name_text c.name) (c, t)) cs ∙ append_assoc r.cases ((c, t) ∷ []) (listed cs)

-- a word begins the text
record BeginsWord (text : Text) : Type 0 where
  word : Text
  more : Text
  is : text ≡ word ++ more
  front : Front Word word (word ++ more) more
  other : is_other Word word (codes "}") ≡ true

labels_begin : (disc : Tree) (ls : List ℤ) (is_default : Bool) (body : Text) → (not_empty ls || is_default) ≡ true → BeginsWord (all_labels disc ls is_default body)
labels_begin disc [] true body some = record { word = codes "default"; more = 58 ∷ 32 ∷ body; is = refl; front = word_front (codes "default") (58 ∷ 32 ∷ body) refl refl; other = refl }
labels_begin disc [] false body some = absurd (false≢true some)
labels_begin disc (n ∷ ns) is_default body some =
    let more = 32 ∷ (label_text disc n ++ colon (all_labels disc ns is_default body)) in
    record { word = codes "case"; more = more; is = all_labels_step disc n ns is_default body; front = word_front (codes "case") more refl refl; other = refl }

case_begins : (disc : Tree) (c : CaseHead) (t : Tree) (rest : Text) → (not_empty c.labels || c.is_default) ≡ true → BeginsWord (case_text disc c t ++ rest)
case_begins disc c t rest some =
    let body = case_body c.id c.tc t (name_text c.name) rest in
    let b = labels_begin disc c.labels c.is_default body some in
    record { word = b.word; more = b.more; is = case_parts disc c t rest ∙ b.is; front = b.front; other = b.other }

case_front : (text whole : Text) (b : BeginsWord whole) → skip text ≡ skip whole → Front Word b.word text b.more
case_front text whole b begins = front_at text (begins ∙ ap skip b.is) b.front

-- a case has a semicolon
case_long : (disc : Tree) (c : CaseHead) (t : Tree) → 1 ≤ length (case_text disc c t)
unfolding case_text declared_text
case_long disc c t =
    let labels = labels_text disc c.labels ++ text_if c.is_default (codes "default: ") ++ id_text c.id in
    let declared = try_text c.tc ++ declarator_text t (name_text c.name) in
    omega (arith, length-append labels (declared ++ codes "; "), length-append declared (codes "; "))

cases_long : (disc : Tree) (cs : Cases) → count cs ≤ length (cases_text disc cs)
cases_long disc no_cases = omega arith
cases_long disc (one_case c t cs) = omega (arith, cases_long disc cs, case_long disc c t, length-append (case_text disc c t) (cases_text disc cs))

cases_within : (s : State) (disc : Tree) (before : List Text) (cs : Cases) (text rest : Text) (size : ℕ) → AreCases s disc before cs → some_cases cs ≡ true → skip text ≡ skip (cases_text disc cs ++ rest) → count cs ≤ left (at text size)
cases_within s disc before no_cases text rest size are some begins = absurd (false≢true some)
cases_within s disc before (one_case c t cs) text rest size are some begins =
    let whole = cases_text disc (one_case c t cs) ++ rest in
    let split = append_assoc (case_text disc c t) (cases_text disc cs) rest in
    let b = case_begins disc c t (cases_text disc cs ++ rest) are.1.1.0.0 in
    let f = case_front text (case_text disc c t ++ (cases_text disc cs ++ rest)) b (begins ∙ ap skip split) in
    omega (arith, left_is f size, ap length b.is, ap length split, length-append b.word b.more, length-append (cases_text disc (one_case c t cs)) rest, cases_long disc (one_case c t cs))

braced_read : (s : State) → Knows s → (hashed : Bool) (disc : Tree) (cs : Cases) (n : ℕ) (r : Gathered) → AreCases s disc r.names cs → some_cases cs ≡ true → count cs ≤ n → (text rest : Text) → skip text ≡ skip (cases_text disc cs ++ (125 ∷ rest))
    → Reads (braced_from (case s hashed disc) n r) text (gathered r cs) rest
braced_read s knows hashed disc no_cases n r are some within text rest begins size = absurd (false≢true some)
braced_read s knows hashed disc (one_case c t cs) zero r are some within text rest begins size = absurd (omega arith)
braced_read s knows hashed disc (one_case c t no_cases) (suc n) r are some within text rest begins size =
    let there = begins ∙ ap skip (append_assoc (case_text disc c t) (cases_text disc no_cases) (125 ∷ rest)) in
    let over = front_at (32 ∷ 125 ∷ rest) (skip_blank (125 ∷ rest)) (mark_front 125 rest refl) in
    brace_last (case s hashed disc) n r (with_case r (name_text c.name) (c, t)) text (32 ∷ 125 ∷ rest) rest size
    (case_read s knows hashed disc r c t are.1.1.0.0 are.1.1.0.1 are.0 are.1.0 are.1.1.1.0.0 are.1.1.1.0.1.0 are.1.1.1.0.1.1 text (125 ∷ rest) there size) over
braced_read s knows hashed disc (one_case c t (one_case c2 t2 cs)) (suc n) r are some within text rest begins size =
    let next = with_case r (name_text c.name) (c, t) in
    let others = are.1.1.1.1 in
    let behind : Text = cases_text disc (one_case c2 t2 cs) ++ (125 ∷ rest) in
    let there = begins ∙ ap skip (append_assoc (case_text disc c t) (cases_text disc (one_case c2 t2 cs)) (125 ∷ rest)) in
    let b = case_begins disc c2 t2 (cases_text disc cs ++ (125 ∷ rest)) others.1.1.0.0 in
    let f = case_front (32 ∷ behind) (case_text disc c2 t2 ++ (cases_text disc cs ++ (125 ∷ rest))) b (skip_blank behind ∙ ap skip (append_assoc (case_text disc c2 t2) (cases_text disc cs) (125 ∷ rest))) in
    brace_step (case s hashed disc) n r next text (32 ∷ behind) size (case_read s knows hashed disc r c t are.1.1.0.0 are.1.1.0.1 are.0 are.1.0 are.1.1.1.0.0 are.1.1.1.0.1.0 are.1.1.1.0.1.1 text behind there size) (not_seen (codes "}") f b.other)
    ∙ braced_read s knows hashed disc (one_case c2 t2 cs) n next others refl (omega arith) (32 ∷ behind) rest (skip_blank behind) size

cases_read : (s : State) → Knows s → (hashed : Bool) (disc : Tree) (cs : Cases) → AreCases s disc [] cs → some_cases cs ≡ true → (text rest : Text) → skip text ≡ skip (cases_text disc cs ++ (125 ∷ rest)) → Reads (to_brace (case s hashed disc) no_cases_yet) text (gathered no_cases_yet cs) rest
cases_read s knows hashed disc cs are some text rest begins size =
    braced_read s knows hashed disc cs (left (at text size)) no_cases_yet are some (cases_within s disc [] cs text (125 ∷ rest) size are some begins) text rest begins size

-- ---- the discriminator

abbrev key_notes : Bool → List Note
key_notes key = noted_if key (note.Key true)

key_fits : (key : Bool) → fit Site.Discriminator (key_notes key) ≡ true
unfolding same_setting
key_fits true = refl
key_fits false = refl

key_is_said : (key : Bool) (placed : List Placed) → notes_of placed ≡ key_notes key → (settings placed).key ≡ key
key_is_said true placed are = rw (settings_are placed, are) refl
key_is_said false placed are = rw (settings_are placed, are) refl

-- what is printed behind a union's name, up to its cases
abbrev pub switch_body : Bool → Tree → Text → Text
switch_body key disc rest = codes "switch" ++ (32 ∷ 40 ∷ (text_if key (codes "@key ") ++ (type_text disc ++ (41 ∷ rest))))

discriminator_read : (s : State) → Knows s → (key : Bool) (disc : Tree) → depth disc ≤ 16 → IsUse s.types disc → (text rest : Text) → skip text ≡ skip (switch_body key disc rest) → Reads (discriminator s) text (disc, key) rest
unfolding discriminator
discriminator_read s knows key disc shallow is_use text rest begins size =
    let body = type_text disc ++ (41 ∷ rest) in
    let noted = text_if key (codes "@key ") ++ body in
    let front : Front Word (codes "switch") text (32 ∷ 40 ∷ noted) = word_at (codes "switch") text (32 ∷ 40 ∷ noted) begins refl refl in
    let open_mark : Front Mark (40 ∷ []) (32 ∷ 40 ∷ noted) noted = mark_at 40 (skip_blank (40 ∷ noted)) refl in
    let told : all is_told (key_notes key) ≡ true = noted_if_told key (note.Key true) refl in
    let texts : noted ≡ notes_text (key_notes key) ++ body = ap (λ (z : Text). z ++ body) (sym (noted_if_text key (note.Key true))) in
    let n = notes_read Site.Discriminator (key_notes key) noted body (ap skip texts) told (key_fits key) (type_ends_notes s.types disc (41 ∷ rest) is_use refl) size in
    let reads_type = type_read s knows disc shallow is_use (behind_notes (key_notes key) noted body) (41 ∷ rest) (behind_skips (key_notes key) noted body (ap skip texts)) (type_ends_at_parenthesis rest) size in
    rw (want_is front refl size, want_is open_mark refl size, n.reads, reads_type, want_is (mark_front 41 rest refl) refl size, key_is_said key n.placed n.are) refl

-- ---- the union

-- what is printed from the keyword on
abbrev pub union_body : Text → Bool → Tree → Cases → Text → Text
union_body name key disc cs rest = codes "union" ++ (32 ∷ (name ++ (32 ∷ switch_body key disc (32 ∷ 123 ∷ 32 ∷ (cases_text disc cs ++ (125 ∷ 59 ∷ rest))))))

pub union_read : (s : State) → Knows s → (set : Settings) (last full : Text) → IsNewType s last full → (head : UnionHead) (disc : Tree) (cs : Cases)
    → set.ext ≡ head.ext → set.nested ≡ head.nested → set.hashed ≡ head.hashed_ids → head.name ≡ Some full → depth disc ≤ 16 → IsUse s.types disc → AreCases s disc [] cs → some_cases cs ≡ true
    → (text rest : Text) → skip text ≡ skip (union_body last head.disc_key disc cs rest) → (size : ℕ) → ReadsMade (union_def s set) text last full (union head disc cs) rest size
unfolding union_def
union_read s knows set last full new head disc cs set_ext set_nested set_hashed is_named shallow is_use are some text rest begins size =
    let inside = 32 ∷ (cases_text disc cs ++ (125 ∷ 59 ∷ rest)) in
    let switch = switch_body head.disc_key disc (32 ∷ 123 ∷ inside) in
    let named = 32 ∷ (last ++ (32 ∷ switch)) in
    let front : Front Word (codes "union") text named = word_at (codes "union") text named begins refl refl in
    let name = new_type_read s last full new named (32 ∷ switch) (skip_blank (last ++ (32 ∷ switch))) refl size in
    let reads_disc = discriminator_read s knows head.disc_key disc shallow is_use (32 ∷ switch) (32 ∷ 123 ∷ inside) (skip_blank switch) size in
    let brace : Front Mark (123 ∷ []) (32 ∷ 123 ∷ inside) inside = mark_at 123 (skip_blank (123 ∷ inside)) refl in
    let reads_cases = cases_read s knows set.hashed disc cs are some inside (59 ∷ rest) (skip_blank (cases_text disc cs ++ (125 ∷ 59 ∷ rest))) size in
    record {
      made = record { at = place (at named size); name = last; full = full; tree = union (record { name = Some full; ext = set.ext; nested = set.nested; hashed_ids = set.hashed; disc_key = head.disc_key }) disc (cases_of (gathered no_cases_yet cs).cases); fits = true };
      reads = rw (next_is front size, name, reads_disc, want_is brace refl size, reads_cases, want_is (mark_front 59 rest refl) refl size) refl;
      named = refl;
      whole = refl;
      content = rw (set_ext, set_nested, set_hashed, gathered_cases no_cases_yet cs, cases_listed cs, ← is_named) refl;
      fitting = refl;
    }
