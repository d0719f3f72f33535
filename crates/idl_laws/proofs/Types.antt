-- Types are read where they are used.
use Rattle.std.proofs.Common.{◌≡◌, ℕ, zero, suc, ◌≤◌, Bool, true, false, List, [], ◌∷◌, ◌++◌, Option, Some, None, refl, sym, ap, ◌∙◌, append_assoc, arith}
use Rattle.std.specs.Prelude.{codes, max, decimal}
use Rattle.xt_shapes.specs.declared.leaves.Primitive.{Primitive}
use Rattle.xt_shapes.specs.declared.leaves.Primitive.TheVariants as prims
use Rattle.xt_shapes.specs.declared.leaves.Try.{Try}
use Rattle.xt_shapes.specs.Lists.{all}
use Rattle.node_rules.specs.Names.{is_identifier}
use Rattle.type_trees.specs.Trees.{Tree, prim, str, sequence, map_of, array, enumeration, bitmask, structure, union, alias}
use Rattle.type_rules.specs.Places.{depth}
use Rattle.idl_tokens.specs.Classes.{Text}
use Rattle.idl_tokens.specs.Tokens.{skip}
use Rattle.idl_tokens.specs.Tokens as tokens
use Rattle.idl_tokens.specs.declared.tokens.TokenKind.TheVariants.{Word}
use Rattle.xt_annotations.specs.declared.notes.Note.{Note}
use Rattle.xt_annotations.specs.declared.notes.Note.TheVariants as note
use Rattle.xt_annotations.specs.declared.notes.Placed.{Placed}
use Rattle.xt_annotations.specs.declared.places.Site.{Site}
use Rattle.xt_annotations.specs.Places.{same_setting}
use Rattle.idl_input.specs.declared.words.Keyword.{Keyword}
use Rattle.idl_input.specs.declared.words.Keyword.TheVariants as word
use Rattle.idl_input.specs.Words.{keyword}
use Rattle.idl_input.specs.Input.{Parser, sees_name, keyword_at}
use Rattle.idl_types.specs.State.{State}
use Rattle.idl_types.specs.Types.{type_to, a_type, plain_type, type_by, unsigned_type, long_type, string_type, last_bound, named_type, try_or, try_of, element, sequence_type, map_type, deep_type}
use Rattle.idl_printer.specs.Words.{prim_text, try_text, string_text, bound_text}
use Rattle.idl_printer.specs.Uses.{reference_text, type_text}
use Rattle.idl_laws.specs.Printable.{IsUse, IsNamed, IsBound, Stands}
use Rattle.idl_laws.proofs.Fronts.{Front, ends, front_at, skip_blank, word_front, mark_front, colons_front, some_octet}
use Rattle.idl_laws.proofs.Steps.{at, Reads, kind_is, next_is, sees_is, sees_not, after_if_is, after_if_not, want_is, is_other, not_seen, keyword_is, keyword_none, bound_is}
use Rattle.idl_laws.proofs.NoteTexts.{is_told, notes_text, notes_of}
use Rattle.idl_laws.proofs.Notes.{fit, EndsNotes, behind_notes, notes_read}
use Rattle.idl_laws.proofs.Names.{is_free}
use Rattle.idl_laws.proofs.Scopes.{Knows}
use Rattle.idl_laws.proofs.Ahead.{sees_no, after_if_no, free_not, word_at, behind_skips}

-- what follows a type
pub record EndsType (rest : Text) : Type 0 where
  pub over : ends rest ≡ true
  pub no_colons : tokens.sees (codes "::") rest ≡ false
  pub no_long : tokens.sees (codes "long") rest ≡ false
  pub no_bound : tokens.sees (codes "<") rest ≡ false

-- a name behind a blank follows
pub type_ends_at_name : (s rest : Text) → is_free s ≡ true → ends rest ≡ true → EndsType (32 ∷ s ++ rest)
unfolding keyword
type_ends_at_name s rest free over = record {
  over = refl;
  no_colons = free_not s rest (codes "::") free over refl;
  no_long = free_not s rest (codes "long") free over refl;
  no_bound = free_not s rest (codes "<") free over refl;
}

-- `)` follows
pub type_ends_at_parenthesis : (rest : Text) → EndsType (41 ∷ rest)
type_ends_at_parenthesis rest =
    let f = mark_front 41 rest refl in
    record { over = refl; no_colons = not_seen (codes "::") f refl; no_long = not_seen (codes "long") f refl; no_bound = not_seen (codes "<") f refl }

-- `,` follows
type_ends_at_comma : (rest : Text) → EndsType (44 ∷ rest)
type_ends_at_comma rest =
    let f = mark_front 44 rest refl in
    record { over = refl; no_colons = not_seen (codes "::") f refl; no_long = not_seen (codes "long") f refl; no_bound = not_seen (codes "<") f refl }

-- `>` follows
type_ends_at_angle : (rest : Text) → EndsType (62 ∷ rest)
type_ends_at_angle rest =
    let f = mark_front 62 rest refl in
    record { over = refl; no_colons = not_seen (codes "::") f refl; no_long = not_seen (codes "long") f refl; no_bound = not_seen (codes "<") f refl }

-- the bound of a collection follows
type_ends_at_bound : (n : ℕ) (rest : Text) → EndsType (bound_text n ++ rest)
type_ends_at_bound zero rest = type_ends_at_angle rest
type_ends_at_bound (suc n) rest = rw (some_octet n) (type_ends_at_comma (32 ∷ (decimal (suc n) ++ 62 ∷ []) ++ rest))

-- how many collections are nested
abbrev pub levels : Tree → ℕ
levels (sequence n tc t) = suc (levels t)
levels (map_of n kc k vc v) = suc (max (levels k) (levels v))
levels (array ds tc t) = 0
levels (prim p) = 0
levels (str n) = 0
levels (enumeration name ext bits ls) = 0
levels (bitmask name bits fs) = 0
levels (structure head ms) = 0
levels (union head disc cs) = 0
levels (alias name t) = 0

pub levels_below_depth : (t : Tree) → levels t ≤ depth t
levels_below_depth (sequence n tc t) = omega (arith, levels_below_depth t)
levels_below_depth (map_of n kc k vc v) = omega (arith, levels_below_depth k, levels_below_depth v)
levels_below_depth (array ds tc t) = omega arith
levels_below_depth (prim p) = omega arith
levels_below_depth (str n) = omega arith
levels_below_depth (enumeration name ext bits ls) = omega arith
levels_below_depth (bitmask name bits fs) = omega arith
levels_below_depth (structure head ms) = omega arith
levels_below_depth (union head disc cs) = omega arith
levels_below_depth (alias name t) = omega arith

-- ---- types that are no collections

abbrev is_plain : Option Keyword → Bool
is_plain (Some word.Sequence) = false
is_plain (Some word.Map) = false
is_plain _ = true

type_by_plain : (sequences maps : Parser Tree) (s : State) (k : Option Keyword) → is_plain k ≡ true → type_by sequences maps s k ≡ plain_type s k
type_by_plain sequences maps s (Some word.Sequence) h = absurd cc
type_by_plain sequences maps s (Some word.Map) h = absurd cc
type_by_plain sequences maps s k h = refl

-- a type of one level or another is read as one without collections
type_to_plain : (s : State) (n : ℕ) (k : Option Keyword) (text : Text) (size : ℕ) → keyword_at (at text size) ≡ k → is_plain k ≡ true → type_to s n (at text size) ≡ plain_type s k (at text size)
unfolding type_to
type_to_plain s zero k text size is plain = rw (is, type_by_plain (deep_type s) (deep_type s) s k plain) refl
type_to_plain s (suc n) k text size is plain = rw (is, type_by_plain (sequence_type (type_to s n)) (map_type (type_to s n)) s k plain) refl

-- a keyword begins a type that is no collection
word_read : (s : State) (n : ℕ) (w : Text) (k : Option Keyword) (text rest : Text) → Front Word w text rest → keyword w ≡ k → is_plain k ≡ true → (size : ℕ)
    → type_to s n (at text size) ≡ plain_type s k (at text size)
word_read s n w k text rest f is plain size = type_to_plain s n k text size (keyword_is f size ∙ is) plain

simple_read : (s : State) (n : ℕ) (w : Text) (p : Primitive) (text rest : Text) → Front Word w text rest → keyword w ≡ Some (word.Simple p) → Reads (type_to s n) text (prim p) rest
simple_read s n w p text rest f is size = rw (word_read s n w (Some (word.Simple p)) text rest f is refl size, next_is f size) refl

-- ---- `long` and `unsigned`

word_behind : (w rest : Text) → Front Word w (w ++ rest) rest → Front Word w (32 ∷ w ++ rest) rest
word_behind w rest f = front_at (32 ∷ w ++ rest) (skip_blank (w ++ rest)) f

long_read : (s : State) (n : ℕ) (text rest : Text) → Front Word (codes "long") text rest → EndsType rest → Reads (type_to s n) text (prim prims.Int32) rest
unfolding keyword long_type
long_read s n text rest f over size =
    rw (word_read s n (codes "long") (Some word.Long) text rest f refl refl size, next_is f size, sees_no (codes "long") rest over.no_long size, after_if_no (codes "long") rest over.no_long size) refl

long_long_read : (s : State) (n : ℕ) (text rest : Text) → Front Word (codes "long") text (32 ∷ codes "long" ++ rest) → EndsType rest → Reads (type_to s n) text (prim prims.Int64) rest
unfolding keyword long_type
long_long_read s n text rest f over size =
    let g = word_behind (codes "long") rest (word_front (codes "long") rest refl over.over) in
    rw (word_read s n (codes "long") (Some word.Long) text (32 ∷ codes "long" ++ rest) f refl refl size, next_is f size, sees_is g refl size, after_if_is g refl size) refl

unsigned_short_read : (s : State) (n : ℕ) (text rest : Text) → Front Word (codes "unsigned") text (32 ∷ codes "short" ++ rest) → EndsType rest → Reads (type_to s n) text (prim prims.Uint16) rest
unfolding keyword unsigned_type
unsigned_short_read s n text rest f over size =
    let g = word_behind (codes "short") rest (word_front (codes "short") rest refl over.over) in
    rw (word_read s n (codes "unsigned") (Some word.Unsigned) text (32 ∷ codes "short" ++ rest) f refl refl size, next_is f size, sees_is g refl size, after_if_is g refl size) refl

unsigned_long_read : (s : State) (n : ℕ) (text rest : Text) → Front Word (codes "unsigned") text (32 ∷ codes "long" ++ rest) → EndsType rest → Reads (type_to s n) text (prim prims.Uint32) rest
unfolding keyword unsigned_type
unsigned_long_read s n text rest f over size =
    let g = word_behind (codes "long") rest (word_front (codes "long") rest refl over.over) in
    rw (
      word_read s n (codes "unsigned") (Some word.Unsigned) text (32 ∷ codes "long" ++ rest) f refl refl size,
      next_is f size,
      sees_not (codes "short") g refl size,
      after_if_not (codes "short") g refl size,
      want_is g refl size,
      sees_no (codes "long") rest over.no_long size,
      after_if_no (codes "long") rest over.no_long size,
    ) refl

unsigned_long_long_read : (s : State) (n : ℕ) (text rest : Text) → Front Word (codes "unsigned") text (32 ∷ codes "long long" ++ rest) → EndsType rest
    → Reads (type_to s n) text (prim prims.Uint64) rest
unfolding keyword unsigned_type
unsigned_long_long_read s n text rest f over size =
    let g = word_behind (codes "long") (32 ∷ codes "long" ++ rest) (word_front (codes "long") (32 ∷ codes "long" ++ rest) refl refl) in
    let h = word_behind (codes "long") rest (word_front (codes "long") rest refl over.over) in
    rw (
      word_read s n (codes "unsigned") (Some word.Unsigned) text (32 ∷ codes "long long" ++ rest) f refl refl size,
      next_is f size,
      sees_not (codes "short") g refl size,
      after_if_not (codes "short") g refl size,
      want_is g refl size,
      sees_is h refl size,
      after_if_is h refl size,
    ) refl

prim_read : (s : State) (n : ℕ) (p : Primitive) (text rest : Text) → skip text ≡ skip (prim_text p ++ rest) → EndsType rest → Reads (type_to s n) text (prim p) rest
unfolding keyword
prim_read s n prims.Boolean text rest begins over = simple_read s n (codes "boolean") prims.Boolean text rest (word_at (codes "boolean") text rest begins refl over.over) refl
prim_read s n prims.Byte text rest begins over = simple_read s n (codes "octet") prims.Byte text rest (word_at (codes "octet") text rest begins refl over.over) refl
prim_read s n prims.Char8 text rest begins over = simple_read s n (codes "char") prims.Char8 text rest (word_at (codes "char") text rest begins refl over.over) refl
prim_read s n prims.Int8 text rest begins over = simple_read s n (codes "int8") prims.Int8 text rest (word_at (codes "int8") text rest begins refl over.over) refl
prim_read s n prims.Uint8 text rest begins over = simple_read s n (codes "uint8") prims.Uint8 text rest (word_at (codes "uint8") text rest begins refl over.over) refl
prim_read s n prims.Int16 text rest begins over = simple_read s n (codes "short") prims.Int16 text rest (word_at (codes "short") text rest begins refl over.over) refl
prim_read s n prims.Float32 text rest begins over = simple_read s n (codes "float") prims.Float32 text rest (word_at (codes "float") text rest begins refl over.over) refl
prim_read s n prims.Float64 text rest begins over = simple_read s n (codes "double") prims.Float64 text rest (word_at (codes "double") text rest begins refl over.over) refl
prim_read s n prims.Int32 text rest begins over = long_read s n text rest (word_at (codes "long") text rest begins refl over.over) over
prim_read s n prims.Int64 text rest begins over = long_long_read s n text rest (word_at (codes "long") text (32 ∷ codes "long" ++ rest) begins refl refl) over
prim_read s n prims.Uint16 text rest begins over = unsigned_short_read s n text rest (word_at (codes "unsigned") text (32 ∷ codes "short" ++ rest) begins refl refl) over
prim_read s n prims.Uint32 text rest begins over = unsigned_long_read s n text rest (word_at (codes "unsigned") text (32 ∷ codes "long" ++ rest) begins refl refl) over
prim_read s n prims.Uint64 text rest begins over = unsigned_long_long_read s n text rest (word_at (codes "unsigned") text (32 ∷ codes "long long" ++ rest) begins refl refl) over

-- ---- strings

string_read : (s : State) (n : ℕ) (text rest : Text) → skip text ≡ skip (codes "string" ++ rest) → EndsType rest → Reads (type_to s n) text (str 0) rest
unfolding keyword string_type
string_read s n text rest begins over size =
    let f = word_at (codes "string") text rest begins refl over.over in
    rw (word_read s n (codes "string") (Some word.Str) text rest f refl refl size, next_is f size, sees_no (codes "<") rest over.no_bound size, after_if_no (codes "<") rest over.no_bound size) refl

bounded_read : (s : State) (n bound : ℕ) (text rest : Text) → 1 ≤ bound → IsBound bound → skip text ≡ skip (codes "string<" ++ decimal bound ++ 62 ∷ rest) → Reads (type_to s n) text (str bound) rest
unfolding keyword string_type
bounded_read s n bound text rest some fits begins size =
    let f = word_at (codes "string") text (60 ∷ decimal bound ++ 62 ∷ rest) begins refl refl in
    let g = mark_front 60 (decimal bound ++ 62 ∷ rest) refl in
    rw (
      word_read s n (codes "string") (Some word.Str) text (60 ∷ decimal bound ++ 62 ∷ rest) f refl refl size,
      next_is f size,
      sees_is g refl size,
      after_if_is g refl size,
      bound_is bound (decimal bound ++ 62 ∷ rest) (62 ∷ rest) refl some fits refl size,
      want_is (mark_front 62 rest refl) refl size,
    ) refl

string_behind : (n : ℕ) (rest : Text) → string_text (suc n) ++ rest ≡ codes "string<" ++ decimal (suc n) ++ 62 ∷ rest
string_behind n rest = rw (some_octet n) (ap (λ z. codes "string<" ++ z) (append_assoc (decimal (suc n)) (62 ∷ []) rest))

str_read : (s : State) (n bound : ℕ) (text rest : Text) → IsBound bound → skip text ≡ skip (string_text bound ++ rest) → EndsType rest → Reads (type_to s n) text (str bound) rest
str_read s n zero text rest fits begins over = string_read s n text rest begins over
str_read s n (suc bound) text rest fits begins over = bounded_read s n (suc bound) text rest (omega arith) fits (begins ∙ ap skip (string_behind bound rest))

-- ---- the bound of a collection

last_bound_none : (text rest : Text) → skip text ≡ skip (62 ∷ rest) → Reads last_bound text 0 rest
unfolding last_bound
last_bound_none text rest begins size =
    let f = front_at text begins (mark_front 62 rest refl) in
    rw (sees_not (codes ",") f refl size, after_if_not (codes ",") f refl size, want_is f refl size) refl

last_bound_some : (n : ℕ) (text rest : Text) → 1 ≤ n → IsBound n → skip text ≡ skip (44 ∷ 32 ∷ decimal n ++ 62 ∷ rest) → Reads last_bound text n rest
unfolding last_bound
last_bound_some n text rest some fits begins size =
    let f = front_at text begins (mark_front 44 (32 ∷ decimal n ++ 62 ∷ rest) refl) in
    rw (
      sees_is f refl size,
      after_if_is f refl size,
      bound_is n (32 ∷ decimal n ++ 62 ∷ rest) (62 ∷ rest) (skip_blank (decimal n ++ 62 ∷ rest)) some fits refl size,
      want_is (mark_front 62 rest refl) refl size,
    ) refl

bound_behind : (n : ℕ) (rest : Text) → bound_text (suc n) ++ rest ≡ 44 ∷ 32 ∷ decimal (suc n) ++ 62 ∷ rest
bound_behind n rest = rw (some_octet n) (ap (λ (z : Text). 44 ∷ 32 ∷ z) (append_assoc (decimal (suc n)) (62 ∷ []) rest))

last_bound_read : (n : ℕ) (text rest : Text) → IsBound n → skip text ≡ skip (bound_text n ++ rest) → Reads last_bound text n rest
last_bound_read zero text rest fits begins = last_bound_none text rest begins
last_bound_read (suc n) text rest fits begins = last_bound_some (suc n) text rest (omega arith) fits (begins ∙ ap skip (bound_behind n rest))

-- ---- what stands before the type in a collection

abbrev pub try_notes : Try → List Note
try_notes Try.Discard = []
try_notes Try.UseDefault = note.TryConstruct Try.UseDefault ∷ []
try_notes Try.Trim = note.TryConstruct Try.Trim ∷ []

pub try_notes_text : (tc : Try) → notes_text (try_notes tc) ≡ try_text tc
try_notes_text Try.Discard = refl
try_notes_text Try.UseDefault = refl
try_notes_text Try.Trim = refl

try_notes_told : (tc : Try) → all is_told (try_notes tc) ≡ true
try_notes_told Try.Discard = refl
try_notes_told Try.UseDefault = refl
try_notes_told Try.Trim = refl

try_notes_fit : (tc : Try) → fit Site.Element (try_notes tc) ≡ true
unfolding same_setting
try_notes_fit Try.Discard = refl
try_notes_fit Try.UseDefault = refl
try_notes_fit Try.Trim = refl

abbrev try_said : List Note → Try
try_said [] = Try.Discard
try_said (n ∷ ns) = try_or n (try_said ns)

try_of_notes : (placed : List Placed) → try_of placed ≡ try_said (notes_of placed)
try_of_notes [] = refl
try_of_notes (p ∷ ps) = ap (try_or p.note) (try_of_notes ps)

try_said_is : (tc : Try) → try_said (try_notes tc) ≡ tc
try_said_is Try.Discard = refl
try_said_is Try.UseDefault = refl
try_said_is Try.Trim = refl

-- over whatever reads the type
element_read : (inner : Parser Tree) (tc : Try) (t : Tree) (text body rest : Text) → skip text ≡ skip (try_text tc ++ body) → EndsNotes body
    → ((here : Text) → skip here ≡ skip body → Reads inner here t rest)
    → Reads (element inner) text (tc, t) rest
unfolding element
element_read inner tc t text body rest begins over reads size =
    let first : skip text ≡ skip (notes_text (try_notes tc) ++ body) = begins ∙ ap (λ (z : Text). skip (z ++ body)) (sym (try_notes_text tc)) in
    let r = notes_read Site.Element (try_notes tc) text body first (try_notes_told tc) (try_notes_fit tc) over size in
    let said : try_of r.placed ≡ tc = try_of_notes r.placed ∙ ap try_said r.are ∙ try_said_is tc in
    rw (r.reads, reads (behind_notes (try_notes tc) text body) (behind_skips (try_notes tc) text body first) size, said) refl

-- ---- collections

sequence_read : (s : State) (n bound : ℕ) (tc : Try) (t : Tree) (text body rest : Text) → IsBound bound → skip text ≡ skip (codes "sequence<" ++ try_text tc ++ body) → EndsNotes body
    → ((here : Text) → skip here ≡ skip body → Reads (type_to s n) here t (bound_text bound ++ rest)) → Reads (type_to s (suc n)) text (sequence bound tc t) rest
unfolding type_to sequence_type keyword
sequence_read s n bound tc t text body rest fits begins over reads size =
    let f = word_at (codes "sequence") text (60 ∷ try_text tc ++ body) begins refl refl in
    let g = mark_front 60 (try_text tc ++ body) refl in
    rw (
      keyword_is f size,
      next_is f size,
      want_is g refl size,
      element_read (type_to s n) tc t (try_text tc ++ body) body (bound_text bound ++ rest) refl over reads size,
      last_bound_read bound (bound_text bound ++ rest) rest fits refl size,
    ) refl

map_read : (s : State) (n bound : ℕ) (kc vc : Try) (k v : Tree) (text key value rest : Text) → IsBound bound
    → skip text ≡ skip (codes "map<" ++ (try_text kc ++ (key ++ (44 ∷ 32 ∷ (try_text vc ++ value)))))
    → EndsNotes (key ++ (44 ∷ 32 ∷ (try_text vc ++ value)))
    → ((here : Text) → skip here ≡ skip (key ++ (44 ∷ 32 ∷ (try_text vc ++ value))) → Reads (type_to s n) here k (44 ∷ 32 ∷ (try_text vc ++ value)))
    → EndsNotes value → ((here : Text) → skip here ≡ skip value → Reads (type_to s n) here v (bound_text bound ++ rest)) → Reads (type_to s (suc n)) text (map_of bound kc k vc v) rest
unfolding type_to map_type keyword
map_read s n bound kc vc k v text key value rest fits begins over reads last ends_reads size =
    let behind_key : Text = 44 ∷ 32 ∷ (try_text vc ++ value) in
    let f = word_at (codes "map") text (60 ∷ (try_text kc ++ (key ++ behind_key))) begins refl refl in
    let g = mark_front 60 (try_text kc ++ (key ++ behind_key)) refl in
    let h = mark_front 44 (32 ∷ (try_text vc ++ value)) refl in
    rw (
      keyword_is f size,
      next_is f size,
      want_is g refl size,
      element_read (type_to s n) kc k (try_text kc ++ (key ++ behind_key)) (key ++ behind_key) behind_key refl over reads size,
      want_is h refl size,
      element_read (type_to s n) vc v (32 ∷ (try_text vc ++ value)) value (bound_text bound ++ rest) (skip_blank (try_text vc ++ value)) last ends_reads size,
      last_bound_read bound (bound_text bound ++ rest) rest fits refl size,
    ) refl

-- ---- types by their names

full_read : (s : State) → Knows s → (n : ℕ) (full : Text) (t : Tree) → Stands s.types full t → (text rest : Text) → skip text ≡ skip (58 ∷ 58 ∷ full ++ rest) → EndsType rest
    → Reads (type_to s n) text t rest
unfolding named_type sees_name
full_read s knows n full t stands text rest begins over size =
    let f = front_at text begins (colons_front (full ++ rest)) in
    rw (
      type_to_plain s n None text size (keyword_none f refl size) refl,
      kind_is f size,
      sees_is f refl size,
    ) (knows full t stands text rest begins (record { over = over.over; no_colons = over.no_colons }) size)

named_read : (s : State) → Knows s → (n : ℕ) (name : Option Text) (t : Tree) → IsNamed s.types name t → (text rest : Text) → skip text ≡ skip (reference_text name ++ rest) → EndsType rest
    → Reads (type_to s n) text t rest
named_read s knows n None t stands text rest begins over = absurd stands
named_read s knows n (Some full) t stands text rest begins over = full_read s knows n full t stands text rest begins over

-- ---- no note begins where a type does

word_ends_notes : (w rest : Text) → is_identifier w ≡ true → ends rest ≡ true → is_other Word w (codes "@") ≡ true → is_other Word w (codes "(") ≡ true → EndsNotes (w ++ rest)
word_ends_notes w rest is over no_note no_parameter = let f = word_front w rest is over in record { no_note = not_seen (codes "@") f no_note; no_parameter = not_seen (codes "(") f no_parameter }

prim_ends_notes : (p : Primitive) (rest : Text) → ends rest ≡ true → EndsNotes (prim_text p ++ rest)
prim_ends_notes prims.Boolean rest over = word_ends_notes (codes "boolean") rest refl over refl refl
prim_ends_notes prims.Byte rest over = word_ends_notes (codes "octet") rest refl over refl refl
prim_ends_notes prims.Char8 rest over = word_ends_notes (codes "char") rest refl over refl refl
prim_ends_notes prims.Int8 rest over = word_ends_notes (codes "int8") rest refl over refl refl
prim_ends_notes prims.Uint8 rest over = word_ends_notes (codes "uint8") rest refl over refl refl
prim_ends_notes prims.Int16 rest over = word_ends_notes (codes "short") rest refl over refl refl
prim_ends_notes prims.Float32 rest over = word_ends_notes (codes "float") rest refl over refl refl
prim_ends_notes prims.Float64 rest over = word_ends_notes (codes "double") rest refl over refl refl
prim_ends_notes prims.Int32 rest over = word_ends_notes (codes "long") rest refl over refl refl
prim_ends_notes prims.Int64 rest over = word_ends_notes (codes "long") (32 ∷ codes "long" ++ rest) refl refl refl refl
prim_ends_notes prims.Uint16 rest over = word_ends_notes (codes "unsigned") (32 ∷ codes "short" ++ rest) refl refl refl refl
prim_ends_notes prims.Uint32 rest over = word_ends_notes (codes "unsigned") (32 ∷ codes "long" ++ rest) refl refl refl refl
prim_ends_notes prims.Uint64 rest over = word_ends_notes (codes "unsigned") (32 ∷ codes "long long" ++ rest) refl refl refl refl

str_ends_notes : (n : ℕ) (rest : Text) → ends rest ≡ true → EndsNotes (string_text n ++ rest)
str_ends_notes zero rest over = word_ends_notes (codes "string") rest refl over refl refl
str_ends_notes (suc n) rest over = rw (string_behind n rest) (word_ends_notes (codes "string") (60 ∷ decimal (suc n) ++ 62 ∷ rest) refl refl refl refl)

name_ends_notes : (known : List (Text × Tree)) (name : Option Text) (t : Tree) (rest : Text) → IsNamed known name t → EndsNotes (reference_text name ++ rest)
name_ends_notes known None t rest stands = absurd stands
name_ends_notes known (Some full) t rest stands = let f = colons_front (full ++ rest) in record { no_note = not_seen (codes "@") f refl; no_parameter = not_seen (codes "(") f refl }

pub type_ends_notes : (known : List (Text × Tree)) (t : Tree) (rest : Text) → IsUse known t → ends rest ≡ true → EndsNotes (type_text t ++ rest)
type_ends_notes known (prim p) rest is_use over = prim_ends_notes p rest over
type_ends_notes known (str n) rest is_use over = str_ends_notes n rest over
type_ends_notes known (sequence n tc t) rest is_use over = word_ends_notes (codes "sequence") (60 ∷ ((try_text tc ++ type_text t) ++ bound_text n) ++ rest) refl refl refl refl
type_ends_notes known (map_of n kc k vc v) rest is_use over =
    word_ends_notes (codes "map") (60 ∷ ((try_text kc ++ type_text k) ++ codes ", " ++ (try_text vc ++ type_text v) ++ bound_text n) ++ rest) refl refl refl refl
type_ends_notes known (array ds tc t) rest is_use over = absurd is_use
type_ends_notes known (enumeration name ext bits ls) rest is_use over = name_ends_notes known name (enumeration name ext bits ls) rest is_use
type_ends_notes known (bitmask name bits fs) rest is_use over = name_ends_notes known name (bitmask name bits fs) rest is_use
type_ends_notes known (structure head ms) rest is_use over = name_ends_notes known head.name (structure head ms) rest is_use
type_ends_notes known (union head disc cs) rest is_use over = name_ends_notes known head.name (union head disc cs) rest is_use
type_ends_notes known (alias name t) rest is_use over = name_ends_notes known name (alias name t) rest is_use

-- ---- any type

sequence_behind : (a b c rest : Text) → ((a ++ b) ++ c) ++ rest ≡ a ++ (b ++ (c ++ rest))
sequence_behind a b c rest = simp append_assoc refl

map_behind : (a b c d e rest : Text) → ((((a ++ b) ++ codes ", ") ++ (c ++ d)) ++ e) ++ rest ≡ a ++ (b ++ (44 ∷ 32 ∷ (c ++ (d ++ (e ++ rest)))))
map_behind a b c d e rest = simp append_assoc refl

pub type_to_read : (s : State) → Knows s → (n : ℕ) (t : Tree) → levels t ≤ n → IsUse s.types t → (text rest : Text) → skip text ≡ skip (type_text t ++ rest) → EndsType rest
    → Reads (type_to s n) text t rest
type_to_read s knows n (prim p) within is_use text rest begins over = prim_read s n p text rest begins over
type_to_read s knows n (str bound) within is_use text rest begins over = str_read s n bound text rest is_use begins over
type_to_read s knows zero (sequence bound tc t) within is_use text rest begins over = absurd (omega arith)
type_to_read s knows (suc n) (sequence bound tc t) within is_use text rest begins over =
    let after : Text = bound_text bound ++ rest in
    let ended = type_ends_at_bound bound rest in
    sequence_read s n bound tc t text (type_text t ++ after) rest is_use.0 (begins
    ∙ ap (λ (z : Text). skip (codes "sequence<" ++ z)) (sequence_behind (try_text tc) (type_text t) (bound_text bound) rest))
    (type_ends_notes s.types t after is_use.1 ended.over) (λ here begins_here. type_to_read s knows n t (omega arith) is_use.1 here after begins_here ended)
type_to_read s knows zero (map_of bound kc k vc v) within is_use text rest begins over = absurd (omega arith)
type_to_read s knows (suc n) (map_of bound kc k vc v) within is_use text rest begins over =
    let after : Text = bound_text bound ++ rest in
    let value : Text = type_text v ++ after in
    let between : Text = 44 ∷ 32 ∷ (try_text vc ++ value) in
    let ended = type_ends_at_bound bound rest in
    let parted = type_ends_at_comma (32 ∷ (try_text vc ++ value)) in
    map_read s n bound kc vc k v text (type_text k) value rest is_use.0
    (begins ∙ ap (λ (z : Text). skip (codes "map<" ++ z)) (map_behind (try_text kc) (type_text k) (try_text vc) (type_text v) (bound_text bound) rest))
    (type_ends_notes s.types k between is_use.1.0 parted.over) (λ here begins_here. type_to_read s knows n k (omega arith) is_use.1.0 here between begins_here parted)
    (type_ends_notes s.types v after is_use.1.1 ended.over) (λ here begins_here. type_to_read s knows n v (omega arith) is_use.1.1 here after begins_here ended)
type_to_read s knows n (array ds tc t) within is_use text rest begins over = absurd is_use
type_to_read s knows n (enumeration name ext bits ls) within is_use text rest begins over = named_read s knows n name (enumeration name ext bits ls) is_use text rest begins over
type_to_read s knows n (bitmask name bits fs) within is_use text rest begins over = named_read s knows n name (bitmask name bits fs) is_use text rest begins over
type_to_read s knows n (structure head ms) within is_use text rest begins over = named_read s knows n head.name (structure head ms) is_use text rest begins over
type_to_read s knows n (union head disc cs) within is_use text rest begins over = named_read s knows n head.name (union head disc cs) is_use text rest begins over
type_to_read s knows n (alias name t) within is_use text rest begins over = named_read s knows n name (alias name t) is_use text rest begins over

pub type_read : (s : State) → Knows s → (t : Tree) → depth t ≤ 16 → IsUse s.types t → (text rest : Text) → skip text ≡ skip (type_text t ++ rest) → EndsType rest → Reads (a_type s) text t rest
type_read s knows t shallow is_use text rest begins over = type_to_read s knows 17 t (omega (arith, levels_below_depth t)) is_use text rest begins over
