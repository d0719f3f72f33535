-- Full names: their identifiers, and what is printed of them.
use Rattle.std.proofs.Common.{◌≡◌, ℕ, zero, suc, ◌≤◌, Bool, true, false, not, ◌&&◌, cond, eqb, List, [], ◌∷◌, ◌++◌, length, Ok, refl, sym, ap, ◌∙◌, subst, true≢false, append_assoc, length-append, arith}
use Rattle.std.proofs.lemmas.List.{append-nil}
use Rattle.std.proofs.lemmas.Bool.{eqb-true, not-true, and_parts}
use Rattle.std.specs.Prelude.{codes}
use Rattle.xt_shapes.specs.Lists.{all}
use Rattle.node_rules.specs.Names.{is_letter, is_word, is_identifier, is_scoped, goes_on, is_joined}
use Rattle.idl_tokens.specs.Classes.{Text}
use Rattle.idl_tokens.specs.Tokens.{skip}
use Rattle.idl_tokens.specs.Tokens as tokens
use Rattle.idl_input.specs.Words.{is_keyword}
use Rattle.idl_input.specs.Input.{turns, sees, after_if}
use Rattle.idl_types.specs.Names.{a_name, scoped}
use Rattle.idl_types.specs.Names as names
use Rattle.idl_printer.specs.Lines.{opening_text, openings_from, endings_from, last_from}
use Rattle.idl_laws.specs.Printable.{parts, parts_from, has_no_keyword}
use Rattle.idl_laws.proofs.Fronts.{ends, front_at, word_front, colons_front}
use Rattle.idl_laws.proofs.Steps.{at, Reads, sees_is, after_if_is, name_is, left_is}

-- an identifier that is no keyword
abbrev pub is_free : Text → Bool
is_free s = is_identifier s && not (is_keyword s)

-- the last identifier in its modules
abbrev pub joined : List Text → Text → Text
joined [] last = last
joined (s ∷ ss) last = s ++ 58 ∷ 58 ∷ joined ss last

-- the identifiers of a full name
pub record Spelt (full : Text) : Type 0 where
  pub path : List Text
  pub last : Text
  pub is : full ≡ joined path last
  pub free : (all is_free path && is_free last) ≡ true
  pub parted : parts full ≡ path ++ last ∷ []

-- ---- octets of identifiers

all_more : (f : ℕ → Bool) (s : Text) (b : ℕ) → all f s ≡ true → f b ≡ true → all f (s ++ b ∷ []) ≡ true
all_more f [] b e here = rw here refl
all_more f (a ∷ s) b e here = let both = and_parts (f a) (all f s) e in rw (both.0, all_more f s b both.1 here) refl

-- a colon is in no identifier
word_no_colon : (b : ℕ) → is_word b ≡ true → eqb b 58 ≡ false
word_no_colon b e = go (eqb b 58) refl
  where
    go : (t : Bool) → eqb b 58 ≡ t → eqb b 58 ≡ false
    go false h = h
    go true h = absurd (true≢false (sym (subst (λ n. is_word n ≡ true) (eqb-true b 58 h) e)))

letter_is_word : (b : ℕ) → is_letter b ≡ true → is_word b ≡ true
letter_is_word b e = rw e refl

letter_no_colon : (b : ℕ) → is_letter b ≡ true → eqb b 58 ≡ false
letter_no_colon b e = word_no_colon b (letter_is_word b e)

-- ---- a text whose beginning, behind a part of an identifier, is identifiers between colons

record Cut (part front text : Text) : Type 0 where
  path : List Text
  last : Text
  is : part ++ text ≡ front ++ joined path last
  words : (all is_identifier path && is_identifier last) ≡ true
  parted : parts_from part text ≡ path ++ last ∷ []

cut_end : (a : ℕ) (part : Text) → is_letter a ≡ true → all is_word part ≡ true → Cut (a ∷ part) [] []
cut_end a part letter words = record { path = []; last = a ∷ part; is = append-nil (a ∷ part); words = rw (letter, words) refl; parted = refl }

cut_word : (a b : ℕ) (part text : Text) → eqb b 58 ≡ false → Cut (a ∷ part ++ b ∷ []) [] text → Cut (a ∷ part) [] (b ∷ text)
cut_word a b part text other g = record {
  path = g.path;
  last = g.last;
  is = ap (λ t. a ∷ t) (sym (append_assoc part (b ∷ []) text)) ∙ g.is;
  words = g.words;
  parted = rw other g.parted;
}

cut_colon : (a b : ℕ) (part text : Text) → is_letter a ≡ true → all is_word part ≡ true → eqb b 58 ≡ true → Cut [] (58 ∷ []) text → Cut (a ∷ part) [] (b ∷ text)
cut_colon a b part text letter words colon g = record {
  path = (a ∷ part) ∷ g.path;
  last = g.last;
  is = ap (λ t. a ∷ part ++ t) (ap (λ n. n ∷ text) (eqb-true b 58 colon) ∙ ap (λ t. 58 ∷ t) g.is);
  words = rw (letter, words) g.words;
  parted = rw colon (ap (λ ps. (a ∷ part) ∷ ps) g.parted);
}

cut_more : (a b : ℕ) (part text : Text) → is_letter a ≡ true → all is_word part ≡ true → (all is_word (part ++ b ∷ []) ≡ true → goes_on text ≡ true → Cut (a ∷ part ++ b ∷ []) [] text) → (is_joined text ≡ true → Cut [] (58 ∷ []) text) → goes_on (b ∷ text) ≡ true → Cut (a ∷ part) [] (b ∷ text)
cut_more a b part text letter words on next e = by (is_word b) refl e
  where
    by : (t : Bool) → is_word b ≡ t → cond t (goes_on text) (eqb b 58 && is_joined text) ≡ true → Cut (a ∷ part) [] (b ∷ text)
    by true word e = cut_word a b part text (word_no_colon b word) (on (all_more is_word part b words word) e)
    by false other e = let both = and_parts (eqb b 58) (is_joined text) e in cut_colon a b part text letter words both.0 (next both.1)

cut_joined : (b : ℕ) (text : Text) → eqb b 58 ≡ true → Cut [] [] text → Cut [] (58 ∷ []) (b ∷ text)
cut_joined b text colon g = record {
  path = g.path;
  last = g.last;
  is = ap (λ n. n ∷ text) (eqb-true b 58 colon) ∙ ap (λ t. 58 ∷ t) g.is;
  words = g.words;
  parted = rw colon g.parted;
}

cut_letter : (a : ℕ) (text : Text) → is_letter a ≡ true → Cut (a ∷ []) [] text → Cut [] [] (a ∷ text)
cut_letter a text letter g = record {
  path = g.path;
  last = g.last;
  is = g.is;
  words = g.words;
  parted = rw (letter_no_colon a letter) g.parted;
}

mutual
  cut_on : (text : Text) (a : ℕ) (part : Text) → is_letter a ≡ true → all is_word part ≡ true → goes_on text ≡ true → Cut (a ∷ part) [] text
  cut_on [] a part letter words e = cut_end a part letter words
  cut_on (b ∷ text) a part letter words e = cut_more a b part text letter words (cut_on text a (part ++ b ∷ []) letter) (cut_behind text) e

  cut_behind : (text : Text) → is_joined text ≡ true → Cut [] (58 ∷ []) text
  cut_behind [] e = absurd (true≢false (sym e))
  cut_behind (b ∷ text) e = let both = and_parts (eqb b 58) (is_scoped text) e in cut_joined b text both.0 (cut text both.1)

  cut : (text : Text) → is_scoped text ≡ true → Cut [] [] text
  cut [] e = absurd (true≢false (sym e))
  cut (a ∷ text) e = let both = and_parts (is_letter a) (goes_on text) e in cut_letter a text both.0 (cut_on text a [] both.0 refl both.1)

each_parts : (s : Text) (ss : List Text) (last : Text) → (all is_identifier (s ∷ ss) && is_identifier last) ≡ true → (is_identifier s ≡ true) × ((all is_identifier ss && is_identifier last) ≡ true)
each_parts s ss last e =
    let outer = and_parts (is_identifier s && all is_identifier ss) (is_identifier last) e in
    let inner = and_parts (is_identifier s) (all is_identifier ss) outer.0 in
    (inner.0, rw (inner.1, outer.1) refl)

-- identifiers of which none is a keyword
each_free : (path : List Text) (last : Text) → (all is_identifier path && is_identifier last) ≡ true → all (λ s. not (is_keyword s)) (path ++ last ∷ []) ≡ true → (all is_free path && is_free last) ≡ true
each_free [] last words free = rw words (and_parts (not (is_keyword last)) true free).0
each_free (s ∷ ss) last words free =
    let e = each_parts s ss last words in
    let f = and_parts (not (is_keyword s)) (all (λ t. not (is_keyword t)) (ss ++ last ∷ [])) free in
    rw (e.0, f.0) (each_free ss last e.1 f.1)

pub spelt : (full : Text) → is_scoped full ≡ true → has_no_keyword full ≡ true → Spelt full
spelt full scopes no_keyword =
    let g = cut full scopes in
    record { path = g.path; last = g.last; is = g.is; free = each_free g.path g.last g.words (rw g.parted at no_keyword); parted = g.parted }

-- ---- what is printed of a full name

abbrev pub openings : List Text → Text
openings [] = []
openings (s ∷ ss) = codes "module " ++ s ++ codes " { " ++ openings ss

abbrev pub endings : List Text → Text
endings [] = []
endings (s ∷ ss) = codes " };" ++ endings ss

-- no octet is a colon
abbrev whole : Text → Bool
whole s = all (λ b. not (eqb b 58)) s

whole_parts : (b : ℕ) (s : Text) → whole (b ∷ s) ≡ true → (eqb b 58 ≡ false) × (whole s ≡ true)
whole_parts b s e = let both = and_parts (not (eqb b 58)) (whole s) e in (not-true (eqb b 58) both.0, both.1)

words_whole : (s : Text) → all is_word s ≡ true → whole s ≡ true
words_whole [] e = refl
words_whole (b ∷ s) e = let both = and_parts (is_word b) (all is_word s) e in rw (word_no_colon b both.0, words_whole s both.1) refl

openings_word : (part s z : Text) → whole s ≡ true → openings_from part (s ++ 58 ∷ z) ≡ opening_text (part ++ s) ++ openings_from [] z
openings_word part [] z e = rw append-nil refl
openings_word part (b ∷ s) z e =
    let both = whole_parts b s e in
    rw both.0 (openings_word (part ++ b ∷ []) s z both.1 ∙ ap (λ t. opening_text t ++ openings_from [] z) (append_assoc part (b ∷ []) s))

openings_last : (part s : Text) → whole s ≡ true → openings_from part s ≡ []
openings_last part [] e = refl
openings_last part (b ∷ s) e = let both = whole_parts b s e in rw both.0 (openings_last (part ++ b ∷ []) s both.1)

endings_word : (s z : Text) → whole s ≡ true → endings_from true (s ++ 58 ∷ z) ≡ codes " };" ++ endings_from false z
endings_word [] z e = refl
endings_word (b ∷ s) z e = let both = whole_parts b s e in rw both.0 (endings_word s z both.1)

endings_last : (begun : Bool) (s : Text) → whole s ≡ true → endings_from begun s ≡ []
endings_last begun [] e = refl
endings_last begun (b ∷ s) e = let both = whole_parts b s e in rw both.0 (endings_last true s both.1)

last_word : (part s z : Text) → whole s ≡ true → last_from part (s ++ 58 ∷ z) ≡ last_from [] z
last_word part [] z e = refl
last_word part (b ∷ s) z e = let both = whole_parts b s e in rw both.0 (last_word (part ++ b ∷ []) s z both.1)

last_last : (part s : Text) → whole s ≡ true → last_from part s ≡ part ++ s
last_last part [] e = sym (append-nil part)
last_last part (b ∷ s) e = let both = whole_parts b s e in rw both.0 (last_last (part ++ b ∷ []) s both.1 ∙ append_assoc part (b ∷ []) s)

-- ---- over all identifiers of a name

pub free_parts : (s : Text) (ss : List Text) (last : Text) → (all is_free (s ∷ ss) && is_free last) ≡ true → (is_free s ≡ true) × ((all is_free ss && is_free last) ≡ true)
free_parts s ss last e =
    let outer = and_parts (is_free s && all is_free ss) (is_free last) e in
    let inner = and_parts (is_free s) (all is_free ss) outer.0 in
    (inner.0, rw (inner.1, outer.1) refl)

pub free_word : (s : Text) → is_free s ≡ true → is_identifier s ≡ true
free_word s e = (and_parts (is_identifier s) (not (is_keyword s)) e).0

pub free_no_keyword : (s : Text) → is_free s ≡ true → is_keyword s ≡ false
free_no_keyword s e = not-true (is_keyword s) (and_parts (is_identifier s) (not (is_keyword s)) e).1

word_whole : (s : Text) → is_identifier s ≡ true → whole s ≡ true
word_whole [] e = refl
word_whole (b ∷ s) e = let both = and_parts (is_letter b) (all is_word s) e in rw (letter_no_colon b both.0, words_whole s both.1) refl

free_whole : (s : Text) → is_free s ≡ true → whole s ≡ true
free_whole s e = word_whole s (free_word s e)

opening_of : (s : Text) → is_identifier s ≡ true → opening_text s ≡ codes "module " ++ s ++ codes " { "
opening_of [] e = absurd (true≢false (sym e))
opening_of (b ∷ s) e = refl

openings_joined : (path : List Text) (last : Text) → (all is_free path && is_free last) ≡ true → openings_from [] (joined path last) ≡ openings path
openings_joined [] last free = openings_last [] last (free_whole last free)
openings_joined (s ∷ ss) last free =
    let both = free_parts s ss last free in
    openings_word [] s (58 ∷ joined ss last) (free_whole s both.0) ∙ rw (opening_of s (free_word s both.0), openings_joined ss last both.1) refl

ending_of : (s z : Text) → is_identifier s ≡ true → endings_from false (s ++ 58 ∷ z) ≡ codes " };" ++ endings_from false z
ending_of [] z e = absurd (true≢false (sym e))
ending_of (b ∷ s) z e = let both = whole_parts b s (word_whole (b ∷ s) e) in rw both.0 (endings_word s z both.1)

endings_joined : (path : List Text) (last : Text) → (all is_free path && is_free last) ≡ true → endings_from false (joined path last) ≡ endings path
endings_joined [] last free = endings_last false last (free_whole last free)
endings_joined (s ∷ ss) last free =
    let both = free_parts s ss last free in
    ending_of s (58 ∷ joined ss last) (free_word s both.0) ∙ ap (λ t. codes " };" ++ t) (endings_joined ss last both.1)

last_joined : (path : List Text) (last : Text) → (all is_free path && is_free last) ≡ true → last_from [] (joined path last) ≡ last
last_joined [] last free = last_last [] last (free_whole last free)
last_joined (s ∷ ss) last free = let both = free_parts s ss last free in last_word [] s (58 ∷ joined ss last) (free_whole s both.0) ∙ last_joined ss last both.1

pub openings_are : {full : Text} (n : Spelt full) → openings_from [] full ≡ openings n.path
openings_are n = ap (openings_from []) n.is ∙ openings_joined n.path n.last n.free

pub endings_are : {full : Text} (n : Spelt full) → endings_from false full ≡ endings n.path
endings_are n = ap (endings_from false) n.is ∙ endings_joined n.path n.last n.free

pub last_is : {full : Text} (n : Spelt full) → last_from [] full ≡ n.last
last_is n = ap (last_from []) n.is ∙ last_joined n.path n.last n.free

-- ---- a full name where it is read

-- what follows a full name
pub record EndsName (rest : Text) : Type 0 where
  pub over : ends rest ≡ true
  pub no_colons : tokens.sees (codes "::") rest ≡ false

-- no further identifier follows
sees_none : (rest : Text) → EndsName rest → (size : ℕ) → sees (codes "::") (at rest size) ≡ false
unfolding sees
sees_none rest over size = over.no_colons

after_none : (rest : Text) → EndsName rest → (size : ℕ) → after_if (codes "::") (at rest size) ≡ at rest size
unfolding after_if
after_none rest over size = rw (sees_none rest over size) refl

name_ends : (count : ℕ) (path : List Text) (last rest : Text) → EndsName rest → (size : ℕ) → names.parts_from count true path last (at rest size) ≡ Ok (a_name true path last, at rest size)
unfolding names.parts_from
name_ends zero path last rest over size = refl
name_ends (suc count) path last rest over size = rw (sees_none rest over size, after_none rest over size) refl

more_read : (path : List Text) (last : Text) (done : List Text) (current : Text) (count : ℕ) (rest : Text) → suc (length path) ≤ count → (all is_free path && is_free last) ≡ true → EndsName rest → (size : ℕ) → names.parts_from count true done current (at (58 ∷ 58 ∷ joined path last ++ rest) size) ≡ Ok (a_name true (done ++ current ∷ path) last, at rest size)
unfolding names.parts_from
more_read path last done current zero rest enough free over size = absurd (omega arith)
more_read [] last done current (suc count) rest enough free over size =
    let colons = colons_front (last ++ rest) in
    let word = word_front last rest (free_word last free) over.over in
    rw (sees_is colons refl size, after_if_is colons refl size, name_is word (free_no_keyword last free) size, name_ends count (done ++ current ∷ []) last rest over size) refl
more_read (s ∷ ss) last done current (suc count) rest enough free over size =
    let behind : Text = 58 ∷ 58 ∷ joined ss last ++ rest in
    let both = free_parts s ss last free in
    let colons = colons_front (s ++ behind) in
    let word = word_front s behind (free_word s both.0) refl in
    let on = more_read ss last (done ++ current ∷ []) s count rest (omega arith) both.1 over size in
    rw (append_assoc s (58 ∷ 58 ∷ joined ss last) rest, sees_is colons refl size, after_if_is colons refl size, name_is word (free_no_keyword s both.0) size, on, append_assoc done (current ∷ []) (s ∷ ss)) refl

joined_long : (path : List Text) (last : Text) → length path ≤ length (joined path last)
joined_long [] last = omega arith
joined_long (s ∷ ss) last = omega (arith, joined_long ss last, length-append s (58 ∷ 58 ∷ joined ss last))

-- each further identifier has an octet at least
turns_enough : (path : List Text) (last rest : Text) (size : ℕ) → suc (length path) ≤ turns (at (58 ∷ 58 ∷ joined path last ++ rest) size)
turns_enough path last rest size = omega (arith, left_is (colons_front (joined path last ++ rest)) size, joined_long path last, length-append (joined path last) rest)

scoped_is : (path : List Text) (last text rest : Text) → (all is_free path && is_free last) ≡ true → skip text ≡ skip (58 ∷ 58 ∷ joined path last ++ rest) → EndsName rest → Reads scoped text (a_name true path last) rest
unfolding scoped
scoped_is [] last text rest free begins over size =
    let colons = front_at text begins (colons_front (last ++ rest)) in
    let word = word_front last rest (free_word last free) over.over in
    rw (sees_is colons refl size, after_if_is colons refl size, name_is word (free_no_keyword last free) size, name_ends (turns (at rest size)) [] last rest over size) refl
scoped_is (s ∷ ss) last text rest free begins over size =
    let behind : Text = 58 ∷ 58 ∷ joined ss last ++ rest in
    let both = free_parts s ss last free in
    let begins_so = begins ∙ ap (λ t. skip (58 ∷ 58 ∷ t)) (append_assoc s (58 ∷ 58 ∷ joined ss last) rest) in
    let colons = front_at text begins_so (colons_front (s ++ behind)) in
    let word = word_front s behind (free_word s both.0) refl in
    let on = more_read ss last [] s (turns (at behind size)) rest (turns_enough ss last rest size) both.1 over size in
    rw (sees_is colons refl size, after_if_is colons refl size, name_is word (free_no_keyword s both.0) size, on) refl

-- a full name behind `::`
pub scoped_read : {full : Text} (n : Spelt full) (text rest : Text) → skip text ≡ skip (58 ∷ 58 ∷ full ++ rest) → EndsName rest → Reads scoped text (a_name true n.path n.last) rest
scoped_read n text rest begins over size = scoped_is n.path n.last text rest n.free (begins ∙ ap (λ t. skip (58 ∷ 58 ∷ t ++ rest)) n.is) over size
