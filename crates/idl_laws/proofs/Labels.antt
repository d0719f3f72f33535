-- Labels of a union's cases are read as they are printed.
use Rattle.std.proofs.Common.{◌≡◌, refl, sym, ◌∙◌, ap, true≢false, ℕ, zero, suc, ◌≤◌, ◌<◌, Bool, true, false, ◌||◌, cond, List, [], ◌∷◌, ◌++◌, map, length, Option, Some, append_assoc, append-nil, length-append, arith, tests}
use Rattle.std.proofs.lemmas.Bool.{and_parts, and_from, not-true, or_parts, false_from_ne_true, not_from_false, cond_both}
use Rattle.std.specs.Prelude.{ℤ, pos, negsuc, codes, nat_lt, nat_le}
use Rattle.std.specs.Fmt.{signed_decimal}
use Rattle.std.specs.Ordering.{int_eq}
use Rattle.std.specs.Str.{bytes_eq}
use Rattle.std.proofs.lemmas.Bool.Decides.{Decides-int_eq, Decides-eqb}
use Rattle.xt_shapes.specs.declared.leaves.Ext.{Ext}
use Rattle.xt_shapes.specs.declared.leaves.Primitive.{Primitive}
use Rattle.xt_shapes.specs.Lists.{all}
use Rattle.xt_shapes.specs.Lists as lists
use Rattle.xt_shapes.specs.NodeRules.{not_empty}
use Rattle.xt_shapes.specs.Vals.{int}
use Rattle.xt_shapes.specs.Typing.{has_type}
use Rattle.type_trees.specs.declared.types.Literal.{Literal}
use Rattle.type_trees.specs.declared.types.Name.{Name}
use Rattle.type_trees.specs.declared.types.Name.TheVariants as name_of
use Rattle.type_trees.specs.Trees.{Tree, prim, str, enumeration, bitmask, sequence, array, map_of, structure, union, alias}
use Rattle.type_trees.specs.Bridge.{shape, literal_shape}
use Rattle.node_rules.specs.Names.{is_letter, is_identifier, name_fits}
use Rattle.idl_tokens.specs.names.Sets.{has}
use Rattle.idl_tokens.specs.declared.tokens.TokenKind.TheVariants.{Word, Number, Character, Mark}
use Rattle.idl_tokens.specs.Classes.{Text, is_printable}
use Rattle.idl_tokens.specs.Tokens.{skip}
use Rattle.idl_tokens.specs.Tokens as tokens
use Rattle.idl_input.specs.Input.{left, sees, sees_number, after_if}
use Rattle.idl_types.specs.Names.{a_name, scoped, parts_from}
use Rattle.idl_definitions.specs.Unions.{behind, is_named, truth_label, character_label, number_label, literal_label, value_named, label_by, label, labels_from, labels}
use Rattle.idl_printer.specs.Words.{name_text, text_if}
use Rattle.idl_printer.specs.Parts.{name_of_value, quoted_text, label_text, labels_text}
use Rattle.idl_laws.specs.Printable.{is_spelled, is_number, is_character, literal_fits, label_fits}
use Rattle.idl_laws.proofs.Fronts.{Front, front_at, skip_blank, character_front, colon_front}
use Rattle.idl_laws.proofs.Numbers.{signed_front, signed_of_decimal}
use Rattle.idl_laws.proofs.Steps.{at, Reads, kind_is, spelling_is, next_is, is_other, seen, not_seen, sees_is, sees_not, after_if_is, after_if_not, want_is, name_is, left_is, same_sees}
use Rattle.idl_laws.proofs.Names.{is_free, EndsName}
use Rattle.idl_laws.proofs.Distinct.{texts, texts_apart, text_is_same}
use Rattle.idl_laws.proofs.Ahead.{word_at, sees_blank}

-- a colon and a blank follow a label
abbrev pub colon : Text → Text
colon rest = 58 ∷ 32 ∷ rest

-- ---- numbers, characters and truth values

number_read : (n : ℤ) (text rest : Text) → skip text ≡ skip (signed_decimal n ++ colon rest) → is_number n ≡ true → Reads number_label text n (colon rest)
unfolding number_label sees_number
number_read n text rest begins fits size =
    let front : Front Number (signed_decimal n) text (colon rest) = front_at text begins (signed_front n (colon rest) fits refl) in
    rw (kind_is front size, spelling_is front size, signed_of_decimal n fits, next_is front size) refl

octet_is_low : (n : ℕ) → is_printable n ≡ true → nat_le n 255 ≡ true
octet_is_low n printable = let below = (and_parts (nat_le 32 n) (nat_le n 126) printable).1 in grind (arith, tests)

character_read : (n : ℤ) (text rest : Text) → skip text ≡ skip (quoted_text n ++ colon rest) → is_character n ≡ true → Reads character_label text n (colon rest)
unfolding character_label
character_read (pos n) text rest begins fits size =
    let low : nat_le n 255 ≡ true = octet_is_low n (and_parts _ _ fits).0 in
    let quoted : quoted_text (pos n) ≡ 39 ∷ n ∷ 39 ∷ [] = rw low refl in
    let front : Front Character (39 ∷ n ∷ 39 ∷ []) text (colon rest) = front_at text (begins ∙ ap (λ s. skip (s ++ colon rest)) quoted) (character_front n (colon rest) fits) in
    rw (kind_is front size, spelling_is front size, next_is front size) refl
character_read (negsuc n) text rest begins fits size = absurd (true≢false (sym fits))

not_below_two : (n : ℕ) → nat_lt (suc (suc n)) 2 ≡ true → ⊥
not_below_two n fits = grind (arith, tests)

truth_read : (n : ℤ) (text rest : Text) → skip text ≡ skip (label_text (prim Primitive.Boolean) n ++ colon rest) → has_type (shape (prim Primitive.Boolean)) (int n) ≡ true → Reads truth_label text n (colon rest)
unfolding truth_label has_type
truth_read (pos zero) text rest begins fits size =
    let front : Front Word (codes "FALSE") text (colon rest) = word_at (codes "FALSE") text (colon rest) begins refl refl in
    rw (sees_not (codes "TRUE") front refl size, after_if_not (codes "TRUE") front refl size, want_is front refl size) refl
truth_read (pos (suc zero)) text rest begins fits size =
    let front : Front Word (codes "TRUE") text (colon rest) = word_at (codes "TRUE") text (colon rest) begins refl refl in
    rw (sees_is front refl size, after_if_is front refl size) refl
truth_read (pos (suc (suc n))) text rest begins fits size = absurd (not_below_two n fits)
truth_read (negsuc n) text rest begins fits size = absurd (true≢false (sym fits))

-- ---- names of literals

parts_end : (n : ℕ) (rooted : Bool) (path : List Text) (last text : Text) → tokens.sees (codes "::") text ≡ false → Reads (parts_from n rooted path last) text (a_name rooted path last) text
unfolding parts_from sees after_if
parts_end zero rooted path last text none size = refl
parts_end (suc n) rooted path last text none size = rw none refl

-- no identifier begins with such an octet
no_letter : (b : ℕ) (w z : Text) → is_identifier w ≡ true → is_letter b ≡ false → bytes_eq w (b ∷ z) ≡ false
no_letter b [] z is other = absurd (true≢false (sym is))
no_letter b (a ∷ w) z is other =
    false_from_ne_true _ (λ same. true≢false (sym (and_parts _ _ is).0 ∙ (ap is_letter ((Decides-eqb a b).0 (and_parts _ _ same).0) ∙ other)))

name_scoped : (s text rest : Text) → is_free s ≡ true → skip text ≡ skip (s ++ rest) → EndsName rest → Reads scoped text (a_name false [] s) rest
unfolding scoped
name_scoped s text rest free begins over size =
    let word = and_parts _ _ free in
    let front : Front Word s text rest = word_at s text rest begins word.0 over.over in
    let other : is_other Word s (codes "::") ≡ true = not_from_false _ (no_letter 58 s (58 ∷ []) word.0 refl) in
    rw (sees_not (codes "::") front other size, after_if_not (codes "::") front other size, name_is front (not-true _ word.1) size, parts_end (left (at rest size)) false [] s rest over.no_colons size) refl

int_same : (a b : ℤ) → int_eq a b ≡ true → a ≡ b
int_same a b e = (Decides-int_eq a b).0 e

abbrev names : List Literal → List Name
names = map (λ l. l.name)

abbrev has_value : ℤ → List Literal → Bool
has_value n ls = lists.has (λ l. int_eq l.value n) ls

or_false_left : (a b : Bool) → (a || b) ≡ true → a ≡ false → b ≡ true
or_false_left true b e f = absurd (true≢false f)
or_false_left false b e f = e

-- the name of another literal is another
value_apart : (t : Text) (n : ℤ) (ls : List Literal) → has_value n ls ≡ true → has t (texts (names ls)) ≡ false → bytes_eq t (name_of_value n ls) ≡ false
value_apart t n [] there apart = absurd (true≢false (sym there))
value_apart t n (l ∷ ls) there apart =
    let each = or_parts _ _ apart in
    cond_both (int_eq l.value n) (name_text l.name) (name_of_value n ls) (λ z. bytes_eq t z ≡ false) (λ yes. each.0) (λ no. value_apart t n ls (or_false_left _ _ there no) each.1)

is_named_text : (n : Name) → is_spelled n ≡ true → is_named (name_text n) n ≡ true
is_named_text (name_of.Full s) spelled = text_is_same s
is_named_text (name_of.Hashed h) spelled = absurd (true≢false (sym spelled))

is_not_named : (n : Name) (s : Text) → is_spelled n ≡ true → bytes_eq (name_text n) s ≡ false → is_named s n ≡ false
is_not_named (name_of.Full t) s spelled other = other
is_not_named (name_of.Hashed h) s spelled other = absurd (true≢false (sym spelled))

named_by : (b : Bool) (l : Literal) (ls : List Literal) (n : ℤ) (s : Text) → int_eq l.value n ≡ b → is_spelled l.name ≡ true → (b ≡ false → (bytes_eq (name_text l.name) s ≡ false) × (value_named s ls ≡ Some n)) → value_named (cond b (name_text l.name) s) (l ∷ ls) ≡ Some n
named_by true l ls n s is spelled later = rw (is_named_text l.name spelled) (ap (λ v. Some v) (int_same l.value n is))
named_by false l ls n s is spelled later = rw (is_not_named l.name s spelled (later refl).0) (later refl).1

named_value : (n : ℤ) (ls : List Literal) → has_value n ls ≡ true → all literal_fits ls ≡ true → texts_apart (texts (names ls)) ≡ true → value_named (name_of_value n ls) ls ≡ Some n
named_value n [] there fits apart = absurd (true≢false (sym there))
named_value n (l ∷ ls) there fits apart =
    let each = and_parts _ _ fits in
    let parts = and_parts _ _ apart in
    named_by (int_eq l.value n) l ls n (name_of_value n ls) refl (and_parts _ _ each.0).0
    (λ no. let there = or_false_left _ _ there no in (value_apart (name_text l.name) n ls there (not-true _ parts.0), named_value n ls there each.1 parts.1))

free_name : (n : Name) → is_spelled n ≡ true → name_fits n ≡ true → is_free (name_text n) ≡ true
free_name (name_of.Full s) spelled fits = and_from _ _ (and_parts _ _ fits).1 spelled
free_name (name_of.Hashed h) spelled fits = absurd (true≢false (sym spelled))

value_free : (n : ℤ) (ls : List Literal) → has_value n ls ≡ true → all literal_fits ls ≡ true → all name_fits (names ls) ≡ true → is_free (name_of_value n ls) ≡ true
value_free n [] there fits named = absurd (true≢false (sym there))
value_free n (l ∷ ls) there fits named =
    let each = and_parts _ _ fits in
    let name = and_parts _ _ named in
    cond_both (int_eq l.value n) (name_text l.name) (name_of_value n ls) (λ z. is_free z ≡ true) (λ yes. free_name l.name (and_parts _ _ each.0).0 name.0) (λ no. value_free n ls (or_false_left _ _ there no) each.1 name.1)

literal_read : (ls : List Literal) (n : ℤ) (s text rest : Text) → value_named s ls ≡ Some n → is_free s ≡ true → skip text ≡ skip (s ++ colon rest) → Reads (literal_label ls) text n (colon rest)
unfolding literal_label
literal_read ls n s text rest named free begins size =
    rw (name_scoped s text (colon rest) free begins (record { over = refl; no_colons = not_seen (codes "::") (colon_front (32 ∷ rest) refl) refl }) size, named) refl

-- ---- labels

abbrev is_alias : Tree → Bool
is_alias (alias name t) = true
is_alias _ = false

behind_is_plain : (t : Tree) → is_alias (behind t) ≡ false
behind_is_plain (alias name t) = behind_is_plain t
behind_is_plain (prim p) = refl
behind_is_plain (str n) = refl
behind_is_plain (enumeration name ext bits ls) = refl
behind_is_plain (bitmask name bits fs) = refl
behind_is_plain (sequence n tc t) = refl
behind_is_plain (array ds tc t) = refl
behind_is_plain (map_of n kc k vc v) = refl
behind_is_plain (structure head ms) = refl
behind_is_plain (union head disc cs) = refl

label_behind : (t : Tree) (n : ℤ) → label_text t n ≡ label_text (behind t) n
label_behind (alias name t) n = label_behind t n
label_behind (prim p) n = refl
label_behind (str m) n = refl
label_behind (enumeration name ext bits ls) n = refl
label_behind (bitmask name bits fs) n = refl
label_behind (sequence m tc t) n = refl
label_behind (array ds tc t) n = refl
label_behind (map_of m kc k vc v) n = refl
label_behind (structure head ms) n = refl
label_behind (union head disc cs) n = refl

shape_behind : (t : Tree) → shape t ≡ shape (behind t)
shape_behind (alias name t) = shape_behind t
shape_behind (prim p) = refl
shape_behind (str m) = refl
shape_behind (enumeration name ext bits ls) = refl
shape_behind (bitmask name bits fs) = refl
shape_behind (sequence m tc t) = refl
shape_behind (array ds tc t) = refl
shape_behind (map_of m kc k vc v) = refl
shape_behind (structure head ms) = refl
shape_behind (union head disc cs) = refl

-- the names of an enumeration's literals fit and are apart
abbrev pub LiteralsApart : Tree → Type 0
LiteralsApart (enumeration name ext bits ls) = (all name_fits (names ls) ≡ true) × (texts_apart (texts (names ls)) ≡ true)
LiteralsApart _ = Unit {0}

value_there : (n : ℤ) (ls : List Literal) → lists.has (λ l. int_eq l.value n) (map literal_shape ls) ≡ has_value n ls
value_there n [] = refl
value_there n (l ∷ ls) = ap (λ b. int_eq l.value n || b) (value_there n ls)

abbrev pub IsLabel : Tree → ℤ → Type 0
IsLabel disc n = (text rest : Text) → skip text ≡ skip (label_text disc n ++ colon rest) → Reads (label disc) text n (colon rest)

abbrev IsLabelOf : Tree → ℤ → Type 0
IsLabelOf t n = (text rest : Text) → skip text ≡ skip (label_text t n ++ colon rest) → Reads (label_by t) text n (colon rest)

enumeration_label : (name : Option Text) (ext : Ext) (bits : ℕ) (ls : List Literal) (n : ℤ) → all literal_fits ls ≡ true → has_type (shape (enumeration name ext bits ls)) (int n) ≡ true → LiteralsApart (enumeration name ext bits ls) → IsLabelOf (enumeration name ext bits ls) n
unfolding has_type
enumeration_label name ext bits ls n fits typed apart text rest begins =
    let there : has_value n ls ≡ true = sym (value_there n ls) ∙ typed in
    literal_read ls n (name_of_value n ls) text rest (named_value n ls there fits apart.1) (value_free n ls there fits apart.0) begins

prim_label : (p : Primitive) (n : ℤ) → label_fits (prim p) n ≡ true → has_type (shape (prim p)) (int n) ≡ true → IsLabelOf (prim p) n
prim_label Primitive.Boolean n fits typed text rest begins = truth_read n text rest begins typed
prim_label Primitive.Char8 n fits typed text rest begins = character_read n text rest begins fits
prim_label Primitive.Byte n fits typed text rest begins = number_read n text rest begins fits
prim_label Primitive.Int8 n fits typed text rest begins = number_read n text rest begins fits
prim_label Primitive.Uint8 n fits typed text rest begins = number_read n text rest begins fits
prim_label Primitive.Int16 n fits typed text rest begins = number_read n text rest begins fits
prim_label Primitive.Uint16 n fits typed text rest begins = number_read n text rest begins fits
prim_label Primitive.Int32 n fits typed text rest begins = number_read n text rest begins fits
prim_label Primitive.Uint32 n fits typed text rest begins = number_read n text rest begins fits
prim_label Primitive.Int64 n fits typed text rest begins = number_read n text rest begins fits
prim_label Primitive.Uint64 n fits typed text rest begins = number_read n text rest begins fits
prim_label Primitive.Float32 n fits typed text rest begins = number_read n text rest begins fits
prim_label Primitive.Float64 n fits typed text rest begins = number_read n text rest begins fits

label_of : (t : Tree) (n : ℤ) → is_alias t ≡ false → label_fits t n ≡ true → has_type (shape t) (int n) ≡ true → LiteralsApart t → IsLabelOf t n
label_of (prim p) n plain fits typed apart = prim_label p n fits typed
label_of (enumeration name ext bits ls) n plain fits typed apart = enumeration_label name ext bits ls n fits typed apart
label_of (str m) n plain fits typed apart = λ text rest begins. number_read n text rest begins fits
label_of (bitmask name bits fs) n plain fits typed apart = λ text rest begins. number_read n text rest begins fits
label_of (sequence m tc t) n plain fits typed apart = λ text rest begins. number_read n text rest begins fits
label_of (array ds tc t) n plain fits typed apart = λ text rest begins. number_read n text rest begins fits
label_of (map_of m kc k vc v) n plain fits typed apart = λ text rest begins. number_read n text rest begins fits
label_of (structure head ms) n plain fits typed apart = λ text rest begins. number_read n text rest begins fits
label_of (union head disc cs) n plain fits typed apart = λ text rest begins. number_read n text rest begins fits
label_of (alias name t) n plain fits typed apart = absurd (true≢false plain)

pub label_read : (disc : Tree) (n : ℤ) → label_fits (behind disc) n ≡ true → has_type (shape disc) (int n) ≡ true → LiteralsApart (behind disc) → IsLabel disc n
unfolding label
label_read disc n fits typed apart text rest begins =
    let typed_behind : has_type (shape (behind disc)) (int n) ≡ true = sym (ap (λ t. has_type t (int n)) (shape_behind disc)) ∙ typed in
    let begins_behind : skip text ≡ skip (label_text (behind disc) n ++ colon rest) = begins ∙ ap (λ s. skip (s ++ colon rest)) (label_behind disc n) in
    label_of (behind disc) n (behind_is_plain disc) fits typed_behind apart text rest begins_behind

-- ---- all labels of a case

abbrev pub EachLabel : Tree → List ℤ → Type 0
EachLabel disc [] = Unit {0}
EachLabel disc (n ∷ ns) = IsLabel disc n × EachLabel disc ns

-- no further label begins here
pub record EndsLabels (rest : Text) : Type 0 where
  pub no_case : tokens.sees (codes "case") rest ≡ false
  pub no_default : tokens.sees (codes "default") rest ≡ false

labels_end : (disc : Tree) (fuel : ℕ) (before : List ℤ) (is_default : Bool) (text : Text) → EndsLabels text → Reads (labels_from disc fuel before is_default) text (before, is_default) text
unfolding labels_from sees after_if
labels_end disc zero before is_default text over size = refl
labels_end disc (suc fuel) before is_default text over size = rw (over.no_case, over.no_default) refl

ends_behind_blank : (rest : Text) → EndsLabels rest → EndsLabels (32 ∷ rest)
ends_behind_blank rest over = record { no_case = sees_blank (codes "case") rest ∙ over.no_case; no_default = sees_blank (codes "default") rest ∙ over.no_default }

default_read : (disc : Tree) (fuel : ℕ) (before : List ℤ) (text rest : Text) → skip text ≡ skip (codes "default: " ++ rest) → EndsLabels rest → Reads (labels_from disc (suc fuel) before false) text (before, true) (32 ∷ rest)
unfolding labels_from
default_read disc fuel before text rest begins over size =
    let front : Front Word (codes "default") text (58 ∷ 32 ∷ rest) = word_at (codes "default") text (58 ∷ 32 ∷ rest) begins refl refl in
    let colon : Front Mark (58 ∷ []) (58 ∷ 32 ∷ rest) (32 ∷ rest) = colon_front (32 ∷ rest) refl in
    rw (sees_not (codes "case") front refl size, after_if_not (codes "case") front refl size, sees_is front refl size, after_if_is front refl size, want_is colon refl size, labels_end disc fuel before true (32 ∷ rest) (ends_behind_blank rest over) size) refl

abbrev labels_rest : List ℤ → Bool → Text → Text → Text
labels_rest [] true text rest = 32 ∷ rest
labels_rest [] false text rest = text
labels_rest (n ∷ ns) is_default text rest = 32 ∷ rest

abbrev pub all_labels : Tree → List ℤ → Bool → Text → Text
all_labels disc ns is_default rest = labels_text disc ns ++ (text_if is_default (codes "default: ") ++ rest)

labels_rest_is : (disc : Tree) (ns : List ℤ) (is_default : Bool) (rest : Text) → labels_rest ns is_default (32 ∷ all_labels disc ns is_default rest) rest ≡ 32 ∷ rest
labels_rest_is disc [] true rest = refl
labels_rest_is disc [] false rest = refl
labels_rest_is disc (n ∷ ns) is_default rest = refl

-- how many labels there are at most in a text
labels_short : (disc : Tree) (ns : List ℤ) → length ns ≤ length (labels_text disc ns)
labels_short disc [] = omega arith
labels_short disc (n ∷ ns) =
    let more = labels_short disc ns in
    let whole = length-append (label_text disc n ++ codes ": ") (labels_text disc ns) in
    omega arith

pub all_labels_step : (disc : Tree) (n : ℤ) (ns : List ℤ) (is_default : Bool) (rest : Text) → all_labels disc (n ∷ ns) is_default rest ≡ codes "case " ++ (label_text disc n ++ colon (all_labels disc ns is_default rest))
all_labels_step disc n ns is_default rest = simp append_assoc

labels_loop : (disc : Tree) (ns : List ℤ) (is_default : Bool) (rest : Text) → EachLabel disc ns → EndsLabels rest → (fuel : ℕ) → length ns < fuel → (before : List ℤ) (text : Text) → skip text ≡ skip (all_labels disc ns is_default rest) → Reads (labels_from disc fuel before false) text (before ++ ns, is_default) (labels_rest ns is_default text rest)
unfolding labels_from
labels_loop disc ns is_default rest each over zero enough before text begins size = absurd (omega arith)
labels_loop disc [] true rest each over (suc fuel) enough before text begins size = rw append-nil (default_read disc fuel before text rest begins over size)
labels_loop disc [] false rest each over (suc fuel) enough before text begins size =
    let here : EndsLabels text = record { no_case = same_sees (codes "case") text rest begins ∙ over.no_case; no_default = same_sees (codes "default") text rest begins ∙ over.no_default } in
    rw append-nil (labels_end disc (suc fuel) before false text here size)
labels_loop disc (n ∷ ns) is_default rest each over (suc fuel) enough before text begins size =
    let more = all_labels disc ns is_default rest in
    let front : Front Word (codes "case") text (32 ∷ (label_text disc n ++ colon more)) = word_at (codes "case") text (32 ∷ (label_text disc n ++ colon more)) (begins ∙ ap skip (all_labels_step disc n ns is_default rest)) refl refl in
    let mark : Front Mark (58 ∷ []) (colon more) (32 ∷ more) = colon_front (32 ∷ more) refl in
    rw (sees_is front refl size, after_if_is front refl size, each.0 (32 ∷ (label_text disc n ++ colon more)) more (skip_blank (label_text disc n ++ colon more)) size, want_is mark refl size, labels_loop disc ns is_default rest each.1 over fuel (omega arith) (before ++ n ∷ []) (32 ∷ more) (skip_blank more) size, append_assoc, labels_rest_is disc ns is_default rest) refl

pub labels_read : (disc : Tree) (ns : List ℤ) (is_default : Bool) → (not_empty ns || is_default) ≡ true → EachLabel disc ns → (text rest : Text) → skip text ≡ skip (all_labels disc ns is_default rest) → EndsLabels rest → Reads (labels disc) text (ns, is_default) (32 ∷ rest)
unfolding labels sees
labels_read disc [] true some each text rest begins over size =
    let front : Front Word (codes "default") text (58 ∷ 32 ∷ rest) = word_at (codes "default") text (58 ∷ 32 ∷ rest) begins refl refl in
    let here : tokens.sees (codes "default") text ≡ true = seen front refl in
    let other : tokens.sees (codes "case") text ≡ false = not_seen (codes "case") front refl in
    let long = left_is front size in
    rw (other, here, labels_loop disc [] true rest each over (left (at text size)) (omega arith) [] text begins size) refl
labels_read disc [] false some each text rest begins over size = absurd (true≢false (sym some))
labels_read disc (n ∷ ns) is_default some each text rest begins over size =
    let more = all_labels disc ns is_default rest in
    let behind = 32 ∷ (label_text disc n ++ colon more) in
    let front : Front Word (codes "case") text behind = word_at (codes "case") text behind (begins ∙ ap skip (all_labels_step disc n ns is_default rest)) refl refl in
    let here : tokens.sees (codes "case") text ≡ true = seen front refl in
    let long = left_is front size in
    let first = length-append (label_text disc n) (colon more) in
    let others = length-append (labels_text disc ns) (text_if is_default (codes "default: ") ++ rest) in
    let short = labels_short disc ns in
    rw (here, labels_loop disc (n ∷ ns) is_default rest each over (left (at text size)) (omega arith) [] text begins size) refl
