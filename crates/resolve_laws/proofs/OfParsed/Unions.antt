-- Declared enumerations, bitmasks and unions have all their names, and their labels and values have 32 bits with a sign.
use Rattle.std.proofs.Common.{◌≡◌, refl, sym, subst, true≢false, ℕ, ◌≤◌, Bool, true, false, ◌&&◌, ◌||◌, nat_le, List, [], ◌∷◌, ◌++◌, map, Option, Some, None, arith, tests}
use Rattle.std.proofs.lemmas.Bool.{and_parts, and_from, lt-ltb}
use Rattle.std.proofs.lemmas.Bool.Decides.{Decides-int_eq}
use Rattle.std.specs.Prelude.{ℤ, pos, negsuc}
use Rattle.std.specs.Ordering.{int_eq}
use Rattle.xt_shapes.specs.declared.leaves.Ext.{Ext}
use Rattle.xt_shapes.specs.declared.leaves.Primitive.{Primitive}
use Rattle.xt_shapes.specs.Lists.{all}
use Rattle.xt_shapes.specs.NodeRules.{distinct, not_empty, not_mutable, hashes_apart, ids_fit, is_discriminator, labels_of, labels_fit, union_fits}
use Rattle.xt_shapes.specs.Select.{is_literal}
use Rattle.xt_shapes.specs.Shape.{CaseHead, Shape, case_heads}
use Rattle.xt_shapes.specs.Shape as shapes
use Rattle.xt_shapes.specs.Typing.{has_type}
use Rattle.xt_shapes.specs.Vals.{int}
use Rattle.type_trees.specs.declared.types.Flag.{Flag}
use Rattle.type_trees.specs.declared.types.Literal.{Literal}
use Rattle.type_trees.specs.Bridge.{literal_shape, shape, case_shapes}
use Rattle.type_trees.specs.Trees.{Tree, prim, str, enumeration, bitmask, sequence, array, map_of, structure, union, alias, UnionHead, Cases, no_cases, one_case}
use Rattle.type_rules.specs.Valid.{type_fault}
use Rattle.type_rules.proofs.Kept.{rules_kept}
use Rattle.idl_tokens.specs.Classes.{Text, is_printable}
use Rattle.idl_types.specs.State.{Declared}
use Rattle.idl_definitions.specs.Unions.{behind}
use Rattle.idl_laws.specs.Printable.{is_spelled, is_number, is_character, literal_fits, label_fits, IsUse, EachCase}
use Rattle.resolve_laws.specs.Named.{is_full, is_signed_word, cases_named, cases_fit}
use Rattle.resolve_laws.proofs.OfParsed.Uses.{IsWhole, AreWhole, use_whole, typed_whole}
use Rattle.resolve_laws.proofs.OfParsed.Structures.{spelled_full, some_name}

-- ---- enumerations and bitmasks

literals_full : (ls : List Literal) → all literal_fits ls ≡ true → all (λ l. is_full l.name) ls ≡ true
literals_full [] fit = refl
literals_full (l ∷ ls) fit =
    let each = and_parts (literal_fits l) (all literal_fits ls) fit in
    and_from _ _ (spelled_full l.name (and_parts (is_spelled l.name) (is_number l.value) each.0).0) (literals_full ls each.1)

values_fit : (ls : List Literal) → all literal_fits ls ≡ true → all (λ l. is_signed_word l.value) ls ≡ true
values_fit [] fit = refl
values_fit (l ∷ ls) fit =
    let each = and_parts (literal_fits l) (all literal_fits ls) fit in
    and_from _ _ (and_parts (is_spelled l.name) (is_number l.value) each.0).1 (values_fit ls each.1)

pub enumeration_whole : (name : Option Text) (full : Text) (ext : Ext) (bits : ℕ) (ls : List Literal) → name ≡ Some full → all literal_fits ls ≡ true → IsWhole (enumeration name ext bits ls)
enumeration_whole name full ext bits ls is fit = record { named = and_from _ _ (some_name name full is) (literals_full ls fit); fits = values_fit ls fit }

flags_full : (fs : List Flag) → all (λ f. is_spelled f.name) fs ≡ true → all (λ f. is_full f.name) fs ≡ true
flags_full [] spelled = refl
flags_full (f ∷ fs) spelled =
    let each = and_parts (is_spelled f.name) (all (λ f. is_spelled f.name) fs) spelled in
    and_from _ _ (spelled_full f.name each.0) (flags_full fs each.1)

pub bitmask_whole : (name : Option Text) (full : Text) (bits : ℕ) (fs : List Flag) → name ≡ Some full → all (λ f. is_spelled f.name) fs ≡ true → IsWhole (bitmask name bits fs)
bitmask_whole name full bits fs is spelled = record { named = and_from _ _ (some_name name full is) (flags_full fs spelled); fits = refl }

-- ---- labels

octet_low : (n : ℕ) → is_printable n ≡ true → n ≤ 126
octet_low n printable = let below = (and_parts (nat_le 32 n) (nat_le n 126) printable).1 in grind (arith, tests)

character_word : (n : ℤ) → is_character n ≡ true → is_signed_word n ≡ true
character_word (pos n) fits =
    let low = octet_low n (and_parts (is_printable n) _ fits).0 in
    lt-ltb n 2147483648 (omega arith)
character_word (negsuc n) fits = absurd (true≢false (sym fits))

literal_or : (l : Literal) (d : ℤ) (rest : Bool) → is_number l.value ≡ true → (rest ≡ true → is_number d ≡ true) → (int_eq l.value d || rest) ≡ true → is_number d ≡ true
literal_or l d rest fits more one = by (int_eq l.value d) refl one
  where
    by : (b : Bool) → int_eq l.value d ≡ b → (b || rest) ≡ true → is_number d ≡ true
    by true same _ = subst (λ n. is_number n ≡ true) ((Decides-int_eq l.value d).0 same) fits
    by false other among = more among

-- the value of a literal that can be written
literal_word : (ls : List Literal) (d : ℤ) → all literal_fits ls ≡ true → is_literal (map literal_shape ls) d ≡ true → is_number d ≡ true
literal_word [] d fit among = absurd (true≢false (sym among))
literal_word (l ∷ ls) d fit among =
    let each = and_parts (literal_fits l) (all literal_fits ls) fit in
    literal_or l d (is_literal (map literal_shape ls) d) (and_parts (is_spelled l.name) (is_number l.value) each.0).1 (literal_word ls d each.1) among

prim_word : (p : Primitive) (d : ℤ) → label_fits (prim p) d ≡ true → is_signed_word d ≡ true
prim_word Primitive.Boolean d fits = fits
prim_word Primitive.Byte d fits = fits
prim_word Primitive.Int8 d fits = fits
prim_word Primitive.Uint8 d fits = fits
prim_word Primitive.Int16 d fits = fits
prim_word Primitive.Uint16 d fits = fits
prim_word Primitive.Int32 d fits = fits
prim_word Primitive.Uint32 d fits = fits
prim_word Primitive.Int64 d fits = fits
prim_word Primitive.Uint64 d fits = fits
prim_word Primitive.Float32 d fits = fits
prim_word Primitive.Float64 d fits = fits
prim_word Primitive.Char8 d fits = character_word d fits

label_word : (disc : Tree) (d : ℤ) → label_fits (behind disc) d ≡ true → has_type (shape disc) (int d) ≡ true → is_signed_word d ≡ true
unfolding has_type
label_word (prim p) d fits typed = prim_word p d fits
label_word (enumeration name ext bits ls) d fits typed = literal_word ls d fits typed
label_word (alias name t) d fits typed = label_word t d fits typed
label_word (str n) d fits typed = fits
label_word (bitmask name bits fs) d fits typed = fits
label_word (sequence n tc t) d fits typed = fits
label_word (array ds tc t) d fits typed = fits
label_word (map_of n kc k vc v) d fits typed = fits
label_word (structure head ms) d fits typed = fits
label_word (union head inner cs) d fits typed = fits

-- the rest of the labels have the discriminator's type too
label_words : (disc : Tree) (ns rest : List ℤ) → all (label_fits (behind disc)) ns ≡ true → all (λ d. has_type (shape disc) (int d)) (ns ++ rest) ≡ true
    → (all is_signed_word ns ≡ true) × (all (λ d. has_type (shape disc) (int d)) rest ≡ true)
label_words disc [] rest fit typed = (refl, typed)
label_words disc (n ∷ ns) rest fit typed =
    let each = and_parts (label_fits (behind disc) n) (all (label_fits (behind disc)) ns) fit in
    let each_typed = and_parts (has_type (shape disc) (int n)) (all (λ d. has_type (shape disc) (int d)) (ns ++ rest)) typed in
    let more = label_words disc ns rest each.1 each_typed.1 in
    (and_from _ _ (label_word disc n each.0 each_typed.0) more.0, more.1)

-- ---- cases

-- cases with all their names and with numbers that the program's types hold
pub record WholeCases (cs : Cases) : Type 0 where
  pub named : cases_named cs ≡ true
  pub fits : cases_fit cs ≡ true

cases_whole : (known : Declared) → AreWhole known → (disc : Tree) (cs : Cases) → EachCase known (behind disc) cs → all (λ d. has_type (shape disc) (int d)) (labels_of (case_heads (case_shapes cs))) ≡ true → WholeCases cs
cases_whole known whole disc no_cases each typed = record { named = refl; fits = refl }
cases_whole known whole disc (one_case c t cs) each typed =
    let labels = label_words disc c.labels (labels_of (case_heads (case_shapes cs))) each.1.0 typed in
    let part = typed_whole known whole t each.1.1.0 in
    let more = cases_whole known whole disc cs each.1.1.1 labels.1 in
    record { named = and_from _ _ (and_from _ _ (spelled_full c.name each.0) part.named) more.named; fits = and_from _ _ (and_from _ _ labels.0 part.fits) more.fits }

-- what a union's rules say last
fifth : (a b c d e : Bool) → (a && (b && (c && (d && e)))) ≡ true → e ≡ true
fifth true true true true e held = held
fifth true true true false e held = absurd (true≢false (sym held))
fifth true true false d e held = absurd (true≢false (sym held))
fifth true false c d e held = absurd (true≢false (sym held))
fifth false b c d e held = absurd (true≢false (sym held))

labels_kept : (ext : Ext) (disc : Shape) (cs : shapes.Cases) → union_fits ext disc cs ≡ true → labels_fit disc (case_heads cs) ≡ true
labels_kept ext disc cs held =
    fifth (hashes_apart (map (λ h. h.hash) (case_heads cs)) && ids_fit (map (λ h. h.id) (case_heads cs))) (not_empty (case_heads cs)) (not_mutable ext) (is_discriminator disc) (labels_fit disc (case_heads cs)) held

values_kept : (disc : Shape) (heads : List CaseHead) → labels_fit disc heads ≡ true → all (λ d. has_type disc (int d)) (labels_of heads) ≡ true
values_kept disc heads held =
    let first = (and_parts (distinct int_eq (labels_of heads) && all (λ d. has_type disc (int d)) (labels_of heads)) _ held).0 in
    (and_parts (distinct int_eq (labels_of heads)) (all (λ d. has_type disc (int d)) (labels_of heads)) first).1

labels_typed : (head : UnionHead) (disc : Tree) (cs : Cases) → type_fault (union head disc cs) ≡ None → all (λ d. has_type (shape disc) (int d)) (labels_of (case_heads (case_shapes cs))) ≡ true
labels_typed head disc cs valid =
    let rules = (and_parts (union_fits head.ext (shape disc) (case_shapes cs)) _ (rules_kept (union head disc cs) valid)).0 in
    values_kept (shape disc) (case_heads (case_shapes cs)) (labels_kept head.ext (shape disc) (case_shapes cs) rules)

pub union_whole : (known : Declared) → AreWhole known → (full : Text) (head : UnionHead) (disc : Tree) (cs : Cases) → type_fault (union head disc cs) ≡ None → head.name ≡ Some full → IsUse known disc
    → EachCase known (behind disc) cs → IsWhole (union head disc cs)
union_whole known whole full head disc cs valid name use_is each =
    let part = use_whole known whole disc use_is in
    let cases = cases_whole known whole disc cs each (labels_typed head disc cs valid) in
    record { named = and_from _ _ (some_name head.name full name) (and_from _ _ part.named cases.named); fits = and_from _ _ part.fits cases.fits }
