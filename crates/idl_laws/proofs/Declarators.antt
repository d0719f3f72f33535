-- Declarators: a type, a name and dimensions.
use Rattle.std.proofs.Common.{◌≡◌, ℕ, zero, suc, ◌≤◌, Bool, true, false, ◌&&◌, List, [], ◌∷◌, ◌++◌, length, Ok, refl, sym, ap, subst, ◌∙◌, append_assoc, length-append, arith}
use Rattle.std.proofs.lemmas.List.{append-nil}
use Rattle.std.proofs.lemmas.Bool.{false≢true, and_parts, leb-true}
use Rattle.std.specs.Prelude.{codes, decimal, nat_le}
use Rattle.xt_shapes.specs.declared.leaves.Try.{Try}
use Rattle.xt_shapes.specs.Lists.{all}
use Rattle.xt_shapes.specs.NodeRules.{dims_fit, not_empty}
use Rattle.type_trees.specs.Trees.{Tree, array}
use Rattle.type_rules.specs.Places.{depth}
use Rattle.idl_tokens.specs.Classes.{Text}
use Rattle.idl_tokens.specs.Tokens.{skip}
use Rattle.idl_tokens.specs.Tokens as tokens
use Rattle.idl_tokens.specs.declared.tokens.TokenKind.TheVariants.{Word}
use Rattle.idl_input.specs.Input.{left}
use Rattle.idl_types.specs.State.{State}
use Rattle.idl_types.specs.Types.{a_type}
use Rattle.idl_definitions.specs.Members.{dims_from, dims, with_dims, dimensioned}
use Rattle.idl_printer.specs.Uses.{type_text, dims_text, declarator_text}
use Rattle.idl_laws.specs.Printable.{IsUse, IsTyped, IsBound, EachBound}
use Rattle.idl_laws.proofs.Fronts.{Front, ends, front_at, skip_blank, mark_front}
use Rattle.idl_laws.proofs.Steps.{at, Reads, not_seen, sees_is, after_if_is, want_is, bound_is}
use Rattle.idl_laws.proofs.Notes.{EndsNotes}
use Rattle.idl_laws.proofs.Names.{is_free}
use Rattle.idl_laws.proofs.Scopes.{Knows}
use Rattle.idl_laws.proofs.Ahead.{sees_no, after_if_no, free_front}
use Rattle.idl_laws.proofs.Types.{EndsType, type_ends_at_name, type_read, type_ends_notes}

-- the type before a declarator's name, and the dimensions behind it
abbrev pub base_type : Tree → Tree
base_type (array ds tc t) = t
base_type t = t

abbrev pub dims_of : Tree → List ℕ
dims_of (array ds tc t) = ds
dims_of _ = []

-- dimensions and the type's own place keep their rules
abbrev pub dims_hold : Tree → Bool
dims_hold (array ds tc t) = dims_fit ds
dims_hold _ = true

nothing_behind : (text name : Text) → text ++ codes " " ++ name ≡ text ++ 32 ∷ name ++ []
nothing_behind text name = simp (append_assoc, append-nil) refl

pub declarator_is : (t : Tree) (name : Text) → declarator_text t name ≡ type_text (base_type t) ++ 32 ∷ name ++ dims_text (dims_of t)
declarator_is (array ds tc t) name = ap (λ (z : Text). z ++ dims_text ds) (append_assoc (type_text t) (codes " ") name)
declarator_is t name = nothing_behind (type_text t) name

-- what follows a declarator's name
pub record EndsDeclarator (rest : Text) : Type 0 where
  pub over : ends rest ≡ true
  pub no_dimension : tokens.sees (codes "[") rest ≡ false

pub name_ends : (ds : List ℕ) (rest : Text) → EndsDeclarator rest → ends (dims_text ds ++ rest) ≡ true
name_ends [] rest over = over.over
name_ends (d ∷ ds) rest over = refl

-- ---- the type before the name

base_depth : (t : Tree) → depth (base_type t) ≤ depth t
base_depth (array ds tc t) = omega arith
base_depth t = omega arith

base_use : (known : List (Text × Tree)) (t : Tree) → IsTyped known t → IsUse known (base_type t)
base_use known (array ds tc t) typed = typed.1.1
base_use known t typed = typed

declarator_behind : (a b c rest : Text) → ((a ++ b) ++ c) ++ rest ≡ a ++ ((b ++ c) ++ rest)
declarator_behind a b c rest = simp append_assoc refl

pub declarator_parts : (t : Tree) (name rest : Text) → declarator_text t name ++ rest ≡ type_text (base_type t) ++ (32 ∷ name ++ dims_text (dims_of t) ++ rest)
declarator_parts t name rest = ap (λ (z : Text). z ++ rest) (declarator_is t name) ∙ declarator_behind (type_text (base_type t)) (32 ∷ name) (dims_text (dims_of t)) rest

pub base_type_read : (s : State) → Knows s → (t : Tree) (name : Text) → depth t ≤ 16 → IsTyped s.types t → is_free name ≡ true → (text rest : Text)
    → skip text ≡ skip (declarator_text t name ++ rest) → EndsDeclarator rest → Reads (a_type s) text (base_type t) (32 ∷ name ++ dims_text (dims_of t) ++ rest)
base_type_read s knows t name shallow typed free text rest begins over =
    let ds = dims_of t in
    let ended : EndsType (32 ∷ name ++ dims_text ds ++ rest) = subst EndsType (ap (λ (z : Text). 32 ∷ z) (sym (append_assoc name (dims_text ds) rest)))
    (type_ends_at_name name (dims_text ds ++ rest) free (name_ends ds rest over)) in
    type_read s knows (base_type t) (omega (arith, base_depth t)) (base_use s.types t typed) text (32 ∷ name ++ dims_text ds ++ rest) (begins ∙ ap skip (declarator_parts t name rest)) ended

-- no note begins where a declarator does
pub declarator_ends_notes : (known : List (Text × Tree)) (t : Tree) (name rest : Text) → IsTyped known t → EndsNotes (declarator_text t name ++ rest)
declarator_ends_notes known t name rest typed =
    subst EndsNotes (sym (declarator_parts t name rest)) (type_ends_notes known (base_type t) (32 ∷ name ++ dims_text (dims_of t) ++ rest) (base_use known t typed) refl)

-- the name, where the type was read
pub declarator_name : (t : Tree) (name rest : Text) → is_free name ≡ true → EndsDeclarator rest → Front Word name (32 ∷ name ++ dims_text (dims_of t) ++ rest) (dims_text (dims_of t) ++ rest)
declarator_name t name rest free over =
    front_at (32 ∷ name ++ dims_text (dims_of t) ++ rest) (skip_blank (name ++ dims_text (dims_of t) ++ rest) ∙ ap skip (append_assoc name (dims_text (dims_of t)) rest))
    (free_front name (dims_text (dims_of t) ++ rest) free (name_ends (dims_of t) rest over))

-- `;` follows
pub declarator_ends : (rest : Text) → EndsDeclarator (59 ∷ rest)
declarator_ends rest = record { over = refl; no_dimension = not_seen (codes "[") (mark_front 59 rest refl) refl }

-- ---- the dimensions behind the name

dims_step : (n d : ℕ) (before : List ℕ) (rest : Text) → 1 ≤ d → IsBound d → (size : ℕ)
    → dims_from (suc n) before (at (91 ∷ (decimal d ++ (93 ∷ rest))) size) ≡ dims_from n (before ++ d ∷ []) (at rest size)
unfolding dims_from
dims_step n d before rest some fits size =
    let f = mark_front 91 (decimal d ++ (93 ∷ rest)) refl in
    rw (sees_is f refl size, after_if_is f refl size, bound_is d (decimal d ++ (93 ∷ rest)) (93 ∷ rest) refl some fits refl size, want_is (mark_front 93 rest refl) refl size) refl

dims_over : (n : ℕ) (before : List ℕ) (rest : Text) → EndsDeclarator rest → Reads (dims_from n before) rest before rest
unfolding dims_from
dims_over zero before rest over size = refl
dims_over (suc n) before rest over size = rw (sees_no (codes "[") rest over.no_dimension size, after_if_no (codes "[") rest over.no_dimension size) refl

dims_behind : (a b rest : Text) → (a ++ 93 ∷ [] ++ b) ++ rest ≡ a ++ (93 ∷ (b ++ rest))
dims_behind a b rest = simp append_assoc refl

dims_from_read : (ds : List ℕ) (n : ℕ) (before : List ℕ) (rest : Text) → length ds ≤ n → EachBound ds → all (λ d. nat_le 1 d) ds ≡ true → EndsDeclarator rest
    → Reads (dims_from n before) (dims_text ds ++ rest) (before ++ ds) rest
dims_from_read [] n before rest within fit some over size = dims_over n before rest over size ∙ ap (λ (z : List ℕ). Ok (z, at rest size)) (sym (append-nil before))
dims_from_read (d ∷ ds) zero before rest within fit some over size = absurd (omega arith)
dims_from_read (d ∷ ds) (suc n) before rest within fit some over size =
    let both = and_parts (nat_le 1 d) (all (λ d. nat_le 1 d) ds) some in
    ap (λ (z : Text). dims_from (suc n) before (at (91 ∷ z) size)) (dims_behind (decimal d) (dims_text ds) rest)
    ∙ dims_step n d before (dims_text ds ++ rest) (leb-true 1 d both.0) fit.0 size
    ∙ dims_from_read ds n (before ++ d ∷ []) rest (omega arith) fit.1 both.1 over size
    ∙ ap (λ (z : List ℕ). Ok (z, at rest size)) (append_assoc before (d ∷ []) ds)

-- each dimension has an octet at least
dims_long : (ds : List ℕ) → length ds ≤ length (dims_text ds)
dims_long [] = omega arith
dims_long (d ∷ ds) = omega (arith, dims_long ds, length-append (decimal d ++ 93 ∷ []) (dims_text ds))

dims_within : (ds : List ℕ) (rest : Text) (size : ℕ) → length ds ≤ left (at (dims_text ds ++ rest) size)
unfolding left
dims_within [] rest size = omega arith
dims_within (d ∷ ds) rest size =
    let behind : Text = decimal d ++ 93 ∷ [] ++ dims_text ds ++ rest in
    let same : length (skip (91 ∷ behind)) ≡ length (91 ∷ behind) = ap length (mark_front 91 behind refl).at in
    omega (arith, dims_long (d ∷ ds), length-append (dims_text (d ∷ ds)) rest, same)

dims_read : (ds : List ℕ) (rest : Text) → EachBound ds → all (λ d. nat_le 1 d) ds ≡ true → EndsDeclarator rest → Reads dims (dims_text ds ++ rest) ds rest
unfolding dims
dims_read ds rest fit some over size = dims_from_read ds (left (at (dims_text ds ++ rest) size)) [] rest (dims_within ds rest size) fit some over size

dimensioned_by : (t : Tree) (ds : List ℕ) (rest : Text) → EachBound ds → all (λ d. nat_le 1 d) ds ≡ true → EndsDeclarator rest → Reads (dimensioned t) (dims_text ds ++ rest) (with_dims t ds) rest
unfolding dimensioned
dimensioned_by t ds rest fit some over size = rw (dims_read ds rest fit some over size) refl

array_read : (ds : List ℕ) (tc : Try) (t : Tree) (rest : Text) → tc ≡ Try.Discard → EachBound ds → dims_fit ds ≡ true → EndsDeclarator rest
    → Reads (dimensioned t) (dims_text ds ++ rest) (array ds tc t) rest
array_read [] tc t rest discards fit holds over size = absurd (false≢true holds)
array_read (d ∷ ds) tc t rest discards fit holds over size =
    let some = and_parts (not_empty (d ∷ ds) && nat_le (length (d ∷ ds)) 8) (all (λ d. nat_le 1 d) (d ∷ ds)) holds in
    dimensioned_by t (d ∷ ds) rest fit some.1 over size ∙ ap (λ (z : Try). Ok (array (d ∷ ds) z t, at rest size)) (sym discards)

pub dimensioned_read : (known : List (Text × Tree)) (t : Tree) → IsTyped known t → dims_hold t ≡ true → (rest : Text) → EndsDeclarator rest
    → Reads (dimensioned (base_type t)) (dims_text (dims_of t) ++ rest) t rest
dimensioned_read known (array ds tc t) typed holds rest over = array_read ds tc t rest typed.0 typed.1.0 holds over
dimensioned_read known t typed holds rest over = dimensioned_by t [] rest tt refl over
