-- Definitions are read as they are printed.
use Rattle.std.proofs.Common.{◌≡◌, refl, ◌∙◌, ap, ℕ, ◌≤◌, true, ◌∷◌, ◌++◌, Some, None, Ok, append_assoc}
use Rattle.std.proofs.lemmas.Bool.{and_parts, not-true}
use Rattle.std.specs.Prelude.{codes}
use Rattle.type_trees.specs.Trees.{Tree, alias}
use Rattle.type_rules.specs.Places.{depth}
use Rattle.idl_tokens.specs.declared.tokens.TokenKind.TheVariants.{Word}
use Rattle.idl_tokens.specs.Classes.{Text}
use Rattle.idl_tokens.specs.Tokens.{skip}
use Rattle.idl_tokens.specs.names.Scopes.{meaning}
use Rattle.idl_input.specs.Input.{Parser, place}
use Rattle.idl_types.specs.State.{State}
use Rattle.idl_types.specs.Names.{innermost, full_name}
use Rattle.idl_types.specs.Types.{a_type}
use Rattle.idl_definitions.specs.Structures.{Made, new_type, typedef_def}
use Rattle.idl_printer.specs.Uses.{declarator_text, dims_text}
use Rattle.idl_printer.specs.Lines.{alias_text}
use Rattle.xt_idl.specs.Whole.{typed}
use Rattle.idl_laws.specs.Printable.{IsTyped}
use Rattle.idl_laws.proofs.Fronts.{Front, ends, skip_blank, mark_front}
use Rattle.idl_laws.proofs.Steps.{at, not_seen, next_is, name_is, want_is}
use Rattle.idl_laws.proofs.Names.{is_free}
use Rattle.idl_laws.proofs.Scopes.{Knows}
use Rattle.idl_laws.proofs.Declarators.{EndsDeclarator, base_type, dims_of, dims_hold, name_ends, base_type_read, dimensioned_read}
use Rattle.idl_laws.proofs.Ahead.{word_at}

-- the name of the definition is new in the open modules
pub record IsNewType (s : State) (last full : Text) : Type 0 where
  pub free : is_free last ≡ true
  pub new : meaning (innermost s.opened) last s.names ≡ None
  pub is : full_name s.opened last ≡ full

pub new_type_read : (s : State) (last full : Text) → IsNewType s last full → (text rest : Text) → skip text ≡ skip (last ++ rest) → ends rest ≡ true → (size : ℕ) → new_type s (at text size) ≡ Ok (record { at = place (at text size); name = last; full = full }, at rest size)
unfolding new_type
new_type_read s last full new text rest begins over size =
    let word = and_parts _ _ new.free in
    let front : Front Word last text rest = word_at last text rest begins word.0 over in
    rw (name_is front (not-true _ word.1) size, new.new, new.is) refl

-- a definition of that name and content is read
pub record ReadsMade (p : Parser Made) (text : Text) (last full : Text) (t : Tree) (rest : Text) (size : ℕ) : Type 0 where
  pub made : Made
  pub reads : p (at text size) ≡ Ok (made, at rest size)
  pub named : made.name ≡ last
  pub whole : made.full ≡ full
  pub content : made.tree ≡ t
  pub fitting : made.fits ≡ true

pub semicolon_ends : (rest : Text) → EndsDeclarator (59 ∷ rest)
semicolon_ends rest = record { over = refl; no_dimension = not_seen (codes "[") (mark_front 59 rest refl) refl }

-- a name behind a blank
pub name_behind : (name dims rest : Text) → skip (32 ∷ name ++ dims ++ rest) ≡ skip (name ++ (dims ++ rest))
name_behind name dims rest = skip_blank (name ++ dims ++ rest) ∙ ap skip (append_assoc name dims rest)

-- ---- typedefs

pub typedef_text : (t : Tree) (name rest : Text) → alias_text t name ++ rest ≡ codes "typedef" ++ (32 ∷ (declarator_text t name ++ 59 ∷ rest))
typedef_text t name rest = simp append_assoc

pub typedef_read : (s : State) → Knows s → (last full : Text) → IsNewType s last full → (t : Tree) → depth t ≤ 16 → dims_hold t ≡ true → IsTyped s.types t → (text rest : Text) → skip text ≡ skip (alias_text t last ++ rest) → (size : ℕ) → ReadsMade (typedef_def s) text last full (alias (Some full) t) rest size
unfolding typedef_def
typedef_read s knows last full new t shallow holds typed text rest begins size =
    let declarator = declarator_text t last ++ 59 ∷ rest in
    let dims = dims_text (dims_of t) in
    let named = 32 ∷ last ++ dims ++ 59 ∷ rest in
    let front : Front Word (codes "typedef") text (32 ∷ declarator) = word_at (codes "typedef") text (32 ∷ declarator) (begins ∙ ap skip (typedef_text t last rest)) refl refl in
    let over = semicolon_ends rest in
    let base : a_type s (at (32 ∷ declarator) size) ≡ Ok (base_type t, at named size) = base_type_read s knows t last shallow typed new.free (32 ∷ declarator) (59 ∷ rest) (skip_blank declarator) over size in
    let name = new_type_read s last full new named (dims ++ 59 ∷ rest) (name_behind last dims (59 ∷ rest)) (name_ends (dims_of t) (59 ∷ rest) over) size in
    record {
      made = record { at = place (at named size); name = last; full = full; tree = alias (Some full) t; fits = true };
      reads = rw (next_is front size, base, name, dimensioned_read s.types t typed holds (59 ∷ rest) over size, want_is (mark_front 59 rest refl) refl size) refl;
      named = refl;
      whole = refl;
      content = refl;
      fitting = refl;
    }
