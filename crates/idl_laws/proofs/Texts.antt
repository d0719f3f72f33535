-- A whole printed text is read again.
use Rattle.std.proofs.Common.{◌≡◌, refl, ℕ, Bool, true, false, ◌&&◌, List, ◌++◌, None}
use Rattle.std.specs.Prelude.{codes}
use Rattle.type_trees.specs.Trees.{Tree}
use Rattle.type_rules.specs.Valid.{type_fault}
use Rattle.xt_annotations.specs.declared.notes.Note.{Note}
use Rattle.xt_annotations.specs.declared.notes.Placed.{Placed}
use Rattle.xt_shapes.specs.Lists.{all}
use Rattle.idl_tokens.specs.declared.tokens.TokenKind.TheVariants.{Word}
use Rattle.idl_tokens.specs.Classes.{Text}
use Rattle.idl_tokens.specs.Tokens.{skip}
use Rattle.idl_tokens.specs.Tokens as tokens
use Rattle.idl_input.specs.Words.{keyword}
use Rattle.idl_input.specs.Input.{Parser, sees}
use Rattle.idl_types.specs.State.{State, with_type}
use Rattle.idl_types.specs.Names.{innermost}
use Rattle.idl_definitions.specs.Structures.{Made}
use Rattle.xt_idl.specs.Leading.{site_of}
use Rattle.xt_idl.specs.Whole.{item, may_close, definition_or_module, definition_by, typed}
use Rattle.idl_laws.proofs.Fronts.{Front, front_at}
use Rattle.idl_laws.proofs.Steps.{Reads, keyword_is}
use Rattle.idl_laws.proofs.NoteTexts.{notes_text, is_told, notes_of}
use Rattle.idl_laws.proofs.Notes.{fit, behind_notes, leading_read}
use Rattle.idl_laws.proofs.Ahead.{behind_skips}
use Rattle.idl_laws.proofs.Definitions.{ReadsMade}

and_false : (b : Bool) → (b && false) ≡ false
and_false true = refl
and_false false = refl

-- a definition, from its keyword on
pub typed_read : (s : State) (placed : List Placed) (w : Text) (p : Parser Made) (last full : Text) (t : Tree) (text more rest : Text) → Front Word w text more → definition_by s placed (keyword w) ≡ p → type_fault t ≡ None → ((size : ℕ) → ReadsMade p text last full t rest size) → Reads (typed s placed) text (with_type (innermost s.opened) last full t s) rest
unfolding typed
typed_read s placed w p last full t text more rest front is valid reads size =
    let r : ReadsMade p text last full t rest size = reads size in
    rw (keyword_is front size, is, r.reads, r.fitting, r.content, valid, r.named, r.whole) refl

-- a definition with its annotations is an item
pub item_read : (s new : State) (w : Text) (notes : List Note) (text rest more left : Text) → skip text ≡ skip (notes_text notes ++ rest) → Front Word w rest more → all is_told notes ≡ true → fit (site_of (keyword w)) notes ≡ true → tokens.sees (codes "}") text ≡ false
    → ((placed : List Placed) → definition_or_module s placed (keyword w) ≡ typed s placed)
    → ((placed : List Placed) → notes_of placed ≡ notes → Reads (typed s placed) (behind_notes notes text rest) new left)
    → Reads (item s) text new left
unfolding item sees
item_read s new w notes text rest more left begins front told fits no_brace is reads size =
    let r = leading_read w notes text rest more begins front told fits size in
    let behind : Front Word w (behind_notes notes text rest) more = front_at (behind_notes notes text rest) (behind_skips notes text rest begins) front in
    rw (no_brace, and_false (may_close s), r.reads, keyword_is behind size, is r.placed, reads r.placed r.are size) refl
