-- Enumerations and bitmasks are read as they are printed.
use Rattle.std.proofs.Common.{◌≡◌, refl, ℕ, true, List, [], ◌∷◌, ◌++◌, Some}
use Rattle.std.specs.Prelude.{codes}
use Rattle.xt_shapes.specs.declared.leaves.Ext.{Ext}
use Rattle.type_trees.specs.declared.types.Literal.{Literal}
use Rattle.type_trees.specs.declared.types.Flag.{Flag}
use Rattle.type_trees.specs.Trees.{enumeration, bitmask}
use Rattle.idl_tokens.specs.declared.tokens.TokenKind.TheVariants.{Word, Mark}
use Rattle.idl_tokens.specs.Classes.{Text}
use Rattle.idl_tokens.specs.Tokens.{skip}
use Rattle.idl_input.specs.Input.{place}
use Rattle.idl_types.specs.State.{State}
use Rattle.idl_definitions.specs.declared.settings.Settings.{Settings}
use Rattle.idl_definitions.specs.Numbered.{numbered_def, enum_def, bitmask_def}
use Rattle.idl_printer.specs.Parts.{literals_text, flags_text}
use Rattle.idl_laws.proofs.Fronts.{Front, skip_blank, mark_front}
use Rattle.idl_laws.proofs.Steps.{at, next_is, want_is}
use Rattle.idl_laws.proofs.Numbered.{AreLiterals, AreFlags, ReadsLiterals, ReadsFlags, literals_read, flags_read}
use Rattle.idl_laws.proofs.Ahead.{word_at, mark_at}
use Rattle.idl_laws.proofs.Definitions.{IsNewType, ReadsMade, new_type_read}

-- a name and what stands in braces
abbrev braced : Text → Text → Text → Text
braced name inside rest = name ++ (32 ∷ 123 ∷ 32 ∷ (inside ++ (32 ∷ 125 ∷ 59 ∷ rest)))

-- what is printed from the keyword on
abbrev pub enum_body : Text → List Literal → Text → Text
enum_body name ls rest = codes "enum" ++ (32 ∷ braced name (literals_text ls) rest)

abbrev pub mask_body : Text → List Flag → Text → Text
mask_body name fs rest = codes "bitmask" ++ (32 ∷ braced name (flags_text fs) rest)

pub enum_read : (s : State) (set : Settings) (last full : Text) → IsNewType s last full → (ext : Ext) (bits : ℕ) (l : Literal) (ls : List Literal) → set.ext ≡ ext → set.bits ≡ bits → AreLiterals [] (l ∷ ls) → (text rest : Text) → skip text ≡ skip (enum_body last (l ∷ ls) rest) → (size : ℕ)
    → ReadsMade (enum_def s set) text last full (enumeration (Some full) ext bits (l ∷ ls)) rest size
unfolding numbered_def
enum_read s set last full new ext bits l ls set_ext set_bits are text rest begins size =
    let inside = 32 ∷ (literals_text (l ∷ ls) ++ (32 ∷ 125 ∷ 59 ∷ rest)) in
    let named = 32 ∷ braced last (literals_text (l ∷ ls)) rest in
    let front : Front Word (codes "enum") text named = word_at (codes "enum") text named begins refl refl in
    let name = new_type_read s last full new named (32 ∷ 123 ∷ inside) (skip_blank (braced last (literals_text (l ∷ ls)) rest)) refl size in
    let brace : Front Mark (123 ∷ []) (32 ∷ 123 ∷ inside) inside = mark_at 123 (skip_blank (123 ∷ inside)) refl in
    let r : ReadsLiterals (l ∷ ls) inside (32 ∷ 125 ∷ 59 ∷ rest) size = literals_read l ls are inside (59 ∷ rest) (skip_blank (literals_text (l ∷ ls) ++ (32 ∷ 125 ∷ 59 ∷ rest))) size in
    let close : Front Mark (125 ∷ []) (32 ∷ 125 ∷ 59 ∷ rest) (59 ∷ rest) = mark_at 125 (skip_blank (125 ∷ 59 ∷ rest)) refl in
    record {
      made = record { at = place (at named size); name = last; full = full; tree = enumeration (Some full) set.ext set.bits r.read.parts; fits = true };
      reads = rw (next_is front size, name, want_is brace refl size, r.reads, want_is close refl size, want_is (mark_front 59 rest refl) refl size) refl;
      named = refl;
      whole = refl;
      content = rw (set_ext, set_bits, r.are) refl;
      fitting = refl;
    }

pub mask_read : (s : State) (set : Settings) (last full : Text) → IsNewType s last full → (bits : ℕ) (f : Flag) (fs : List Flag) → set.bits ≡ bits → AreFlags [] (f ∷ fs) → (text rest : Text) → skip text ≡ skip (mask_body last (f ∷ fs) rest) → (size : ℕ)
    → ReadsMade (bitmask_def s set) text last full (bitmask (Some full) bits (f ∷ fs)) rest size
unfolding numbered_def
mask_read s set last full new bits f fs set_bits are text rest begins size =
    let inside = 32 ∷ (flags_text (f ∷ fs) ++ (32 ∷ 125 ∷ 59 ∷ rest)) in
    let named = 32 ∷ braced last (flags_text (f ∷ fs)) rest in
    let front : Front Word (codes "bitmask") text named = word_at (codes "bitmask") text named begins refl refl in
    let name = new_type_read s last full new named (32 ∷ 123 ∷ inside) (skip_blank (braced last (flags_text (f ∷ fs)) rest)) refl size in
    let brace : Front Mark (123 ∷ []) (32 ∷ 123 ∷ inside) inside = mark_at 123 (skip_blank (123 ∷ inside)) refl in
    let r : ReadsFlags (f ∷ fs) inside (32 ∷ 125 ∷ 59 ∷ rest) size = flags_read f fs are inside (59 ∷ rest) (skip_blank (flags_text (f ∷ fs) ++ (32 ∷ 125 ∷ 59 ∷ rest))) size in
    let close : Front Mark (125 ∷ []) (32 ∷ 125 ∷ 59 ∷ rest) (59 ∷ rest) = mark_at 125 (skip_blank (125 ∷ 59 ∷ rest)) refl in
    record {
      made = record { at = place (at named size); name = last; full = full; tree = bitmask (Some full) set.bits r.read.parts; fits = true };
      reads = rw (next_is front size, name, want_is brace refl size, r.reads, want_is close refl size, want_is (mark_front 59 rest refl) refl size) refl;
      named = refl;
      whole = refl;
      content = rw (set_bits, r.are) refl;
      fitting = refl;
    }
