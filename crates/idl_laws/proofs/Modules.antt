-- How the opening and the end of a module are read.
use Rattle.std.proofs.Common.{◌≡◌, ℕ, zero, suc, ◌<◌, true, false, [], ◌∷◌, ◌++◌, length, Some, None, Ok, refl, ap, ◌∙◌, length-append, arith}
use Rattle.std.proofs.Math.Bool.{and-false}
use Rattle.std.proofs.lemmas.Bool.{le-leb}
use Rattle.std.specs.Prelude.{codes}
use Rattle.idl_tokens.specs.declared.tokens.TokenKind.TheVariants.{Word, Mark}
use Rattle.idl_tokens.specs.Classes.{Text}
use Rattle.idl_tokens.specs.Tokens.{skip}
use Rattle.idl_tokens.specs.declared.names.scopes.Meaning.TheVariants as meaning_of
use Rattle.idl_tokens.specs.names.Scopes.{meaning}
use Rattle.idl_input.specs.declared.words.Keyword.TheVariants as word
use Rattle.idl_input.specs.Words.{keyword}
use Rattle.idl_input.specs.Input.{turns}
use Rattle.idl_types.specs.State.{State, with_module, without_module}
use Rattle.idl_types.specs.Names.{innermost, with_new_module}
use Rattle.xt_idl.specs.Leading.{leading_from, leading, leading_notes}
use Rattle.xt_idl.specs.Whole.{opened_by, module_def, may_close, closed, item}
use Rattle.idl_laws.proofs.Fronts.{Front, front_at, skip_blank, skip_short, word_front, mark_front}
use Rattle.idl_laws.proofs.Steps.{at, Reads, next_is, sees_is, sees_not, want_is, name_is, keyword_is}
use Rattle.idl_laws.proofs.Names.{is_free, free_word, free_no_keyword}
use Rattle.idl_laws.proofs.Items.{Runs, runs_item}

keyword_module : keyword (codes "module") ≡ Some word.Module
unfolding keyword
keyword_module = refl

-- no notes stand before a module
leading_none : {text more : Text} (count : ℕ) → Front Word (codes "module") text more → (size : ℕ) → leading_from count [] (at text size) ≡ Ok ([], at text size)
unfolding leading_from
leading_none zero f size = refl
leading_none (suc count) f size = rw (sees_not (codes "@") f refl size) refl

no_notes : {text more : Text} → Front Word (codes "module") text more → (size : ℕ) → leading_notes (at text size) ≡ Ok ([], at text size)
unfolding leading_notes leading
no_notes {text} {more} f size = rw (leading_none (turns (at text size)) f size) refl

-- ---- an opening

-- the text of an opening
abbrev pub opening : Text → Text → Text
opening x rest = codes "module" ++ (32 ∷ (x ++ (32 ∷ 123 ∷ 32 ∷ rest)))

module_front : (text x rest : Text) → skip text ≡ skip (opening x rest) → Front Word (codes "module") text (32 ∷ (x ++ (32 ∷ 123 ∷ 32 ∷ rest)))
module_front text x rest begins = front_at text begins (word_front (codes "module") (32 ∷ (x ++ (32 ∷ 123 ∷ 32 ∷ rest))) refl refl)

name_front : (x rest : Text) → is_free x ≡ true → Front Word x (32 ∷ (x ++ (32 ∷ 123 ∷ 32 ∷ rest))) (32 ∷ 123 ∷ 32 ∷ rest)
name_front x rest free = front_at (32 ∷ (x ++ (32 ∷ 123 ∷ 32 ∷ rest))) (skip_blank (x ++ (32 ∷ 123 ∷ 32 ∷ rest))) (word_front x (32 ∷ 123 ∷ 32 ∷ rest) (free_word x free) refl)

brace_front : (rest : Text) → Front Mark (codes "{") (32 ∷ 123 ∷ 32 ∷ rest) (32 ∷ rest)
brace_front rest = front_at (32 ∷ 123 ∷ 32 ∷ rest) (skip_blank (123 ∷ 32 ∷ rest)) (mark_front 123 (32 ∷ rest) refl)

-- the brace, and what the name means
Opened : State → Text → State → Type 0
Opened s x new = (place : ℕ) (rest : Text) (size : ℕ) → opened_by place x s (meaning (innermost s.opened) x s.names) (at (32 ∷ 123 ∷ 32 ∷ rest) size) ≡ Ok (new, at (32 ∷ rest) size)

opens_module : (s new : State) (text x rest : Text) → skip text ≡ skip (opening x rest) → is_free x ≡ true → Opened s x new → Reads (module_def s) text new (32 ∷ rest)
unfolding module_def Opened
opens_module s new text x rest begins free opened size =
    rw (next_is (module_front text x rest begins) size, name_is (name_front x rest free) (free_no_keyword x free) size, opened _ rest size) refl

opens_item : (s new : State) (text x rest : Text) → skip text ≡ skip (opening x rest) → is_free x ≡ true → Opened s x new → Reads (item s) text new (32 ∷ rest)
unfolding item
opens_item s new text x rest begins free opened size =
    let f = module_front text x rest begins in
    rw (sees_not (codes "}") f refl size, and-false, no_notes f size, keyword_is f size, keyword_module) (opens_module s new text x rest begins free opened size)

opened_new : (s : State) (x : Text) → meaning (innermost s.opened) x s.names ≡ None → Opened s x (with_new_module x s)
unfolding Opened
opened_new s x new place rest size = rw (new, want_is (brace_front rest) refl size) refl

opened_again : (s : State) (x : Text) (number : ℕ) → meaning (innermost s.opened) x s.names ≡ Some (meaning_of.Module number) → Opened s x (with_module number x s)
unfolding Opened
opened_again s x number known place rest size = rw (known, want_is (brace_front rest) refl size) refl

opening_longer : (text x rest : Text) → skip text ≡ skip (opening x rest) → length (skip (32 ∷ rest)) < length (skip text)
opening_longer text x rest begins =
    omega (arith, ap length (skip_blank rest), skip_short rest, ap length ((module_front text x rest begins).at), length-append x (32 ∷ 123 ∷ 32 ∷ rest))

opens_run : (s new : State) (text x rest : Text) → skip text ≡ skip (opening x rest) → is_free x ≡ true → Opened s x new → Runs s text new (32 ∷ rest)
opens_run s new text x rest begins free opened = runs_item (module_front text x rest begins) refl (opening_longer text x rest begins) (opens_item s new text x rest begins free opened)

pub new_run : (s : State) (text x rest : Text) → skip text ≡ skip (opening x rest) → is_free x ≡ true → meaning (innermost s.opened) x s.names ≡ None → Runs s text (with_new_module x s) (32 ∷ rest)
new_run s text x rest begins free new = opens_run s (with_new_module x s) text x rest begins free (opened_new s x new)

pub again_run : (s : State) (text x rest : Text) (number : ℕ) → skip text ≡ skip (opening x rest) → is_free x ≡ true → meaning (innermost s.opened) x s.names ≡ Some (meaning_of.Module number) → Runs s text (with_module number x s) (32 ∷ rest)
again_run s text x rest number begins free known = opens_run s (with_module number x s) text x rest begins free (opened_again s x number known)

-- ---- an end

-- the text of an end
abbrev pub ending : Text → Text
ending rest = 32 ∷ 125 ∷ 59 ∷ rest

end_front : (text rest : Text) → skip text ≡ skip (ending rest) → Front Mark (codes "}") text (59 ∷ rest)
end_front text rest begins = front_at text (begins ∙ skip_blank (125 ∷ 59 ∷ rest)) (mark_front 125 (59 ∷ rest) refl)

closable : (s : State) (n : ℕ) → length s.opened ≡ suc n → s.fresh ≡ false → may_close s ≡ true
closable s n some old = rw (some, old, le-leb 1 (suc n) (omega arith)) refl

ends_module : (s : State) (text rest : Text) → skip text ≡ skip (ending rest) → Reads (closed s) text (without_module s) rest
unfolding closed
ends_module s text rest begins size = rw (next_is (end_front text rest begins) size, want_is (mark_front 59 rest refl) refl size) refl

ends_item : (s : State) (n : ℕ) (text rest : Text) → skip text ≡ skip (ending rest) → length s.opened ≡ suc n → s.fresh ≡ false → Reads (item s) text (without_module s) rest
unfolding item
ends_item s n text rest begins some old size = rw (closable s n some old, sees_is (end_front text rest begins) refl size) (ends_module s text rest begins size)

ending_longer : (text rest : Text) → skip text ≡ skip (ending rest) → length (skip rest) < length (skip text)
ending_longer text rest begins = omega (arith, skip_short rest, ap length ((end_front text rest begins).at))

pub end_run : (s : State) (n : ℕ) (text rest : Text) → skip text ≡ skip (ending rest) → length s.opened ≡ suc n → s.fresh ≡ false → Runs s text (without_module s) rest
end_run s n text rest begins some old = runs_item (end_front text rest begins) refl (ending_longer text rest begins) (ends_item s n text rest begins some old)
