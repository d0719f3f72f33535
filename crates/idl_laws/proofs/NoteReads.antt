-- One annotation is read as it is printed.
use Rattle.std.proofs.Common.{◌≡◌, ℕ, ◌≤◌, true, false, [], ◌∷◌, ◌++◌, Ok, refl, sym, ap, ◌∙◌, append_assoc, arith}
use Rattle.std.specs.Prelude.{codes, decimal, nat_le, ℤ}
use Rattle.std.specs.Fmt.{signed_decimal}
use Rattle.std.proofs.lemmas.Bool.{false≢true, leb-true, and_parts}
use Rattle.xt_shapes.specs.declared.leaves.Ext.{Ext}
use Rattle.xt_shapes.specs.declared.leaves.Try.{Try}
use Rattle.xt_shapes.specs.Typing.{in_range}
use Rattle.node_rules.specs.Names.{is_identifier}
use Rattle.xt_annotations.specs.declared.notes.Note.{Note}
use Rattle.xt_annotations.specs.declared.notes.Note.TheVariants as note
use Rattle.xt_annotations.specs.Annotations.{annotation}
use Rattle.xt_annotations.specs.Parameters.{parameter, try_word, autoid_word}
use Rattle.xt_annotations.specs.Notes.{named, in_parentheses, of_annotation, note_after}
use Rattle.idl_tokens.specs.Classes.{Text}
use Rattle.idl_tokens.specs.Tokens.{sees}
use Rattle.idl_laws.proofs.Fronts.{ends, front_kind, front_spelling, front_after, word_front, mark_front}
use Rattle.idl_laws.proofs.Numbers.{number_front, signed_front, unsigned_of_decimal, signed_of_decimal}
use Rattle.idl_laws.proofs.Steps.{seen}
use Rattle.idl_laws.proofs.NoteTexts.{note_text, is_told}

-- ---- the text between `@` and the blank

abbrev with_parameter : Text → Text → Text
with_parameter w p = w ++ 40 ∷ (p ++ 41 ∷ [])

abbrev pub note_body : Note → Text
note_body (note.Ext Ext.Final) = codes "final"
note_body (note.Ext Ext.Appendable) = codes "appendable"
note_body (note.Ext Ext.Mutable) = codes "mutable"
note_body (note.Nested b) = codes "nested"
note_body (note.Autoid b) = codes "autoid(HASH)"
note_body (note.Id n) = with_parameter (codes "id") (decimal n)
note_body (note.HashId s) = []
note_body (note.Key b) = codes "key"
note_body (note.Optional b) = codes "optional"
note_body (note.MustUnderstand b) = codes "must_understand"
note_body (note.TryConstruct Try.Discard) = []
note_body (note.TryConstruct Try.UseDefault) = codes "try_construct(USE_DEFAULT)"
note_body (note.TryConstruct Try.Trim) = codes "try_construct(TRIM)"
note_body (note.BitBound n) = with_parameter (codes "bit_bound") (decimal n)
note_body (note.Number n) = with_parameter (codes "value") (signed_decimal n)
note_body note.DefaultLiteral = codes "default_literal"
note_body (note.Position n) = with_parameter (codes "position") (decimal n)
note_body note.Topic = []

parameter_text : (w p more : Text) → with_parameter w p ++ 32 ∷ more ≡ w ++ 40 ∷ (p ++ 41 ∷ 32 ∷ more)
parameter_text w p more = simp append_assoc

pub note_text_is : (n : Note) → is_told n ≡ true → note_text n ≡ 64 ∷ (note_body n ++ 32 ∷ [])
note_text_is (note.Ext Ext.Final) told = refl
note_text_is (note.Ext Ext.Appendable) told = refl
note_text_is (note.Ext Ext.Mutable) told = refl
note_text_is (note.Nested b) told = refl
note_text_is (note.Autoid b) told = refl
note_text_is (note.Id n) told = ap (λ (t : Text). 64 ∷ t) (sym (parameter_text (codes "id") (decimal n) []))
note_text_is (note.HashId s) told = absurd (false≢true told)
note_text_is (note.Key b) told = refl
note_text_is (note.Optional b) told = refl
note_text_is (note.MustUnderstand b) told = refl
note_text_is (note.TryConstruct Try.Discard) told = absurd (false≢true told)
note_text_is (note.TryConstruct Try.UseDefault) told = refl
note_text_is (note.TryConstruct Try.Trim) told = refl
note_text_is (note.BitBound n) told = ap (λ (t : Text). 64 ∷ t) (sym (parameter_text (codes "bit_bound") (decimal n) []))
note_text_is (note.Number n) told = ap (λ (t : Text). 64 ∷ t) (sym (parameter_text (codes "value") (signed_decimal n) []))
note_text_is note.DefaultLiteral told = refl
note_text_is (note.Position n) told = ap (λ (t : Text). 64 ∷ t) (sym (parameter_text (codes "position") (decimal n) []))
note_text_is note.Topic told = absurd (false≢true told)

-- ---- a note without a parameter

-- an annotation is found by its name
by_name : (w rest : Text) → is_identifier w ≡ true → ends rest ≡ true → note_after (w ++ rest) ≡ named (annotation w) rest
unfolding note_after
by_name w rest is over =
    let f = word_front w rest is over in
    rw (front_kind f, front_spelling f, front_after f) refl

final_is : (text : Text) → sees (codes "(") text ≡ false → named (annotation (codes "final")) text ≡ Ok (note.Ext Ext.Final, text)
unfolding annotation of_annotation
final_is text none = rw none refl

appendable_is : (text : Text) → sees (codes "(") text ≡ false → named (annotation (codes "appendable")) text ≡ Ok (note.Ext Ext.Appendable, text)
unfolding annotation of_annotation
appendable_is text none = rw none refl

mutable_is : (text : Text) → sees (codes "(") text ≡ false → named (annotation (codes "mutable")) text ≡ Ok (note.Ext Ext.Mutable, text)
unfolding annotation of_annotation
mutable_is text none = rw none refl

nested_is : (text : Text) → sees (codes "(") text ≡ false → named (annotation (codes "nested")) text ≡ Ok (note.Nested true, text)
unfolding annotation of_annotation
nested_is text none = rw none refl

key_is : (text : Text) → sees (codes "(") text ≡ false → named (annotation (codes "key")) text ≡ Ok (note.Key true, text)
unfolding annotation of_annotation
key_is text none = rw none refl

optional_is : (text : Text) → sees (codes "(") text ≡ false → named (annotation (codes "optional")) text ≡ Ok (note.Optional true, text)
unfolding annotation of_annotation
optional_is text none = rw none refl

must_understand_is : (text : Text) → sees (codes "(") text ≡ false → named (annotation (codes "must_understand")) text ≡ Ok (note.MustUnderstand true, text)
unfolding annotation of_annotation
must_understand_is text none = rw none refl

default_literal_is : (text : Text) → sees (codes "(") text ≡ false → named (annotation (codes "default_literal")) text ≡ Ok (note.DefaultLiteral, text)
unfolding annotation of_annotation
default_literal_is text none = rw none refl

-- ---- a note with a parameter

id_is : (n : ℕ) (more : Text) → n ≤ 268435454 → named (annotation (codes "id")) (40 ∷ (decimal n ++ 41 ∷ 32 ∷ more)) ≡ Ok (note.Id n, 32 ∷ more)
unfolding annotation of_annotation in_parentheses parameter
id_is n more fits =
    let open_mark = mark_front 40 (decimal n ++ 41 ∷ 32 ∷ more) refl in
    let number = number_front n (41 ∷ 32 ∷ more) (omega arith) refl in
    let close_mark = mark_front 41 (32 ∷ more) refl in
    rw (seen open_mark refl, front_after open_mark, front_kind number, front_spelling number, front_after number, unsigned_of_decimal 0 268435454 n (omega arith) (omega arith) fits, seen close_mark refl, front_after close_mark) refl

bit_bound_is : (n : ℕ) (more : Text) → 1 ≤ n → n ≤ 64 → named (annotation (codes "bit_bound")) (40 ∷ (decimal n ++ 41 ∷ 32 ∷ more)) ≡ Ok (note.BitBound n, 32 ∷ more)
unfolding annotation of_annotation in_parentheses parameter
bit_bound_is n more some fits =
    let open_mark = mark_front 40 (decimal n ++ 41 ∷ 32 ∷ more) refl in
    let number = number_front n (41 ∷ 32 ∷ more) (omega arith) refl in
    let close_mark = mark_front 41 (32 ∷ more) refl in
    rw (seen open_mark refl, front_after open_mark, front_kind number, front_spelling number, front_after number, unsigned_of_decimal 1 64 n (omega arith) some fits, seen close_mark refl, front_after close_mark) refl

position_is : (n : ℕ) (more : Text) → n ≤ 63 → named (annotation (codes "position")) (40 ∷ (decimal n ++ 41 ∷ 32 ∷ more)) ≡ Ok (note.Position n, 32 ∷ more)
unfolding annotation of_annotation in_parentheses parameter
position_is n more fits =
    let open_mark = mark_front 40 (decimal n ++ 41 ∷ 32 ∷ more) refl in
    let number = number_front n (41 ∷ 32 ∷ more) (omega arith) refl in
    let close_mark = mark_front 41 (32 ∷ more) refl in
    rw (seen open_mark refl, front_after open_mark, front_kind number, front_spelling number, front_after number, unsigned_of_decimal 0 63 n (omega arith) (omega arith) fits, seen close_mark refl, front_after close_mark) refl

value_is : (n : ℤ) (more : Text) → in_range 4 true n ≡ true → named (annotation (codes "value")) (40 ∷ (signed_decimal n ++ 41 ∷ 32 ∷ more)) ≡ Ok (note.Number n, 32 ∷ more)
unfolding annotation of_annotation in_parentheses parameter
value_is n more fits =
    let open_mark = mark_front 40 (signed_decimal n ++ 41 ∷ 32 ∷ more) refl in
    let number = signed_front n (41 ∷ 32 ∷ more) fits refl in
    let close_mark = mark_front 41 (32 ∷ more) refl in
    rw (seen open_mark refl, front_after open_mark, front_kind number, front_spelling number, front_after number, signed_of_decimal n fits, seen close_mark refl, front_after close_mark) refl

autoid_is : (more : Text) → named (annotation (codes "autoid")) (40 ∷ (codes "HASH" ++ 41 ∷ 32 ∷ more)) ≡ Ok (note.Autoid true, 32 ∷ more)
unfolding annotation of_annotation in_parentheses parameter autoid_word try_word
autoid_is more =
    let open_mark = mark_front 40 (codes "HASH" ++ 41 ∷ 32 ∷ more) refl in
    let word = word_front (codes "HASH") (41 ∷ 32 ∷ more) refl refl in
    let close_mark = mark_front 41 (32 ∷ more) refl in
    rw (seen open_mark refl, front_after open_mark, front_kind word, front_spelling word, front_after word, seen close_mark refl, front_after close_mark) refl

use_default_is : (more : Text) → named (annotation (codes "try_construct")) (40 ∷ (codes "USE_DEFAULT" ++ 41 ∷ 32 ∷ more)) ≡ Ok (note.TryConstruct Try.UseDefault, 32 ∷ more)
unfolding annotation of_annotation in_parentheses parameter autoid_word try_word
use_default_is more =
    let open_mark = mark_front 40 (codes "USE_DEFAULT" ++ 41 ∷ 32 ∷ more) refl in
    let word = word_front (codes "USE_DEFAULT") (41 ∷ 32 ∷ more) refl refl in
    let close_mark = mark_front 41 (32 ∷ more) refl in
    rw (seen open_mark refl, front_after open_mark, front_kind word, front_spelling word, front_after word, seen close_mark refl, front_after close_mark) refl

trim_is : (more : Text) → named (annotation (codes "try_construct")) (40 ∷ (codes "TRIM" ++ 41 ∷ 32 ∷ more)) ≡ Ok (note.TryConstruct Try.Trim, 32 ∷ more)
unfolding annotation of_annotation in_parentheses parameter autoid_word try_word
trim_is more =
    let open_mark = mark_front 40 (codes "TRIM" ++ 41 ∷ 32 ∷ more) refl in
    let word = word_front (codes "TRIM") (41 ∷ 32 ∷ more) refl refl in
    let close_mark = mark_front 41 (32 ∷ more) refl in
    rw (seen open_mark refl, front_after open_mark, front_kind word, front_spelling word, front_after word, seen close_mark refl, front_after close_mark) refl

-- ---- all

told_alone : (w more : Text) (n : Note) → is_identifier w ≡ true → named (annotation w) (32 ∷ more) ≡ Ok (n, 32 ∷ more) → note_after (w ++ 32 ∷ more) ≡ Ok (n, 32 ∷ more)
told_alone w more n is e = by_name w (32 ∷ more) is refl ∙ e

told_with : (w p more : Text) (n : Note) → is_identifier w ≡ true → named (annotation w) (40 ∷ (p ++ 41 ∷ 32 ∷ more)) ≡ Ok (n, 32 ∷ more) → note_after (with_parameter w p ++ 32 ∷ more) ≡ Ok (n, 32 ∷ more)
told_with w p more n is e = ap note_after (parameter_text w p more) ∙ (by_name w (40 ∷ (p ++ 41 ∷ 32 ∷ more)) is refl ∙ e)

-- a note behind its `@`, with the blank left, where no parameter follows
pub note_reads : (n : Note) (more : Text) → is_told n ≡ true → sees (codes "(") (32 ∷ more) ≡ false → note_after (note_body n ++ 32 ∷ more) ≡ Ok (n, 32 ∷ more)
note_reads (note.Ext Ext.Final) more told none = told_alone (codes "final") more (note.Ext Ext.Final) refl (final_is (32 ∷ more) none)
note_reads (note.Ext Ext.Appendable) more told none = told_alone (codes "appendable") more (note.Ext Ext.Appendable) refl (appendable_is (32 ∷ more) none)
note_reads (note.Ext Ext.Mutable) more told none = told_alone (codes "mutable") more (note.Ext Ext.Mutable) refl (mutable_is (32 ∷ more) none)
note_reads (note.Nested true) more told none = told_alone (codes "nested") more (note.Nested true) refl (nested_is (32 ∷ more) none)
note_reads (note.Nested false) more told none = absurd (false≢true told)
note_reads (note.Autoid true) more told none = by_name (codes "autoid") (codes "(HASH)" ++ 32 ∷ more) refl refl ∙ autoid_is more
note_reads (note.Autoid false) more told none = absurd (false≢true told)
note_reads (note.Id n) more told none = told_with (codes "id") (decimal n) more (note.Id n) refl (id_is n more (leb-true n 268435454 told))
note_reads (note.HashId s) more told none = absurd (false≢true told)
note_reads (note.Key true) more told none = told_alone (codes "key") more (note.Key true) refl (key_is (32 ∷ more) none)
note_reads (note.Key false) more told none = absurd (false≢true told)
note_reads (note.Optional true) more told none = told_alone (codes "optional") more (note.Optional true) refl (optional_is (32 ∷ more) none)
note_reads (note.Optional false) more told none = absurd (false≢true told)
note_reads (note.MustUnderstand true) more told none = told_alone (codes "must_understand") more (note.MustUnderstand true) refl (must_understand_is (32 ∷ more) none)
note_reads (note.MustUnderstand false) more told none = absurd (false≢true told)
note_reads (note.TryConstruct Try.Discard) more told none = absurd (false≢true told)
note_reads (note.TryConstruct Try.UseDefault) more told none = by_name (codes "try_construct") (codes "(USE_DEFAULT)" ++ 32 ∷ more) refl refl ∙ use_default_is more
note_reads (note.TryConstruct Try.Trim) more told none = by_name (codes "try_construct") (codes "(TRIM)" ++ 32 ∷ more) refl refl ∙ trim_is more
note_reads (note.BitBound n) more told none =
    let both = and_parts (nat_le 1 n) (nat_le n 64) told in
    told_with (codes "bit_bound") (decimal n) more (note.BitBound n) refl (bit_bound_is n more (leb-true 1 n both.0) (leb-true n 64 both.1))
note_reads (note.Number n) more told none = told_with (codes "value") (signed_decimal n) more (note.Number n) refl (value_is n more told)
note_reads note.DefaultLiteral more told none = told_alone (codes "default_literal") more note.DefaultLiteral refl (default_literal_is (32 ∷ more) none)
note_reads (note.Position n) more told none = told_with (codes "position") (decimal n) more (note.Position n) refl (position_is n more (leb-true n 63 told))
note_reads note.Topic more told none = absurd (false≢true told)
