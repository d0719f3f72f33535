-- The texts of records, one after another.
use Rattle.std.proofs.Common.{◌≡◌, ℕ, ◌+◌, ◌≤◌, ◌<◌, List, ◌∷◌, ◌++◌, append_assoc, append-nil, map, drop, drop_of_length-le, length, get_or, ap, sym, ◌∙◌}
use Rattle.std.proofs.lemmas.List.{drop_more}
use Rattle.tool_types.specs.declared.declaring.Declared.{Declared as Record}
use Rattle.tool_types.specs.Declaring.{declared_view}
use Rattle.xt_calls.specs.Calls.{text_in, texts_in}

-- what the text so far and the records from one on come to
abbrev pub with_rest : List ℕ → List Record → List ℕ
with_rest text records = text ++ texts_in (map declared_view records)

-- one more text
text_on : (records : List Record) (i : ℕ) (d : Record) (text more all : List ℕ) → i < length records → d ≡ get_or records i d → more ≡ text_in (declared_view d) → all ≡ with_rest text (drop i records) → all ≡ with_rest (text ++ more) (drop (i + 1) records)
text_on records i d text more all lt is said before =
    let rest = texts_in (map declared_view (drop (i + 1) records)) in
    before ∙ ap (with_rest text) (drop_more records i d lt ∙ ap (λ (x : Record). x ∷ drop (i + 1) records) (sym is)) ∙ ap (λ (t : List ℕ). text ++ (t ++ rest)) (sym said) ∙ sym (append_assoc text more rest)

pub appended_on : (records : List Record) (i : ℕ) (d : Record) (text more new all : List ℕ) → i < length records → d ≡ get_or records i d → more ≡ text_in (declared_view d) → new ≡ text ++ more → all ≡ with_rest text (drop i records) → all ≡ with_rest new (drop (i + 1) records)
appended_on records i d text more new all lt is said appended before = text_on records i d text more all lt is said before ∙ ap (λ (t : List ℕ). with_rest t (drop (i + 1) records)) (sym appended)

-- all texts
pub texts_end : (records : List Record) (i : ℕ) (text all : List ℕ) → length records ≤ i → all ≡ with_rest text (drop i records) → text ≡ all
texts_end records i text all past before = sym (before ∙ ap (with_rest text) (drop_of_length-le records past) ∙ append-nil text)
