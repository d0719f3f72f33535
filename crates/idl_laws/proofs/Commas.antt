-- Parts with commas between them are read as they are printed.
use Rattle.std.proofs.Common.{◌≡◌, ℕ, zero, suc, ◌≤◌, ◌<◌, true, false, List, [], ◌∷◌, ◌++◌, length, Ok, refl, ap, ◌∙◌, append_assoc, arith}
use Rattle.std.specs.Prelude.{codes}
use Rattle.std.proofs.lemmas.List.{length-append}
use Rattle.idl_tokens.specs.declared.tokens.TokenKind.TheVariants.{Mark}
use Rattle.idl_tokens.specs.Classes.{Text}
use Rattle.idl_tokens.specs.Tokens.{skip}
use Rattle.idl_tokens.specs.Tokens as tokens
use Rattle.idl_input.specs.Input.{Parser, left}
use Rattle.idl_definitions.specs.Lists.{comma_from, with_commas}
use Rattle.idl_laws.proofs.Fronts.{Front, ends, mark_front, skip_blank, skip_solid}
use Rattle.idl_laws.proofs.Steps.{at, Reads, sees_is, after_if_is}
use Rattle.idl_laws.proofs.Ahead.{sees_no, after_if_no}

comma_more : {A : Type 0} (step : A → Parser A) (fuel : ℕ) (a b : A) (text mid rest : Text) (size : ℕ) → step a (at text size) ≡ Ok (b, at mid size) → Front Mark (codes ",") mid rest →
    comma_from step (suc fuel) a (at text size) ≡ comma_from step fuel b (at rest size)
unfolding comma_from
comma_more step fuel a b text mid rest size e f = rw (e, sees_is f refl size, after_if_is f refl size) refl

comma_last : {A : Type 0} (step : A → Parser A) (fuel : ℕ) (a b : A) (text mid : Text) (size : ℕ) → step a (at text size) ≡ Ok (b, at mid size) → tokens.sees (codes ",") mid ≡ false →
    comma_from step (suc fuel) a (at text size) ≡ Ok (b, at mid size)
unfolding comma_from
comma_last step fuel a b text mid size e none = rw (e, sees_no (codes ",") mid none size, after_if_no (codes ",") mid none size) refl

-- more parts, each behind a comma
abbrev pub more_text : {P : Type 0} → (P → Text) → List P → Text
more_text text_of [] = []
more_text text_of (p ∷ ps) = codes ", " ++ text_of p ++ more_text text_of ps

-- what is gathered of parts
abbrev pub with_parts : {R P : Type 0} → (R → P → R) → R → List P → R
with_parts with_part r [] = r
with_parts with_part r (p ∷ ps) = with_parts with_part (with_part r p) ps

-- each part is good behind what was gathered before it
abbrev pub EachGood : {R P : Type 0} → (R → P → R) → (R → P → Type 0) → R → List P → Type 0
EachGood with_part Good r [] = Unit {0}
EachGood with_part Good r (p ∷ ps) = Good r p × EachGood with_part Good (with_part r p) ps

count_parts : {P : Type 0} (text_of : P → Text) (ps : List P) → length ps ≤ length (more_text text_of ps)
count_parts text_of [] = omega arith
count_parts text_of (p ∷ ps) = omega (arith, length-append (text_of p) (more_text text_of ps), count_parts text_of ps)

-- a text that begins with an annotation
pub record BeginsNoted (s : Text) : Type 0 where
  pub others : Text
  pub is : s ≡ 64 ∷ others

enough_turns : {P : Type 0} (text_of : P → Text) (p : P) (ps : List P) (tail : Text) → BeginsNoted (text_of p) → length ps < length (skip (text_of p ++ more_text text_of ps ++ tail))
enough_turns text_of p ps tail b =
    let more = more_text text_of ps in
    let e : length (skip (text_of p ++ more ++ tail)) ≡ suc (length (b.others ++ more ++ tail)) =
    ap (λ (s : Text). length (skip (s ++ more ++ tail))) b.is ∙ ap (λ (s : Text). length s) (skip_solid 64 (b.others ++ more ++ tail) refl) in
    omega (arith, e, length-append (b.others ++ more) tail, length-append b.others more, count_parts text_of ps)

module _ {R P : Type 0} (step : R → Parser R) (text_of : P → Text) (with_part : R → P → R) (Good : R → P → Type 0)
    (reads : (r : R) (p : P) → Good r p → (text rest : Text) → skip text ≡ skip (text_of p ++ rest) → ends rest ≡ true → Reads (step r) text (with_part r p) rest)
    (tail : Text) (over : ends tail ≡ true) (none : tokens.sees (codes ",") tail ≡ false) where
  more_ends : (ps : List P) → ends (more_text text_of ps ++ tail) ≡ true
  more_ends [] = over
  more_ends (p ∷ ps) = refl

  commas_from : (ps : List P) (p : P) (fuel : ℕ) (r : R) → EachGood with_part Good r (p ∷ ps) → (text : Text) → skip text ≡ skip (text_of p ++ more_text text_of ps ++ tail) →
      length ps < fuel → (size : ℕ) → comma_from step fuel r (at text size) ≡ Ok (with_parts with_part r (p ∷ ps), at tail size)
  commas_from ps p zero r good text begins enough size = absurd (omega arith)
  commas_from [] p (suc fuel) r good text begins enough size =
      comma_last step fuel r (with_part r p) text tail size (reads r p good.0 text tail (begins ∙ ap skip (append_assoc (text_of p) [] tail)) over size) none
  commas_from (q ∷ qs) p (suc fuel) r good text begins enough size =
      let rest = 32 ∷ (text_of q ++ more_text text_of qs ++ tail) in
      comma_more step fuel r (with_part r p) text (44 ∷ rest) rest size
      (reads r p good.0 text (44 ∷ rest) (begins ∙ ap skip (append_assoc (text_of p) (more_text text_of (q ∷ qs)) tail)) refl size) (mark_front 44 rest refl)
      ∙ commas_from qs q fuel (with_part r p) good.1 rest (skip_blank (text_of q ++ more_text text_of qs ++ tail)) (omega arith) size

  -- one or more parts, before a text that goes on with no comma
  pub commas_read : (p : P) (ps : List P) (r : R) → EachGood with_part Good r (p ∷ ps) → BeginsNoted (text_of p) → (text : Text) → skip text ≡ skip (text_of p ++ more_text text_of ps ++ tail) →
      Reads (with_commas step r) text (with_parts with_part r (p ∷ ps)) tail
  unfolding left
  commas_read p ps r good noted text begins size =
      let enough : length ps < length (skip text) = rw begins (enough_turns text_of p ps tail noted) in
      commas_from ps p (length (skip text)) r good text begins enough size
