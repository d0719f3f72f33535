use Rattle.std.proofs.Common.{◌≡◌, true, ℕ, List, sym, ◌∙◌, subst}
use Rattle.std.specs.Str.{is_utf8}
use Rattle.json_values.proofs.Utf8.{hex_is_text}
use Rattle.dynamic_data.proofs.numbers.singles.put_digits.Goals as goal

pub text_of-requires : goal.text_of-requires
text_of-requires c = subst (λ (s : List ℕ). is_utf8 s ≡ true) (sym (c.as_slice.ensures ∙ c.digits_of-digits.ensures)) (hex_is_text _)
