use Rattle.std.proofs.Common.{◌≡◌, true, ℕ, List, sym, ◌∙◌, subst}
use Rattle.std.specs.Str.{is_utf8}
use Rattle.json_values.proofs.Utf8.{hex_is_text}
use Rattle.json_values.proofs.write.write_bits64.Goals as goal

pub text_of-requires : goal.text_of-requires
text_of-requires c = subst (λ (s : List ℕ). is_utf8 s ≡ true) (sym (c.as_slice.ensures ∙ c.digits64-digits.ensures)) (hex_is_text _)
