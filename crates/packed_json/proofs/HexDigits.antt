-- Hexadecimal digits need no escape.
use Rattle.std.proofs.Common.{◌≡◌, refl, ℕ, zero, suc, ◌/◌, ◌%◌, ◌<◌, List, [], ◌∷◌, true, nat_lt, slice_index, arith}
use Rattle.std.proofs.lemmas.Bool.{and_parts, ltb-true}
use Rattle.json.specs.Print.{escape, escape_byte}
use Rattle.hex.specs.Hex.{encode_lower, encode_with, lower_digits}
use Rattle.xt_shapes.specs.Lists.{all}

digit_plain : (d : ℕ) → d < 16 → escape_byte (slice_index lower_digits d) ≡ slice_index lower_digits d ∷ []
unfolding escape_byte
digit_plain zero p = refl
digit_plain (suc zero) p = refl
digit_plain (suc (suc zero)) p = refl
digit_plain (suc (suc (suc zero))) p = refl
digit_plain (suc (suc (suc (suc zero)))) p = refl
digit_plain (suc (suc (suc (suc (suc zero))))) p = refl
digit_plain (suc (suc (suc (suc (suc (suc zero)))))) p = refl
digit_plain (suc (suc (suc (suc (suc (suc (suc zero))))))) p = refl
digit_plain (suc (suc (suc (suc (suc (suc (suc (suc zero)))))))) p = refl
digit_plain (suc (suc (suc (suc (suc (suc (suc (suc (suc zero))))))))) p = refl
digit_plain (suc (suc (suc (suc (suc (suc (suc (suc (suc (suc zero)))))))))) p = refl
digit_plain (suc (suc (suc (suc (suc (suc (suc (suc (suc (suc (suc zero))))))))))) p = refl
digit_plain (suc (suc (suc (suc (suc (suc (suc (suc (suc (suc (suc (suc zero)))))))))))) p = refl
digit_plain (suc (suc (suc (suc (suc (suc (suc (suc (suc (suc (suc (suc (suc zero))))))))))))) p = refl
digit_plain (suc (suc (suc (suc (suc (suc (suc (suc (suc (suc (suc (suc (suc (suc zero)))))))))))))) p = refl
digit_plain (suc (suc (suc (suc (suc (suc (suc (suc (suc (suc (suc (suc (suc (suc (suc zero))))))))))))))) p = refl
digit_plain (suc (suc (suc (suc (suc (suc (suc (suc (suc (suc (suc (suc (suc (suc (suc (suc d)))))))))))))))) p = absurd (omega arith)

pub hex_escape : (ys : List ℕ) → all (λ y. nat_lt y 256) ys ≡ true → escape (encode_lower ys) ≡ encode_lower ys
unfolding encode_with
hex_escape [] each = refl
hex_escape (y ∷ ys) each =
    let parts = and_parts (nat_lt y 256) (all (λ x. nat_lt x 256) ys) each in
    let small : y < 256 = ltb-true y 256 parts.0 in
    rw (digit_plain (y / 16) (omega arith), digit_plain (y % 16) (omega arith), hex_escape ys parts.1) refl
