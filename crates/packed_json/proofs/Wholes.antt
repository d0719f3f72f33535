-- Whole numbers in print.
use Rattle.std.proofs.Common.{◌≡◌, ◌∙◌, ℕ, ℤ, pos, negsuc, int_le, suc, ◌+◌, ◌-◌, Bool, true, false, List, [], ◌∷◌, ◌++◌, length, take, drop, decimal, append_assoc, unsigned_abs, arith}
use Rattle.std.proofs.lemmas.List.{take_all, take-append-le}
use Rattle.std.proofs.Math.Seq.{take-append-add}
use Rattle.serde_json.specs.Written.{comma_if, compact_text}
use Rattle.json_values.specs.Written.{whole}
use Rattle.packed_json.specs.Plans.{key_behind}

-- of the twenty octets from the first digit on, those before the twentieth place are the digits
pub digits_first : (n start : ℕ) (buffer rest : List ℕ) → start + length (decimal n) ≡ 20 → drop start buffer ≡ decimal n ++ rest → take (20 - start) (take ((start + 20) - start) (drop start buffer)) ≡ decimal n
digits_first n start buffer rest long there =
    let ds = decimal n in
    let count : 20 - start ≡ length ds = omega (arith, long) in
    let all : (start + 20) - start ≡ length ds + start = omega (arith, long) in
    rw (there, count, all, take-append-add ds rest start) (take-append-le (length ds) ds (take start rest) (omega arith) ∙ take_all (length ds) ds (omega arith))

-- a number below zero is a sign and the digits of its size
pub negative_added : (later : Bool) (z : ℤ) (m : ℕ) (old signed new : List ℕ) → int_le z (negsuc 0) ≡ true → m ≡ unsigned_abs z → signed ≡ old ++ key_behind later (44 ∷ 45 ∷ []) → new ≡ signed ++ decimal m → new ≡ old ++ (comma_if later ++ compact_text (whole z))
negative_added later (pos n) m old signed new below is behind added = absurd cc
negative_added true (negsuc n) m old signed new below is behind added = rw (added, behind, is) (append_assoc old (44 ∷ 45 ∷ []) (decimal (suc n)))
negative_added false (negsuc n) m old signed new below is behind added = rw (added, behind, is) (append_assoc old (45 ∷ []) (decimal (suc n)))
