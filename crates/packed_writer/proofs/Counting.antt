-- Four octets that are set to a count.
use Rattle.std.proofs.Common.{◌≡◌, sym, ap, ◌∙◌, ℕ, ◌+◌, ◌≤◌, List, ◌++◌, length, take, drop, arith, append_assoc, length-append}
use Rattle.std.proofs.lemmas.List.{take-append-drop, take-append-le, take_all, length-take-le, length-drop}
use Rattle.std.proofs.lemmas.Slice.{take-put_mid, drop-put_mid}
use Rattle.std.specs.Int.{bytes_low_first}
use Rattle.xt_shapes.specs.declared.leaves.Order.TheVariants.{Little}
use Rattle.xcdr_model.specs.Numbers.{octets}
use Rattle.xt_wire.proofs.OfWriter.NumberSteps.{low_front}
use borrow.Rule.Slice.PartMut.{put_mid}

-- a part that is written over
pub put_parts : (a k : ℕ) (xs ys : List ℕ) → length ys ≡ k → a + k ≤ length xs → put_mid a k xs ys ≡ take a xs ++ (ys ++ drop (a + k) xs)
put_parts a k xs ys long within =
    let all = put_mid a k xs ys in
    sym (take-append-drop (a + k) all)
    ∙ ap (λ (l : List ℕ). l ++ drop (a + k) all) (take-put_mid a k xs ys (a + k) (omega (arith, long)) (omega (arith, within)))
    ∙ ap (λ (l : List ℕ). (take a xs ++ ys) ++ l) (drop-put_mid a k xs ys (a + k) (omega arith) (omega (arith, within)) long)
    ∙ append_assoc (take a xs) ys (drop (a + k) xs)

-- the k octets of a number
pub octets_set : (k n : ℕ) (ys rest : List ℕ) → length ys ≡ k → k ≤ length (bytes_low_first 0 k n) → ys ≡ bytes_low_first 0 k n ++ rest → ys ≡ octets Little k n
unfolding octets
octets_set k n ys rest many few e = sym (take_all k ys (omega (arith, many))) ∙ ap (λ (l : List ℕ). take k l) e ∙ take-append-le k (bytes_low_first 0 k n) rest few ∙ low_front k k n (omega arith)

pub length_put : (a k : ℕ) (xs ys : List ℕ) → length ys ≡ k → a + k ≤ length xs → length (put_mid a k xs ys) ≡ length xs
length_put a k xs ys long within =
    ap length (put_parts a k xs ys long within) ∙ omega (arith, length-append (take a xs) (ys ++ drop (a + k) xs), length-append ys (drop (a + k) xs), length-take-le a xs (omega (arith, within)), length-drop (a + k) xs, long, within)
