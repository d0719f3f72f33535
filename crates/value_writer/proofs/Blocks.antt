-- A block that numbers are added to.
use Rattle.std.proofs.Common.{◌≡◌, refl, sym, ap, ◌∙◌, ℕ, ◌+◌, ◌%◌, ◌^◌, ◌≤◌, List, ◌++◌, length, take, drop, arith, length-append}
use Rattle.xt_shapes.specs.declared.leaves.Order.{Order}
use Rattle.xt_shapes.specs.declared.leaves.Order.TheVariants.{Big, Little}
use Rattle.xcdr_model.specs.Numbers.{octets, low_octets}
use Rattle.std.proofs.Math.Seq.{take-append-add}
use Rattle.std.proofs.lemmas.List.{take-append-drop, take-append-le, length-take-le}
use Rattle.std.proofs.lemmas.Slice.{take-put_mid}
use Rattle.std.specs.Int.{bytes_low_first}
use Rattle.xt_wire.specs.numbers.Units.{IsUnit}
use Rattle.xt_wire.proofs.OfNumbers.UnitSteps.{unit_small}
use Rattle.xt_wire.proofs.OfWriter.NumberSteps.{low_front, low_rest}
use borrow.Rule.Slice.PartMut.{put_mid}

pub number_added : (count size width k : ℕ) (xs ys : List ℕ) → size ≤ width → count ≤ length xs → length ys ≡ width → take (count + size) (put_mid count k xs ys) ≡ take count xs ++ take size ys
number_added count size width k xs ys small within long =
    let part = put_mid count k xs ys in
    let all = take (count + width) part in
    let front : all ≡ take count xs ++ ys = take-put_mid count k xs ys (count + width) (omega (arith, long)) within in
    let len : length (take count xs) ≡ count = length-take-le count xs within in
    let fits : count + size ≤ length all = omega (arith, ap length front, length-append (take count xs) ys, len, long) in
    ap (λ (l : List ℕ). take (count + size) l) (sym (take-append-drop (count + width) part))
    ∙ take-append-le (count + size) all (drop (count + width) part) fits
    ∙ ap (λ (l : List ℕ). take (count + size) l) front
    ∙ ap (λ (n : ℕ). take (n + size) (take count xs ++ ys)) (sym len)
    ∙ take-append-add (take count xs) ys size

-- one octet is the same in both orders
pub one_octet : (o : Order) (n : ℕ) → octets o 1 n ≡ low_octets 1 n
unfolding octets
one_octet Little n = refl
one_octet Big n = refl

-- the low octets of a number whose low eight were written
pub low_part : (size n : ℕ) (ys rest : List ℕ) → IsUnit size → ys ≡ bytes_low_first 0 8 (n % 256 ^ 8) ++ rest → take size ys ≡ low_octets size n
low_part size n ys rest is e =
    let low = n % 256 ^ 8 in
    let small : size ≤ 8 = unit_small size is in
    let few : size ≤ length (bytes_low_first 0 8 low) = omega (arith, small) in
    ap (λ (l : List ℕ). take size l) e ∙ take-append-le size (bytes_low_first 0 8 low) rest few ∙ low_front 8 size low small ∙ low_rest size 8 n small
