-- One number more.
use Rattle.std.proofs.Common.{◌≡◌, refl, sym, ap, ◌∙◌, ℕ, suc, ◌+◌, ◌-◌, ◌<◌, Bool, true, List, [], ◌∷◌, ◌++◌, ◌^◌, length, take, drop, nat_lt, decimal, append_assoc, arith}
use Rattle.std.proofs.lemmas.Bool.{and_parts, ltb-true, lt-ltb}
use Rattle.serde_json.specs.Written.{compact_text, comma_if}
use Rattle.xt_shapes.specs.Lists.{all}
use Rattle.xt_shapes.specs.declared.leaves.Order.{Order}
use Rattle.xt_shapes.specs.declared.leaves.Order.TheVariants.{Big, Little}
use Rattle.xt_shapes.specs.declared.leaves.Primitive.{Primitive}
use Rattle.xt_shapes.specs.declared.leaves.Primitive.TheVariants.{Byte}
use Rattle.xcdr_model.specs.Numbers.{number, with_sign}
use Rattle.xt_shapes.specs.Sizes.{size}
use Rattle.json_values.specs.Written.{int_data, prim_data}
use Rattle.packed_reader.specs.View.{number_of}
use Rattle.packed_json.specs.Lists.{numbers_text, octets_text}

pub numbers_next : (p : Primitive) (o : Order) (later : Bool) (n i : ℕ) (ys first more all out block behind : List ℕ) → i < n → first ≡ take (size p) ys → more ≡ drop (size p) ys → out ++ block ≡ all → behind ≡ block ++ (comma_if later ++ compact_text (int_data (prim_data p) (number_of p o first)))
    → (out ++ behind) ++ numbers_text p o true (n - (i + 1)) more ≡ all ++ numbers_text p o later (n - i) ys
numbers_next p o later n i ys first more all out block behind within is_first is_more is_all is_behind =
    let k = n - (i + 1) in
    let next : n - i ≡ suc k = omega arith in
    let text = compact_text (int_data (prim_data p) (number_of p o (take (size p) ys))) in
    let rest = numbers_text p o true k (drop (size p) ys) in
    rw (is_behind, ← is_all, is_first, is_more, next) (append_assoc out (block ++ (comma_if later ++ text)) rest ∙ ap (λ (l : List ℕ). out ++ l) (append_assoc block (comma_if later ++ text) rest ∙ ap (λ (l : List ℕ). block ++ l) (append_assoc (comma_if later) text rest)) ∙ sym (append_assoc out block (comma_if later ++ (text ++ rest))))

-- ---- octets

-- octets are the numbers of the primitive for octets
number_is : (o : Order) (x : ℕ) → number o (x ∷ []) ≡ x
unfolding number
number_is Little x = omega arith
number_is Big x = omega arith

octet_data : (o : Order) (x : ℕ) → x < 256 → compact_text (int_data (prim_data Byte) (number_of Byte o (x ∷ []))) ≡ decimal x
unfolding with_sign
octet_data o x small =
    let below : nat_lt x (256 ^ 1) ≡ true = lt-ltb x (256 ^ 1) small in
    rw (number_is o x, below) refl

pub octets_are : (o : Order) (later : Bool) (xs : List ℕ) → all (λ x. nat_lt x 256) xs ≡ true → numbers_text Byte o later (length xs) xs ≡ octets_text later xs
octets_are o later [] each = refl
octets_are o later (x ∷ xs) each =
    let parts = and_parts (nat_lt x 256) (all (λ y. nat_lt y 256) xs) each in
    rw (octet_data o x (ltb-true x 256 parts.0), octets_are o true xs parts.1) refl
