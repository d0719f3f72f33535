-- Leaves that are read of JSON.
use Rattle.std.proofs.Common.{◌≡◌, refl, ℕ, zero, suc, ℤ, pos, int_lt, neg_ℤ, ◌^◌, ◌<◌, ◌≤◌, ◌⊎◌, inl, inr, Bool, true, false, cond, List, Option, Some, None, Ok, option_map, option_and_then, sym, ap, subst, ◌∙◌, arith, lt-ltb, le-leb, SFits, w64}
use Rattle.std.specs.Prelude.{IfSome}
use Rattle.std.proofs.lemmas.Option.{IfSome_then}
use Rattle.fast_float.specs.Text.{Parts, digits_of, with_sign, IsInteger}
use Rattle.json.specs.Token.{Token}
use Rattle.json.specs.Json as json
use Rattle.json.specs.Json.{Json}
use Rattle.json.specs.Find.{BeginsWith, as_bool, as_str}
use Rattle.serde_json.specs.Data as rows
use Rattle.serde_json.specs.Data.{Num, Data}
use Rattle.serde_json.specs.Find.{as_integer}
use Rattle.serde_json.specs.Read.{number_of, number_from, is_integer}
use Rattle.xt_shapes.specs.declared.leaves.Primitive.{Primitive}
use Rattle.xt_shapes.specs.Typing.{of_prim}
use Rattle.xt_shapes.specs.Vals.{Val, int}
use Rattle.packed_reader.specs.declared.values.Packed.{Packed}
use Rattle.packed_reader.specs.View.{packed_val}
use Rattle.json_values.specs.declared.faults.JsonRule.{JsonRule}
use Rattle.json_values.specs.Steps.{Reading, here}
use Rattle.json_values.specs.Read.{boolean_of, in_range, whole_of, prim_of}
use Rattle.packed_json.specs.Tapes.{Means, Reads, ReadsNumber, whole_in}

pub weaker : (f : Data → Reading Val) (n m : ℕ) (ts : List Token) (r : Option Packed) → n ≤ m → Reads f n ts r → Reads f m ts r
weaker f n m ts r le h j begins = IfSome_then r (h j begins) (λ v x. record { found = x.found; of = x.of; reads = x.reads; within = omega (arith, x.within) })

-- ---- booleans and strings

pub boolean_means : (j : Json) (b : Bool) → Some b ≡ as_bool j → Means boolean_of 0 j (int (cond b (pos 1) (pos 0)))
boolean_means json.null b is = absurd cc
boolean_means (json.boolean c) b is =
    let same : b ≡ c = cc in
    record { found = rows.boolean c; of = refl; reads = ap (λ x. Ok (int (cond x (pos 1) (pos 0)))) (sym same); within = omega arith }
boolean_means (json.number s) b is = absurd cc
boolean_means (json.string s) b is = absurd cc
boolean_means (json.array js) b is = absurd cc
boolean_means (json.object ms) b is = absurd cc

pub text_means : (f : Data → Reading Val) (j : Json) (s : List ℕ) (v : Val) → Some s ≡ as_str j → f (rows.string s) ≡ Ok v → Means f 0 j v
text_means f json.null s v is e = absurd cc
text_means f (json.boolean b) s v is e = absurd cc
text_means f (json.number t) s v is e = absurd cc
text_means f (json.string t) s v is e =
    let same : s ≡ t = cc in
    record { found = rows.string t; of = refl; reads = subst (λ u. f (rows.string u) ≡ Ok v) same e; within = omega arith }
text_means f (json.array js) s v is e = absurd cc
text_means f (json.object ms) s v is e = absurd cc

pub texts_mean : {A : Type 0} (view : A → Val) (f : Data → Reading Val) (j : Json) (s : List ℕ) (r : Option A) → Some s ≡ as_str j → IfSome r (λ v. f (rows.string s) ≡ Ok (view v)) → IfSome r (λ v. Means f 0 j (view v))
texts_mean view f j s r is h = IfSome_then r h (λ v e. text_means f j s (view v) is e)

-- a value that is the number that was read
pub number_reads : (f : Data → Reading Val) (ts : List Token) (i : ℤ) (r : Option Packed) → ((j : Json) → BeginsWith ts j → Means f 0 j (int i)) → IfSome r (λ v. packed_val v ≡ int i) → Reads f 0 ts r
number_reads f ts i r h is j begins = IfSome_then r is (λ v e. subst (Means f 0 j) (sym e) (h j begins))

-- ---- primitives

abbrev is_whole : Primitive → Bool
is_whole Primitive.Boolean = false
is_whole Primitive.Byte = true
is_whole Primitive.Int8 = true
is_whole Primitive.Uint8 = true
is_whole Primitive.Int16 = true
is_whole Primitive.Uint16 = true
is_whole Primitive.Int32 = true
is_whole Primitive.Uint32 = true
is_whole Primitive.Int64 = true
is_whole Primitive.Uint64 = true
is_whole Primitive.Float32 = false
is_whole Primitive.Float64 = false
is_whole Primitive.Char8 = true

pub whole_kind : (p : Primitive) → ((p ≡ Primitive.Byte) ⊎ ((p ≡ Primitive.Int8) ⊎ ((p ≡ Primitive.Uint8) ⊎ ((p ≡ Primitive.Int16) ⊎ ((p ≡ Primitive.Uint16) ⊎ ((p ≡ Primitive.Int32) ⊎ ((p ≡ Primitive.Uint32) ⊎ ((p ≡ Primitive.Int64) ⊎ ((p ≡ Primitive.Uint64) ⊎ (p ≡ Primitive.Char8)))))))))) → is_whole p ≡ true
whole_kind p (inl e) = ap (λ q. is_whole q) e
whole_kind p (inr (inl e)) = ap (λ q. is_whole q) e
whole_kind p (inr (inr (inl e))) = ap (λ q. is_whole q) e
whole_kind p (inr (inr (inr (inl e)))) = ap (λ q. is_whole q) e
whole_kind p (inr (inr (inr (inr (inl e))))) = ap (λ q. is_whole q) e
whole_kind p (inr (inr (inr (inr (inr (inl e)))))) = ap (λ q. is_whole q) e
whole_kind p (inr (inr (inr (inr (inr (inr (inl e))))))) = ap (λ q. is_whole q) e
whole_kind p (inr (inr (inr (inr (inr (inr (inr (inl e)))))))) = ap (λ q. is_whole q) e
whole_kind p (inr (inr (inr (inr (inr (inr (inr (inr (inl e))))))))) = ap (λ q. is_whole q) e
whole_kind p (inr (inr (inr (inr (inr (inr (inr (inr (inr e))))))))) = ap (λ q. is_whole q) e

pub prims_whole : (p : Primitive) (ts : List Token) (r : Option ℤ) → is_whole p ≡ true → ReadsNumber (whole_of (of_prim p)) ts r → ReadsNumber (prim_of p) ts r
prims_whole Primitive.Boolean ts r whole h = absurd cc
prims_whole Primitive.Byte ts r whole h = h
prims_whole Primitive.Int8 ts r whole h = h
prims_whole Primitive.Uint8 ts r whole h = h
prims_whole Primitive.Int16 ts r whole h = h
prims_whole Primitive.Uint16 ts r whole h = h
prims_whole Primitive.Int32 ts r whole h = h
prims_whole Primitive.Uint32 ts r whole h = h
prims_whole Primitive.Int64 ts r whole h = h
prims_whole Primitive.Uint64 ts r whole h = h
prims_whole Primitive.Float32 ts r whole h = absurd cc
prims_whole Primitive.Float64 ts r whole h = absurd cc
prims_whole Primitive.Char8 ts r whole h = h

-- ---- whole numbers

whole_at : (fits : ℤ → Bool) (s : List ℕ) (o : Option Num) (n : ℤ) → number_of s ≡ o → option_and_then as_integer o ≡ Some n → fits n ≡ true → Means (whole_of fits) 0 (json.number s) (int n)
whole_at fits s None n of is ok = absurd cc
whole_at fits s (Some m) n of is ok =
    record { found = rows.number m; of = ap (option_map rows.number) of; reads = ap (in_range fits) is ∙ ap (λ b. cond b (Ok (int n)) (here JsonRule.Range)) ok; within = omega arith }

pub whole_means : (fits : ℤ → Bool) (j : Json) (n : ℤ) → whole_in j ≡ Some n → fits n ≡ true → Means (whole_of fits) 0 j (int n)
whole_means fits json.null n is ok = absurd cc
whole_means fits (json.boolean b) n is ok = absurd cc
whole_means fits (json.number s) n is ok = whole_at fits s (number_of s) n refl is ok
whole_means fits (json.string s) n is ok = absurd cc
whole_means fits (json.array js) n is ok = absurd cc
whole_means fits (json.object ms) n is ok = absurd cc

-- ---- a number's text

integer_true : (p : Parts) → IsInteger p → is_integer p ≡ true
integer_true p h = rw (lt-ltb _ _ h.0, h.1, h.2) refl

pub from_zero_read : (p : Parts) → IsInteger p → digits_of p < 2 ^ 64 → option_and_then as_integer (number_from false p) ≡ Some (pos (digits_of p))
from_zero_read p h low = rw (integer_true p h, lt-ltb _ _ low) refl

sized : (k : ℕ) → SFits w64 (neg_ℤ (pos k)) → int_lt (neg_ℤ (pos k)) (pos 0) ≡ true → (0 < k) × (k ≤ 2 ^ 63)
sized zero fits below = absurd (grind arith)
sized (suc k) fits below = (omega arith, grind arith)

pub below_zero_read : (p : Parts) (n : ℤ) → IsInteger p → SFits w64 (with_sign true (digits_of p)) → n ≡ with_sign true (digits_of p) → int_lt n (pos 0) ≡ true → option_and_then as_integer (number_from true p) ≡ Some n
below_zero_read p n h fits is below =
    let size = sized (digits_of p) fits (subst (λ m. int_lt m (pos 0) ≡ true) is below) in
    rw (integer_true p h, lt-ltb _ _ size.0, le-leb _ _ size.1, is) refl
