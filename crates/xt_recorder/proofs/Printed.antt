-- The identifier of a text in a pool is one of a type.
use Rattle.std.proofs.Common.{◌≡◌, ℕ, zero, suc, ◌/◌, ◌^◌, ◌<◌, ◌==◌, Bool, true, false, ◌||◌, List, [], ◌∷◌, ◌++◌, take, Some, refl, sym, subst, lit<, arith}
use Rattle.std.specs.Int.{w32, byte_at, bytes_low_first, to_le_bytes}
use Rattle.std.proofs.Math.Nat.{mod-lt}
use Rattle.std.proofs.lemmas.Bool.{eqb-true}
use Rattle.std.proofs.lemmas.List.{length-take-le}
use Rattle.std.specs.Prelude.{slice_index}
use Rattle.hex.specs.Hex.{IsBytes}
use Rattle.md5.specs.Md5.{digest_bytes, md5}
use Rattle.md5.proofs.StandardFacts.{length-md5}
use Rattle.type_trees.specs.declared.types.HashId.{HashId}
use Rattle.type_trees.specs.Ids.{is_object_kind}
use Rattle.object_formats.proofs.OwnKinds.{text_kind}
use Rattle.type_object.specs.Names.{named}
use Rattle.type_object.specs.Pools.{Texts, IsPool, IsObject, found}
use Rattle.type_object.proofs.Pooled.{found_own, found_object}
use Rattle.xt_recorder.specs.Laws.{IsId}

-- ---- lists of octets

none_small : IsBytes []
none_small i = lit< tt

one_more_small : (x : ℕ) (xs : List ℕ) → x < 256 → IsBytes xs → IsBytes (x ∷ xs)
one_more_small x xs p q zero = p
one_more_small x xs p q (suc i) = q i

rest_small : (x : ℕ) (xs : List ℕ) → IsBytes (x ∷ xs) → IsBytes xs
rest_small x xs p i = p (suc i)

both_small : (xs ys : List ℕ) → IsBytes xs → IsBytes ys → IsBytes (xs ++ ys)
both_small [] ys p q = q
both_small (x ∷ xs) ys p q = one_more_small x (xs ++ ys) (p 0) (both_small xs ys (rest_small x xs p) q)

first_small : (n : ℕ) (xs : List ℕ) → IsBytes xs → IsBytes (take n xs)
first_small zero xs p = none_small
first_small (suc n) [] p = none_small
first_small (suc n) (x ∷ xs) p = one_more_small x (take n xs) (p 0) (first_small n xs (rest_small x xs p))

-- ---- a digest

byte_small : (i n : ℕ) → byte_at i n < 256
byte_small zero n = mod-lt n (lit< tt)
byte_small (suc i) n = mod-lt (n / 256 ^ suc i) (lit< tt)

bytes_small : (i k n : ℕ) → IsBytes (bytes_low_first i k n)
bytes_small i zero n = none_small
bytes_small i (suc k) n = one_more_small (byte_at i n) (bytes_low_first (suc i) k n) (byte_small i n) (bytes_small (suc i) k n)

digest_small : (h : List ℕ) (n : ℕ) → IsBytes (digest_bytes h n)
unfolding digest_bytes
digest_small h zero = none_small
digest_small h (suc n) = both_small (digest_bytes h n) (to_le_bytes w32 (slice_index h n)) (digest_small h n) (bytes_small 0 4 (slice_index h n))

md5_small : (bs : List ℕ) → IsBytes (md5 bs)
unfolding md5
md5_small bs = digest_small _ 4

-- ---- an identifier

kind_small : (kind : ℕ) → is_object_kind kind ≡ true → kind < 256
kind_small kind e = by (kind == 241) (kind == 242) refl refl e
  where
    by : (a b : Bool) → (kind == 241) ≡ a → (kind == 242) ≡ b → (a || b) ≡ true → kind < 256
    by true b is other h = omega (arith, eqb-true kind 241 is)
    by false true is other h = omega (arith, eqb-true kind 242 other)
    by false false is other h = absurd (cc h)

named_is : (bs : List ℕ) → IsObject bs → IsId (named bs)
named_is bs is =
    let kind = text_kind bs is.object is.read in
    record { kind = kind; count = length-take-le 14 (md5 bs) (omega (arith, length-md5 bs)); octets = one_more_small (slice_index bs 4) (take 14 (md5 bs)) (kind_small (slice_index bs 4) kind) (first_small 14 (md5 bs) (md5_small bs)) }

pub pooled_id : (pool : Texts) (id : HashId) (bs : List ℕ) → IsPool pool → found id pool ≡ Some bs → IsId id
pooled_id pool id bs pooled e = subst IsId (sym (found_own pool id bs pooled e)) (named_is bs (found_object pool id bs pooled e))
