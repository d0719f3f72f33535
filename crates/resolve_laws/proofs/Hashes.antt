-- A complete object is named by a good hash.
use Rattle.std.proofs.Common.{◌≡◌, ℕ, List, length, refl, ap, ◌∙◌, arith}
use Rattle.std.proofs.lemmas.List.{length-take-le}
use Rattle.std.specs.Prelude.{true, slice_index}
use Rattle.md5.specs.Md5.{md5, digest_bytes}
use Rattle.object_formats.specs.Octets.{octets, zeros, padding}
use Rattle.object_formats.specs.Format.{aligned, num, raw}
use Rattle.object_formats.specs.Objects as o
use Rattle.object_formats.specs.Objects.{Identifier, Object}
use Rattle.object_formats.specs.Tables as T
use Rattle.type_object.specs.Names.{hash_of}
use Rattle.type_resolve.specs.Objects.{own}

digest-length : (h : List ℕ) → length (digest_bytes h 4) ≡ 16
unfolding digest_bytes
digest-length h = refl

md5-length : (bs : List ℕ) → length (md5 bs) ≡ 16
unfolding md5
md5-length bs = digest-length _

hash-length : (bs : List ℕ) → length (hash_of bs) ≡ 14
hash-length bs = length-take-le 14 (md5 bs) (omega (arith, md5-length bs))

-- behind the count of its octets stands whether an object is complete
kind_there : (x : Object) → slice_index (T.text_of x) 4 ≡ T.own (T.is_complete x)
unfolding T.text_of T.object num octets zeros padding aligned
kind_there x = refl

hash_by : (kind : ℕ) (bs : List ℕ) → kind ≡ 242 → length bs ≡ 14 → (T.hashed true).good (o.hash (record { kind = kind; hash = bs })) ≡ true
unfolding raw
hash_by kind bs is long = rw (is, long) refl

pub own_good : (x : Object) → T.is_complete x ≡ true → (T.hashed true).good (own x) ≡ true
own_good x complete = hash_by _ _ (kind_there x ∙ ap T.own complete) (hash-length (T.text_of x))
