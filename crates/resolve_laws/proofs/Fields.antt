-- The fields of complete objects are good.
use Rattle.std.proofs.Common.{◌≡◌, ℕ, suc, ◌^◌, ◌-◌, ◌<◌, ℤ, pos, negsuc, List, [], ◌∷◌, refl, arith}
use Rattle.std.proofs.lemmas.Bool.{and_parts, and_from, false≢true, lt-ltb, ltb-true, leb-false, or_parts}
use Rattle.std.specs.Prelude.{Bool, true, false, Some}
use Rattle.xt_shapes.specs.Lists.{all}
use Rattle.type_trees.specs.declared.types.Name.{Name}
use Rattle.object_formats.specs.Octets.{without_sign}
use Rattle.object_formats.specs.Format.{num, text, several, each_good}
use Rattle.object_formats.specs.Tables as T
use Rattle.node_rules.specs.Names.{name_fits, scope_fits}
use Rattle.resolve_laws.specs.Named.{is_full, is_word, is_signed_word}
use Rattle.resolve_laws.proofs.Texts.{name_good, scope_good}

pub num_good : (a k n : ℕ) → n < 256 ^ k → (num a k).good n ≡ true
unfolding num
num_good a k n lt = lt-ltb n (256 ^ k) lt

pub no_flags_good : T.no_flags.good tt ≡ true
unfolding num
no_flags_good = refl

no_annotations_good : T.no_annotations.good tt ≡ true
unfolding num
no_annotations_good = refl

pub closing_good : (T.closing true).good tt ≡ true
unfolding T.closing
closing_good = no_annotations_good

-- the name of a type
pub detail_good : (t : List ℕ) → scope_fits (Some t) ≡ true → (T.detail true).good (Some t) ≡ true
unfolding T.detail
detail_good t e = and_from (T.no_annotations.good tt) (text.good t) no_annotations_good (scope_good t e)

-- the name of a part
pub name_in_full : (n : Name) → is_full n ≡ true → name_fits n ≡ true → (T.name true).good n ≡ true
unfolding T.name
name_in_full (Name.Full t) full e = and_from (text.good t) (T.no_annotations.good tt) (name_good t e) no_annotations_good
name_in_full (Name.Hashed h) full e = absurd (false≢true full)

-- ---- numbers with a sign

pub signed_good : (value : ℤ) → is_signed_word value ≡ true → T.signed.good value ≡ true
unfolding T.signed without_sign num
signed_good (pos n) e = let lt : n < 2147483648 = ltb-true n 2147483648 e in rw e (lt-ltb n 4294967296 (omega arith))
signed_good (negsuc n) e = rw e (lt-ltb (4294967296 - suc n) 4294967296 (omega arith))

pub each_signed : (labels : List ℤ) → all is_signed_word labels ≡ true → each_good T.signed labels ≡ true
unfolding each_good
each_signed [] e = refl
each_signed (label ∷ labels) e =
    let both = and_parts (is_signed_word label) (all is_signed_word labels) e in
    and_from (T.signed.good label) (each_good T.signed labels) (signed_good label both.0) (each_signed labels both.1)

-- ---- bounds and dimensions

small_is : (n : ℕ) → T.is_large n ≡ false → n < 256
small_is n e = leb-false 256 n e

bound_by : (large : Bool) (n : ℕ) → T.is_large n ≡ large → is_word n ≡ true → (T.bound large).good n ≡ true
bound_by false n e word = num_good 1 1 n (small_is n e)
bound_by true n e word = num_good 4 4 n (ltb-true n 4294967296 word)

same_is : (b : Bool) → T.same b b ≡ true
same_is true = refl
same_is false = refl

pub bound_good : (n : ℕ) → is_word n ≡ true → (T.bound (T.is_large n)).good n ≡ true
bound_good n word = bound_by (T.is_large n) n refl word

pub bound_fits : (n : ℕ) → T.fits (T.is_large n) n ≡ true
bound_fits n = same_is (T.is_large n)

small_dims : (dims : List ℕ) → T.any_large dims ≡ false → each_good (T.bound false) dims ≡ true
unfolding each_good
small_dims [] e = refl
small_dims (n ∷ dims) e =
    let none = or_parts (T.is_large n) (T.any_large dims) e in
    and_from ((T.bound false).good n) (each_good (T.bound false) dims) (num_good 1 1 n (small_is n none.0)) (small_dims dims none.1)

large_dims : (dims : List ℕ) → all is_word dims ≡ true → each_good (T.bound true) dims ≡ true
unfolding each_good
large_dims [] e = refl
large_dims (n ∷ dims) e =
    let both = and_parts (is_word n) (all is_word dims) e in
    and_from ((T.bound true).good n) (each_good (T.bound true) dims) (num_good 4 4 n (ltb-true n 4294967296 both.0)) (large_dims dims both.1)

dims_by : (large : Bool) (dims : List ℕ) → T.any_large dims ≡ large → all is_word dims ≡ true → each_good (T.bound large) dims ≡ true
dims_by false dims e words = small_dims dims e
dims_by true dims e words = large_dims dims words

pub dims_good : (dims : List ℕ) → all is_word dims ≡ true → (several (T.bound (T.any_large dims))).good dims ≡ true
dims_good dims words = dims_by (T.any_large dims) dims refl words

pub dims_fit : (dims : List ℕ) → T.fit_all (T.any_large dims) dims ≡ true
dims_fit dims = same_is (T.any_large dims)
