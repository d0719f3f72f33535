-- The complete identifier of a type with names is good.
use Rattle.std.proofs.Common.{◌≡◌, ℕ, zero, suc, ◌≤◌, List, [], ◌∷◌, ◌++◌, max, refl, arith}
use Rattle.std.proofs.lemmas.Bool.{false≢true, and_parts, eq-eqb}
use Rattle.std.specs.Prelude.{Bool, true, false, ◌&&◌, ◌==◌}
use Rattle.xt_shapes.specs.declared.leaves.Ext.{Ext}
use Rattle.xt_shapes.specs.declared.leaves.Try.{Try}
use Rattle.xt_shapes.specs.declared.leaves.Try.TheVariants as Y
use Rattle.xt_shapes.specs.declared.leaves.Primitive.{Primitive}
use Rattle.xt_shapes.specs.Lists.{all}
use Rattle.type_trees.specs.declared.types.Base.{Base}
use Rattle.type_trees.specs.Trees.{Tree, prim, str, enumeration, bitmask, sequence, array, map_of, structure, union, alias}
use Rattle.type_rules.specs.Places.{depth}
use Rattle.object_formats.specs.Format.{Format, num, several}
use Rattle.object_formats.specs.Objects as o
use Rattle.object_formats.specs.Objects.{Identifier, MemberPart, Object}
use Rattle.object_formats.specs.Tables as T
use Rattle.type_resolve.specs.Objects.{own, try_flags, top, layer_object, last_layer, member_count, member_parts, is_plain, identifier}
use Rattle.resolve_laws.specs.Named.{is_named, is_word, numbers_fit}
use Rattle.resolve_laws.proofs.Fields.{bound_good, bound_fits, dims_good, dims_fit}
use Rattle.resolve_laws.proofs.Hashes.{own_good}

-- ---- whether an identifier is plain

last_plain : (ext : Ext) (base : Identifier) (had : ℕ) (bs : List Base) (b : Base) (parts : List MemberPart) → T.is_plain (last_layer true ext base had (bs ++ b ∷ []) parts) ≡ false
unfolding T.is_plain
last_plain ext base had [] b parts = refl
last_plain ext base had (c ∷ bs) b parts = last_plain ext (own (layer_object true ext base had c parts)) (max had c.count) bs b parts

pub plain_is : (t : Tree) → T.is_plain (identifier true t) ≡ is_plain t
unfolding T.is_plain is_plain identifier
plain_is (prim p) = refl
plain_is (str bound) = refl
plain_is (enumeration name ext bits literals) = refl
plain_is (bitmask name bits flags) = refl
plain_is (sequence bound tc t) = plain_is t
plain_is (array dims tc t) = plain_is t
plain_is (map_of bound kc k vc v) = rw (plain_is v, plain_is k) refl
plain_is (structure h ms) = last_plain h.ext o.none 0 h.bases (top h (member_count ms)) (member_parts true ms)
plain_is (union h disc cs) = refl
plain_is (alias name t) = refl

-- ---- one level of an identifier

tries_good : (tc : Try) → (T.flags_of T.tries).good (try_flags tc) ≡ true
unfolding num
tries_good Y.Discard = refl
tries_good Y.UseDefault = refl
tries_good Y.Trim = refl

ek_good : (plain : Bool) → (T.ek true).good (T.ek_of true plain) ≡ true
unfolding num
ek_good true = refl
ek_good false = refl

same_number : (n : ℕ) → (n == n) ≡ true
same_number n = eq-eqb n n refl

prim_nested : (d : ℕ) (p : Primitive) → (T.nested true (suc d)).good (o.prim p) ≡ true
unfolding T.nested
prim_nested d p = rw (same_number (T.prim_octet p)) refl

str_nested : (d bound : ℕ) → is_word bound ≡ true → (T.nested true (suc d)).good (o.str bound) ≡ true
unfolding T.nested
str_nested d bound word = rw (bound_good bound word, bound_fits bound) refl

hash_nested : (d : ℕ) (i : Identifier) → (T.hashed true).good i ≡ true → (T.nested true (suc d)).good i ≡ true
unfolding T.nested
hash_nested d (o.hash h) good = good
hash_nested d _ good = absurd (false≢true good)

head_good : {A : Type 0} (test : A → Bool) (size : Format A) (plain : Bool) (tc : Try) (n : A) → size.good n ≡ true → test n ≡ true
    → (T.head true test size).good (T.ek_of true plain, (try_flags tc, n)) ≡ true
head_good test size plain tc n good fits = rw (ek_good plain, tries_good tc, good, fits) refl

bound_head : (plain : Bool) (tc : Try) (n : ℕ) → is_word n ≡ true → (T.head true (T.fits (T.is_large n)) (T.bound (T.is_large n))).good (T.ek_of true plain, (try_flags tc, n)) ≡ true
bound_head plain tc n word = head_good (T.fits (T.is_large n)) (T.bound (T.is_large n)) plain tc n (bound_good n word) (bound_fits n)

sequence_nested : (d bound : ℕ) (tc : Try) (plain : Bool) (i : Identifier) → is_word bound ≡ true → T.is_plain i ≡ plain → (T.nested true d).good i ≡ true
    → (T.nested true (suc d)).good (o.sequence (T.ek_of true plain) (try_flags tc) bound i) ≡ true
unfolding T.nested
sequence_nested d bound tc plain i word is good = rw (bound_head plain tc bound word, good, is, same_number (T.ek_of true plain)) refl

array_nested : (d : ℕ) (dims : List ℕ) (tc : Try) (plain : Bool) (i : Identifier) → all is_word dims ≡ true → T.is_plain i ≡ plain → (T.nested true d).good i ≡ true
    → (T.nested true (suc d)).good (o.array (T.ek_of true plain) (try_flags tc) dims i) ≡ true
unfolding T.nested
array_nested d dims tc plain i words is good =
    rw (head_good (T.fit_all (T.any_large dims)) (several (T.bound (T.any_large dims))) plain tc dims (dims_good dims words) (dims_fit dims), good, is, same_number (T.ek_of true plain)) refl

map_nested : (d bound : ℕ) (kc vc : Try) (k_plain v_plain : Bool) (k v : Identifier) → is_word bound ≡ true → T.is_plain k ≡ k_plain → T.is_plain v ≡ v_plain
    → (T.nested true d).good k ≡ true → (T.nested true d).good v ≡ true
    → (T.nested true (suc d)).good (o.map_of (T.ek_of true (v_plain && k_plain)) (try_flags vc) bound v (try_flags kc) k) ≡ true
unfolding T.nested
map_nested d bound kc vc k_plain v_plain k v word k_is v_is k_good v_good =
    rw (bound_head (v_plain && k_plain) vc bound word, v_good, tries_good kc, k_good, v_is, k_is, same_number (T.ek_of true (v_plain && k_plain))) refl

-- ---- the last layer of a structure

last_good : (ext : Ext) (base : Identifier) (had : ℕ) (bs : List Base) (b : Base) (parts : List MemberPart) → T.has_name b.name ≡ true
    → (T.hashed true).good (last_layer true ext base had (bs ++ b ∷ []) parts) ≡ true
last_good ext base had [] b parts name = own_good (layer_object true ext base had b parts) name
last_good ext base had (c ∷ bs) b parts name = last_good ext (own (layer_object true ext base had c parts)) (max had c.count) bs b parts name

-- ---- all levels

some_depth : (t : Tree) → 1 ≤ depth t
some_depth (prim p) = omega arith
some_depth (str bound) = omega arith
some_depth (enumeration name ext bits literals) = omega arith
some_depth (bitmask name bits flags) = omega arith
some_depth (sequence bound tc t) = omega arith
some_depth (array dims tc t) = omega arith
some_depth (map_of bound kc k vc v) = omega arith
some_depth (structure h ms) = omega arith
some_depth (union h disc cs) = omega arith
some_depth (alias name t) = omega arith

-- a type takes one level at least
at_depth : (t : Tree) → ((d : ℕ) → depth t ≤ suc d → (T.nested true (suc d)).good (identifier true t) ≡ true) → (d : ℕ) → depth t ≤ d → (T.nested true d).good (identifier true t) ≡ true
at_depth t below zero le = absurd (omega (arith, some_depth t))
at_depth t below (suc d) le = below d le

level : (t : Tree) → is_named t ≡ true → numbers_fit t ≡ true → (d : ℕ) → depth t ≤ suc d → (T.nested true (suc d)).good (identifier true t) ≡ true
unfolding identifier
level (prim p) named fit d le = prim_nested d p
level (str bound) named fit d le = str_nested d bound fit
level (enumeration name ext bits literals) named fit d le = hash_nested d _ (own_good _ (and_parts (T.has_name name) _ named).0)
level (bitmask name bits flags) named fit d le = hash_nested d _ (own_good _ (and_parts (T.has_name name) _ named).0)
level (sequence bound tc t) named fit d le =
    let both = and_parts (is_word bound) (numbers_fit t) fit in
    sequence_nested d bound tc (is_plain t) (identifier true t) both.0 (plain_is t) (at_depth t (level t named both.1) d (omega arith))
level (array dims tc t) named fit d le =
    let both = and_parts (all is_word dims) (numbers_fit t) fit in
    array_nested d dims tc (is_plain t) (identifier true t) both.0 (plain_is t) (at_depth t (level t named both.1) d (omega arith))
level (map_of bound kc k vc v) named fit d le =
    let names = and_parts (is_named k) (is_named v) named in
    let fits = and_parts (is_word bound) (numbers_fit k && numbers_fit v) fit in
    let parts = and_parts (numbers_fit k) (numbers_fit v) fits.1 in
    let key = at_depth k (level k names.0 parts.0) d (omega arith) in
    let value = at_depth v (level v names.1 parts.1) d (omega arith) in
    map_nested d bound kc vc (is_plain k) (is_plain v) (identifier true k) (identifier true v) fits.0 (plain_is k) (plain_is v) key value
level (structure h ms) named fit d le =
    let names = and_parts (T.has_name h.name && all (λ b. T.has_name b.name) h.bases) _ named in
    hash_nested d _ (last_good h.ext o.none 0 h.bases (top h (member_count ms)) (member_parts true ms) (and_parts (T.has_name h.name) _ names.0).0)
level (union h disc cs) named fit d le = hash_nested d _ (own_good _ (and_parts (T.has_name h.name) _ named).0)
level (alias name t) named fit d le = hash_nested d _ (own_good _ (and_parts (T.has_name name) _ named).0)

pub identifier_good : (t : Tree) → is_named t ≡ true → numbers_fit t ≡ true → depth t ≤ 16 → (T.identifier true).good (identifier true t) ≡ true
unfolding T.identifier
identifier_good t named fit le = at_depth t (level t named fit) 16 le
