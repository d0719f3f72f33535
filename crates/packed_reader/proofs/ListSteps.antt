-- Sequences and arrays.
use Rattle.std.proofs.Common.{◌≡◌, refl, sym, ap, ◌∙◌, ℕ, suc, ◌+◌, ◌-◌, ◌<◌, ◌≤◌, false, List, [], ◌∷◌, ◌++◌, length, map, Some, None, Ok, Err, arith, append_assoc, append-nil}
use Rattle.std.proofs.lemmas.List.{map-append}
use Rattle.xt_shapes.specs.declared.leaves.Order.{Order}
use Rattle.xt_shapes.specs.declared.leaves.Primitive.{Primitive}
use Rattle.xt_shapes.specs.declared.leaves.Try.{Try}
use Rattle.xt_shapes.specs.declared.leaves.Rep.{Rep}
use Rattle.xt_shapes.specs.declared.leaves.Rep.TheVariants.{Xcdr1, Xcdr2}
use Rattle.xt_shapes.specs.Defaults.{default_of}
use Rattle.xt_shapes.specs.Kinds.{as_prim}
use Rattle.xt_shapes.specs.Shape.{Shape, prim, str, enumeration, bitmask, sequence, array, map_of, structure, union, product}
use Rattle.xt_shapes.specs.Typing.{is_past}
use Rattle.xt_shapes.specs.Vals.{Val, listed, vals_of}
use Rattle.xcdr_model.specs.Projection.{Part, whole_items}
use Rattle.xcdr_model.specs.Reading.{Spot, Reading, ◌>>=◌, number_at, each_at, front, filling}
use Rattle.xcdr_model.specs.Xcdr1Reading.{read1}
use Rattle.xcdr_model.specs.Xcdr2Reading.{read, done, is_primitive, collection_at, counted_at}
use Rattle.shape_laws.proofs.Self.{own_items}
use Rattle.packed_reader.specs.declared.values.Numbers.{Numbers}
use Rattle.packed_reader.specs.View.{numbers_of}
use Rattle.packed_reader.specs.Spots.{IsRegion}
use Rattle.packed_reader.specs.Reads.{read_in, plain, Reads, ReadsCounted, ReadsEach, ReadsNumbers}
use Rattle.packed_reader.proofs.NumberSteps.{numbers_count}

-- ---- values of a type, one after another

abbrev behind : List Val → List Part × Spot → Reading (List Part)
behind vs xs = Ok (map plain vs ++ xs.0, xs.1)

-- the values so far, and as many as are still to come
abbrev pub items_left : Rep → Order → Shape → ℕ → List Val → Spot → Reading (List Part)
items_left r o t n vs s = each_at n (λ s1. read_in r o t s1) s >>= behind vs

none_before : (r : Reading (List Part)) → (r >>= behind []) ≡ r
unfolding ◌>>=◌
none_before (Ok x) = refl
none_before (Err f) = refl

pub items_first : (r : Rep) (o : Order) (t : Shape) (n : ℕ) (s : Spot) → items_left r o t (n - 0) [] s ≡ each_at n (λ s1. read_in r o t s1) s
items_first r o t n s =
    let all : n - 0 ≡ n = omega arith in
    ap (λ (k : ℕ). items_left r o t k [] s) all ∙ none_before (each_at n (λ s1. read_in r o t s1) s)

abbrev with_item : Part → List Part × Spot → Reading (List Part)
with_item x xs = Ok (x ∷ xs.0, xs.1)

item_before : (vs : List Val) (v : Val) (r : Reading (List Part)) → ((r >>= with_item (plain v)) >>= behind vs) ≡ (r >>= behind (vs ++ v ∷ []))
unfolding ◌>>=◌
item_before vs v (Ok x) = rw (map-append plain vs (v ∷ []), append_assoc (map plain vs) (plain v ∷ []) x.0) refl
item_before vs v (Err f) = refl

one_item : (r : Rep) (o : Order) (t : Shape) (n : ℕ) (v : Val) (s s2 : Spot) → Reads r o t s v s2 → each_at (suc n) (λ s1. read_in r o t s1) s ≡ (each_at n (λ s1. read_in r o t s1) s2 >>= with_item (plain v))
unfolding each_at ◌>>=◌
one_item r o t n v s s2 e = rw e refl

pub item_next : (r : Rep) (o : Order) (t : Shape) (n i : ℕ) (vs : List Val) (v : Val) (s s2 : Spot) → i < n → Reads r o t s v s2 → items_left r o t (n - i) vs s ≡ items_left r o t (n - (i + 1)) (vs ++ v ∷ []) s2
item_next r o t n i vs v s s2 lt e =
    let next : n - i ≡ suc (n - (i + 1)) = omega arith in
    ap (λ (k : ℕ). items_left r o t k vs s) next
    ∙ ap (λ (r : Reading (List Part)). r >>= behind vs) (one_item r o t (n - (i + 1)) v s s2 e)
    ∙ item_before vs v (each_at (n - (i + 1)) (λ s1. read_in r o t s1) s2)

no_item : (r : Rep) (o : Order) (t : Shape) (vs : List Val) (s : Spot) → items_left r o t 0 vs s ≡ Ok (map plain vs, s)
unfolding each_at ◌>>=◌
no_item r o t vs s = rw (append-nil (map plain vs)) refl

pub items_end : (r : Rep) (o : Order) (t : Shape) (n i : ℕ) (vs : List Val) (s : Spot) → n ≤ i → items_left r o t (n - i) vs s ≡ Ok (map plain vs, s)
items_end r o t n i vs s le =
    let none : n - i ≡ 0 = omega arith in
    ap (λ (k : ℕ). items_left r o t k vs s) none ∙ no_item r o t vs s

-- ---- of a primitive or not

pub is_prim : (t : Shape) (p : Primitive) → Some p ≡ as_prim t → t ≡ prim p
is_prim (prim q) p e = cc
is_prim (str bound) p e = absurd cc
is_prim (enumeration x bits ls) p e = absurd cc
is_prim (bitmask bits fs) p e = absurd cc
is_prim (sequence bound tc t) p e = absurd cc
is_prim (array dims tc t) p e = absurd cc
is_prim (map_of bound kc k vc t) p e = absurd cc
is_prim (structure x ms) p e = absurd cc
is_prim (union x key disc cs) p e = absurd cc

pub no_prim : (t : Shape) → None ≡ as_prim t → is_primitive t ≡ false
no_prim (prim q) e = absurd cc
no_prim (str bound) e = refl
no_prim (enumeration x bits ls) e = refl
no_prim (bitmask bits fs) e = refl
no_prim (sequence bound tc t) e = refl
no_prim (array dims tc t) e = refl
no_prim (map_of bound kc k vc t) e = refl
no_prim (structure x ms) e = refl
no_prim (union x key disc cs) e = refl

-- ---- of numbers

numbers_short : (bound n : ℕ) (x : Numbers) → x.count ≡ n → is_past bound n ≡ false → is_past bound (length (numbers_of x)) ≡ false
numbers_short bound n x many within = ap (is_past bound) (numbers_count x.prim x.order x.count x.octets.now ∙ many) ∙ within

numbers_sequence : (r : Rep) (o : Order) (bound : ℕ) (tc : Try) (p : Primitive) (s : Spot) → read_in r o (sequence bound tc (prim p)) s ≡ done (whole_items bound tc (default_of (prim p))) (counted_at o (λ s1. read_in r o (prim p) s1) s)
unfolding read read1 collection_at
numbers_sequence Xcdr1 o bound tc p s = refl
numbers_sequence Xcdr2 o bound tc p s = refl

pub sequence_is : (r : Rep) (o : Order) (bound n : ℕ) (tc : Try) (t : Shape) (p : Primitive) (x : Numbers) (s s2 s3 : Spot) → t ≡ prim p → number_at 4 o 4 s ≡ Ok (n, s2) → ReadsNumbers r o p n s2 x s3 → x.count ≡ n → is_past bound n ≡ false → Reads r o (sequence bound tc t) s (listed (vals_of (numbers_of x))) s3
unfolding counted_at ◌>>=◌
sequence_is r o bound n tc t p x s s2 s3 is e each many within =
    ap (λ (u : Shape). read_in r o (sequence bound tc u) s) is ∙ numbers_sequence r o bound tc p s
    ∙ rw (e, each, own_items bound tc (default_of (prim p)) (numbers_of x) (numbers_short bound n x many within)) refl

numbers_array : (r : Rep) (o : Order) (dims : List ℕ) (tc : Try) (p : Primitive) (s : Spot) → read_in r o (array dims tc (prim p)) s ≡ done (whole_items 0 tc (default_of (prim p))) (each_at (product dims) (λ s1. read_in r o (prim p) s1) s)
unfolding read read1 collection_at
numbers_array Xcdr1 o dims tc p s = refl
numbers_array Xcdr2 o dims tc p s = refl

pub array_is : (r : Rep) (o : Order) (dims : List ℕ) (n : ℕ) (tc : Try) (t : Shape) (p : Primitive) (x : Numbers) (s s2 : Spot) → t ≡ prim p → product dims ≡ n → ReadsNumbers r o p n s x s2 → Reads r o (array dims tc t) s (listed (vals_of (numbers_of x))) s2
unfolding ◌>>=◌
array_is r o dims n tc t p x s s2 is count each =
    ap (λ (u : Shape). read_in r o (array dims tc u) s) is ∙ numbers_array r o dims tc p s
    ∙ rw (count, each, own_items 0 tc (default_of (prim p)) (numbers_of x) refl) refl

-- ---- of values, in XCDR1

pub counted_is : (r : Rep) (o : Order) (bound n : ℕ) (t : Shape) (vs : List Val) (s s2 s3 : Spot) → number_at 4 o 4 s ≡ Ok (n, s2) → ReadsEach r o t n s2 vs s3 → length vs ≡ n → is_past bound n ≡ false → ReadsCounted r o bound t s vs s3
counted_is r o bound n t vs s s2 s3 e each many within = record { count = n; begin = s2; counted = e; each = each; within = ap (is_past bound) many ∙ within }

pub sequence_in : (o : Order) (bound : ℕ) (tc : Try) (t : Shape) (vs : List Val) (s s2 : Spot) → ReadsCounted Xcdr1 o bound t s vs s2 → Reads Xcdr1 o (sequence bound tc t) s (listed (vals_of vs)) s2
unfolding read1 counted_at ◌>>=◌
sequence_in o bound tc t vs s s2 r = rw (r.counted, r.each, own_items bound tc (default_of t) vs r.within) refl

pub array_in : (o : Order) (dims : List ℕ) (n : ℕ) (tc : Try) (t : Shape) (vs : List Val) (s s2 : Spot) → product dims ≡ n → ReadsEach Xcdr1 o t n s vs s2 → Reads Xcdr1 o (array dims tc t) s (listed (vals_of vs)) s2
unfolding read1 ◌>>=◌
array_in o dims n tc t vs s s2 count each = rw (count, each, own_items 0 tc (default_of t) vs refl) refl

-- ---- of values, in XCDR2, in a region of their own

pub sequence_of : (o : Order) (bound : ℕ) (tc : Try) (t : Shape) (vs : List Val) (s inside after end : Spot) → is_primitive t ≡ false → IsRegion o s inside after → ReadsCounted Xcdr2 o bound t inside vs end → end.rest ≡ [] → Reads Xcdr2 o (sequence bound tc t) s (listed (vals_of vs)) after
unfolding read collection_at counted_at filling ◌>>=◌
sequence_of o bound tc t vs s inside after end np region r filled =
    let counted : number_at 4 o 4 (front region.count region.spot) ≡ Ok (r.count, r.begin) = ap (λ (x : Spot). number_at 4 o 4 x) (sym region.front.inside_is) ∙ r.counted in
    rw (np, region.counted, counted, r.each, filled, own_items bound tc (default_of t) vs r.within, region.front.after_is) refl

pub array_of : (o : Order) (dims : List ℕ) (n : ℕ) (tc : Try) (t : Shape) (vs : List Val) (s inside after end : Spot) → is_primitive t ≡ false → product dims ≡ n → IsRegion o s inside after → ReadsEach Xcdr2 o t n inside vs end → end.rest ≡ [] → Reads Xcdr2 o (array dims tc t) s (listed (vals_of vs)) after
unfolding read collection_at filling ◌>>=◌
array_of o dims n tc t vs s inside after end np count region each filled =
    let all : each_at n (λ s1. read o t s1) (front region.count region.spot) ≡ Ok (map plain vs, end) = ap (λ (x : Spot). each_at n (λ s1. read o t s1) x) (sym region.front.inside_is) ∙ each in
    rw (np, count, region.counted, all, filled, own_items 0 tc (default_of t) vs refl, region.front.after_is) refl
