-- Numbers that are read many at a time are those that are read one after another.
use Rattle.std.proofs.Common.{◌≡◌, refl, sym, ap, subst, ◌∙◌, ℕ, zero, suc, ◌+◌, ◌-◌, ◌*◌, ◌/◌, ◌%◌, ◌<◌, ◌≤◌, min, false, List, length, take, drop, nat_lt, Some, Ok, arith, zero-add, length-drop}
use Rattle.std.proofs.lemmas.Bool.{le-ltb}
use Rattle.std.proofs.lemmas.List.{drop-drop, drop-take, take-take}
use Rattle.std.proofs.Math.Nat.{mod_self, div-mul-le_self, mul-le-mul_right}
use Rattle.xt_shapes.specs.declared.leaves.Order.{Order}
use Rattle.xt_shapes.specs.declared.leaves.Primitive.{Primitive}
use Rattle.xt_shapes.specs.declared.leaves.Primitive.TheVariants as prims
use Rattle.xt_shapes.specs.declared.leaves.Try.{Try}
use Rattle.xt_shapes.specs.Defaults.{default_of}
use Rattle.xt_shapes.specs.Kinds.{as_prim}
use Rattle.xt_shapes.specs.Shape.{Shape, prim, str, enumeration, bitmask, sequence, array, map_of, structure, union}
use Rattle.xt_shapes.specs.Sizes.{size, is_boolean}
use Rattle.xt_shapes.specs.Vals.{Val, int}
use Rattle.xcdr_model.specs.Numbers.{padding}
use Rattle.xcdr_model.specs.Projection.{got, Part}
use Rattle.xcdr_model.specs.Reading.{Spot, Reading, ◌>>=◌, step, number_at, octets_at}
use Rattle.xcdr_model.specs.Xcdr1Reading.{read1}
use Rattle.xcdr_model.specs.Xcdr2Reading.{read, done, scalar_at}
use Rattle.try_construct.specs.Gathering.{Gathered, none_yet}
use Rattle.try_construct.specs.Items.{items_then, and_item}
use Rattle.xt_wire.specs.cursor.Standing.{Standing, Stands, Stayed, room, pad_of}
use Rattle.xt_wire.specs.cursor.Decoding.{spot, after}
use Rattle.xt_wire.proofs.OfCursor.Ahead.{Ahead, begins, rephrased, room_is, within_trans}
use Rattle.xcdr_reader.specs.declared.modes.Mode.{Mode}
use Rattle.xcdr_reader.specs.declared.modes.Mode.TheVariants.{Two, Inner, Tail}
use Rattle.xcdr_reader.specs.Modes.{read_in, most}
use Rattle.xcdr_reader.specs.Blocks.{number_part, and_numbers, block_read, IsBlock}
use Rattle.xcdr_reader.proofs.Gathering.{rest_parts, next_part}
use Rattle.xcdr_reader.proofs.DecodeSteps.{parts_from, part_next, value_at, items_law, items_behind, items_counted}
use Rattle.xcdr_reader.specs.Parts.{items_read}

-- ---- one number, at an aligned place

-- a primitive in each mode
pub prim_read : (m : Mode) (o : Order) (p : Primitive) (s : Spot) → read_in m o (prim p) s ≡ done (λ i. (got (int i), false)) (scalar_at (most m) o (prim p) s)
unfolding read read1
prim_read Two o p s = refl
prim_read Inner o p s = refl
prim_read Tail o p s = refl

one_scalar : (most : ℕ) (o : Order) (p : Primitive) (s : Spot) → is_boolean p ≡ false → padding (min (size p) most) s.at ≡ 0 → size p ≤ length s.rest → done (λ i. (got (int i), false)) (scalar_at most o (prim p) s) ≡ Ok (number_part o p (take (size p) s.rest), step (size p) s)
unfolding scalar_at number_at ◌>>=◌
one_scalar most o p s plain aligned fits =
    let long : nat_lt (length s.rest) (size p) ≡ false = le-ltb _ _ (omega arith) in
    rw (aligned, zero-add (size p), long, plain) refl

pub one_number : (m : Mode) (o : Order) (p : Primitive) (s : Spot) → is_boolean p ≡ false → padding (min (size p) (most m)) s.at ≡ 0 → size p ≤ length s.rest → read_in m o (prim p) s ≡ Ok (number_part o p (take (size p) s.rest), step (size p) s)
one_number m o p s plain aligned fits = prim_read m o p s ∙ one_scalar (most m) o p s plain aligned fits

-- ---- aligned places

of_one : (at : ℕ) → padding 1 at ≡ 0
unfolding padding
of_one at = omega arith

of_two : (at : ℕ) → padding 2 at ≡ 0 → padding 2 (at + 2) ≡ 0
unfolding padding
of_two at e = omega arith

of_four : (at : ℕ) → padding 4 at ≡ 0 → padding 4 (at + 4) ≡ 0
unfolding padding
of_four at e = omega arith

of_eight : (at : ℕ) → padding 4 at ≡ 0 → padding 4 (at + 8) ≡ 0
unfolding padding
of_eight at e = omega arith

of_eights : (at : ℕ) → padding 8 at ≡ 0 → padding 8 (at + 8) ≡ 0
unfolding padding
of_eights at e = omega arith

aligned_four : (p : Primitive) (at : ℕ) → padding (min (size p) 4) at ≡ 0 → padding (min (size p) 4) (at + size p) ≡ 0
aligned_four prims.Boolean at e = of_one (at + 1)
aligned_four prims.Byte at e = of_one (at + 1)
aligned_four prims.Int8 at e = of_one (at + 1)
aligned_four prims.Uint8 at e = of_one (at + 1)
aligned_four prims.Int16 at e = of_two at e
aligned_four prims.Uint16 at e = of_two at e
aligned_four prims.Int32 at e = of_four at e
aligned_four prims.Uint32 at e = of_four at e
aligned_four prims.Int64 at e = of_eight at e
aligned_four prims.Uint64 at e = of_eight at e
aligned_four prims.Float32 at e = of_four at e
aligned_four prims.Float64 at e = of_eight at e
aligned_four prims.Char8 at e = of_one (at + 1)

aligned_eight : (p : Primitive) (at : ℕ) → padding (min (size p) 8) at ≡ 0 → padding (min (size p) 8) (at + size p) ≡ 0
aligned_eight prims.Boolean at e = of_one (at + 1)
aligned_eight prims.Byte at e = of_one (at + 1)
aligned_eight prims.Int8 at e = of_one (at + 1)
aligned_eight prims.Uint8 at e = of_one (at + 1)
aligned_eight prims.Int16 at e = of_two at e
aligned_eight prims.Uint16 at e = of_two at e
aligned_eight prims.Int32 at e = of_four at e
aligned_eight prims.Uint32 at e = of_four at e
aligned_eight prims.Int64 at e = of_eights at e
aligned_eight prims.Uint64 at e = of_eights at e
aligned_eight prims.Float32 at e = of_four at e
aligned_eight prims.Float64 at e = of_eights at e
aligned_eight prims.Char8 at e = of_one (at + 1)

pub aligned_more : (m : Mode) (p : Primitive) (at : ℕ) → padding (min (size p) (most m)) at ≡ 0 → padding (min (size p) (most m)) (at + size p) ≡ 0
aligned_more Two p at e = aligned_four p at e
aligned_more Inner p at e = aligned_eight p at e
aligned_more Tail p at e = aligned_eight p at e

-- ---- many numbers

step_step : (n m : ℕ) (s : Spot) → step m (step n s) ≡ step (n + m) s
unfolding step
step_step n m s =
    let at : s.at + n + m ≡ s.at + (n + m) = omega arith in
    let left : drop m (drop n s.rest) ≡ drop (n + m) s.rest = drop-drop m n s.rest ∙ ap (λ (k : ℕ). drop k s.rest) (omega arith) in
    rw (at, left) refl

step_at : (n : ℕ) (s : Spot) → (step n s).at ≡ s.at + n
unfolding step
step_at n s = refl

step_rest : (n : ℕ) (s : Spot) → (step n s).rest ≡ drop n s.rest
unfolding step
step_rest n s = refl

abbrev rest_numbers : Mode → ℕ → Try → Val → Primitive → ℕ → Gathered Val → Order → Spot → Reading Part
rest_numbers k bound tc d p n g o s = rest_parts (items_then bound tc d) g n (value_at k (prim p) o) s

abbrev unit_of : Mode → Primitive → ℕ
unit_of k p = min (size p) (most k)

step_none : (n : ℕ) (s : Spot) → n ≡ 0 → step n s ≡ s
unfolding step
step_none n s e =
    let at : s.at + 0 ≡ s.at = omega arith in
    rw (e, at) refl

-- m numbers, and then n more
rest_block : (k : Mode) (bound : ℕ) (tc : Try) (d : Val) (p : Primitive) (m n : ℕ) (g : Gathered Val) (o : Order) (s : Spot) → is_boolean p ≡ false → padding (unit_of k p) s.at ≡ 0 → m * size p ≤ length s.rest
    → rest_numbers k bound tc d p (m + n) g o s ≡ rest_numbers k bound tc d p n (and_numbers bound tc d o p m g s.rest) o (step (m * size p) s)
unfolding ◌>>=◌
rest_block k bound tc d p zero n g o s plain aligned fits =
    let none : 0 + n ≡ n = omega arith in
    rw (none, step_none (0 * size p) s (omega arith)) refl
rest_block k bound tc d p (suc m) n g o s plain aligned fits =
    let fin = items_then bound tc d in
    let x = number_part o p (take (size p) s.rest) in
    let all : suc m + n ≡ suc (m + n) = omega arith in
    let first : size p ≤ length s.rest = omega arith in
    let next = next_part fin (and_item bound tc d) g (m + n) (value_at k (prim p) o) s (items_law bound tc d) in
    let more : m * size p ≤ length (step (size p) s).rest = omega (arith, ap (λ (l : List ℕ). length l) (step_rest (size p) s), length-drop (size p) s.rest) in
    let on : padding (unit_of k p) (step (size p) s).at ≡ 0 = ap (padding (unit_of k p)) (step_at (size p) s) ∙ aligned_more k p s.at aligned in
    let rest = rest_block k bound tc d p m n (and_item bound tc d g x) o (step (size p) s) plain on more in
    let behind : step (m * size p) (step (size p) s) ≡ step (suc m * size p) s = step_step (size p) (m * size p) s ∙ ap (λ (k : ℕ). step k s) (omega arith) in
    ap (λ (j : ℕ). rest_numbers k bound tc d p j g o s) all
    ∙ next
    ∙ ap (λ (r : Reading Part). r >>= λ y. rest_numbers k bound tc d p (m + n) (and_item bound tc d g y.0) o y.1) (one_number k o p s plain aligned first)
    ∙ rest
    ∙ ap (λ (l : List ℕ). rest_numbers k bound tc d p n (and_numbers bound tc d o p m (and_item bound tc d g x) l) o (step (m * size p) (step (size p) s))) (step_rest (size p) s)
    ∙ ap (λ (t : Spot). rest_numbers k bound tc d p n (and_numbers bound tc d o p m (and_item bound tc d g x) (drop (size p) s.rest)) o t) behind

-- the octets of m numbers are enough for them
numbers_taken : (bound : ℕ) (tc : Try) (d : Val) (o : Order) (p : Primitive) (m : ℕ) (g : Gathered Val) (xs : List ℕ) → and_numbers bound tc d o p m g (take (m * size p) xs) ≡ and_numbers bound tc d o p m g xs
numbers_taken bound tc d o p zero g xs = refl
numbers_taken bound tc d o p (suc m) g xs =
    let whole : suc m * size p ≡ size p + m * size p = omega arith in
    let first : take (size p) (take (suc m * size p) xs) ≡ take (size p) xs = take-take (size p) (suc m * size p) xs (omega arith) in
    let behind : drop (size p) (take (suc m * size p) xs) ≡ take (m * size p) (drop (size p) xs) = ap (λ (k : ℕ). drop (size p) (take k xs)) whole ∙ drop-take (size p) (m * size p) xs in
    rw (first, behind) (numbers_taken bound tc d o p m (and_item bound tc d g (number_part o p (take (size p) xs))) (drop (size p) xs))

abbrev pub numbers_then : Mode → ℕ → Try → Val → Primitive → ℕ → ℕ → Gathered Val → Order → Spot → Reading Part
numbers_then k bound tc d p n i g = parts_from (items_then bound tc d) (value_at k (prim p)) n i g

pub numbers_begin : (k : Mode) (bound : ℕ) (tc : Try) (t : Shape) (p : Primitive) (n : ℕ) (g : Gathered Val) (a : Standing) → t ≡ prim p → g ≡ none_yet → Ahead (items_read k bound tc t (Some n)) (numbers_then k bound tc (default_of t) p n 0 g) a a
unfolding ◌>>=◌
numbers_begin k bound tc t p n g a is none =
    let u = items_counted k bound tc t n g none (begins (items_read k bound tc t (Some n)) (items_behind k bound tc t n) a (λ s. refl)) in
    subst (λ (x : Shape). Ahead (items_read k bound tc t (Some n)) (parts_from (items_then bound tc (default_of t)) (value_at k x) n 0 g) a a) is u

-- a block of m numbers comes next
pub block_next : (k : Mode) (bound : ℕ) (tc : Try) (d : Val) (p : Primitive) (n i m : ℕ) (g : Gathered Val) {f : Order → Spot → Reading Part} {a b : Standing} → Stands b → is_boolean p ≡ false → pad_of (unit_of k p) b ≡ 0 → m * size p ≤ room b → i + m ≤ n
    → Ahead f (numbers_then k bound tc d p n i g) a b → Ahead f (λ o s. block_read bound tc d p m g o s >>= λ x. numbers_then k bound tc d p n (i + m) x.0 o x.1) a b
unfolding octets_at ◌>>=◌
block_next k bound tc d p n i m g {b = b} st plain aligned fits within u =
    rephrased (numbers_then k bound tc d p n i g) (λ o s. block_read bound tc d p m g o s >>= λ x. numbers_then k bound tc d p n (i + m) x.0 o x.1) u
    (λ xs is.
    let s = spot b xs in
    let all : n - i ≡ m + (n - (i + m)) = omega arith in
    let there : m * size p ≤ length s.rest = omega (arith, room_is xs st is) in
    let long : nat_lt (length s.rest) (m * size p) ≡ false = le-ltb _ _ there in
    ap (λ (j : ℕ). rest_numbers k bound tc d p j g b.order s) all
    ∙ rest_block k bound tc d p m (n - (i + m)) g b.order s plain aligned there
    ∙ ap (λ (h : Gathered Val). rest_numbers k bound tc d p (n - (i + m)) h b.order (step (m * size p) s)) (sym (numbers_taken bound tc d b.order p m g s.rest))
    ∙ rw long refl)

pub padding_none : (u x : ℕ) → 0 < u → x % u ≡ 0 → padding u x ≡ 0
unfolding padding
padding_none u x some e =
    let all : u - 0 ≡ u = omega arith in
    rw (e, all) (mod_self u)

some_same : {A : Type 0} (x y : A) → Some x ≡ Some y → x ≡ y
some_same x y e = cc

pub prim_is : (t : Shape) (p : Primitive) → Some p ≡ as_prim t → t ≡ prim p
prim_is (prim q) p e = ap prim (sym (some_same p q e))
prim_is (str bound) p e = absurd cc
prim_is (enumeration e bits ls) p is = absurd cc
prim_is (bitmask bits fs) p e = absurd cc
prim_is (sequence bound tc t) p e = absurd cc
prim_is (array dims tc t) p e = absurd cc
prim_is (map_of bound kc k vc t) p e = absurd cc
prim_is (structure e ms) p is = absurd cc
prim_is (union e key disc cs) p is = absurd cc

-- so many as fit
pub quotient_fits : (left size m : ℕ) → 0 < size → m ≤ left / size → m * size ≤ left
quotient_fits left size m some le = omega (arith, mul-le-mul_right size le, div-mul-le_self left size)

pub size_some : (p : Primitive) → 0 < size p
size_some prims.Boolean = omega arith
size_some prims.Byte = omega arith
size_some prims.Int8 = omega arith
size_some prims.Uint8 = omega arith
size_some prims.Int16 = omega arith
size_some prims.Uint16 = omega arith
size_some prims.Int32 = omega arith
size_some prims.Uint32 = omega arith
size_some prims.Int64 = omega arith
size_some prims.Uint64 = omega arith
size_some prims.Float32 = omega arith
size_some prims.Float64 = omega arith
size_some prims.Char8 = omega arith

-- ---- in the loop

-- a cursor that stays where it is
pub stay : {f k : Order → Spot → Reading Part} {a b c : Standing} → Ahead f k a b → Stayed b c → Ahead f k a c
stay {f} {k} {a} {b} {c} u s = record {
  within = within_trans u.within s.within (omega (arith, s.place));
  later = omega (arith, u.later, s.place);
  inside = λ h. omega (arith, u.inside h, s.place);
  told = λ xs e.
      let (there, same) = u.told xs e in
      let behind : after a b xs ≡ after a c xs = ap (λ (n : ℕ). drop (n - a.place) xs) (sym s.place) in
      let here : spot c (after a c xs) ≡ spot b (after a b xs) = rw (s.place, s.within.origin, s.within.region_end) refl in
      (s.ahead ∙ there ∙ ap (λ (l : List ℕ). Some l) behind, same ∙ ap (k a.order) (sym here));
}

abbrev pub number_more : Mode → ℕ → Try → Val → Primitive → ℕ → ℕ → Gathered Val → Part → Order → Spot → Reading Part
number_more k bound tc d p n i g x = numbers_then k bound tc d p n (i + 1) (and_item bound tc d g x)

-- one number comes next
pub number_next : (k : Mode) (bound : ℕ) (tc : Try) (d : Val) (p : Primitive) (n i : ℕ) (g : Gathered Val) {f : Order → Spot → Reading Part} {a b c : Standing} → i < n → Stayed b c → Ahead f (numbers_then k bound tc d p n i g) a b
    → Ahead f (λ o s. value_at k (prim p) o s >>= λ x. number_more k bound tc d p n i g x.0 o x.1) a c
number_next k bound tc d p n i g lt s u = stay (part_next (items_then bound tc d) (and_item bound tc d) (value_at k (prim p)) n i g (items_law bound tc d) lt u) s

-- a block comes next, as it was counted
pub counted_next : (k : Mode) (bound : ℕ) (tc : Try) (d : Val) (p : Primitive) (n i m : ℕ) (g : Gathered Val) {f : Order → Spot → Reading Part} {a b c : Standing} → Stands b → i ≤ n → 0 < m → IsBlock k p (n - i) b m → Stayed b c → Ahead f (numbers_then k bound tc d p n i g) a b
    → Ahead f (λ o s. block_read bound tc d p m g o s >>= λ x. numbers_then k bound tc d p n (i + m) x.0 o x.1) a c
counted_next k bound tc d p n i m g st le some q s u = stay (block_next k bound tc d p n i m g st (q.plain some) (q.aligned some) q.fits (omega (arith, q.within)) u) s

pub numbers_more : (bound : ℕ) (tc : Try) (d : Val) (o : Order) (p : Primitive) (n m : ℕ) (g h : Gathered Val) (ys front back : List ℕ) (x : Part) → n ≡ suc m → front ≡ take (size p) ys → back ≡ drop (size p) ys → x ≡ number_part o p front → h ≡ and_item bound tc d g x
    → and_numbers bound tc d o p m h back ≡ and_numbers bound tc d o p n g ys
numbers_more bound tc d o p n m g h ys front back x next is_front is_back is_part is_more = rw (is_more, is_part, is_front, is_back, next) refl

pub items_given : (k : Mode) (bound : ℕ) (tc : Try) (t : Shape) (n : ℕ) {f : Order → Spot → Reading Part} {a b : Standing} → Ahead f (items_behind k bound tc t n) a b → Ahead f (items_read k bound tc t (Some n)) a b
unfolding ◌>>=◌
items_given k bound tc t n u = rephrased (items_behind k bound tc t n) (items_read k bound tc t (Some n)) u (λ xs e. refl)

most_some : (k : Mode) → 0 < most k
most_some Two = omega arith
most_some Inner = omega arith
most_some Tail = omega arith

pub unit_some : (k : Mode) (p : Primitive) → 0 < min (size p) (most k)
unit_some k p = omega (arith, size_some p, most_some k)
