-- The value that is drawn has the writer's type.
use Rattle.std.proofs.Common.{◌≡◌, ℕ, zero, suc, ◌+◌, ◌-◌, ◌<◌, ◌≤◌, ◌==◌, pos, negsuc, ◌-ℤ◌, Bool, true, false, not, ◌&&◌, ◌||◌, List, [], ◌∷◌, ◌++◌, map, length, if◌then◌else◌, inl, inr, refl, sym, ap, ap₂, ◌∙◌, append_assoc, append-nil, lit<, lit≤, arith}
use Rattle.std.proofs.lemmas.Int.{ints}
use Rattle.std.specs.Prelude.{nat_lt}
use Rattle.std.proofs.lemmas.Bool.{cases_Bool, and_from, and_parts, or_parts, lt-ltb, le-ltb, ltb-true, ltb-false}
use Rattle.std.proofs.lemmas.List.{length-append}
use Rattle.xt_shapes.specs.declared.leaves.Ext.{Ext}
use Rattle.xt_shapes.specs.declared.leaves.Primitive.TheVariants.{Byte, Int16, Int32, Int64}
use Rattle.xt_shapes.specs.Lists.{has, all}
use Rattle.xt_shapes.specs.Shape.{prim}
use Rattle.xt_shapes.specs.Sizes.{half}
use Rattle.xt_shapes.specs.Select.{is_literal}
use Rattle.xt_shapes.specs.Typing.{in_range, is_past, is_text_within, of_slot, has_type, have_types}
use Rattle.xt_shapes.specs.Vals.{Val, int, struct_of, Slot, absent, vals_of, each_val, slots_of}
use Rattle.type_trees.specs.Bridge.{literal_shape, shape, member_shapes}
use Rattle.xt_vectors.specs.declared.plans.Plan.{Plan}
use Rattle.xt_vectors.specs.declared.plans.Sort.{Sort}
use Rattle.xt_vectors.specs.declared.plans.Sort.TheVariants.{Long, Octet, Text, Shorts, Literals, Pair}
use Rattle.xt_vectors.specs.Draws.{next, drawn}
use Rattle.xt_vectors.specs.Types.{literals, type_of, structure_of}
use Rattle.xt_vectors.specs.Values.{number_drawn, up_to, letter_drawn, letters_drawn, numbers_drawn, value_drawn, present_drawn, slot_drawn, slots_from, slots_drawn}
use Rattle.xt_vectors.proofs.Names.{unequal}
use Rattle.xt_vectors.proofs.Planned.{below, Fits, Between}
use Rattle.xt_vectors.proofs.Valid.{members}

-- ---- numbers

-- a number of 16 bits with its sign is one of more octets too
shifted : (k a : ℕ) → 32768 ≤ half k → a < 65536 → in_range k true (pos a -ℤ pos 32768) ≡ true
shifted k a le lt = elim (cases_Bool (nat_lt a 32768)) [
  | inl y ↦ (let less : a < 32768 = ltb-true a 32768 y in
      let is : pos a -ℤ pos 32768 ≡ negsuc (32767 - a) = omega (arith, ints, less) in
      ap (in_range k true) is ∙ lt-ltb (32767 - a) (half k) (omega (arith, le, less)))
  | inr n ↦ (let more : 32768 ≤ a = omega (arith, ltb-false a 32768 n) in
      let is : pos a -ℤ pos 32768 ≡ pos (a - 32768) = omega (arith, ints, more) in
      ap (in_range k true) is ∙ lt-ltb (a - 32768) (half k) (omega (arith, le, lt, more)))
]

short_typed : (s : ℕ) → has_type (prim Int16) (number_drawn s) ≡ true
unfolding has_type number_drawn
short_typed s = shifted 2 (drawn 65536 s) (lit≤ tt) (below 65536 s (lit< tt))

long_typed : (s : ℕ) → has_type (prim Int32) (number_drawn s) ≡ true
unfolding has_type number_drawn
long_typed s = shifted 4 (drawn 65536 s) (lit≤ tt) (below 65536 s (lit< tt))

longer_typed : (s : ℕ) → has_type (prim Int64) (number_drawn s) ≡ true
unfolding has_type number_drawn
longer_typed s = shifted 8 (drawn 65536 s) (lit≤ tt) (below 65536 s (lit< tt))

at_most : (last s : ℕ) → up_to last s ≤ last
unfolding up_to
at_most last s = omega (arith, below (last + 1) s (omega arith))

-- ---- lists

all_more : {A : Type 0} (p : A → Bool) (xs : List A) (x : A) → all p xs ≡ true → p x ≡ true → all p (xs ++ x ∷ []) ≡ true
all_more p [] x h e = ap (λ b. b && true) e
all_more p (y ∷ xs) x h e = let parts = and_parts (p y) (all p xs) h in and_from (p y) (all p (xs ++ x ∷ [])) parts.0 (all_more p xs x parts.1 e)

none_more : {A : Type 0} (p : A → Bool) (xs : List A) (x : A) → has p xs ≡ false → p x ≡ false → has p (xs ++ x ∷ []) ≡ false
none_more p [] x h e = ap (λ b. b || false) e
none_more p (y ∷ xs) x h e = let parts = or_parts (p y) (has p xs) h in ap₂ (λ (a b : Bool). a || b) parts.0 (none_more p xs x parts.1 e)

not_past : (bound n : ℕ) → n ≤ bound → is_past bound n ≡ false
not_past bound n le = ap (λ b. not (bound == 0) && b) (le-ltb bound n le) ∙ never (not (bound == 0))
  where
    never : (b : Bool) → b && false ≡ false
    never true = refl
    never false = refl

each_of_vals : (vs : List Val) → each_val (vals_of vs) ≡ vs
each_of_vals [] = refl
each_of_vals (v ∷ vs) = ap (λ l. v ∷ l) (each_of_vals vs)

-- ---- texts and sequences

letters_count : (n s : ℕ) → length (letters_drawn n s).0 ≡ n
letters_count zero s = refl
letters_count (suc n) s = let x = letters_drawn n s in omega (arith, length-append x.0 (letter_drawn x.1 ∷ []), letters_count n s)

letter_between : (s : ℕ) → (97 ≤ letter_drawn s) × (letter_drawn s < 256)
unfolding letter_drawn
letter_between s = (omega arith, omega (arith, below 26 s (lit< tt)))

not_nul : (b : ℕ) → 97 ≤ b → (b == 0) ≡ false
not_nul b le = unequal b 0 (λ e. absurd (omega (arith, le, e)))

letters_fit : (n s : ℕ) → all (λ b. nat_lt b 256) (letters_drawn n s).0 ≡ true
letters_fit zero s = refl
letters_fit (suc n) s = let x = letters_drawn n s in all_more (λ b. nat_lt b 256) x.0 (letter_drawn x.1) (letters_fit n s) (lt-ltb (letter_drawn x.1) 256 (letter_between x.1).1)

no_nul : (n s : ℕ) → has (λ b. b == 0) (letters_drawn n s).0 ≡ false
no_nul zero s = refl
no_nul (suc n) s = let x = letters_drawn n s in none_more (λ b. b == 0) x.0 (letter_drawn x.1) (no_nul n s) (not_nul (letter_drawn x.1) (letter_between x.1).0)

text_within : (bound n s : ℕ) → n ≤ bound → is_text_within bound (letters_drawn n s).0 ≡ true
text_within bound n s le =
    and_from _ _ (ap not (ap (is_past bound) (letters_count n s) ∙ not_past bound n le)) (and_from _ _ (letters_fit n s) (ap not (no_nul n s)))

numbers_count : (n s : ℕ) → length (numbers_drawn n s).0 ≡ n
numbers_count zero s = refl
numbers_count (suc n) s = let x = numbers_drawn n s in omega (arith, length-append x.0 (number_drawn x.1 ∷ []), numbers_count n s)

numbers_typed : (n s : ℕ) → all (λ w. has_type (prim Int16) w) (numbers_drawn n s).0 ≡ true
numbers_typed zero s = refl
numbers_typed (suc n) s = let x = numbers_drawn n s in all_more (λ w. has_type (prim Int16) w) x.0 (number_drawn x.1) (numbers_typed n s) (short_typed x.1)

abbrev are_shorts : ℕ → List Val → Bool
are_shorts bound xs = not (is_past bound (length xs)) && all (λ w. has_type (prim Int16) w) xs

shorts_within : (bound n s : ℕ) → n ≤ bound → are_shorts bound (each_val (vals_of (numbers_drawn n s).0)) ≡ true
shorts_within bound n s le =
    ap (are_shorts bound) (each_of_vals (numbers_drawn n s).0) ∙ and_from _ _ (ap not (ap (is_past bound) (numbers_count n s) ∙ not_past bound n le)) (numbers_typed n s)

-- ---- literals

literal_in : (last n : ℕ) → last ≤ 3 → n ≤ last → is_literal (map literal_shape (literals last)) (pos n) ≡ true
literal_in zero zero few le = refl
literal_in zero (suc n) few le = absurd (omega arith)
literal_in (suc zero) zero few le = refl
literal_in (suc zero) (suc zero) few le = refl
literal_in (suc zero) (suc (suc n)) few le = absurd (omega arith)
literal_in (suc (suc zero)) zero few le = refl
literal_in (suc (suc zero)) (suc zero) few le = refl
literal_in (suc (suc zero)) (suc (suc zero)) few le = refl
literal_in (suc (suc zero)) (suc (suc (suc n))) few le = absurd (omega arith)
literal_in (suc (suc (suc zero))) zero few le = refl
literal_in (suc (suc (suc zero))) (suc zero) few le = refl
literal_in (suc (suc (suc zero))) (suc (suc zero)) few le = refl
literal_in (suc (suc (suc zero))) (suc (suc (suc zero))) few le = refl
literal_in (suc (suc (suc zero))) (suc (suc (suc (suc n)))) few le = absurd (omega arith)
literal_in (suc (suc (suc (suc last)))) n few le = absurd (omega arith)

-- ---- the value of a member

octet_typed : (n : ℕ) → n ≤ 255 → has_type (prim Byte) (int (pos n)) ≡ true
unfolding has_type
octet_typed n le = lt-ltb n 256 (omega (arith, le))

value_typed : (id : ℕ) (sort : Sort) (s : ℕ) → Fits sort → has_type (shape (type_of id sort)) (value_drawn sort s).0 ≡ true
unfolding type_of value_drawn has_type
value_typed id Long s f = long_typed s
value_typed id Octet s f = octet_typed (up_to 255 s) (at_most 255 s)
value_typed id (Text bound) s f = text_within bound (up_to bound s) (next s) (at_most bound s)
value_typed id (Shorts bound) s f = shorts_within bound (up_to bound s) (next s) (at_most bound s)
value_typed id (Literals last) s f = literal_in last (up_to last s) f (at_most last s)
value_typed id Pair s f = and_from _ _ (long_typed s) (and_from _ _ (longer_typed (next s)) refl)

slot_typed : (p : Plan) (s : ℕ) → Fits p.sort → of_slot p.optional (λ w. has_type (shape (type_of p.id p.sort)) w) (slot_drawn p s).0 ≡ true
unfolding slot_drawn
slot_typed p s f = by p.optional (drawn 2 s == 0)
  where
    by : (optional none : Bool) → of_slot optional (λ w. has_type (shape (type_of p.id p.sort)) w) (let x : Slot × ℕ = if optional then (if none then (absent, next s) else present_drawn p.sort (next s)) else present_drawn p.sort s in x.0) ≡ true
    by true true = refl
    by true false = value_typed p.id p.sort (next s) f
    by false none = value_typed p.id p.sort s f

-- ---- the slots, one after another

abbrev slots_alone : List Plan → ℕ → List Slot
slots_alone [] s = []
slots_alone (p ∷ ps) s = (slot_drawn p s).0 ∷ slots_alone ps (slot_drawn p s).1

slots_behind : (ps : List Plan) (xs : List Slot) (s : ℕ) → (slots_from ps (xs, s)).0 ≡ xs ++ slots_alone ps s
slots_behind [] xs s = sym (append-nil xs)
slots_behind (p ∷ ps) xs s = slots_behind ps (xs ++ (slot_drawn p s).0 ∷ []) (slot_drawn p s).1 ∙ append_assoc xs ((slot_drawn p s).0 ∷ []) (slots_alone ps (slot_drawn p s).1)

alone_typed : (low high : ℕ) (ps : List Plan) (s : ℕ) → Between low high ps → have_types (member_shapes (members ps)) (slots_of (slots_alone ps s)) ≡ true
unfolding have_types
alone_typed low high [] s b = refl
alone_typed low high (p ∷ ps) s b = and_from _ _ (slot_typed p s b.1) (alone_typed (p.id + 1) high ps (slot_drawn p s).1 b.2)

pub slots_typed : (ext : Ext) (high : ℕ) (ps : List Plan) (s : ℕ) → Between 0 high ps → has_type (shape (structure_of ext ps)) (struct_of (slots_of (slots_drawn ps s).0)) ≡ true
unfolding has_type
slots_typed ext high ps s b = ap (λ l. have_types (member_shapes (members ps)) (slots_of l)) (slots_behind ps [] s) ∙ alone_typed 0 high ps s b
