-- How long a fixed spelling is at different places: as long where the places are equal up to a multiple of the greatest alignment, and
-- it never ends sooner where it begins later.
use Rattle.std.proofs.Common.{◌≡◌, refl, sym, ap, ◌∙◌, ℕ, ◌+◌, ◌*◌, ◌%◌, ◌≤◌, ℤ, Bool, true, false, cond, ◌&&◌, ◌==◌, List, [], ◌∷◌, ◌++◌, length, Option, Some, None, arith, inl, inr, min, nat_lt, nat_le, ◌/◌, ◌^◌}
use Rattle.xt_shapes.specs.declared.leaves.Ext.TheVariants.{Final, Appendable, Mutable}
use Rattle.xt_shapes.specs.declared.leaves.Primitive.{Primitive}
use Rattle.xt_shapes.specs.declared.leaves.Order.{Order}
use Rattle.xt_shapes.specs.declared.leaves.Rep.{Rep}
use Rattle.xt_shapes.specs.declared.leaves.Rep.TheVariants.{Xcdr1, Xcdr2}
use Rattle.xt_shapes.specs.Select.{select, is_must}
use Rattle.xt_shapes.specs.Sizes.{size}
use Rattle.xt_shapes.specs.Shape.{Head, CaseHead, Shape, prim, str, enumeration, bitmask, sequence, array, map_of, structure, union, Members, no_members, member, Cases, no_cases, one_case}
use Rattle.xt_shapes.specs.Vals.{Val, Slots, Slot, absent, present, number_in, octets_in, items_in, entries_in, slots_in, disc_in, body_in, first, others}
use Rattle.xcdr_model.specs.FixedSpelling.{Fixed, nothing, number_fixed, then_fixed, headed_fixed, each_fixed, collection_fixed, counted_fixed, scalar_size, scalar_fixed, text_fixed, slot_fixed, code_of, piece_fixed, if_selected_fixed, if_present_fixed, slot_fixed1, sent_fixed1, param_fixed, end_fixed, fixed_of, members_fixed, pieces_fixed, case_fixed, members_fixed1, params_fixed, case_fixed1}
use Rattle.xcdr_model.specs.Numbers.{padding, raw}
use Rattle.xcdr_model.specs.Xcdr2Reading.{is_primitive}
use Rattle.xcdr_model.specs.Xcdr2Spelling.{bit}
use Rattle.xcdr_writer.specs.Parts.{most_of, is_bare, is_short, slot_in, piece_in, members_of, pieces_of, case_of, items_fixed, counted_items, entry_fixed, counted_entries, mutable_fixed, selected_fixed, mutable_union}
use Rattle.xcdr_writer.proofs.SizeSteps as steps
use Rattle.xcdr_writer.proofs.SizeSteps.{piece_parts}
use Rattle.xcdr_writer.proofs.ParamSteps.{length-param, length-end}
use Rattle.xt_wire.specs.numbers.Units.{IsSize}
use Rattle.xt_wire.proofs.OfWriter.Puts.{length-number}
use Rattle.value_writer.proofs.Ends.{length_then, length_headed}

-- f and g are one spelling in two byte orders
pub record Steady (r : Rep) (f g : Fixed) : Type 0 where
  pub same : (p q : ℕ) → p % most_of r ≡ q % most_of r → length (f p) ≡ length (g q)
  pub rises : (p q : ℕ) → p ≤ q → p + length (f p) ≤ q + length (g q)

-- ---- places

shift : (r : Rep) (p q n m : ℕ) → p % most_of r ≡ q % most_of r → n ≡ m → (p + n) % most_of r ≡ (q + m) % most_of r
shift Xcdr1 p q n m e h = omega (arith, e, h)
shift Xcdr2 p q n m e h = omega (arith, e, h)

-- an alignment: none, or one that divides the greatest
record Aligns (r : Rep) (u : ℕ) : Type 0 where
  unit : IsSize u
  most : u ≤ most_of r

padding_zero : (p : ℕ) → padding 0 p ≡ 0
unfolding padding
padding_zero p = omega arith

same_padding : (r : Rep) (u p q : ℕ) → Aligns r u → p % most_of r ≡ q % most_of r → padding u p ≡ padding u q
unfolding padding
same_padding Xcdr1 u p q a e = elim a.unit [
  | inl z ↦ rw z (padding_zero p ∙ sym (padding_zero q))
  | inr unit ↦ elim unit [ inl z ↦ rw z (omega (arith, e)) | inr more ↦ elim more [ inl z ↦ rw z (omega (arith, e)) | inr more2 ↦ elim more2 [ inl z ↦ rw z (omega (arith, e)) | inr z ↦ rw z (omega (arith, e)) ] ] ]
]
same_padding Xcdr2 u p q a e = elim a.unit [
  | inl z ↦ rw z (padding_zero p ∙ sym (padding_zero q))
  | inr unit ↦ elim unit [ inl z ↦ rw z (omega (arith, e)) | inr more ↦ elim more [ inl z ↦ rw z (omega (arith, e)) | inr more2 ↦ elim more2 [ inl z ↦ rw z (omega (arith, e)) | inr z ↦ absurd (omega (arith, z, a.most)) ] ] ]
]

rising_padding : (u p q : ℕ) → IsSize u → p ≤ q → p + padding u p ≤ q + padding u q
unfolding padding
rising_padding u p q is le = elim is [
  | inl z ↦ rw (z, padding_zero p, padding_zero q) (omega (arith, le))
  | inr unit ↦ elim unit [ inl z ↦ rw z (omega (arith, le)) | inr more ↦ elim more [ inl z ↦ rw z (omega (arith, le)) | inr more2 ↦ elim more2 [ inl z ↦ rw z (omega (arith, le)) | inr z ↦ rw z (omega (arith, le)) ] ] ]
]

-- ---- numbers

size_one : IsSize 1
size_one = inr (inl refl)

size_two : IsSize 2
size_two = inr (inr (inl refl))

size_four : IsSize 4
size_four = inr (inr (inr (inl refl)))

size_eight : IsSize 8
size_eight = inr (inr (inr (inr refl)))

four_aligns : (r : Rep) → Aligns r 4
four_aligns Xcdr1 = record { unit = size_four; most = omega arith }
four_aligns Xcdr2 = record { unit = size_four; most = omega arith }

least_aligns : (r : Rep) (k : ℕ) → IsSize k → Aligns r (min k (most_of r))
least_aligns Xcdr1 k is = record { unit = elim is [ inl z ↦ rw z (inl refl) | inr unit ↦ elim unit [ inl z ↦ rw z size_one | inr more ↦ elim more [ inl z ↦ rw z size_two | inr more2 ↦ elim more2 [ inl z ↦ rw z size_four | inr z ↦ rw z size_eight ] ] ] ]; most = omega arith }
least_aligns Xcdr2 k is = record { unit = elim is [ inl z ↦ rw z (inl refl) | inr unit ↦ elim unit [ inl z ↦ rw z size_one | inr more ↦ elim more [ inl z ↦ rw z size_two | inr more2 ↦ elim more2 [ inl z ↦ rw z size_four | inr z ↦ rw z size_four ] ] ] ]; most = omega arith }

number_steady : (r : Rep) (most : ℕ) (o o2 : Order) (k n m : ℕ) → Aligns r (min k most) → Steady r (number_fixed most o k n) (number_fixed most o2 k m)
number_steady r most o o2 k n m is = record {
  same = λ p q e. omega (arith, length-number most o k n p, length-number most o2 k m q, same_padding r (min k most) p q is e);
  rises = λ p q le. omega (arith, length-number most o k n p, length-number most o2 k m q, rising_padding (min k most) p q is.unit le);
}

count_steady : (r : Rep) (o o2 : Order) (n : ℕ) → Steady r (number_fixed 4 o 4 n) (number_fixed 4 o2 4 n)
count_steady r o o2 n = number_steady r 4 o o2 4 n n (four_aligns r)

prim_sized : (p : Primitive) → IsSize (size p)
prim_sized Primitive.Boolean = size_one
prim_sized Primitive.Byte = size_one
prim_sized Primitive.Int8 = size_one
prim_sized Primitive.Uint8 = size_one
prim_sized Primitive.Int16 = size_two
prim_sized Primitive.Uint16 = size_two
prim_sized Primitive.Int32 = size_four
prim_sized Primitive.Uint32 = size_four
prim_sized Primitive.Int64 = size_eight
prim_sized Primitive.Uint64 = size_eight
prim_sized Primitive.Float32 = size_four
prim_sized Primitive.Float64 = size_eight
prim_sized Primitive.Char8 = size_one

either : (b : Bool) (m n : ℕ) → IsSize m → IsSize n → IsSize (cond b m n)
either true m n a b = a
either false m n a b = b

scalar_sized : (t : Shape) → IsSize (scalar_size t)
scalar_sized (prim p) = prim_sized p
scalar_sized (enumeration e bits ls) = either (nat_le bits 8) 1 _ size_one (either (nat_le bits 16) 2 4 size_two size_four)
scalar_sized (bitmask bits fs) = either (nat_le bits 8) 1 _ size_one (either (nat_le bits 16) 2 _ size_two (either (nat_le bits 32) 4 8 size_four size_eight))
scalar_sized (str bound) = inl refl
scalar_sized (sequence bound tc t) = inl refl
scalar_sized (array dims tc t) = inl refl
scalar_sized (map_of bound kc k vc t) = inl refl
scalar_sized (structure e ms) = inl refl
scalar_sized (union e key disc cs) = inl refl

scalar_steady : (r : Rep) (o o2 : Order) (t : Shape) (i j : ℤ) → Steady r (scalar_fixed (most_of r) o t i) (scalar_fixed (most_of r) o2 t j)
scalar_steady r o o2 t i j = number_steady r (most_of r) o o2 (scalar_size t) (raw (scalar_size t) i) (raw (scalar_size t) j) (least_aligns r (scalar_size t) (scalar_sized t))

-- ---- parts

octets_steady : (r : Rep) (xs ys : List ℕ) → length xs ≡ length ys → Steady r (λ q. xs) (λ q. ys)
octets_steady r xs ys e = record { same = λ p q h. e; rises = λ p q le. omega (arith, le, e) }

nothing_steady : (r : Rep) → Steady r nothing nothing
nothing_steady r = octets_steady r [] [] refl

steady_as : (r : Rep) (f f2 g g2 : Fixed) → ((p : ℕ) → f p ≡ g p) → ((p : ℕ) → f2 p ≡ g2 p) → Steady r g g2 → Steady r f f2
steady_as r f f2 g g2 e e2 a = record {
  same = λ p q h. ap length (e p) ∙ a.same p q h ∙ sym (ap length (e2 q));
  rises = λ p q le. omega (arith, ap length (e p), ap length (e2 q), a.rises p q le);
}

steady_is : (r : Rep) (f f2 g g2 : Fixed) → f ≡ g → f2 ≡ g2 → Steady r g g2 → Steady r f f2
steady_is r f f2 g g2 e e2 a = steady_as r f f2 g g2 (λ p. ap (λ (k : Fixed). k p) e) (λ p. ap (λ (k : Fixed). k p) e2) a

then_steady : (r : Rep) (f f2 g g2 : Fixed) → Steady r f f2 → Steady r g g2 → Steady r (then_fixed f g) (then_fixed f2 g2)
then_steady r f f2 g g2 a b = record {
  same = λ p q e.
      let n = a.same p q e in
      let m = b.same (p + length (f p)) (q + length (f2 q)) (shift r p q (length (f p)) (length (f2 q)) e n) in
      omega (arith, length_then f g p, length_then f2 g2 q, n, m);
  rises = λ p q le.
      let n = a.rises p q le in
      let m = b.rises (p + length (f p)) (q + length (f2 q)) n in
      omega (arith, length_then f g p, length_then f2 g2 q, n, m);
}

headed_steady : (r : Rep) (o o2 : Order) (f f2 : Fixed) → Steady r f f2 → Steady r (headed_fixed o f) (headed_fixed o2 f2)
headed_steady r o o2 f f2 a = record {
  same = λ p q e.
      let n = same_padding r 4 p q (four_aligns r) e in
      let k : padding 4 p + 4 ≡ padding 4 q + 4 = omega (arith, n) in
      let m = a.same (p + (padding 4 p + 4)) (q + (padding 4 q + 4)) (shift r p q (padding 4 p + 4) (padding 4 q + 4) e k) in
      omega (arith, length_headed o f p, length_headed o2 f2 q, n, m);
  rises = λ p q le.
      let n = rising_padding 4 p q size_four le in
      let m = a.rises (p + (padding 4 p + 4)) (q + (padding 4 q + 4)) (omega (arith, n)) in
      omega (arith, length_headed o f p, length_headed o2 f2 q, n, m);
}

each_steady : {A : Type 0} (r : Rep) (f f2 : A → Fixed) → ((x : A) → Steady r (f x) (f2 x)) → (xs : List A) → Steady r (each_fixed f xs) (each_fixed f2 xs)
each_steady r f f2 a [] = nothing_steady r
each_steady r f f2 a (x ∷ xs) = then_steady r (f x) (f2 x) (each_fixed f xs) (each_fixed f2 xs) (a x) (each_steady r f f2 a xs)

collection_steady : (r : Rep) (bare : Bool) (o o2 : Order) (f f2 : Fixed) → Steady r f f2 → Steady r (collection_fixed bare o f) (collection_fixed bare o2 f2)
collection_steady r true o o2 f f2 a = a
collection_steady r false o o2 f f2 a = headed_steady r o o2 f f2 a

counted_steady : {A : Type 0} (r : Rep) (o o2 : Order) (f f2 : A → Fixed) → ((x : A) → Steady r (f x) (f2 x)) → (xs : List A) → Steady r (counted_fixed o f xs) (counted_fixed o2 f2 xs)
counted_steady r o o2 f f2 a xs = then_steady r (number_fixed 4 o 4 (length xs)) (number_fixed 4 o2 4 (length xs)) (each_fixed f xs) (each_fixed f2 xs) (count_steady r o o2 (length xs)) (each_steady r f f2 a xs)

text_steady : (r : Rep) (o o2 : Order) (t : List ℕ) → Steady r (text_fixed o t) (text_fixed o2 t)
text_steady r o o2 t = then_steady r (number_fixed 4 o 4 (length t + 1)) (number_fixed 4 o2 4 (length t + 1)) (λ q. t ++ 0 ∷ []) (λ q. t ++ 0 ∷ []) (count_steady r o o2 (length t + 1)) (octets_steady r (t ++ 0 ∷ []) (t ++ 0 ∷ []) refl)

either_steady : (r : Rep) (c : Bool) (f f2 g g2 : Fixed) → Steady r f f2 → Steady r g g2 → Steady r (cond c f g) (cond c f2 g2)
either_steady r true f f2 g g2 a b = a
either_steady r false f f2 g g2 a b = b

selected_steady : (r : Rep) (i : Option ℕ) (f f2 : ℕ → Fixed) → ((j : ℕ) → Steady r (f j) (f2 j)) → Steady r (if_selected_fixed i f) (if_selected_fixed i f2)
selected_steady r None f f2 a = nothing_steady r
selected_steady r (Some i) f f2 a = a i

present_steady : (r : Rep) (s : Slot) (f f2 : Val → Fixed) → ((w : Val) → Steady r (f w) (f2 w)) → Steady r (if_present_fixed s f) (if_present_fixed s f2)
present_steady r absent f f2 a = nothing_steady r
present_steady r (present w) f f2 a = a w

-- ---- members

param_steady : (o o2 : Order) (h : Head) (c d : List ℕ) → length c ≡ length d → Steady Xcdr1 (param_fixed o h c) (param_fixed o2 h d)
param_steady o o2 h c d e =
    let form : ◌≡◌ {A = ℕ} (cond (is_short h.id (length c)) 4 12) (cond (is_short h.id (length d)) 4 12) = ap (λ (n : ℕ). cond (is_short h.id n) 4 12) e in
    record {
      same = λ p q g. omega (arith, length-param o h c p, length-param o2 h d q, same_padding Xcdr1 4 p q (four_aligns Xcdr1) g, form, e);
      rises = λ p q le. omega (arith, length-param o h c p, length-param o2 h d q, rising_padding 4 p q size_four le, form, e);
    }

end_steady : (o o2 : Order) → Steady Xcdr1 (end_fixed o) (end_fixed o2)
end_steady o o2 = record {
  same = λ p q e. omega (arith, length-end o p, length-end o2 q, same_padding Xcdr1 4 p q (four_aligns Xcdr1) e);
  rises = λ p q le. omega (arith, length-end o p, length-end o2 q, rising_padding 4 p q size_four le);
}

slot1_steady : (opt : Bool) (o o2 : Order) (h : Head) (f f2 : Val → Fixed) → ((w : Val) → Steady Xcdr1 (f w) (f2 w)) → (s : Slot) → Steady Xcdr1 (slot_fixed1 opt o h f s) (slot_fixed1 opt o2 h f2 s)
slot1_steady false o o2 h f f2 a absent = nothing_steady Xcdr1
slot1_steady false o o2 h f f2 a (present w) = a w
slot1_steady true o o2 h f f2 a absent = param_steady o o2 h [] [] refl
slot1_steady true o o2 h f f2 a (present w) = param_steady o o2 h (f w 0) (f2 w 0) ((a w).same 0 0 refl)

slot2_steady : (opt : Bool) (o o2 : Order) (f f2 : Val → Fixed) → ((w : Val) → Steady Xcdr2 (f w) (f2 w)) → (s : Slot) → Steady Xcdr2 (slot_fixed opt o f s) (slot_fixed opt o2 f2 s)
slot2_steady false o o2 f f2 a absent = nothing_steady Xcdr2
slot2_steady false o o2 f f2 a (present w) = a w
slot2_steady true o o2 f f2 a absent = number_steady Xcdr2 4 o o2 1 0 0 (least_aligns Xcdr2 1 size_one)
slot2_steady true o o2 f f2 a (present w) = then_steady Xcdr2 (number_fixed 4 o 1 1) (number_fixed 4 o2 1 1) (f w) (f2 w) (number_steady Xcdr2 4 o o2 1 1 1 (least_aligns Xcdr2 1 size_one)) (a w)

slot_steady : (r : Rep) (o o2 : Order) (h : Head) (f f2 : Val → Fixed) → ((w : Val) → Steady r (f w) (f2 w)) → (s : Slot) → Steady r (slot_in r o h f s) (slot_in r o2 h f2 s)
slot_steady Xcdr1 o o2 h f f2 a s = slot1_steady h.optional o o2 h f f2 a s
slot_steady Xcdr2 o o2 h f f2 a s = slot2_steady h.optional o o2 f f2 a s

sent_steady : (o o2 : Order) (h : Head) (f f2 : Val → Fixed) → ((w : Val) → Steady Xcdr1 (f w) (f2 w)) → (s : Slot) → Steady Xcdr1 (sent_fixed1 o h f s) (sent_fixed1 o2 h f2 s)
sent_steady o o2 h f f2 a absent = nothing_steady Xcdr1
sent_steady o o2 h f f2 a (present w) = param_steady o o2 h (f w 0) (f2 w 0) ((a w).same 0 0 refl)

headed_piece_steady : (o o2 : Order) (h : Head) (code : ℕ) (f f2 : Val → Fixed) → ((w : Val) → Steady Xcdr2 (f w) (f2 w)) → (s : Slot) → Steady Xcdr2 (piece_fixed o h code f s) (piece_fixed o2 h code f2 s)
unfolding piece_fixed
headed_piece_steady o o2 h code f f2 a absent = nothing_steady Xcdr2
headed_piece_steady o o2 h code f f2 a (present w) =
    let n = bit (is_must h) * 2 ^ 31 + code * 2 ^ 28 + h.id in
    let g = λ (u : Order) (k : Fixed). cond (nat_lt code 4) k (headed_fixed u k) in
    steady_as Xcdr2 (piece_fixed o h code f (present w)) (piece_fixed o2 h code f2 (present w)) (then_fixed (number_fixed 4 o 4 n) (g o (f w))) (then_fixed (number_fixed 4 o2 4 n) (g o2 (f2 w))) (piece_parts o h code f w) (piece_parts o2 h code f2 w)
    (then_steady Xcdr2 (number_fixed 4 o 4 n) (number_fixed 4 o2 4 n) (g o (f w)) (g o2 (f2 w)) (count_steady Xcdr2 o o2 n) (either_steady Xcdr2 (nat_lt code 4) (f w) (f2 w) (headed_fixed o (f w)) (headed_fixed o2 (f2 w)) (a w) (headed_steady Xcdr2 o o2 (f w) (f2 w) (a w))))

piece_steady : (r : Rep) (o o2 : Order) (h : Head) (size : ℕ) (f f2 : Val → Fixed) → ((w : Val) → Steady r (f w) (f2 w)) → (s : Slot) → Steady r (piece_in r o h size f s) (piece_in r o2 h size f2 s)
piece_steady Xcdr1 o o2 h size f f2 a s = sent_steady o o2 h f f2 a s
piece_steady Xcdr2 o o2 h size f f2 a s = headed_piece_steady o o2 h (code_of size) f f2 a s

-- ---- structures and unions of parts

no_members_are : (r : Rep) (o : Order) (ss : Slots) → members_of r o no_members ss ≡ nothing
unfolding members_fixed members_fixed1
no_members_are Xcdr1 o ss = refl
no_members_are Xcdr2 o ss = refl

more_members_are : (r : Rep) (o : Order) (h : Head) (t : Shape) (ms : Members) (ss : Slots) → members_of r o (member h t ms) ss ≡ then_fixed (slot_in r o h (λ w. fixed_of r o t w) (first ss)) (members_of r o ms (others ss))
unfolding members_fixed members_fixed1
more_members_are Xcdr1 o h t ms ss = refl
more_members_are Xcdr2 o h t ms ss = refl

no_pieces_are : (r : Rep) (o : Order) (ss : Slots) → pieces_of r o no_members ss ≡ nothing
unfolding pieces_fixed params_fixed
no_pieces_are Xcdr1 o ss = refl
no_pieces_are Xcdr2 o ss = refl

more_pieces_are : (r : Rep) (o : Order) (h : Head) (t : Shape) (ms : Members) (ss : Slots) → pieces_of r o (member h t ms) ss ≡ then_fixed (piece_in r o h (scalar_size t) (λ w. fixed_of r o t w) (first ss)) (pieces_of r o ms (others ss))
unfolding pieces_fixed params_fixed
more_pieces_are Xcdr1 o h t ms ss = refl
more_pieces_are Xcdr2 o h t ms ss = refl

no_cases_are : (r : Rep) (o : Order) (i : ℕ) (s : Slot) → case_of r o no_cases i s ≡ nothing
unfolding case_fixed case_fixed1
no_cases_are Xcdr1 o i s = refl
no_cases_are Xcdr2 o i s = refl

more_cases_are : (r : Rep) (o : Order) (h : CaseHead) (t : Shape) (cs : Cases) (i : ℕ) (s : Slot) → case_of r o (one_case h t cs) i s ≡ cond (h.id == i) (if_present_fixed s (λ w. fixed_of r o t w)) (case_of r o cs i s)
unfolding case_fixed case_fixed1
more_cases_are Xcdr1 o h t cs i s = refl
more_cases_are Xcdr2 o h t cs i s = refl

mutable_steady : (r : Rep) (o o2 : Order) (ms : Members) (ss : Slots) → Steady r (pieces_of r o ms ss) (pieces_of r o2 ms ss) → Steady r (mutable_fixed r o ms ss) (mutable_fixed r o2 ms ss)
mutable_steady Xcdr1 o o2 ms ss a = then_steady Xcdr1 (params_fixed o ms ss) (params_fixed o2 ms ss) (end_fixed o) (end_fixed o2) a (end_steady o o2)
mutable_steady Xcdr2 o o2 ms ss a = headed_steady Xcdr2 o o2 (pieces_fixed o ms ss) (pieces_fixed o2 ms ss) a

union_steady : (r : Rep) (o o2 : Order) (disc : Shape) (cs : Cases) (d : ℤ) (s : Slot) → ((i : ℕ) → Steady r (case_of r o cs i s) (case_of r o2 cs i s)) → Steady r (selected_fixed r o disc cs d s) (selected_fixed r o2 disc cs d s)
union_steady r o o2 disc cs d s a = then_steady r (scalar_fixed (most_of r) o disc d) (scalar_fixed (most_of r) o2 disc d) (if_selected_fixed (select cs d) (λ i. case_of r o cs i s)) (if_selected_fixed (select cs d) (λ i. case_of r o2 cs i s)) (scalar_steady r o o2 disc d d) (selected_steady r (select cs d) (λ i. case_of r o cs i s) (λ i. case_of r o2 cs i s) a)

mutable_union_steady : (r : Rep) (f f2 : Fixed) → Steady r f f2 → Steady r (mutable_union r f) (mutable_union r f2)
mutable_union_steady Xcdr1 f f2 a = a
mutable_union_steady Xcdr2 f f2 a = nothing_steady Xcdr2

-- ---- whole values

mutual
  pub fixed_steady : (r : Rep) (o o2 : Order) (t : Shape) (v : Val) → Steady r (fixed_of r o t v) (fixed_of r o2 t v)
  fixed_steady r o o2 (prim p) v = steady_is r _ _ _ _ (steps.prim_is r o p v) (steps.prim_is r o2 p v) (scalar_steady r o o2 (prim p) (number_in v) (number_in v))
  fixed_steady r o o2 (enumeration e bits ls) v = steady_is r _ _ _ _ (steps.enumeration_is r o e bits ls v) (steps.enumeration_is r o2 e bits ls v) (scalar_steady r o o2 (enumeration e bits ls) (number_in v) (number_in v))
  fixed_steady r o o2 (bitmask bits fs) v = steady_is r _ _ _ _ (steps.bitmask_is r o bits fs v) (steps.bitmask_is r o2 bits fs v) (scalar_steady r o o2 (bitmask bits fs) (number_in v) (number_in v))
  fixed_steady r o o2 (str bound) v = steady_is r _ _ _ _ (steps.str_is r o bound v) (steps.str_is r o2 bound v) (text_steady r o o2 (octets_in v))
  fixed_steady r o o2 (sequence bound tc t) v = steady_is r _ _ _ _ (steps.sequence_is r o bound tc t v) (steps.sequence_is r o2 bound tc t v)
      (collection_steady r (is_bare r (is_primitive t)) o o2 (counted_items r o t (items_in v)) (counted_items r o2 t (items_in v)) (counted_steady r o o2 (λ w. fixed_of r o t w) (λ w. fixed_of r o2 t w) (λ w. fixed_steady r o o2 t w) (items_in v)))
  fixed_steady r o o2 (array dims tc t) v = steady_is r _ _ _ _ (steps.array_is r o dims tc t v) (steps.array_is r o2 dims tc t v)
      (collection_steady r (is_bare r (is_primitive t)) o o2 (items_fixed r o t (items_in v)) (items_fixed r o2 t (items_in v)) (each_steady r (λ w. fixed_of r o t w) (λ w. fixed_of r o2 t w) (λ w. fixed_steady r o o2 t w) (items_in v)))
  fixed_steady r o o2 (map_of bound kc k vc t) v = steady_is r _ _ _ _ (steps.map_is r o bound kc k vc t v) (steps.map_is r o2 bound kc k vc t v)
      (collection_steady r (is_bare r (is_primitive k && is_primitive t)) o o2 (counted_entries r o k t (entries_in v)) (counted_entries r o2 k t (entries_in v))
      (counted_steady r o o2 (λ x. entry_fixed r o k t x) (λ x. entry_fixed r o2 k t x) (λ x. then_steady r (fixed_of r o k x.0) (fixed_of r o2 k x.0) (fixed_of r o t x.1) (fixed_of r o2 t x.1) (fixed_steady r o o2 k x.0) (fixed_steady r o o2 t x.1)) (entries_in v)))
  fixed_steady r o o2 (structure Final ms) v = steady_is r _ _ _ _ (steps.structure_is r o Final ms v) (steps.structure_is r o2 Final ms v) (members_steady r o o2 ms (slots_in v))
  fixed_steady r o o2 (structure Appendable ms) v = steady_is r _ _ _ _ (steps.structure_is r o Appendable ms v) (steps.structure_is r o2 Appendable ms v) (collection_steady r (is_bare r false) o o2 (members_of r o ms (slots_in v)) (members_of r o2 ms (slots_in v)) (members_steady r o o2 ms (slots_in v)))
  fixed_steady r o o2 (structure Mutable ms) v = steady_is r _ _ _ _ (steps.structure_is r o Mutable ms v) (steps.structure_is r o2 Mutable ms v) (mutable_steady r o o2 ms (slots_in v) (pieces_steady r o o2 ms (slots_in v)))
  fixed_steady r o o2 (union Final key disc cs) v = steady_is r _ _ _ _ (steps.union_is r o Final key disc cs v) (steps.union_is r o2 Final key disc cs v) (union_steady r o o2 disc cs (disc_in v) (body_in v) (λ i. cases_steady r o o2 cs i (body_in v)))
  fixed_steady r o o2 (union Appendable key disc cs) v = steady_is r _ _ _ _ (steps.union_is r o Appendable key disc cs v) (steps.union_is r o2 Appendable key disc cs v)
      (collection_steady r (is_bare r false) o o2 (selected_fixed r o disc cs (disc_in v) (body_in v)) (selected_fixed r o2 disc cs (disc_in v) (body_in v)) (union_steady r o o2 disc cs (disc_in v) (body_in v) (λ i. cases_steady r o o2 cs i (body_in v))))
  fixed_steady r o o2 (union Mutable key disc cs) v = steady_is r _ _ _ _ (steps.union_is r o Mutable key disc cs v) (steps.union_is r o2 Mutable key disc cs v)
      (mutable_union_steady r (selected_fixed r o disc cs (disc_in v) (body_in v)) (selected_fixed r o2 disc cs (disc_in v) (body_in v)) (union_steady r o o2 disc cs (disc_in v) (body_in v) (λ i. cases_steady r o o2 cs i (body_in v))))

  pub members_steady : (r : Rep) (o o2 : Order) (ms : Members) (ss : Slots) → Steady r (members_of r o ms ss) (members_of r o2 ms ss)
  members_steady r o o2 no_members ss = steady_is r _ _ _ _ (no_members_are r o ss) (no_members_are r o2 ss) (nothing_steady r)
  members_steady r o o2 (member h t ms) ss = steady_is r _ _ _ _ (more_members_are r o h t ms ss) (more_members_are r o2 h t ms ss)
      (then_steady r (slot_in r o h (λ w. fixed_of r o t w) (first ss)) (slot_in r o2 h (λ w. fixed_of r o2 t w) (first ss)) (members_of r o ms (others ss)) (members_of r o2 ms (others ss))
      (slot_steady r o o2 h (λ w. fixed_of r o t w) (λ w. fixed_of r o2 t w) (λ w. fixed_steady r o o2 t w) (first ss)) (members_steady r o o2 ms (others ss)))

  pub pieces_steady : (r : Rep) (o o2 : Order) (ms : Members) (ss : Slots) → Steady r (pieces_of r o ms ss) (pieces_of r o2 ms ss)
  pieces_steady r o o2 no_members ss = steady_is r _ _ _ _ (no_pieces_are r o ss) (no_pieces_are r o2 ss) (nothing_steady r)
  pieces_steady r o o2 (member h t ms) ss = steady_is r _ _ _ _ (more_pieces_are r o h t ms ss) (more_pieces_are r o2 h t ms ss)
      (then_steady r (piece_in r o h (scalar_size t) (λ w. fixed_of r o t w) (first ss)) (piece_in r o2 h (scalar_size t) (λ w. fixed_of r o2 t w) (first ss)) (pieces_of r o ms (others ss)) (pieces_of r o2 ms (others ss))
      (piece_steady r o o2 h (scalar_size t) (λ w. fixed_of r o t w) (λ w. fixed_of r o2 t w) (λ w. fixed_steady r o o2 t w) (first ss)) (pieces_steady r o o2 ms (others ss)))

  pub cases_steady : (r : Rep) (o o2 : Order) (cs : Cases) (i : ℕ) (s : Slot) → Steady r (case_of r o cs i s) (case_of r o2 cs i s)
  cases_steady r o o2 no_cases i s = steady_is r _ _ _ _ (no_cases_are r o i s) (no_cases_are r o2 i s) (nothing_steady r)
  cases_steady r o o2 (one_case h t cs) i s = steady_is r _ _ _ _ (more_cases_are r o h t cs i s) (more_cases_are r o2 h t cs i s)
      (either_steady r (h.id == i) (if_present_fixed s (λ w. fixed_of r o t w)) (if_present_fixed s (λ w. fixed_of r o2 t w)) (case_of r o cs i s) (case_of r o2 cs i s)
      (present_steady r s (λ w. fixed_of r o t w) (λ w. fixed_of r o2 t w) (λ w. fixed_steady r o o2 t w)) (cases_steady r o o2 cs i s))

-- ---- the parts that a count of octets stands before

pub items_steady : (r : Rep) (o o2 : Order) (t : Shape) (vs : List Val) → Steady r (items_fixed r o t vs) (items_fixed r o2 t vs)
items_steady r o o2 t vs = each_steady r (λ w. fixed_of r o t w) (λ w. fixed_of r o2 t w) (λ w. fixed_steady r o o2 t w) vs

pub counted_items_steady : (r : Rep) (o o2 : Order) (t : Shape) (vs : List Val) → Steady r (counted_items r o t vs) (counted_items r o2 t vs)
counted_items_steady r o o2 t vs = counted_steady r o o2 (λ w. fixed_of r o t w) (λ w. fixed_of r o2 t w) (λ w. fixed_steady r o o2 t w) vs

pub counted_entries_steady : (r : Rep) (o o2 : Order) (k t : Shape) (es : List (Val × Val)) → Steady r (counted_entries r o k t es) (counted_entries r o2 k t es)
counted_entries_steady r o o2 k t es = counted_steady r o o2 (λ x. entry_fixed r o k t x) (λ x. entry_fixed r o2 k t x) (λ x. then_steady r (fixed_of r o k x.0) (fixed_of r o2 k x.0) (fixed_of r o t x.1) (fixed_of r o2 t x.1) (fixed_steady r o o2 k x.0) (fixed_steady r o o2 t x.1)) es

pub union_body_steady : (r : Rep) (o o2 : Order) (disc : Shape) (cs : Cases) (d : ℤ) (s : Slot) → Steady r (selected_fixed r o disc cs d s) (selected_fixed r o2 disc cs d s)
union_body_steady r o o2 disc cs d s = union_steady r o o2 disc cs d s (λ i. cases_steady r o o2 cs i s)

pub present_is_steady : (r : Rep) (o o2 : Order) (t : Shape) (s : Slot) → Steady r (if_present_fixed s (λ w. fixed_of r o t w)) (if_present_fixed s (λ w. fixed_of r o2 t w))
present_is_steady r o o2 t s = present_steady r s (λ w. fixed_of r o t w) (λ w. fixed_of r o2 t w) (λ w. fixed_steady r o o2 t w)

-- from any place on it has at most eight octets more than from the first place on
pub length_most : (r : Rep) (f g : Fixed) (p : ℕ) → Steady r f g → length (f p) ≤ length (g 0) + 8
length_most r f g p a =
    let q = 8 * (p / 8 + 1) in
    let up : p + length (f p) ≤ q + length (g q) = a.rises p q (omega arith) in
    let there : length (f q) ≡ length (g 0) = a.same q 0 (eights r (p / 8 + 1)) in
    let here : length (f q) ≡ length (g q) = a.same q q refl in
    omega (arith, up, there, here)
  where
    eights : (r : Rep) (n : ℕ) → 8 * n % most_of r ≡ 0 % most_of r
    eights Xcdr1 n = omega arith
    eights Xcdr2 n = omega arith
