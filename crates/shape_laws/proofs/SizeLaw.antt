-- The length of a fixed spelling doesn't depend on the byte order.
use Rattle.std.proofs.Common.{◌≡◌, ℕ, ◌+◌, ◌*◌, ◌^◌, ℤ, Bool, true, false, cond, ◌&&◌, List, [], ◌∷◌, ◌++◌, length, replicate, Option, Some, None, refl, sym, ap, ap₂, ◌∙◌, arith, nat_lt, nat_le, ◌==◌}
use Rattle.std.proofs.lemmas.List.{length-append}
use Rattle.xt_shapes.specs.declared.leaves.Ext.TheVariants.{Final, Appendable, Mutable}
use Rattle.xt_shapes.specs.declared.leaves.Order.{Order}
use Rattle.xt_shapes.specs.Select.{select, is_must}
use Rattle.xt_shapes.specs.Shape.{Head, Shape, prim, str, enumeration, bitmask, sequence, array, map_of, structure, union, Members, no_members, member, Cases, no_cases, one_case}
use Rattle.xt_shapes.specs.Vals.{Val, Slots, Slot, absent, present, number_in, octets_in, items_in, entries_in, slots_in, disc_in, body_in, first, others}
use Rattle.xcdr_model.specs.FixedSpelling.{Fixed, number_fixed, then_fixed, headed_fixed, each_fixed, collection_fixed, counted_fixed, scalar_size, scalar_fixed, text_fixed, slot_fixed, code_of, piece_fixed, if_selected_fixed, if_present_fixed, fixed, members_fixed, pieces_fixed, case_fixed, header_fixed, param_fixed, end_fixed, slot_fixed1, sent_fixed1, fixed1, members_fixed1, params_fixed, case_fixed1}
use Rattle.xcdr_model.specs.Numbers.{octets, padding, raw}
use Rattle.xcdr_model.specs.Xcdr2Reading.{is_primitive}
use Rattle.xcdr_model.specs.Xcdr2Spelling.{bit}
use Rattle.shape_laws.proofs.FixedLaw.{length_number, length_then}
use Rattle.shape_laws.proofs.Steps.{length-octets}

abbrev Alike : Fixed → Fixed → Type 0
Alike f g = (p : ℕ) → length (f p) ≡ length (g p)

number_alike : (most : ℕ) (o o2 : Order) (k n m : ℕ) → Alike (number_fixed most o k n) (number_fixed most o2 k m)
number_alike most o o2 k n m p = length_number most o k n p ∙ sym (length_number most o2 k m p)

then_alike : (f g h k : Fixed) → Alike f g → Alike h k → Alike (then_fixed f h) (then_fixed g k)
then_alike f g h k a b p = length_then f h p ∙ ap₂ (λ (x y : ℕ). x + y) (a p) (b (p + length (f p)) ∙ ap (λ (n : ℕ). length (k (p + n))) (a p)) ∙ sym (length_then g k p)

headed_alike : (o o2 : Order) (f g : Fixed) → Alike f g → Alike (headed_fixed o f) (headed_fixed o2 g)
unfolding headed_fixed
headed_alike o o2 f g a p =
    let q = p + (padding 4 p + 4) in
    omega (arith, length-append (number_fixed 4 o 4 (length (f q)) p) (f q), length-append (number_fixed 4 o2 4 (length (g q)) p) (g q), number_alike 4 o o2 4 (length (f q)) (length (g q)) p, a q)

each_alike : {A : Type 0} (f g : A → Fixed) → ((x : A) → Alike (f x) (g x)) → (xs : List A) → Alike (each_fixed f xs) (each_fixed g xs)
each_alike f g a [] p = refl
each_alike f g a (x ∷ xs) p = then_alike (f x) (g x) (each_fixed f xs) (each_fixed g xs) (a x) (each_alike f g a xs) p

collection_alike : (plain : Bool) (o o2 : Order) (f g : Fixed) → Alike f g → Alike (collection_fixed plain o f) (collection_fixed plain o2 g)
collection_alike true o o2 f g a p = a p
collection_alike false o o2 f g a p = headed_alike o o2 f g a p

counted_alike : {A : Type 0} (o o2 : Order) (f g : A → Fixed) → ((x : A) → Alike (f x) (g x)) → (xs : List A) → Alike (counted_fixed o f xs) (counted_fixed o2 g xs)
counted_alike o o2 f g a xs p = then_alike (number_fixed 4 o 4 (length xs)) (number_fixed 4 o2 4 (length xs)) (each_fixed f xs) (each_fixed g xs) (number_alike 4 o o2 4 (length xs) (length xs)) (each_alike f g a xs) p

text_alike : (o o2 : Order) (t : List ℕ) → Alike (text_fixed o t) (text_fixed o2 t)
text_alike o o2 t p = then_alike (number_fixed 4 o 4 (length t + 1)) (number_fixed 4 o2 4 (length t + 1)) (λ q. t ++ 0 ∷ []) (λ q. t ++ 0 ∷ []) (number_alike 4 o o2 4 (length t + 1) (length t + 1)) (λ q. refl) p

slot_alike : (opt : Bool) (o o2 : Order) (f g : Val → Fixed) → ((w : Val) → Alike (f w) (g w)) → (s : Slot) → Alike (slot_fixed opt o f s) (slot_fixed opt o2 g s)
slot_alike false o o2 f g a absent p = refl
slot_alike false o o2 f g a (present w) p = a w p
slot_alike true o o2 f g a absent p = number_alike 4 o o2 1 0 0 p
slot_alike true o o2 f g a (present w) p = then_alike (number_fixed 4 o 1 1) (number_fixed 4 o2 1 1) (f w) (g w) (number_alike 4 o o2 1 1 1) (a w) p

next_length : (c : Bool) (o : Order) (n : ℕ) → length (cond c [] (octets o 4 n)) ≡ cond c 0 4
next_length true o n = refl
next_length false o n = length-octets o 4 n

piece_alike : (o o2 : Order) (h : Head) (code : ℕ) (f g : Val → Fixed) → ((w : Val) → Alike (f w) (g w)) → (s : Slot) → Alike (piece_fixed o h code f s) (piece_fixed o2 h code g s)
unfolding piece_fixed
piece_alike o o2 h code f g a absent p = refl
piece_alike o o2 h code f g a (present w) p =
    let q = p + (padding 4 p + cond (nat_lt code 4) 4 8) in
    let n = bit (is_must h) * 2 ^ 31 + code * 2 ^ 28 + h.id in
    let m = λ (u : Order) (c : List ℕ). octets u 4 n ++ cond (nat_lt code 4) [] (octets u 4 (length c)) in
    omega (
      arith,
      length-append (replicate (padding 4 p) 0) (m o (f w q) ++ f w q),
      length-append (replicate (padding 4 p) 0) (m o2 (g w q) ++ g w q),
      length-append (m o (f w q)) (f w q),
      length-append (m o2 (g w q)) (g w q),
      length-append (octets o 4 n) (cond (nat_lt code 4) [] (octets o 4 (length (f w q)))),
      length-append (octets o2 4 n) (cond (nat_lt code 4) [] (octets o2 4 (length (g w q)))),
      length-octets o 4 n,
      length-octets o2 4 n,
      next_length (nat_lt code 4) o (length (f w q)),
      next_length (nat_lt code 4) o2 (length (g w q)),
      a w q,
    )

selected_alike : (i : Option ℕ) (f g : ℕ → Fixed) → ((j : ℕ) → Alike (f j) (g j)) → Alike (if_selected_fixed i f) (if_selected_fixed i g)
selected_alike None f g a p = refl
selected_alike (Some i) f g a p = a i p

present_alike : (s : Slot) (f g : Val → Fixed) → ((w : Val) → Alike (f w) (g w)) → Alike (if_present_fixed s f) (if_present_fixed s g)
present_alike absent f g a p = refl
present_alike (present w) f g a p = a w p

case_alike : (c : Bool) (f g h k : Fixed) → Alike f g → Alike h k → Alike (cond c f h) (cond c g k)
case_alike true f g h k a b p = a p
case_alike false f g h k a b p = b p

union_same : (o o2 : Order) (disc : Shape) (cs : Cases) (d : ℤ) (s : Slot) → ((i : ℕ) → Alike (case_fixed o cs i s) (case_fixed o2 cs i s)) → Alike (then_fixed (scalar_fixed 4 o disc d) (if_selected_fixed (select cs d) (λ i. case_fixed o cs i s))) (then_fixed (scalar_fixed 4 o2 disc d) (if_selected_fixed (select cs d) (λ i. case_fixed o2 cs i s)))
union_same o o2 disc cs d s a q = then_alike (scalar_fixed 4 o disc d) (scalar_fixed 4 o2 disc d) (if_selected_fixed (select cs d) (λ i. case_fixed o cs i s)) (if_selected_fixed (select cs d) (λ i. case_fixed o2 cs i s))
    (number_alike 4 o o2 (scalar_size disc) (raw (scalar_size disc) d) (raw (scalar_size disc) d)) (selected_alike (select cs d) (λ i. case_fixed o cs i s) (λ i. case_fixed o2 cs i s) a) q

mutual
  unfolding fixed

  pub size_same : (o o2 : Order) (t : Shape) (v : Val) → Alike (fixed o t v) (fixed o2 t v)
  size_same o o2 (prim p) v q = number_alike 4 o o2 (scalar_size (prim p)) (raw (scalar_size (prim p)) (number_in v)) (raw (scalar_size (prim p)) (number_in v)) q
  size_same o o2 (enumeration e bits ls) v q = number_alike 4 o o2 (scalar_size (enumeration e bits ls)) (raw (scalar_size (enumeration e bits ls)) (number_in v)) (raw (scalar_size (enumeration e bits ls)) (number_in v)) q
  size_same o o2 (bitmask bits fs) v q = number_alike 4 o o2 (scalar_size (bitmask bits fs)) (raw (scalar_size (bitmask bits fs)) (number_in v)) (raw (scalar_size (bitmask bits fs)) (number_in v)) q
  size_same o o2 (str bound) v q = text_alike o o2 (octets_in v) q
  size_same o o2 (sequence bound tc t) v q = collection_alike (is_primitive t) o o2 (counted_fixed o (λ w. fixed o t w) (items_in v)) (counted_fixed o2 (λ w. fixed o2 t w) (items_in v)) (counted_alike o o2 (λ w. fixed o t w) (λ w. fixed o2 t w) (λ w. size_same o o2 t w) (items_in v)) q
  size_same o o2 (array dims tc t) v q = collection_alike (is_primitive t) o o2 (each_fixed (λ w. fixed o t w) (items_in v)) (each_fixed (λ w. fixed o2 t w) (items_in v)) (each_alike (λ w. fixed o t w) (λ w. fixed o2 t w) (λ w. size_same o o2 t w) (items_in v)) q
  size_same o o2 (map_of bound kc k vc t) v q =
      let f = λ (u : Order) (x : Val × Val). then_fixed (fixed u k x.0) (fixed u t x.1) in
      collection_alike (is_primitive k && is_primitive t) o o2 (counted_fixed o (f o) (entries_in v)) (counted_fixed o2 (f o2) (entries_in v)) (counted_alike o o2 (f o) (f o2) (λ x. then_alike (fixed o k x.0) (fixed o2 k x.0) (fixed o t x.1) (fixed o2 t x.1) (size_same o o2 k x.0) (size_same o o2 t x.1)) (entries_in v)) q
  size_same o o2 (structure Final ms) v q = members_same o o2 ms (slots_in v) q
  size_same o o2 (structure Appendable ms) v q = headed_alike o o2 (members_fixed o ms (slots_in v)) (members_fixed o2 ms (slots_in v)) (members_same o o2 ms (slots_in v)) q
  size_same o o2 (structure Mutable ms) v q = headed_alike o o2 (pieces_fixed o ms (slots_in v)) (pieces_fixed o2 ms (slots_in v)) (pieces_same o o2 ms (slots_in v)) q
  size_same o o2 (union Final key disc cs) v q = union_same o o2 disc cs (disc_in v) (body_in v) (λ i. cases_same o o2 cs i (body_in v)) q
  size_same o o2 (union Appendable key disc cs) v q = headed_alike o o2 (then_fixed (scalar_fixed 4 o disc (disc_in v)) (if_selected_fixed (select cs (disc_in v)) (λ i. case_fixed o cs i (body_in v)))) (then_fixed (scalar_fixed 4 o2 disc (disc_in v)) (if_selected_fixed (select cs (disc_in v)) (λ i. case_fixed o2 cs i (body_in v)))) (union_same o o2 disc cs (disc_in v) (body_in v) (λ i. cases_same o o2 cs i (body_in v))) q
  size_same o o2 (union Mutable key disc cs) v q = refl

  members_same : (o o2 : Order) (ms : Members) (ss : Slots) → Alike (members_fixed o ms ss) (members_fixed o2 ms ss)
  members_same o o2 no_members ss q = refl
  members_same o o2 (member h t ms) ss q = then_alike (slot_fixed h.optional o (λ w. fixed o t w) (first ss)) (slot_fixed h.optional o2 (λ w. fixed o2 t w) (first ss)) (members_fixed o ms (others ss)) (members_fixed o2 ms (others ss))
      (slot_alike h.optional o o2 (λ w. fixed o t w) (λ w. fixed o2 t w) (λ w. size_same o o2 t w) (first ss)) (members_same o o2 ms (others ss)) q

  pieces_same : (o o2 : Order) (ms : Members) (ss : Slots) → Alike (pieces_fixed o ms ss) (pieces_fixed o2 ms ss)
  pieces_same o o2 no_members ss q = refl
  pieces_same o o2 (member h t ms) ss q = then_alike (piece_fixed o h (code_of (scalar_size t)) (λ w. fixed o t w) (first ss)) (piece_fixed o2 h (code_of (scalar_size t)) (λ w. fixed o2 t w) (first ss)) (pieces_fixed o ms (others ss)) (pieces_fixed o2 ms (others ss))
      (piece_alike o o2 h (code_of (scalar_size t)) (λ w. fixed o t w) (λ w. fixed o2 t w) (λ w. size_same o o2 t w) (first ss)) (pieces_same o o2 ms (others ss)) q

  cases_same : (o o2 : Order) (cs : Cases) (i : ℕ) (s : Slot) → Alike (case_fixed o cs i s) (case_fixed o2 cs i s)
  cases_same o o2 no_cases i s q = refl
  cases_same o o2 (one_case h t cs) i s q = case_alike (h.id == i) (if_present_fixed s (λ w. fixed o t w)) (if_present_fixed s (λ w. fixed o2 t w)) (case_fixed o cs i s) (case_fixed o2 cs i s)
      (present_alike s (λ w. fixed o t w) (λ w. fixed o2 t w) (λ w. size_same o o2 t w)) (cases_same o o2 cs i s) q

-- ---- XCDR1

header_length : (o : Order) (must : Bool) (id len : ℕ) → length (header_fixed o must id len) ≡ cond (nat_le id 0x3F00 && nat_lt len (2 ^ 16)) 4 12
header_length o must id len = by_form (nat_le id 0x3F00 && nat_lt len (2 ^ 16))
  where
    by_form : (c : Bool) → length (cond c (octets o 2 (bit must * 2 ^ 14 + id) ++ octets o 2 len) (octets o 2 0x7F01 ++ (octets o 2 8 ++ (octets o 4 (bit must * 2 ^ 30 + id) ++ octets o 4 len)))) ≡ cond c 4 12
    by_form true = omega (arith, length-append (octets o 2 (bit must * 2 ^ 14 + id)) (octets o 2 len), length-octets o 2 (bit must * 2 ^ 14 + id), length-octets o 2 len)
    by_form false =
        let n = bit must * 2 ^ 30 + id in
        omega (arith, length-append (octets o 2 0x7F01) (octets o 2 8 ++ (octets o 4 n ++ octets o 4 len)), length-append (octets o 2 8) (octets o 4 n ++ octets o 4 len), length-append (octets o 4 n) (octets o 4 len), length-octets o 2 0x7F01, length-octets o 2 8, length-octets o 4 n, length-octets o 4 len)

param_alike : (o o2 : Order) (h : Head) (c d : List ℕ) → length c ≡ length d → Alike (param_fixed o h c) (param_fixed o2 h d)
unfolding param_fixed
param_alike o o2 h c d e p =
    let a = header_fixed o (is_must h) h.id (length c) in
    let b = header_fixed o2 (is_must h) h.id (length d) in
    let same : length a ≡ length b = header_length o (is_must h) h.id (length c) ∙ ap (λ (n : ℕ). cond (nat_le h.id 0x3F00 && nat_lt n (2 ^ 16)) 4 12) e ∙ sym (header_length o2 (is_must h) h.id (length d)) in
    omega (arith, length-append (replicate (padding 4 p) 0) (a ++ c), length-append (replicate (padding 4 p) 0) (b ++ d), length-append a c, length-append b d, same, e)

end_alike : (o o2 : Order) → Alike (end_fixed o) (end_fixed o2)
unfolding end_fixed
end_alike o o2 p = omega (arith, length-append (replicate (padding 4 p) 0) (octets o 2 0x7F02 ++ octets o 2 0), length-append (replicate (padding 4 p) 0) (octets o2 2 0x7F02 ++ octets o2 2 0), length-append (octets o 2 0x7F02) (octets o 2 0), length-append (octets o2 2 0x7F02) (octets o2 2 0), length-octets o 2 0x7F02, length-octets o2 2 0x7F02, length-octets o 2 0, length-octets o2 2 0)

slot1_alike : (opt : Bool) (o o2 : Order) (h : Head) (f g : Val → Fixed) → ((w : Val) → Alike (f w) (g w)) → (s : Slot) → Alike (slot_fixed1 opt o h f s) (slot_fixed1 opt o2 h g s)
slot1_alike false o o2 h f g a absent p = refl
slot1_alike false o o2 h f g a (present w) p = a w p
slot1_alike true o o2 h f g a absent p = param_alike o o2 h [] [] refl p
slot1_alike true o o2 h f g a (present w) p = param_alike o o2 h (f w 0) (g w 0) (a w 0) p

sent1_alike : (o o2 : Order) (h : Head) (f g : Val → Fixed) → ((w : Val) → Alike (f w) (g w)) → (s : Slot) → Alike (sent_fixed1 o h f s) (sent_fixed1 o2 h g s)
sent1_alike o o2 h f g a absent p = refl
sent1_alike o o2 h f g a (present w) p = param_alike o o2 h (f w 0) (g w 0) (a w 0) p

mutual
  unfolding fixed1

  pub size1_same : (o o2 : Order) (t : Shape) (v : Val) → Alike (fixed1 o t v) (fixed1 o2 t v)
  size1_same o o2 (prim p) v q = number_alike 8 o o2 (scalar_size (prim p)) (raw (scalar_size (prim p)) (number_in v)) (raw (scalar_size (prim p)) (number_in v)) q
  size1_same o o2 (enumeration e bits ls) v q = number_alike 8 o o2 (scalar_size (enumeration e bits ls)) (raw (scalar_size (enumeration e bits ls)) (number_in v)) (raw (scalar_size (enumeration e bits ls)) (number_in v)) q
  size1_same o o2 (bitmask bits fs) v q = number_alike 8 o o2 (scalar_size (bitmask bits fs)) (raw (scalar_size (bitmask bits fs)) (number_in v)) (raw (scalar_size (bitmask bits fs)) (number_in v)) q
  size1_same o o2 (str bound) v q = text_alike o o2 (octets_in v) q
  size1_same o o2 (sequence bound tc t) v q = counted_alike o o2 (λ w. fixed1 o t w) (λ w. fixed1 o2 t w) (λ w. size1_same o o2 t w) (items_in v) q
  size1_same o o2 (array dims tc t) v q = each_alike (λ w. fixed1 o t w) (λ w. fixed1 o2 t w) (λ w. size1_same o o2 t w) (items_in v) q
  size1_same o o2 (map_of bound kc k vc t) v q =
      let f = λ (u : Order) (x : Val × Val). then_fixed (fixed1 u k x.0) (fixed1 u t x.1) in
      counted_alike o o2 (f o) (f o2) (λ x. then_alike (fixed1 o k x.0) (fixed1 o2 k x.0) (fixed1 o t x.1) (fixed1 o2 t x.1) (size1_same o o2 k x.0) (size1_same o o2 t x.1)) (entries_in v) q
  size1_same o o2 (structure Final ms) v q = members1_same o o2 ms (slots_in v) q
  size1_same o o2 (structure Appendable ms) v q = members1_same o o2 ms (slots_in v) q
  size1_same o o2 (structure Mutable ms) v q = then_alike (params_fixed o ms (slots_in v)) (params_fixed o2 ms (slots_in v)) (end_fixed o) (end_fixed o2) (params_same o o2 ms (slots_in v)) (end_alike o o2) q
  size1_same o o2 (union e key disc cs) v q =
      let d = disc_in v in
      let s = body_in v in
      then_alike (scalar_fixed 8 o disc d) (scalar_fixed 8 o2 disc d) (if_selected_fixed (select cs d) (λ i. case_fixed1 o cs i s)) (if_selected_fixed (select cs d) (λ i. case_fixed1 o2 cs i s))
      (number_alike 8 o o2 (scalar_size disc) (raw (scalar_size disc) d) (raw (scalar_size disc) d)) (selected_alike (select cs d) (λ i. case_fixed1 o cs i s) (λ i. case_fixed1 o2 cs i s) (λ i. cases1_same o o2 cs i s)) q

  members1_same : (o o2 : Order) (ms : Members) (ss : Slots) → Alike (members_fixed1 o ms ss) (members_fixed1 o2 ms ss)
  members1_same o o2 no_members ss q = refl
  members1_same o o2 (member h t ms) ss q = then_alike (slot_fixed1 h.optional o h (λ w. fixed1 o t w) (first ss)) (slot_fixed1 h.optional o2 h (λ w. fixed1 o2 t w) (first ss)) (members_fixed1 o ms (others ss)) (members_fixed1 o2 ms (others ss))
      (slot1_alike h.optional o o2 h (λ w. fixed1 o t w) (λ w. fixed1 o2 t w) (λ w. size1_same o o2 t w) (first ss)) (members1_same o o2 ms (others ss)) q

  params_same : (o o2 : Order) (ms : Members) (ss : Slots) → Alike (params_fixed o ms ss) (params_fixed o2 ms ss)
  params_same o o2 no_members ss q = refl
  params_same o o2 (member h t ms) ss q = then_alike (sent_fixed1 o h (λ w. fixed1 o t w) (first ss)) (sent_fixed1 o2 h (λ w. fixed1 o2 t w) (first ss)) (params_fixed o ms (others ss)) (params_fixed o2 ms (others ss))
      (sent1_alike o o2 h (λ w. fixed1 o t w) (λ w. fixed1 o2 t w) (λ w. size1_same o o2 t w) (first ss)) (params_same o o2 ms (others ss)) q

  cases1_same : (o o2 : Order) (cs : Cases) (i : ℕ) (s : Slot) → Alike (case_fixed1 o cs i s) (case_fixed1 o2 cs i s)
  cases1_same o o2 no_cases i s q = refl
  cases1_same o o2 (one_case h t cs) i s q = case_alike (h.id == i) (if_present_fixed s (λ w. fixed1 o t w)) (if_present_fixed s (λ w. fixed1 o2 t w)) (case_fixed1 o cs i s) (case_fixed1 o2 cs i s)
      (present_alike s (λ w. fixed1 o t w) (λ w. fixed1 o2 t w) (λ w. size1_same o o2 t w)) (cases1_same o o2 cs i s) q
