-- Every value is spelled by at least one octet in XCDR1.
use Rattle.std.proofs.Common.{◌≡◌, ℕ, ◌+◌, ◌<◌, Bool, true, false, not, List, [], ◌∷◌, ◌++◌, length, Option, Some, None, ap, ◌∙◌, arith, nat_lt}
use Rattle.std.proofs.lemmas.Bool.{and_parts, ltb-true}
use Rattle.std.proofs.lemmas.List.{length-append}
use Rattle.xt_shapes.specs.declared.leaves.Ext.TheVariants.{Final, Appendable, Mutable}
use Rattle.xt_shapes.specs.declared.leaves.Order.{Order}
use Rattle.xt_shapes.specs.Shape.{Head, Shape, prim, str, enumeration, bitmask, sequence, array, map_of, structure, union, Members, no_members, member, product}
use Rattle.xt_shapes.specs.Sizes.{enum_size, mask_size}
use Rattle.xt_shapes.specs.Vals.{Val, Slots, Slot, absent, present, first, others, slots_in, items_in, entries_in, number_in, disc_in, octets_in}
use Rattle.xcdr_model.specs.Numbers.{raw, octets}
use Rattle.xcdr_model.specs.Spelling.{IsNumber, Then, Octets}
use Rattle.xcdr_model.specs.Xcdr1Reading.{is_open}
use Rattle.xcdr_model.specs.Xcdr1Spelling.{Params1, IsParam, IsIgnored, slot1, writes1, writes_members1}
use Rattle.xcdr_model.specs.Xcdr2Reading.{Piece}
use Rattle.xcdr_model.specs.Xcdr2Spelling.{scalar}
use Rattle.shape_laws.proofs.Agreement.{solid, first_solid}
use Rattle.shape_laws.proofs.Headers1.{param_long, end_long}
use Rattle.shape_laws.proofs.Leaves.{enum_size_pos}
use Rattle.shape_laws.proofs.Nonempty.{of_number, of_left, of_prim, of_scalar, mask_size_pos, of_counted, of_each}
use Rattle.shape_laws.proofs.Steps.{length-octets}

of_ignored : (o : Order) (p : ℕ) (b : List ℕ) → IsIgnored o p b → 0 < length b
of_ignored o p b h =
    let x = octets o 2 h.w ++ octets o 2 (length h.more) in
    omega (arith, ap length h.parts ∙ length-append h.pad (x ++ h.more), length-append x h.more, length-append (octets o 2 h.w) (octets o 2 (length h.more)), length-octets o 2 h.w)

of_params : (o : Order) (qs : List (Option Piece)) (p : ℕ) (b : List ℕ) → Params1 o qs p b → 0 < length b
of_params o [] p b h = omega (arith, end_long o p b h)
of_params o (None ∷ qs) p b h = let r = of_params o qs (p + length h.left) h.right h.two in omega (arith, ap length h.parts ∙ length-append h.left h.right)
of_params o (Some q ∷ qs) p b h = of_left (IsParam o q) (Params1 o qs) p b h (omega (arith, param_long o q p h.left h.one))

pub of_slot1 : (opt : Bool) (o : Order) (k : Head) (closed : Bool) (P : Val → ℕ → List ℕ → Type 0) (s : Slot) (p : ℕ) (b : List ℕ) → ((w : Val) (q : ℕ) (c : List ℕ) → P w q c → 0 < length c) → slot1 opt o k closed P s p b → 0 < length b
of_slot1 false o k closed P absent p b each h = absurd h
of_slot1 false o k closed P (present w) p b each h = each w p b h
of_slot1 true o k closed P absent p b each h = omega (arith, param_long o h.piece p b h.spelled)
of_slot1 true o k closed P (present w) p b each h = omega (arith, param_long o h.piece p b h.spelled)

mutual
  unfolding writes1 writes_members1

  pub nonempty1 : (t : Shape) → solid t ≡ true → (o : Order) (v : Val) (p : ℕ) (b : List ℕ) → writes1 o t v p b → 0 < length b
  nonempty1 (prim t) e o v p b h = of_prim 8 o t (number_in v) p b h
  nonempty1 (str bound) e o v p b h = of_left (IsNumber 4 o 4 (length (octets_in v) + 1)) (Octets (octets_in v ++ 0 ∷ [])) p b h.spelled (of_number 4 o 4 (length (octets_in v) + 1) p h.spelled.left (omega arith) h.spelled.one)
  nonempty1 (enumeration x bits ls) e o v p b h = of_number 8 o (enum_size bits) (raw (enum_size bits) (number_in v)) p b (enum_size_pos bits) h.spelled
  nonempty1 (bitmask bits fs) e o v p b h = of_number 8 o (mask_size bits) h.n p b (mask_size_pos bits) h.spelled
  nonempty1 (sequence bound tc t) e o v p b h = of_counted true o (λ w. writes1 o t w) (items_in v) p b h
  nonempty1 (array dims tc t) e o v p b h =
      let some : 0 < product dims = ltb-true 0 (product dims) (and_parts (nat_lt 0 (product dims)) (solid t) e).0 in
      of_each true o (λ w. writes1 o t w) (items_in v) p b (rw h.0 some) (λ w q c k. nonempty1 t (and_parts (nat_lt 0 (product dims)) (solid t) e).1 o w q c k) h.1
  nonempty1 (map_of bound kc k vc t) e o v p b h = of_counted true o (λ x. Then (writes1 o k x.0) (writes1 o t x.1)) (entries_in v) p b h
  nonempty1 (structure Final ms) e o v p b h = some_octet1 ms e o (slots_in v) p b h
  nonempty1 (structure Appendable ms) e o v p b h = some_octet1 ms e o (slots_in v) p b h
  nonempty1 (structure Mutable ms) e o v p b h = of_params o h.qs p b h.spelled
  nonempty1 (union x key disc cs) e o v p b h = of_left (scalar 8 o disc (disc_in v)) _ p b h (of_scalar 8 o disc (disc_in v) p h.left h.one)

  some_octet1 : (ms : Members) → first_solid ms ≡ true → (o : Order) (ss : Slots) (p : ℕ) (b : List ℕ) → writes_members1 o ms ss p b → 0 < length b
  some_octet1 no_members e o ss p b h = absurd cc
  some_octet1 (member h t ms) e o ss p b k =
      of_left (slot1 h.optional o h (not (is_open t)) (λ w. writes1 o t w) (first ss)) (writes_members1 o ms (others ss)) p b k (of_slot1 h.optional o h (not (is_open t)) (λ w. writes1 o t w) (first ss) p k.left (λ w q c m. nonempty1 t e o w q c m) k.one)
