-- Every value is spelled by at least one octet.
use Rattle.std.proofs.Common.{◌≡◌, ℕ, ◌+◌, ◌<◌, ℤ, Bool, true, false, cond, ◌&&◌, List, [], ◌∷◌, ◌++◌, length, ap, ◌∙◌, arith, nat_le, nat_lt}
use Rattle.std.proofs.lemmas.Bool.{cond_both, and_parts, ltb-true}
use Rattle.std.proofs.lemmas.List.{length-append}
use Rattle.xt_shapes.specs.declared.leaves.Ext.TheVariants.{Final, Appendable, Mutable}
use Rattle.xt_shapes.specs.declared.leaves.Order.{Order}
use Rattle.xt_shapes.specs.declared.leaves.Primitive.{Primitive}
use Rattle.xt_shapes.specs.declared.leaves.Primitive.TheVariants.{Boolean}
use Rattle.xt_shapes.specs.Shape.{Shape, prim, str, enumeration, bitmask, sequence, array, map_of, structure, union, Members, no_members, member, product}
use Rattle.xt_shapes.specs.Sizes.{size, enum_size, mask_size}
use Rattle.xt_shapes.specs.Vals.{Val, Slots, Slot, absent, present, first, others, slots_in, items_in, entries_in, number_in, disc_in, octets_in}
use Rattle.xcdr_model.specs.Numbers.{octets, raw}
use Rattle.xcdr_model.specs.Spelling.{IsNumber, Then, Headed, Each, Octets}
use Rattle.xcdr_model.specs.Xcdr2Reading.{is_primitive}
use Rattle.xcdr_model.specs.Xcdr2Spelling.{scalar, Collection, Counted, slot_of, writes, writes_members}
use Rattle.shape_laws.proofs.Agreement.{solid, first_solid}
use Rattle.shape_laws.proofs.Leaves.{enum_size_pos}
use Rattle.shape_laws.proofs.Steps.{length-octets}

pub of_number : (most : ℕ) (o : Order) (k n p : ℕ) (b : List ℕ) → 0 < k → IsNumber most o k n p b → 0 < length b
of_number most o k n p b k-pos h = omega (arith, ap length h.parts ∙ length-append h.pad (octets o k n), length-octets o k n)

pub of_left : (P Q : ℕ → List ℕ → Type 0) (p : ℕ) (b : List ℕ) (h : Then P Q p b) → 0 < length h.left → 0 < length b
of_left P Q p b h l = omega (arith, ap length h.parts ∙ length-append h.left h.right)

pub of_headed : (o : Order) (P : ℕ → List ℕ → Type 0) (p : ℕ) (b : List ℕ) (h : Headed o P p b) → 0 < length b
of_headed o P p b h = omega (arith, ap length h.parts ∙ length-append h.head h.body, of_number 4 o 4 (length h.body) p h.head (omega arith) h.count)

pub mask_size_pos : (bits : ℕ) → 0 < mask_size bits
mask_size_pos bits = cond_both (nat_le bits 8) 1 (cond (nat_le bits 16) 2 (cond (nat_le bits 32) 4 8)) (λ n. 0 < n) (λ _. omega arith)
    (λ _. cond_both (nat_le bits 16) 2 (cond (nat_le bits 32) 4 8) (λ n. 0 < n) (λ _. omega arith) (λ _. cond_both (nat_le bits 32) 4 8 (λ n. 0 < n) (λ _. omega arith) (λ _. omega arith)))

pub of_prim : (most : ℕ) (o : Order) (t : Primitive) (i : ℤ) (p : ℕ) (b : List ℕ) → scalar most o (prim t) i p b → 0 < length b
of_prim most o Boolean i p b h = of_number most o 1 h.n p b (omega arith) h.spelled
of_prim most o t i p b h = of_number most o (size t) (raw (size t) i) p b (omega arith) h.spelled

pub of_scalar : (most : ℕ) (o : Order) (t : Shape) (i : ℤ) (p : ℕ) (b : List ℕ) → scalar most o t i p b → 0 < length b
of_scalar most o (prim t) i p b h = of_prim most o t i p b h
of_scalar most o (enumeration e bits ls) i p b h = of_number most o (enum_size bits) (raw (enum_size bits) i) p b (enum_size_pos bits) h.spelled
of_scalar most o (bitmask bits fs) i p b h = of_number most o (mask_size bits) h.n p b (mask_size_pos bits) h.spelled
of_scalar most o (str bound) i p b h = absurd h
of_scalar most o _ i p b h = absurd h

pub of_counted : {A : Type 0} (plain : Bool) (o : Order) (P : A → ℕ → List ℕ → Type 0) (xs : List A) (p : ℕ) (b : List ℕ) → Collection plain o (Counted o P xs) p b → 0 < length b
of_counted true o P xs p b h = of_left (IsNumber 4 o 4 (length xs)) (Each P xs) p b h (of_number 4 o 4 (length xs) p h.left (omega arith) h.one)
of_counted false o P xs p b h = of_headed o (Counted o P xs) p b h

pub of_each : {A : Type 0} (plain : Bool) (o : Order) (P : A → ℕ → List ℕ → Type 0) (xs : List A) (p : ℕ) (b : List ℕ) → 0 < length xs → ((x : A) (q : ℕ) (c : List ℕ) → P x q c → 0 < length c) → Collection plain o (Each P xs) p b → 0 < length b
of_each true o P [] p b l each h = absurd (omega arith)
of_each true o P (x ∷ xs) p b l each h = of_left (P x) (Each P xs) p b h (each x p h.left h.one)
of_each false o P xs p b l each h = of_headed o (Each P xs) p b h

pub of_slot : (opt : Bool) (o : Order) (P : Val → ℕ → List ℕ → Type 0) (s : Slot) (p : ℕ) (b : List ℕ) → ((w : Val) (q : ℕ) (c : List ℕ) → P w q c → 0 < length c) → slot_of opt o P s p b → 0 < length b
of_slot false o P absent p b each h = absurd h
of_slot false o P (present w) p b each h = each w p b h
of_slot true o P absent p b each h = of_number 4 o 1 0 p b (omega arith) h
of_slot true o P (present w) p b each h = of_left (IsNumber 4 o 1 1) (P w) p b h (of_number 4 o 1 1 p h.left (omega arith) h.one)

mutual
  unfolding writes writes_members

  pub nonempty : (t : Shape) → solid t ≡ true → (o : Order) (v : Val) (p : ℕ) (b : List ℕ) → writes o t v p b → 0 < length b
  nonempty (prim t) e o v p b h = of_prim 4 o t (number_in v) p b h
  nonempty (str bound) e o v p b h = of_left (IsNumber 4 o 4 (length (octets_in v) + 1)) (Octets (octets_in v ++ 0 ∷ [])) p b h.spelled (of_number 4 o 4 (length (octets_in v) + 1) p h.spelled.left (omega arith) h.spelled.one)
  nonempty (enumeration x bits ls) e o v p b h = of_number 4 o (enum_size bits) (raw (enum_size bits) (number_in v)) p b (enum_size_pos bits) h.spelled
  nonempty (bitmask bits fs) e o v p b h = of_number 4 o (mask_size bits) h.n p b (mask_size_pos bits) h.spelled
  nonempty (sequence bound tc t) e o v p b h = of_counted (is_primitive t) o (λ w. writes o t w) (items_in v) p b h
  nonempty (array dims tc t) e o v p b h =
      let some : 0 < product dims = ltb-true 0 (product dims) (and_parts (nat_lt 0 (product dims)) (solid t) e).0 in
      of_each (is_primitive t) o (λ w. writes o t w) (items_in v) p b (rw h.0 some) (λ w q c k. nonempty t (and_parts (nat_lt 0 (product dims)) (solid t) e).1 o w q c k) h.1
  nonempty (map_of bound kc k vc t) e o v p b h = of_counted (is_primitive k && is_primitive t) o (λ x. Then (writes o k x.0) (writes o t x.1)) (entries_in v) p b h
  nonempty (structure Final ms) e o v p b h = some_octet ms e o (slots_in v) p b h
  nonempty (structure Appendable ms) e o v p b h = of_headed o _ p b h
  nonempty (structure Mutable ms) e o v p b h = of_headed o _ p b h
  nonempty (union Final key disc cs) e o v p b h = of_left (scalar 4 o disc (disc_in v)) _ p b h (of_scalar 4 o disc (disc_in v) p h.left h.one)
  nonempty (union Appendable key disc cs) e o v p b h = of_headed o _ p b h
  nonempty (union Mutable key disc cs) e o v p b h = absurd h

  some_octet : (ms : Members) → first_solid ms ≡ true → (o : Order) (ss : Slots) (p : ℕ) (b : List ℕ) → writes_members o ms ss p b → 0 < length b
  some_octet no_members e o ss p b h = absurd cc
  some_octet (member h t ms) e o ss p b k =
      of_left (slot_of h.optional o (λ w. writes o t w) (first ss)) (writes_members o ms (others ss)) p b k (of_slot h.optional o (λ w. writes o t w) (first ss) p k.left (λ w q c m. nonempty t e o w q c m) k.one)
