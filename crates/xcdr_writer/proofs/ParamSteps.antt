-- Parameters of XCDR1: their headers, how long they are, and where they end.
use Rattle.std.proofs.Common.{◌≡◌, refl, sym, ap, ◌∙◌, ℕ, ◌+◌, ◌*◌, ◌^◌, ◌≤◌, ◌<◌, Bool, true, false, cond, List, ◌++◌, length, replicate, min, arith, length-append, append_assoc, ⊎_elim, ◌&&◌, nat_lt, nat_le, tests}
use Rattle.std.proofs.lemmas.Bool.{cases_lt}
use Rattle.std.proofs.lemmas.List.{length-replicate}
use Rattle.xt_shapes.specs.declared.leaves.Order.{Order}
use Rattle.xt_shapes.specs.Select.{is_must}
use Rattle.xt_shapes.specs.Shape.{Head}
use Rattle.xt_shapes.specs.Vals.{Val, Slot, absent, present}
use Rattle.xcdr_model.specs.FixedSpelling.{Fixed, then_fixed, header_fixed, param_fixed, end_fixed, slot_fixed1, if_present_fixed}
use Rattle.xcdr_model.specs.Numbers.{octets, padding}
use Rattle.xcdr_model.specs.Xcdr2Spelling.{bit}
use Rattle.xt_wire.proofs.OfWriter.NumberSteps.{length-octets}
use Rattle.value_writer.specs.Places.{end_of, number_end}
use Rattle.xcdr_writer.specs.Parts.{is_short, short_header, long_header, header_behind, param_header_end}

-- ---- lengths

pub length-header : (o : Order) (must : Bool) (id len : ℕ) → length (header_fixed o must id len) ≡ cond (is_short id len) 4 12
length-header o must id len = by_form (is_short id len)
  where
    by_form : (c : Bool) → length (cond c (short_header o must id len) (long_header o must id len)) ≡ cond c 4 12
    by_form true = omega (arith, length-append (octets o 2 (bit must * 2 ^ 14 + id)) (octets o 2 len), length-octets o 2 (bit must * 2 ^ 14 + id), length-octets o 2 len)
    by_form false =
        let n = bit must * 2 ^ 30 + id in
        omega (arith, length-append (octets o 2 0x7F01) (octets o 2 8 ++ (octets o 4 n ++ octets o 4 len)), length-append (octets o 2 8) (octets o 4 n ++ octets o 4 len), length-append (octets o 4 n) (octets o 4 len), length-octets o 2 0x7F01, length-octets o 2 8, length-octets o 4 n, length-octets o 4 len)

pub length-param : (o : Order) (h : Head) (c : List ℕ) (p : ℕ) → length (param_fixed o h c p) ≡ padding 4 p + (cond (is_short h.id (length c)) 4 12 + length c)
unfolding param_fixed
length-param o h c p =
    let a = header_fixed o (is_must h) h.id (length c) in
    omega (arith, length-append (replicate (padding 4 p) 0) (a ++ c), length-append a c, length-replicate {A = ℕ} (padding 4 p) 0, length-header o (is_must h) h.id (length c))

pub length-end : (o : Order) (p : ℕ) → length (end_fixed o p) ≡ padding 4 p + 4
unfolding end_fixed
length-end o p = omega (arith, length-append (replicate (padding 4 p) 0) (octets o 2 0x7F02 ++ octets o 2 0), length-append (octets o 2 0x7F02) (octets o 2 0), length-replicate {A = ℕ} (padding 4 p) 0, length-octets o 2 0x7F02, length-octets o 2 0)

-- ---- parts

-- the header behind its padding, and then the content
pub param_parts : (o : Order) (h : Head) (c : List ℕ) (p : ℕ) → param_fixed o h c p ≡ then_fixed (header_behind o (is_must h) h.id (length c)) (λ q. c) p
unfolding param_fixed then_fixed
param_parts o h c p = sym (append_assoc (replicate {A = ℕ} (padding 4 p) 0) (header_fixed o (is_must h) h.id (length c)) c)

-- the header tells the length that was counted, which stops at a limit
pub told_header : (o : Order) (h : Head) (c : List ℕ) (len p : ℕ) → len ≡ min 4294967296 (length c) → length (param_fixed o h c p) < 4294967296 → header_behind o (is_must h) h.id len ≡ header_behind o (is_must h) h.id (length c)
told_header o h c len p e fits = ap (λ (n : ℕ). header_behind o (is_must h) h.id n) (omega (arith, e, length-param o h c p, fits))

-- an optional member is one parameter, empty where it is absent
pub optional_param : (opt : Bool) (o : Order) (h : Head) (f : Val → Fixed) (s : Slot) → opt ≡ true → slot_fixed1 opt o h f s ≡ param_fixed o h (if_present_fixed s f 0)
optional_param true o h f absent e = refl
optional_param true o h f (present w) e = refl
optional_param false o h f s e = absurd (cc)

pub plain_slot : (opt : Bool) (o : Order) (h : Head) (f : Val → Fixed) (s : Slot) → opt ≡ false → slot_fixed1 opt o h f s ≡ if_present_fixed s f
plain_slot false o h f absent e = refl
plain_slot false o h f (present w) e = refl
plain_slot true o h f s e = absurd (cc)

-- ---- ends

-- counted from the first place, an end is a length
pub ends_at_length : (f : Fixed) (n : ℕ) → n ≡ end_of f 0 → n ≡ min 4294967296 (length (f 0))
unfolding end_of
ends_at_length f n e = omega (arith, e)

pub end_of_end : (o : Order) (p : ℕ) → end_of (end_fixed o) p ≡ number_end 4 4 p
unfolding end_of
end_of_end o p = ap (λ (n : ℕ). min 4294967296 (p + n)) (length-end o p)

small_form : (id len : ℕ) → 4294967296 ≤ len → is_short id len ≡ false
small_form id len past = by_id (nat_le id 0x3F00) (grind (arith, tests))
  where
    by_id : (b : Bool) → nat_lt len (2 ^ 16) ≡ false → (b && nat_lt len (2 ^ 16)) ≡ false
    by_id true e = e
    by_id false e = refl

-- the form is the same for the length that was counted
same_form : (id n len : ℕ) → len ≡ min 4294967296 n → is_short id len ≡ is_short id n
same_form id n len e = ⊎_elim
    (λ below. ap (λ (k : ℕ). is_short id k) (omega (arith, e, below)))
    (λ above. small_form id len (omega (arith, e, above)) ∙ sym (small_form id n above))
    (cases_lt n 4294967296)

-- a header, and then as many octets
pub end_of_param : (o : Order) (h : Head) (c : List ℕ) (len p : ℕ) → len ≡ min 4294967296 (length c) → min 4294967296 (param_header_end h.id len p + len) ≡ end_of (param_fixed o h c) p
unfolding end_of
end_of_param o h c len p e = by_form (is_short h.id len) refl
  where
    whole : min 4294967296 (p + length (param_fixed o h c p)) ≡ min 4294967296 (p + (padding 4 p + (cond (is_short h.id len) 4 12 + length c)))
    whole = ap (λ (n : ℕ). min 4294967296 (p + n)) (length-param o h c p) ∙ ap (λ (b : Bool). min 4294967296 (p + (padding 4 p + (cond b 4 12 + length c)))) (sym (same_form h.id (length c) len e))

    by_form : (b : Bool) → is_short h.id len ≡ b → min 4294967296 (param_header_end h.id len p + len) ≡ min 4294967296 (p + length (param_fixed o h c p))
    by_form true is = rw is (omega (arith, e, whole ∙ ap (λ (b : Bool). min 4294967296 (p + (padding 4 p + (cond b 4 12 + length c)))) is))
    by_form false is = rw is (omega (arith, e, whole ∙ ap (λ (b : Bool). min 4294967296 (p + (padding 4 p + (cond b 4 12 + length c)))) is))
