-- A count of octets, written before the octets that it counts.
use Rattle.std.proofs.Common.{◌≡◌, refl, Bool, false, List, min, length-append, sym, ap, ◌∙◌, ℕ, ◌+◌, ◌%◌, ◌<◌, ◌++◌, length, Ok, Err, arith, append_assoc}
use Rattle.xt_shapes.specs.declared.leaves.Order.{Order}
use Rattle.xt_shapes.specs.declared.leaves.Rep.{Rep}
use Rattle.xt_shapes.specs.declared.leaves.Rep.TheVariants.{Xcdr1, Xcdr2}
use Rattle.xt_shapes.specs.Select.{is_must}
use Rattle.xt_shapes.specs.Shape.{Head}
use Rattle.xt_outside.specs.declared.octets.Failed.{Failed}
use Rattle.xcdr_model.specs.FixedSpelling.{Fixed, number_fixed, then_fixed, headed_fixed, param_fixed}
use Rattle.xcdr_model.specs.Numbers.{padding}
use Rattle.xt_wire.specs.writer.Written.{Written}
use Rattle.xt_wire.specs.writer.Writing.{Puttable, Stuck, PutsWithin}
use Rattle.xt_wire.proofs.OfWriter.Puts.{Going, Reaches, length-number}
use Rattle.value_writer.specs.Places.{end_of}
use Rattle.value_writer.proofs.Ends.{length_headed}
use Rattle.xcdr_writer.specs.Parts.{most_of, is_bare, header_behind}
use Rattle.xcdr_writer.proofs.ParamSteps.{ends_at_length, param_parts, told_header}
use Rattle.xcdr_writer.proofs.Steady.{Steady}

aligned : (r : Rep) (p : ℕ) → most_of r ≡ 4 → (p + (padding 4 p + 4)) % most_of r ≡ 0 % most_of r
unfolding padding
aligned r p four = rw four (omega arith)

-- only XCDR2 has such counts
pub bare_most : (r : Rep) (plain : Bool) → is_bare r plain ≡ false → most_of r ≡ 4
bare_most Xcdr1 plain e = absurd (cc)
bare_most Xcdr2 plain e = refl

-- the count, where all of it is below the limit
exact : (r : Rep) (o : Order) (f g : Fixed) (n p : ℕ) → most_of r ≡ 4 → Steady r f g → n ≡ end_of g 0 → length (headed_fixed o f p) < 4294967296 → n ≡ length (f (p + (padding 4 p + 4)))
unfolding end_of
exact r o f g n p four a e fits =
    let same = a.same (p + (padding 4 p + 4)) 0 (aligned r p four) in
    omega (arith, e, same, length_headed o f p, fits)

count_fits : (o : Order) (f : Fixed) (n p : ℕ) → length (headed_fixed o f p) < 4294967296 → length (number_fixed 4 o 4 n p) < 4294967296
count_fits o f n p fits = omega (arith, length_headed o f p, length-number 4 o 4 n p, fits)

parts : (o : Order) (f : Fixed) (n p : ℕ) → n ≡ length (f (p + (padding 4 p + 4))) → headed_fixed o f p ≡ number_fixed 4 o 4 n p ++ f (p + length (number_fixed 4 o 4 n p))
unfolding headed_fixed
parts o f n p e =
    let q = p + (padding 4 p + 4) in
    let len : p + length (number_fixed 4 o 4 n p) ≡ q = ap (λ (k : ℕ). p + k) (length-number 4 o 4 n p) in
    ap (λ (k : ℕ). number_fixed 4 o 4 k p ++ f q) (sym e) ∙ ap (λ (k : ℕ). number_fixed 4 o 4 n p ++ f k) (sym len)

pub headed_begins : {T : Type 0} {t : T} (r : Rep) (o : Order) (f g : Fixed) (n : ℕ) {a b : Written} → most_of r ≡ 4 → Steady r f g → n ≡ end_of g 0 → PutsWithin {T = T} 4294967296 (number_fixed 4 o 4 n) a b (Ok t) → Going 4294967296 (headed_fixed o f) f a b
headed_begins r o f g n {a} {b} four s e w = record {
  keeps = w.keeps;
  from = λ p at fits. on p (w.put p at (count_fits o f n p fits)) fits;
}
  where
    on : (p : ℕ) → Puttable a b (number_fixed 4 o 4 n p) → length (headed_fixed o f p) < 4294967296 → Reaches p (headed_fixed o f) f a b
    on p part fits = record {
      done = number_fixed 4 o 4 n p;
      place = part.place;
      taken = part.taken;
      rest = parts o f n p (exact r o f g n p four s e fits);
    }

pub headed_stuck : {T S : Type 0} {x : Failed} (r : Rep) (o : Order) (f g : Fixed) (n : ℕ) {a b : Written} → most_of r ≡ 4 → Steady r f g → n ≡ end_of g 0 → PutsWithin {T = T} 4294967296 (number_fixed 4 o 4 n) a b (Err x) → PutsWithin {T = S} 4294967296 (headed_fixed o f) a b (Err x)
headed_stuck r o f g n {a} {b} four s e w = record {
  keeps = w.keeps;
  put = λ p at fits. on p (w.put p at (count_fits o f n p fits)) fits;
}
  where
    on : (p : ℕ) → Stuck a b (number_fixed 4 o 4 n p) → length (headed_fixed o f p) < 4294967296 → Stuck a b (headed_fixed o f p)
    on p part fits =
        let (some, rest, split, appended) = part.taken in
        let more = f (p + length (number_fixed 4 o 4 n p)) in
        record {
          taken = (some, rest ++ more, parts o f n p (exact r o f g n p four s e fits) ∙ ap (λ l. l ++ more) split ∙ append_assoc some rest more, appended);
          rose = part.rose;
        }

-- ---- a parameter's length, written before its content

pub length_told : (f g : Fixed) (n : ℕ) → Steady Xcdr1 f g → n ≡ end_of g 0 → n ≡ min 4294967296 (length (f 0))
length_told f g n a e = ends_at_length g n e ∙ ap (λ (k : ℕ). min 4294967296 k) (sym (a.same 0 0 refl))

param_is : (o : Order) (h : Head) (c : List ℕ) (len p : ℕ) → len ≡ min 4294967296 (length c) → length (param_fixed o h c p) < 4294967296 → param_fixed o h c p ≡ header_behind o (is_must h) h.id len p ++ c
unfolding then_fixed
param_is o h c len p e fits = param_parts o h c p ∙ ap (λ (f : Fixed). f p ++ c) (sym (told_header o h c len p e fits))

header_fits : (o : Order) (h : Head) (c : List ℕ) (len p : ℕ) → len ≡ min 4294967296 (length c) → length (param_fixed o h c p) < 4294967296 → length (header_behind o (is_must h) h.id len p) < 4294967296
header_fits o h c len p e fits = omega (arith, ap length (param_is o h c len p e fits), length-append (header_behind o (is_must h) h.id len p) c, fits)

pub param_begins : {T : Type 0} {t : T} (o : Order) (h : Head) (c : List ℕ) (len : ℕ) {a b : Written} → len ≡ min 4294967296 (length c) → PutsWithin {T = T} 4294967296 (header_behind o (is_must h) h.id len) a b (Ok t) → Going 4294967296 (param_fixed o h c) (λ q. c) a b
param_begins o h c len {a} {b} e w = record {
  keeps = w.keeps;
  from = λ p at fits. on p (w.put p at (header_fits o h c len p e fits)) fits;
}
  where
    on : (p : ℕ) → Puttable a b (header_behind o (is_must h) h.id len p) → length (param_fixed o h c p) < 4294967296 → Reaches p (param_fixed o h c) (λ q. c) a b
    on p part fits = record { done = header_behind o (is_must h) h.id len p; place = part.place; taken = part.taken; rest = param_is o h c len p e fits }

pub param_stuck : {T S : Type 0} {x : Failed} (o : Order) (h : Head) (c : List ℕ) (len : ℕ) {a b : Written} → len ≡ min 4294967296 (length c) → PutsWithin {T = T} 4294967296 (header_behind o (is_must h) h.id len) a b (Err x) → PutsWithin {T = S} 4294967296 (param_fixed o h c) a b (Err x)
param_stuck o h c len {a} {b} e w = record {
  keeps = w.keeps;
  put = λ p at fits. on p (w.put p at (header_fits o h c len p e fits)) fits;
}
  where
    on : (p : ℕ) → Stuck a b (header_behind o (is_must h) h.id len p) → length (param_fixed o h c p) < 4294967296 → Stuck a b (param_fixed o h c p)
    on p part fits =
        let (some, rest, split, appended) = part.taken in
        record { taken = (some, rest ++ c, param_is o h c len p e fits ∙ ap (λ (l : List ℕ). l ++ c) split ∙ append_assoc some rest c, appended); rose = part.rose }
