-- What was written so far, and what is still to write.
use Rattle.std.proofs.Common.{◌≡◌, refl, sym, ap, ◌∙◌, subst, ℕ, suc, ◌+◌, ◌-◌, ◌%◌, ◌^◌, ◌≤◌, ◌<◌, min, List, [], ◌∷◌, ◌++◌, length, replicate, Result, Ok, Err, arith, append_assoc, append-nil, length-append, take, inl, inr, add_assoc, add-zero}
use Rattle.std.proofs.lemmas.List.{length-replicate, take-replicate}
use Rattle.std.proofs.KnownBytes.{Appends-nil, Appends-trans}
use Rattle.std.proofs.Math.Nat.{mod-add-mod, add-mod_right}
use Rattle.std.specs.Io.KnownBytes.{Appends}
use Rattle.xt_shapes.specs.declared.leaves.Order.{Order}
use Rattle.xt_outside.specs.Outside.{AppendsAll}
use Rattle.xt_outside.specs.declared.octets.Failed.{Failed}
use Rattle.xcdr_model.specs.FixedSpelling.{Fixed, nothing, number_fixed, then_fixed}
use Rattle.xcdr_model.specs.Numbers.{octets, padding}
use Rattle.xt_wire.specs.writer.Written.{Written}
use Rattle.xt_wire.specs.numbers.Units.{IsUnit}
use Rattle.xt_wire.specs.writer.Writing.{IsAt, padding_fixed, Puttable, Stuck, Put, Keeps, Puts, PutsWithin}
use Rattle.xt_wire.proofs.OfWriter.NumberSteps.{length-octets}

-- ---- places

-- n octets further, and then m
further : (place here there n m : ℕ) → here ≡ (place + n) % 2 ^ 64 → there ≡ (here + m) % 2 ^ 64 → there ≡ (place + (n + m)) % 2 ^ 64
further place here there n m e d = d ∙ ap (λ (k : ℕ). (k + m) % 2 ^ 64) e ∙ mod-add-mod (place + n) (2 ^ 64) m ∙ ap (λ (k : ℕ). k % 2 ^ 64) (add_assoc place n m)

-- n octets further from a place behind the origin
pub stands : {a b : Written} (p n : ℕ) → IsAt a p → Keeps a b → b.place ≡ (a.place + n) % 2 ^ 64 → IsAt b (p + n)
unfolding IsAt
stands {a} {b} p n at k e = further a.origin a.place b.place p n at e ∙ ap (λ (o : ℕ). (o + (p + n)) % 2 ^ 64) (sym k.origin)

pub keeps_on : {a b c : Written} → Keeps a b → Keeps b c → Keeps a c
keeps_on k l = record { order = l.order ∙ k.order; origin = l.origin ∙ k.origin; name = l.name ∙ k.name; faults = omega (arith, k.faults, l.faults) }

-- ---- writing in parts

-- Up to b some octets were written; what f spells at p is these, and then what g spells.
pub record Reaches (p : ℕ) (f g : Fixed) (a b : Written) : Type 0 where
  pub done : List ℕ
  pub place : b.place ≡ (a.place + length done) % 2 ^ 64
  pub taken : AppendsAll a.taken b.taken done
  pub rest : f p ≡ done ++ g (p + length done)

-- From a on f is written, and from b on g is left of it.
pub record Going (limit : ℕ) (f g : Fixed) (a b : Written) : Type 0 where
  pub keeps : Keeps a b
  pub from : (p : ℕ) → IsAt a p → length (f p) < limit → Reaches p f g a b

stays : (w : Written) (p : ℕ) → IsAt w p → w.place ≡ (w.place + 0) % 2 ^ 64
unfolding IsAt
stays w p at = omega (arith, at)

-- nothing was written yet
pub begins : (limit : ℕ) (f g : Fixed) (a : Written) → ((p : ℕ) → f p ≡ g p) → Going limit f g a a
begins limit f g a e = record {
  keeps = record { order = refl; origin = refl; name = refl; faults = omega arith };
  from = λ p at fits. record { done = []; place = stays a p at; taken = Appends-nil a.taken; rest = e p ∙ ap g (sym (add-zero p)) };
}

-- what is left has fewer octets too
fits_on : (f g : Fixed) (p limit : ℕ) (done : List ℕ) → f p ≡ done ++ g (p + length done) → length (f p) < limit → length (g (p + length done)) < limit
fits_on f g p limit done e fits = omega (arith, ap length e, length-append done (g (p + length done)), fits)

first_fits : (h g : Fixed) (q limit : ℕ) → length (then_fixed h g q) < limit → length (h q) < limit
unfolding then_fixed
first_fits h g q limit fits = omega (arith, length-append (h q) (g (q + length (h q))), fits)

-- one part more was written
pub goes_on : {T : Type 0} {t : T} {limit : ℕ} {f : Fixed} (h g : Fixed) {a b c : Written} → Going limit f (then_fixed h g) a b → PutsWithin limit h b c (Ok t) → Going limit f g a c
unfolding then_fixed
goes_on {limit = limit} {f = f} h g {a} {b} {c} u w = record {
  keeps = keeps_on u.keeps w.keeps;
  from = λ p at fits. on p (u.from p at fits) (stands p (length (u.from p at fits).done) at u.keeps (u.from p at fits).place) fits;
}
  where
    on : (p : ℕ) (r : Reaches p f (then_fixed h g) a b) → IsAt b (p + length r.done) → length (f p) < limit → Reaches p f g a c
    on p r here fits =
        let q = p + length r.done in
        let part = w.put q here (first_fits h g q limit (fits_on f (then_fixed h g) p limit r.done r.rest fits)) in
        let e : p + length (r.done ++ h q) ≡ q + length (h q) = omega (arith, length-append r.done (h q)) in
        record {
          done = r.done ++ h q;
          place = further a.place b.place c.place (length r.done) (length (h q)) r.place part.place ∙ ap (λ (n : ℕ). (a.place + n) % 2 ^ 64) (sym (length-append r.done (h q)));
          taken = Appends-trans a.taken b.taken c.taken r.done (h q) r.taken part.taken;
          rest = r.rest ∙ sym (append_assoc r.done (h q) _) ∙ ap (λ (k : ℕ). (r.done ++ h q) ++ g k) (sym e);
        }

-- what is left was written, or a beginning of it
pub last : {T : Type 0} {r : Result T Failed} {limit : ℕ} {f : Fixed} (g : Fixed) {a b c : Written} → Going limit f g a b → PutsWithin limit g b c r → PutsWithin limit f a c r
last {r = Ok t} {limit = limit} {f = f} g {a} {b} {c} u w = record {
  keeps = keeps_on u.keeps w.keeps;
  put = λ p at fits. on p (u.from p at fits) (stands p (length (u.from p at fits).done) at u.keeps (u.from p at fits).place) fits;
}
  where
    on : (p : ℕ) (r : Reaches p f g a b) → IsAt b (p + length r.done) → length (f p) < limit → Puttable a c (f p)
    on p r here fits =
        let q = p + length r.done in
        let part = w.put q here (fits_on f g p limit r.done r.rest fits) in
        record {
          place = further a.place b.place c.place (length r.done) (length (g q)) r.place part.place ∙ ap (λ (n : ℕ). (a.place + n) % 2 ^ 64) (sym (ap length r.rest ∙ length-append r.done (g q)));
          taken = subst (λ (l : List ℕ). Appends a.taken c.taken l) (sym r.rest) (Appends-trans a.taken b.taken c.taken r.done (g q) r.taken part.taken);
        }
last {r = Err e} {limit = limit} {f = f} g {a} {b} {c} u w = record {
  keeps = keeps_on u.keeps w.keeps;
  put = λ p at fits. on p (u.from p at fits) (stands p (length (u.from p at fits).done) at u.keeps (u.from p at fits).place) fits;
}
  where
    on : (p : ℕ) (r : Reaches p f g a b) → IsAt b (p + length r.done) → length (f p) < limit → Stuck a c (f p)
    on p r here fits =
        let q = p + length r.done in
        let part = w.put q here (fits_on f g p limit r.done r.rest fits) in
        let (some, rest, parts, appended) = part.taken in
        record {
          taken = (r.done ++ some, rest, r.rest ∙ ap (λ l. r.done ++ l) parts ∙ sym (append_assoc r.done some rest), Appends-trans a.taken b.taken c.taken r.done some r.taken appended);
          rose = omega (arith, part.rose, u.keeps.faults);
        }

-- a part was not written to its end
pub fails : {T S : Type 0} {e : Failed} {limit : ℕ} {f : Fixed} (h g : Fixed) {a b c : Written} → Going limit f (then_fixed h g) a b → PutsWithin {T = T} limit h b c (Err e) → PutsWithin {T = S} limit f a c (Err e)
unfolding then_fixed
fails {limit = limit} {f = f} h g {a} {b} {c} u w = record {
  keeps = keeps_on u.keeps w.keeps;
  put = λ p at fits. on p (u.from p at fits) (stands p (length (u.from p at fits).done) at u.keeps (u.from p at fits).place) fits;
}
  where
    on : (p : ℕ) (r : Reaches p f (then_fixed h g) a b) → IsAt b (p + length r.done) → length (f p) < limit → Stuck a c (f p)
    on p r here fits =
        let q = p + length r.done in
        let part = w.put q here (first_fits h g q limit (fits_on f (then_fixed h g) p limit r.done r.rest fits)) in
        let (some, rest, parts, appended) = part.taken in
        let more = g (q + length (h q)) in
        record {
          taken = (r.done ++ some, rest ++ more, r.rest ∙ ap (λ l. r.done ++ (l ++ more)) parts ∙ ap (λ l. r.done ++ l) (append_assoc some rest more) ∙ sym (append_assoc r.done some (rest ++ more)), Appends-trans a.taken b.taken c.taken r.done some r.taken appended);
          rose = omega (arith, part.rose, u.keeps.faults);
        }

-- all is written
pub ends : {T : Type 0} {t : T} {limit : ℕ} {f : Fixed} {a b : Written} → Going limit f nothing a b → PutsWithin limit f a b (Ok t)
ends {limit = limit} {f = f} {a} {b} u = record {
  keeps = u.keeps;
  put = λ p at fits. on p (u.from p at fits);
}
  where
    on : (p : ℕ) → Reaches p f nothing a b → Puttable a b (f p)
    on p r =
        let e : r.done ≡ f p = sym (r.rest ∙ append-nil r.done) in
        record {
          place = r.place ∙ ap (λ l. (a.place + length l) % 2 ^ 64) e;
          taken = subst (λ (l : List ℕ). Appends a.taken b.taken l) e r.taken;
        }

-- what is left, said in another way
pub left_as : {limit : ℕ} {f : Fixed} (g h : Fixed) {a b : Written} → ((p : ℕ) → g p ≡ h p) → Going limit f g a b → Going limit f h a b
left_as {limit = limit} {f = f} g h {a} {b} e u = record { keeps = u.keeps; from = λ p at fits. on p (u.from p at fits) }
  where
    on : (p : ℕ) → Reaches p f g a b → Reaches p f h a b
    on p r = record { done = r.done; place = r.place; taken = r.taken; rest = r.rest ∙ ap (λ (l : List ℕ). r.done ++ l) (e (p + length r.done)) }

-- ---- limits, and equal spellings

pub within : {T : Type 0} {r : Result T Failed} {limit : ℕ} {f : Fixed} {a b : Written} → Puts f a b r → PutsWithin limit f a b r
within w = record { keeps = w.keeps; put = λ p at fits. w.put p at }

pub whole : {T : Type 0} {r : Result T Failed} {f : Fixed} {a b : Written} → ((limit : ℕ) → PutsWithin limit f a b r) → Puts f a b r
whole {f = f} w = record { keeps = (w 0).keeps; put = λ p at. (w (suc (length (f p)))).put p at (omega arith) }

pub same_puts : {T : Type 0} {r : Result T Failed} (f g : Fixed) {a b : Written} → ((p : ℕ) → IsAt a p → f p ≡ g p) → Puts g a b r → Puts f a b r
same_puts {r = r} f g {a} {b} e w = record { keeps = w.keeps; put = λ p at. subst (λ (l : List ℕ). Put a b l r) (sym (e p at)) (w.put p at) }

pub puts_nothing : {T : Type 0} {t : T} (a : Written) → Puts nothing a a (Ok t)
puts_nothing a = whole (λ limit. ends (begins limit nothing nothing a (λ p. refl)))

-- ---- numbers

pub length-number : (most : ℕ) (o : Order) (k n p : ℕ) → length (number_fixed most o k n p) ≡ padding (min k most) p + k
unfolding number_fixed
length-number most o k n p = omega (arith, length-append (replicate (padding (min k most) p) 0) (octets o k n), length-replicate {A = ℕ} (padding (min k most) p) 0, length-octets o k n)

pub number_parts : (most : ℕ) (o : Order) (k n p : ℕ) → number_fixed most o k n p ≡ then_fixed (padding_fixed (min k most)) (λ q. octets o k n) p
unfolding number_fixed then_fixed
number_parts most o k n p = refl

-- ---- padding

pub pad_small : (u d : ℕ) → IsUnit u → (u - d % u) % u < 8
pad_small u d is = elim is [ inl e ↦ omega (arith, e) | inr more ↦ elim more [ inl e ↦ omega (arith, e) | inr more2 ↦ elim more2 [ inl e ↦ omega (arith, e) | inr e ↦ omega (arith, e) ] ] ]

-- the distance from the origin, counted round, is padded as the distance itself
pub distance : (u place origin p : ℕ) → IsUnit u → origin < 2 ^ 64 → place ≡ (origin + p) % 2 ^ 64 → (place + (2 ^ 64 - origin)) % 2 ^ 64 % u ≡ p % u
distance u place origin p is low at =
    let back : place + (2 ^ 64 - origin) ≡ (origin + p) % 2 ^ 64 + (2 ^ 64 - origin) = ap (λ (n : ℕ). n + (2 ^ 64 - origin)) at in
    let round : (place + (2 ^ 64 - origin)) % 2 ^ 64 ≡ (p + 2 ^ 64) % 2 ^ 64 = ap (λ (n : ℕ). n % 2 ^ 64) back ∙ mod-add-mod (origin + p) (2 ^ 64) (2 ^ 64 - origin) ∙ ap (λ (n : ℕ). n % 2 ^ 64) (omega (arith, low)) in
    let same : (place + (2 ^ 64 - origin)) % 2 ^ 64 ≡ p % 2 ^ 64 = round ∙ add-mod_right p (2 ^ 64) in
    ap (λ (n : ℕ). n % u) same ∙ low_part u p is
  where
    low_part : (u p : ℕ) → IsUnit u → p % 2 ^ 64 % u ≡ p % u
    low_part u p is = elim is [ inl e ↦ rw e (omega arith) | inr more ↦ elim more [ inl e ↦ rw e (omega arith) | inr more2 ↦ elim more2 [ inl e ↦ rw e (omega arith) | inr e ↦ rw e (omega arith) ] ] ]

pub at_place : (w : Written) (p : ℕ) → IsAt w p → w.place ≡ (w.origin + p) % 2 ^ 64
unfolding IsAt
at_place w p at = at

pub zeros : (n : ℕ) → n ≤ 8 → take {A = ℕ} n (0 ∷ 0 ∷ 0 ∷ 0 ∷ 0 ∷ 0 ∷ 0 ∷ 0 ∷ []) ≡ replicate n 0
zeros n le = take-replicate n 8 0 le
