-- Texts go both ways, and so do the formats of objects.
use Rattle.std.proofs.Common.{◌≡◌, ℕ, zero, suc, ◌+◌, ◌-◌, ◌^◌, ◌<◌, ◌≤◌, ℤ, pos, negsuc, Bool, true, false, cond, ltb, List, [], ◌∷◌, ◌++◌, length, Option, Some, None, Result, Ok, Err, refl, sym, ap, subst, ◌∙◌, append_assoc, arith, inl, inr}
use Rattle.std.specs.Prelude.{not, ◌||◌, nat_lt, nat_le, ◌==◌}
use Rattle.std.proofs.lemmas.Bool.{cases_lt, ltb-true, ltb-false, le-ltb, lt-ltb, le-leb, leb-true, ne_eqb, and_parts, and_from}
use Rattle.std.proofs.lemmas.List.{length-append}
use Rattle.object_formats.specs.declared.faults.ObjectRule.TheVariants as rules
use Rattle.object_formats.specs.declared.faults.Fault.{Fault}
use Rattle.object_formats.specs.Octets.{with_sign, without_sign}
use Rattle.object_formats.specs.Format.{Spot, spot, fault, ◌>>=◌, aligned, num, has_nul, led_by, ended, told, raw_at, text}
use Rattle.object_formats.proofs.Lawful.{then_ok, bind_ok, ok_is, Took, Took-then, Lawful, lawful_num, raw_again, raw_taken}
use Rattle.object_formats.proofs.Combined.{not_true, num4_good}

or_parts : (a b : Bool) → (a || b) ≡ false → (a ≡ false) × (b ≡ false)
or_parts true b e = absurd cc
or_parts false b e = (refl, e)

pub ended_again : (t : List ℕ) → has_nul t ≡ false → ended (t ++ 0 ∷ []) ≡ Some t
unfolding ended
ended_again [] e = refl
ended_again (zero ∷ t) e = absurd cc
ended_again (suc a ∷ t) e = ap (led_by (suc a)) (ended_again t e)

led_is : (a : ℕ) (o : Option (List ℕ)) (t : List ℕ) → led_by a o ≡ Some t → (u : List ℕ) × (o ≡ Some u) × (t ≡ a ∷ u)
led_is a None t e = absurd cc
led_is a (Some u) t e = (u, refl, cc)

pub ended_is : (bs t : List ℕ) → ended bs ≡ Some t → (bs ≡ t ++ 0 ∷ []) × (has_nul t ≡ false)
unfolding ended
ended_is [] t e = absurd cc
ended_is (zero ∷ []) [] e = (refl, refl)
ended_is (zero ∷ []) (a ∷ t) e = absurd cc
ended_is (zero ∷ b ∷ bs) t e = absurd cc
ended_is (suc a ∷ bs) t e =
    let h = led_is (suc a) (ended bs) t e in
    let k = ended_is bs h.0 h.1 in
    let same : has_nul t ≡ has_nul h.0 = ap has_nul h.2 in
    (ap (λ (c : List ℕ). suc a ∷ c) k.0 ∙ ap (λ (c : List ℕ). c ++ 0 ∷ []) (sym h.2), same ∙ k.1)

told_ok : (p : ℕ) (u : Spot) (o : Option (List ℕ)) (x : List ℕ) (t : Spot) → told p u o ≡ Ok (x, t) → (o ≡ Some x) × (u ≡ t)
told_ok p u None x t e = absurd cc
told_ok p u (Some y) x t e =
    let h = ok_is (y, u) (x, t) e in
    (ap (λ (w : List ℕ × Spot). Some w.0) h, ap (λ (w : List ℕ × Spot). w.1) h)

guard_ok : {A : Type 0} (b : Bool) (d : Fault) (r : Result A Fault) (y : A) → cond b (Err d) r ≡ Ok y → (b ≡ false) × (r ≡ Ok y)
guard_ok true d r y e = absurd cc
guard_ok false d r y e = (refl, e)

pub lawful_text : Lawful text
unfolding text
lawful_text = record {
  again = λ t p rest good small.
      let n = length t + 1 in
      let h = (num 4 4).spell p n in
      let b = t ++ 0 ∷ [] in
      let goods = and_parts (nat_le (length t) 255) (not (has_nul t)) good in
      let most : length t ≤ 255 = leb-true _ _ goods.0 in
      let len : length (h ++ b) ≡ length h + length b = length-append h b in
      let len-b : length b ≡ n = length-append t (0 ∷ []) in
      let one : (num 4 4).read (spot p ((h ++ b) ++ rest)) ≡ Ok (n, spot (p + length h) (b ++ rest)) =
      ap (λ (c : List ℕ). (num 4 4).read (spot p c)) (append_assoc h b rest) ∙ (lawful_num 4 4).again n p (b ++ rest) (num4_good n (omega arith)) (omega (arith, len)) in
      let some : (n == 0) ≡ false = ne_eqb _ _ (λ e. omega arith) in
      let few : ltb 256 n ≡ false = le-ltb _ _ (omega arith) in
      let two : raw_at n (spot (p + length h) (b ++ rest)) ≡ Ok (b, spot (p + length h + n) rest) = raw_again n b (p + length h) rest len-b in
      then_ok _ one (rw (some, few) (then_ok _ two (ap (told (aligned 4 p) (spot (p + length h + n) rest)) (ended_again t (not_true _ goods.1)) ∙ ap (λ (m : ℕ). Ok (t, spot m rest)) (omega (arith, len, len-b)))));
  taken = λ s x t fits e.
      let n = bind_ok ((num 4 4).read s) (λ n. cond ((n.0 == 0) || nat_lt 256 n.0) (fault (aligned 4 s.at) rules.Text) (raw_at n.0 n.1 >>= λ bs. told (aligned 4 s.at) bs.1 (ended bs.0))) (x, t) e in
      let h = (lawful_num 4 4).taken s n.0.0 n.0.1 fits n.1 in
      let g = guard_ok ((n.0.0 == 0) || nat_lt 256 n.0.0) (record { at = aligned 4 s.at; rule = rules.Text }) (raw_at n.0.0 n.0.1 >>= λ bs. told (aligned 4 s.at) bs.1 (ended bs.0)) (x, t) n.2 in
      let tests = or_parts (n.0.0 == 0) (nat_lt 256 n.0.0) g.0 in
      let few : n.0.0 ≤ 256 = ltb-false _ _ tests.1 in
      let y = bind_ok (raw_at n.0.0 n.0.1) (λ bs. told (aligned 4 s.at) bs.1 (ended bs.0)) (x, t) g.1 in
      let r = raw_taken n.0.0 n.0.1 y.0.0 y.0.1 y.1 in
      let o = told_ok (aligned 4 s.at) y.0.1 (ended y.0.0) x t y.2 in
      let k = ended_is y.0.0 x o.0 in
      let len : length x + 1 ≡ n.0.0 = sym (length-append x (0 ∷ [])) ∙ ap length (sym k.0) ∙ r.1 in
      let second : Took n.0.1 (x ++ 0 ∷ []) t = subst (λ (u : Spot). Took n.0.1 (x ++ 0 ∷ []) u) o.1 (subst (λ (c : List ℕ). Took n.0.1 c y.0.1) k.0 r.0) in
      let whole = Took-then s ((num 4 4).spell s.at n.0.0) n.0.1 (x ++ 0 ∷ []) t h.took second in
      record {
        good = and_from (nat_le (length x) 255) (not (has_nul x)) (le-leb _ _ (omega (arith, len))) (ap not k.1);
        took = subst (λ (m : ℕ). Took s ((num 4 4).spell s.at m ++ (x ++ 0 ∷ [])) t) (sym len) whole;
      };
}

-- ---- numbers with sign

pub sign_back : (n : ℕ) → n < 2 ^ 32 → without_sign (with_sign n) ≡ Some n
unfolding with_sign without_sign
sign_back n lt =
    elim (cases_lt n (2 ^ 31)) [
      | inl low ↦ rw (lt-ltb _ _ low, lt-ltb _ _ low) refl
      | inr high ↦
          let big : ltb n (2 ^ 31) ≡ false = le-ltb _ _ high in
          let neg : ltb (2 ^ 32 - suc n) (2 ^ 31) ≡ true = lt-ltb _ _ (omega arith) in
          rw (big, neg) (ap Some (omega arith))
    ]

cond_some : (b : Bool) (x y : ℕ) → cond b (Some x) None ≡ Some y → (b ≡ true) × (x ≡ y)
cond_some true x y e = (refl, cc)
cond_some false x y e = absurd cc

pub sign_made : (i : ℤ) (n : ℕ) → without_sign i ≡ Some n → i ≡ with_sign n
unfolding with_sign without_sign
sign_made (pos m) n e =
    let h = cond_some (ltb m (2 ^ 31)) m n e in
    rw (← h.1, h.0) refl
sign_made (negsuc m) n e =
    let h = cond_some (ltb m (2 ^ 31)) (2 ^ 32 - suc m) n e in
    let low : m < 2 ^ 31 = ltb-true _ _ h.0 in
    let big : ltb n (2 ^ 31) ≡ false = le-ltb _ _ (omega (arith, h.1)) in
    rw big (ap negsuc (omega (arith, h.1)))
