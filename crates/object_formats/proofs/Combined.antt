-- A format made of formats that go both ways goes both ways.
use Rattle.std.proofs.Common.{◌≡◌, ℕ, zero, suc, ◌+◌, ◌%◌, ◌^◌, ◌<◌, ◌≤◌, Bool, true, false, cond, ltb, List, [], ◌∷◌, ◌++◌, length, take, drop, Option, Some, None, Ok, refl, sym, ap, subst, ◌∙◌, append_assoc, arith}
use Rattle.std.specs.Prelude.{not, ◌&&◌, ◌==◌}
use Rattle.std.proofs.lemmas.Bool.{ltb-true, ltb-false, le-ltb, lt-ltb, eqb-true, and_parts, and_from}
use Rattle.std.proofs.lemmas.List.{take_at, drop_at, take-append-drop, length-append, length-take-le, append-nil, nil_from_length}
use Rattle.object_formats.specs.declared.faults.ObjectRule.{ObjectRule}
use Rattle.object_formats.specs.declared.faults.ObjectRule.TheVariants as rules
use Rattle.object_formats.specs.Octets.{octets, zeros, padding}
use Rattle.object_formats.specs.Format.{Format, Spot, spot, fault, ◌>>=◌, is_short, aligned, num, nothing, both, before, behind, only, in_part, spelled_part, part, chosen, tagged, closed, counted, each_at, each_spelled, each_good, several}
use Rattle.object_formats.proofs.Lawful.{IsOctets, IsOctets-take, then_ok, bind_ok, ok_is, test_ok, Took, Took-then, Took-octets, Taken, Lawful, length-num, lawful_num}

pub lawful_nothing : Lawful nothing
lawful_nothing = record {
  again = λ u p rest good small. ap (λ (n : ℕ). Ok (tt, spot n rest)) (omega arith);
  taken = λ s u t fits e.
      let is : s ≡ t = ap (λ (x : Unit {0} × Spot). x.1) (ok_is (tt, s) (u, t) e) in
      subst (λ (v : Spot). Taken nothing s u v) is (record { good = refl; took = record { parts = refl; place = omega arith } });
}

module _ {A B : Type 0} (f : Format A) (g : Format B) (F : Lawful f) (G : Lawful g) where
  pub lawful_both : Lawful (both f g)
  lawful_both = record {
    again = λ z p rest good small.
        let a = f.spell p z.0 in
        let b = g.spell (p + length a) z.1 in
        let len : length (a ++ b) ≡ length a + length b = length-append a b in
        let goods = and_parts (f.good z.0) (g.good z.1) good in
        let one : f.read (spot p ((a ++ b) ++ rest)) ≡ Ok (z.0, spot (p + length a) (b ++ rest)) =
        ap (λ (c : List ℕ). f.read (spot p c)) (append_assoc a b rest) ∙ F.again z.0 p (b ++ rest) goods.0 (omega (arith, len)) in
        then_ok _ one (then_ok _ (G.again z.1 (p + length a) rest goods.1 (omega (arith, len))) (ap (λ (n : ℕ). Ok (z, spot n rest)) (omega (arith, len))));
    taken = λ s z t fits e.
        let x = bind_ok (f.read s) (λ x. g.read x.1 >>= λ y. Ok ((x.0, y.0), y.1)) (z, t) e in
        let h = F.taken s x.0.0 x.0.1 fits x.1 in
        let y = bind_ok (g.read x.0.1) (λ y. Ok ((x.0.0, y.0), y.1)) (z, t) x.2 in
        let k = G.taken x.0.1 y.0.0 y.0.1 (Took-octets s (f.spell s.at x.0.0) x.0.1 h.took fits) y.1 in
        let took = Took-then s (f.spell s.at x.0.0) x.0.1 (g.spell x.0.1.at y.0.0) y.0.1 h.took k.took in
        let is : Taken (both f g) s (x.0.0, y.0.0) y.0.1 = record {
          good = and_from (f.good x.0.0) (g.good y.0.0) h.good k.good;
          took = subst (λ (q : ℕ). Took s (f.spell s.at x.0.0 ++ g.spell q y.0.0) y.0.1) h.took.place took;
        } in
        subst (λ (w : (A × B) × Spot). Taken (both f g) s w.0 w.1) (ok_is ((x.0.0, y.0.0), y.0.1) (z, t) y.2) is;
  }

module _ {A : Type 0} (u : Format (Unit {0})) (f : Format A) (U : Lawful u) (F : Lawful f) where
  pub lawful_before : Lawful (before u f)
  lawful_before = record {
    again = λ z p rest good small.
        let a = u.spell p tt in
        let b = f.spell (p + length a) z in
        let len : length (a ++ b) ≡ length a + length b = length-append a b in
        let goods = and_parts (u.good tt) (f.good z) good in
        let one : u.read (spot p ((a ++ b) ++ rest)) ≡ Ok (tt, spot (p + length a) (b ++ rest)) =
        ap (λ (c : List ℕ). u.read (spot p c)) (append_assoc a b rest) ∙ U.again tt p (b ++ rest) goods.0 (omega (arith, len)) in
        then_ok _ one (F.again z (p + length a) rest goods.1 (omega (arith, len)) ∙ ap (λ (n : ℕ). Ok (z, spot n rest)) (omega (arith, len)));
    taken = λ s z t fits e.
        let x = bind_ok (u.read s) (λ x. f.read x.1) (z, t) e in
        let h = U.taken s x.0.0 x.0.1 fits x.1 in
        let k = F.taken x.0.1 z t (Took-octets s (u.spell s.at tt) x.0.1 h.took fits) x.2 in
        let took = Took-then s (u.spell s.at tt) x.0.1 (f.spell x.0.1.at z) t h.took k.took in
        record {
          good = and_from (u.good tt) (f.good z) h.good k.good;
          took = subst (λ (q : ℕ). Took s (u.spell s.at tt ++ f.spell q z) t) h.took.place took;
        };
  }

  pub lawful_behind : Lawful (behind f u)
  lawful_behind = record {
    again = λ z p rest good small.
        let a = f.spell p z in
        let b = u.spell (p + length a) tt in
        let len : length (a ++ b) ≡ length a + length b = length-append a b in
        let goods = and_parts (f.good z) (u.good tt) good in
        let one : f.read (spot p ((a ++ b) ++ rest)) ≡ Ok (z, spot (p + length a) (b ++ rest)) =
        ap (λ (c : List ℕ). f.read (spot p c)) (append_assoc a b rest) ∙ F.again z p (b ++ rest) goods.0 (omega (arith, len)) in
        then_ok _ one (then_ok _ (U.again tt (p + length a) rest goods.1 (omega (arith, len))) (ap (λ (n : ℕ). Ok (z, spot n rest)) (omega (arith, len))));
    taken = λ s z t fits e.
        let x = bind_ok (f.read s) (λ x. u.read x.1 >>= λ y. Ok (x.0, y.1)) (z, t) e in
        let h = F.taken s x.0.0 x.0.1 fits x.1 in
        let y = bind_ok (u.read x.0.1) (λ y. Ok (x.0.0, y.1)) (z, t) x.2 in
        let k = U.taken x.0.1 y.0.0 y.0.1 (Took-octets s (f.spell s.at x.0.0) x.0.1 h.took fits) y.1 in
        let took = Took-then s (f.spell s.at x.0.0) x.0.1 (u.spell x.0.1.at tt) y.0.1 h.took k.took in
        let is : Taken (behind f u) s x.0.0 y.0.1 = record {
          good = and_from (f.good x.0.0) (u.good tt) h.good k.good;
          took = subst (λ (q : ℕ). Took s (f.spell s.at x.0.0 ++ u.spell q tt) y.0.1) h.took.place took;
        } in
        subst (λ (w : A × Spot). Taken (behind f u) s w.0 w.1) (ok_is (x.0.0, y.0.1) (z, t) y.2) is;
  }

module _ {A : Type 0} (place : ℕ → ℕ) (rule : ObjectRule) (test : A → Bool) (f : Format A) (F : Lawful f) where
  pub lawful_only : Lawful (only place rule test f)
  lawful_only = record {
    again = λ z p rest good small.
        let goods = and_parts (f.good z) (test z) good in
        then_ok _ (F.again z p rest goods.0 small) (rw goods.1 refl);
    taken = λ s z t fits e.
        let x = bind_ok (f.read s) (λ x. cond (test x.0) (Ok x) (fault (place s.at) rule)) (z, t) e in
        let g = test_ok (test x.0.0) (record { at = place s.at; rule = rule }) x.0 (z, t) x.2 in
        let h = F.taken s x.0.0 x.0.1 fits x.1 in
        let is : Taken (only place rule test f) s x.0.0 x.0.1 = record { good = and_from (f.good x.0.0) (test x.0.0) h.good g.0; took = h.took } in
        subst (λ (w : A × Spot). Taken (only place rule test f) s w.0 w.1) g.1 is;
  }

module _ {A B : Type 0} (make : B → A) (take_out : A → Option B) (f : Format B) (F : Lawful f)
    (out : (b : B) → f.good b ≡ true → take_out (make b) ≡ Some b) (made : (a : A) (b : B) → take_out a ≡ Some b → a ≡ make b) where
  part_again : (a : A) (o : Option B) → take_out a ≡ o → (p : ℕ) (rest : List ℕ) → in_part f.good o ≡ true → length (spelled_part (f.spell p) o) < 2 ^ 32 → (part make take_out f).read (spot p (spelled_part (f.spell p) o ++ rest)) ≡ Ok (a, spot (p + length (spelled_part (f.spell p) o)) rest)
  part_again a None e p rest good small = absurd cc
  part_again a (Some b) e p rest good small = then_ok _ (F.again b p rest good small) (ap (λ (c : A). Ok (c, spot (p + length (f.spell p b)) rest)) (sym (made a b e)))

  pub lawful_part : Lawful (part make take_out f)
  lawful_part = record {
    again = λ a p rest good small. part_again a (take_out a) refl p rest good small;
    taken = λ s a t fits e.
        let x = bind_ok (f.read s) (λ x. Ok (make x.0, x.1)) (a, t) e in
        let h = F.taken s x.0.0 x.0.1 fits x.1 in
        let o : take_out (make x.0.0) ≡ Some x.0.0 = out x.0.0 h.good in
        let is : Taken (part make take_out f) s (make x.0.0) x.0.1 = record { good = ap (in_part f.good) o ∙ h.good; took = subst (λ (c : List ℕ). Took s c x.0.1) (sym (ap (spelled_part (f.spell s.at)) o)) h.took } in
        subst (λ (w : A × Spot). Taken (part make take_out f) s w.0 w.1) (ok_is (make x.0.0, x.0.1) (a, t) x.2) is;
  }

-- ---- tags

padding_one : (p : ℕ) → padding 1 p ≡ 0
unfolding padding
padding_one p = omega arith

pub one_octet : (p n : ℕ) → n < 256 → (num 1 1).spell p n ≡ n ∷ []
unfolding num zeros octets
one_octet p n lt =
    let low : n % 256 ≡ n = omega arith in
    rw (padding_one p, low) refl

num_good : (n : ℕ) → n < 256 → (num 1 1).good n ≡ true
unfolding num
num_good n lt = lt-ltb _ _ lt

num_below : (n : ℕ) → (num 1 1).good n ≡ true → n < 256
unfolding num
num_below n e = ltb-true _ _ e

module _ {A T : Type 0} (rule : ObjectRule) (tag_of : ℕ → Option T) (octet_of : T → ℕ) (tag : A → T) (branch : T → Format A)
    (below : (t : T) → octet_of t < 256) (again : (t : T) → tag_of (octet_of t) ≡ Some t) (back : (n : ℕ) (t : T) → tag_of n ≡ Some t → n ≡ octet_of t)
    (lawful : (t : T) → Lawful (branch t)) (only_there : (t : T) (a : A) → (branch t).good a ≡ true → tag a ≡ t) where
  F : Format A
  F = tagged rule tag_of octet_of tag branch

  chosen_taken : (s u : Spot) (n : ℕ) (o : Option T) → tag_of n ≡ o → Took s (n ∷ []) u → IsOctets u.rest → (a : A) (t : Spot) → chosen rule s.at branch o u ≡ Ok (a, t) → Taken (tagged rule tag_of octet_of tag branch) s a t
  chosen_taken s u n None e h fits a t r = absurd cc
  chosen_taken s u n (Some c) e h fits a t r =
      let k = (lawful c).taken u a t fits r in
      let same : tag a ≡ c = only_there c a k.good in
      let whole : Took s (n ∷ (branch c).spell u.at a) t = Took-then s (n ∷ []) u ((branch c).spell u.at a) t h k.took in
      let placed : Took s (n ∷ (branch c).spell (s.at + 1) a) t = subst (λ (q : ℕ). Took s (n ∷ (branch c).spell q a) t) h.place whole in
      let coded : Took s (octet_of c ∷ (branch c).spell (s.at + 1) a) t = subst (λ (m : ℕ). Took s (m ∷ (branch c).spell (s.at + 1) a) t) (back n c e) placed in
      record {
        good = subst (λ (d : T). (branch d).good a ≡ true) (sym same) k.good;
        took = subst (λ (d : T). Took s (octet_of d ∷ (branch d).spell (s.at + 1) a) t) (sym same) coded;
      }

  pub lawful_tagged : Lawful (tagged rule tag_of octet_of tag branch)
  lawful_tagged = record {
    again = λ a p rest good small.
        let c = tag a in
        let b = (branch c).spell (p + 1) a in
        let one : (num 1 1).read (spot p (octet_of c ∷ (b ++ rest))) ≡ Ok (octet_of c, spot (p + 1) (b ++ rest)) =
        subst (λ (w : List ℕ). (num 1 1).read (spot p (w ++ (b ++ rest))) ≡ Ok (octet_of c, spot (p + length w) (b ++ rest))) (one_octet p (octet_of c) (below c))
        ((lawful_num 1 1).again (octet_of c) p (b ++ rest) (num_good (octet_of c) (below c)) (omega (arith, length-num 1 1 p (octet_of c), padding_one p))) in
        then_ok _ one (ap (λ (o : Option T). chosen rule p branch o (spot (p + 1) (b ++ rest))) (again c) ∙ (lawful c).again a (p + 1) rest good (omega arith) ∙ ap (λ (n : ℕ). Ok (a, spot n rest)) (omega arith));
    taken = λ s a t fits e.
        let x = bind_ok ((num 1 1).read s) (λ n. chosen rule s.at branch (tag_of n.0) n.1) (a, t) e in
        let h = (lawful_num 1 1).taken s x.0.0 x.0.1 fits x.1 in
        let took : Took s (x.0.0 ∷ []) x.0.1 = subst (λ (w : List ℕ). Took s w x.0.1) (one_octet s.at x.0.0 (num_below x.0.0 h.good)) h.took in
        chosen_taken s x.0.1 x.0.0 (tag_of x.0.0) refl took (Took-octets s (x.0.0 ∷ []) x.0.1 took fits) a t x.2;
  }

-- ---- regions

pub not_true : (b : Bool) → not b ≡ true → b ≡ false
not_true true e = absurd cc
not_true false e = refl

pub num4_good : (n : ℕ) → n < 2 ^ 32 → (num 4 4).good n ≡ true
unfolding num
num4_good n lt = lt-ltb _ _ lt

pub behind_count : (p n : ℕ) → p + length ((num 4 4).spell p n) ≡ aligned 4 p + 4
unfolding aligned
behind_count p n = omega (arith, length-num 4 4 p n)

module _ {A : Type 0} (f : Format A) (F : Lawful f) where
  pub lawful_counted : Lawful (counted f)
  lawful_counted = record {
    again = λ x p rest good small.
        let q = aligned 4 p + 4 in
        let b = f.spell q x in
        let h = (num 4 4).spell p (length b) in
        let len : length (h ++ b) ≡ length h + length b = length-append h b in
        let at : p + length h ≡ q = behind_count p (length b) in
        let one : (num 4 4).read (spot p ((h ++ b) ++ rest)) ≡ Ok (length b, spot q (b ++ rest)) =
        ap (λ (c : List ℕ). (num 4 4).read (spot p c)) (append_assoc h b rest) ∙ (lawful_num 4 4).again (length b) p (b ++ rest) (num4_good (length b) (omega (arith, len))) (omega (arith, len)) ∙ ap (λ (n : ℕ). Ok (length b, spot n (b ++ rest))) at in
        let two : f.read (spot q (take (length b) (b ++ rest))) ≡ Ok (x, spot (q + length b) []) =
        ap (λ (c : List ℕ). f.read (spot q c)) (take_at b rest (length b) refl ∙ sym (append-nil b)) ∙ F.again x q [] good (omega (arith, len)) in
        let enough : ltb (length (b ++ rest)) (length b) ≡ false = le-ltb _ _ (omega (arith, length-append b rest)) in
        then_ok _ one (then_ok _ two (rw (enough, drop_at b rest (length b) refl) (ap (λ (n : ℕ). Ok (x, spot n rest)) (omega (arith, len, at)))));
    taken = λ s x t fits e.
        let n = bind_ok ((num 4 4).read s) (λ n. f.read (spot n.1.at (take n.0 n.1.rest)) >>= λ x. closed (aligned 4 s.at) n.0 n.1 x.1 >>= λ t. Ok (x.0, t)) (x, t) e in
        let h = (lawful_num 4 4).taken s n.0.0 n.0.1 fits n.1 in
        let outer = n.0.1.rest in
        let inner = spot n.0.1.at (take n.0.0 outer) in
        let y = bind_ok (f.read inner) (λ x. closed (aligned 4 s.at) n.0.0 n.0.1 x.1 >>= λ t. Ok (x.0, t)) (x, t) n.2 in
        let k = F.taken inner y.0.0 y.0.1 (IsOctets-take n.0.0 outer (Took-octets s ((num 4 4).spell s.at n.0.0) n.0.1 h.took fits)) y.1 in
        let end = spot (n.0.1.at + n.0.0) (drop n.0.0 outer) in
        let z = bind_ok (closed (aligned 4 s.at) n.0.0 n.0.1 y.0.1) (λ t. Ok (y.0.0, t)) (x, t) y.2 in
        let g = test_ok ((length y.0.1.rest == 0) && not (is_short outer n.0.0)) (record { at = aligned 4 s.at; rule = rules.Delimiter }) end z.0 z.1 in
        let tests = and_parts (length y.0.1.rest == 0) (not (is_short outer n.0.0)) g.0 in
        let none_left : y.0.1.rest ≡ [] = nil_from_length _ (eqb-true _ _ tests.0) in
        let enough : n.0.0 ≤ length outer = ltb-false _ _ (not_true _ tests.1) in
        let body : take n.0.0 outer ≡ f.spell n.0.1.at y.0.0 = k.took.parts ∙ ap (λ (c : List ℕ). f.spell n.0.1.at y.0.0 ++ c) none_left ∙ append-nil _ in
        let len : length (f.spell n.0.1.at y.0.0) ≡ n.0.0 = ap length (sym body) ∙ length-take-le n.0.0 outer enough in
        let second : Took n.0.1 (f.spell n.0.1.at y.0.0) end = record { parts = sym (take-append-drop n.0.0 outer) ∙ ap (λ (c : List ℕ). c ++ drop n.0.0 outer) body; place = ap (λ (m : ℕ). n.0.1.at + m) (sym len) } in
        let whole = Took-then s ((num 4 4).spell s.at n.0.0) n.0.1 (f.spell n.0.1.at y.0.0) end h.took second in
        let at : n.0.1.at ≡ aligned 4 s.at + 4 = h.took.place ∙ behind_count s.at n.0.0 in
        let counted_so : Took s ((num 4 4).spell s.at (length (f.spell n.0.1.at y.0.0)) ++ f.spell n.0.1.at y.0.0) end =
        subst (λ (m : ℕ). Took s ((num 4 4).spell s.at m ++ f.spell n.0.1.at y.0.0) end) (sym len) whole in
        let is : Taken (counted f) s y.0.0 end = record {
          good = k.good;
          took = subst (λ (q : ℕ). Took s ((num 4 4).spell s.at (length (f.spell q y.0.0)) ++ f.spell q y.0.0) end) at counted_so;
        } in
        subst (λ (w : A × Spot). Taken (counted f) s w.0 w.1) (ap (λ (e : Spot). (y.0.0, e)) g.1 ∙ ok_is (y.0.0, z.0) (x, t) z.2) is;
  }

  -- ---- one after another

  pub each_again : (xs : List A) (p : ℕ) (rest : List ℕ) → each_good f xs ≡ true → length (each_spelled f p xs) < 2 ^ 32 → each_at f (length xs) (spot p (each_spelled f p xs ++ rest)) ≡ Ok (xs, spot (p + length (each_spelled f p xs)) rest)
  unfolding each_at each_spelled each_good
  each_again [] p rest good small = ap (λ (n : ℕ). Ok ([], spot n rest)) (omega arith)
  each_again (x ∷ xs) p rest good small =
      let a = f.spell p x in
      let b = each_spelled f (p + length a) xs in
      let len : length (a ++ b) ≡ length a + length b = length-append a b in
      let goods = and_parts (f.good x) (each_good f xs) good in
      let one : f.read (spot p ((a ++ b) ++ rest)) ≡ Ok (x, spot (p + length a) (b ++ rest)) =
      ap (λ (c : List ℕ). f.read (spot p c)) (append_assoc a b rest) ∙ F.again x p (b ++ rest) goods.0 (omega (arith, len)) in
      then_ok _ one (then_ok _ (each_again xs (p + length a) rest goods.1 (omega (arith, len))) (ap (λ (n : ℕ). Ok (x ∷ xs, spot n rest)) (omega (arith, len))))

  pub each_taken : (n : ℕ) (s : Spot) (xs : List A) (t : Spot) → IsOctets s.rest → each_at f n s ≡ Ok (xs, t) → (each_good f xs ≡ true) × Took s (each_spelled f s.at xs) t × (length xs ≡ n)
  unfolding each_at each_spelled each_good
  each_taken zero s xs t fits e =
      subst (λ (w : List A × Spot). (each_good f w.0 ≡ true) × Took s (each_spelled f s.at w.0) w.1 × (length w.0 ≡ 0)) (ok_is ([], s) (xs, t) e) (refl, record { parts = refl; place = omega arith }, refl)
  each_taken (suc n) s xs t fits e =
      let x = bind_ok (f.read s) (λ x. each_at f n x.1 >>= λ xs. Ok (x.0 ∷ xs.0, xs.1)) (xs, t) e in
      let h = F.taken s x.0.0 x.0.1 fits x.1 in
      let y = bind_ok (each_at f n x.0.1) (λ xs. Ok (x.0.0 ∷ xs.0, xs.1)) (xs, t) x.2 in
      let k = each_taken n x.0.1 y.0.0 y.0.1 (Took-octets s (f.spell s.at x.0.0) x.0.1 h.took fits) y.1 in
      let took = Took-then s (f.spell s.at x.0.0) x.0.1 (each_spelled f x.0.1.at y.0.0) y.0.1 h.took k.1 in
      let placed = subst (λ (q : ℕ). Took s (f.spell s.at x.0.0 ++ each_spelled f q y.0.0) y.0.1) h.took.place took in
      subst (λ (w : List A × Spot). (each_good f w.0 ≡ true) × Took s (each_spelled f s.at w.0) w.1 × (length w.0 ≡ suc n)) (ok_is (x.0.0 ∷ y.0.0, y.0.1) (xs, t) y.2)
      (and_from (f.good x.0.0) (each_good f y.0.0) h.good k.0, placed, ap (λ (m : ℕ). suc m) k.2)

  each_long : ((p : ℕ) (x : A) → f.good x ≡ true → 0 < length (f.spell p x)) → (xs : List A) (p : ℕ) → each_good f xs ≡ true → length xs ≤ length (each_spelled f p xs)
  unfolding each_spelled each_good
  each_long filled [] p good = omega arith
  each_long filled (x ∷ xs) p good =
      let a = f.spell p x in
      let goods = and_parts (f.good x) (each_good f xs) good in
      omega (arith, length-append a (each_spelled f (p + length a) xs), filled p x goods.0, each_long filled xs (p + length a) goods.1)

  pub lawful_several : ((p : ℕ) (x : A) → f.good x ≡ true → 0 < length (f.spell p x)) → Lawful (several f)
  lawful_several filled = record {
    again = λ xs p rest good small.
        let q = aligned 4 p + 4 in
        let b = each_spelled f q xs in
        let h = (num 4 4).spell p (length xs) in
        let len : length (h ++ b) ≡ length h + length b = length-append h b in
        let at : p + length h ≡ q = behind_count p (length xs) in
        let few : length xs < 2 ^ 32 = omega (arith, each_long filled xs q good, len) in
        let one : (num 4 4).read (spot p ((h ++ b) ++ rest)) ≡ Ok (length xs, spot q (b ++ rest)) =
        ap (λ (c : List ℕ). (num 4 4).read (spot p c)) (append_assoc h b rest) ∙ (lawful_num 4 4).again (length xs) p (b ++ rest) (num4_good (length xs) few) (omega (arith, len)) ∙ ap (λ (n : ℕ). Ok (length xs, spot n (b ++ rest))) at in
        then_ok _ one (each_again xs q rest good (omega (arith, len)) ∙ ap (λ (n : ℕ). Ok (xs, spot n rest)) (omega (arith, len, at)));
    taken = λ s xs t fits e.
        let n = bind_ok ((num 4 4).read s) (λ n. each_at f n.0 n.1) (xs, t) e in
        let h = (lawful_num 4 4).taken s n.0.0 n.0.1 fits n.1 in
        let k = each_taken n.0.0 n.0.1 xs t (Took-octets s ((num 4 4).spell s.at n.0.0) n.0.1 h.took fits) n.2 in
        let whole = Took-then s ((num 4 4).spell s.at n.0.0) n.0.1 (each_spelled f n.0.1.at xs) t h.took k.1 in
        let at : n.0.1.at ≡ aligned 4 s.at + 4 = h.took.place ∙ behind_count s.at n.0.0 in
        let counted_so : Took s ((num 4 4).spell s.at (length xs) ++ each_spelled f n.0.1.at xs) t = subst (λ (m : ℕ). Took s ((num 4 4).spell s.at m ++ each_spelled f n.0.1.at xs) t) (sym k.2) whole in
        record { good = k.0; took = subst (λ (q : ℕ). Took s ((num 4 4).spell s.at (length xs) ++ each_spelled f q xs) t) at counted_so };
  }
