-- What the writer appends, part by part.
use Rattle.std.proofs.Common.{◌≡◌, ℕ, zero, suc, ◌+◌, ◌-◌, ◌/◌, ◌%◌, ◌<◌, ◌≤◌, List, [], ◌∷◌, ◌++◌, length, take, drop, refl, sym, ap, ◌∙◌, append_assoc, arith}
use Rattle.std.specs.Prelude.{Bool, Result, Ok, Err, IfOk}
use Rattle.xt_lists.specs.declared.memory.OutOfMemory.{OutOfMemory}
use Rattle.object_writer.specs.Writing.{Writes}
use Rattle.std.specs.Int.{w16, w32, to_le_bytes}
use Rattle.std.proofs.lemmas.List.{length-append, append-nil, take_at, drop_at}
use Rattle.object_formats.specs.Objects.{Identifier}
use Rattle.object_formats.specs.Tables as T
use Rattle.object_formats.specs.Octets.{octets, zeros, padding}
use Rattle.object_formats.specs.Format.{Format, num, text, aligned, each_spelled, several, counted, both, before, behind}
use Rattle.object_formats.proofs.Lawful.{length-num}
use Rattle.object_formats.proofs.Combined.{behind_count}

-- one after the other
pub join : (old a b : List ℕ) → old ++ (a ++ b) ≡ (old ++ a) ++ b
join old a b = sym (append_assoc old a b)

pub zeros_more : (n : ℕ) → zeros (n + 1) ≡ zeros n ++ 0 ∷ []
unfolding zeros
zeros_more zero = refl
zeros_more (suc n) = ap zeros (let e : suc n + 1 ≡ suc (n + 1) = omega arith in e) ∙ ap (λ (c : List ℕ). 0 ∷ c) (zeros_more n)

-- where a call was answered, what follows from what it did
on_ok : {X P Q : Type 0} (result : Result X OutOfMemory) → (P → Q) → IfOk result (λ u. P) → IfOk result (λ u. Q)
on_ok (Ok x) f p = f p
on_ok (Err e) f p = tt

-- ---- numbers, as std writes them

pub octets_two : (n : ℕ) → to_le_bytes w16 n ≡ octets 2 n
unfolding octets
octets_two n = refl

pub octets_four : (n : ℕ) → to_le_bytes w32 n ≡ octets 4 n
unfolding octets
octets_four n =
    let third : n / 256 / 256 ≡ n / 65536 = omega arith in
    let fourth : n / 65536 / 256 ≡ n / 16777216 = omega arith in
    rw (third, fourth) refl

no_padding : (p : ℕ) → padding 1 p ≡ 0
unfolding padding
no_padding p = omega arith

pub spell_octet : (p n : ℕ) → n < 256 → (num 1 1).spell p n ≡ n ∷ []
unfolding num octets zeros
spell_octet p n lt = ap (λ (k : ℕ). zeros k ++ n % 256 ∷ []) (no_padding p) ∙ ap (λ (m : ℕ). m ∷ []) (omega arith)

pub spell_loose : (p n : ℕ) → (num 1 4).spell p n ≡ octets 4 n
unfolding num zeros
spell_loose p n = ap (λ (k : ℕ). zeros k ++ octets 4 n) (no_padding p)

pub low_octet : (p n : ℕ) → (num 1 1).spell p (n % 256) ≡ (num 1 1).spell p n
unfolding num octets
low_octet p n = ap (λ (m : ℕ). zeros (padding 1 p) ++ m ∷ []) (omega arith)

pub nothing_more : (t : List ℕ) → t ≡ t ++ []
nothing_more t = sym (append-nil t)

-- a slice of all octets, after it was written
pub written_whole : (n : ℕ) (new old : List ℕ) → n ≡ length old → length new ≡ length old → take n (new ++ drop (length new) old) ≡ new
written_whole n new old e h = take_at new (drop (length new) old) n (omega arith)

pub count_has_four : (p n : ℕ) → 4 ≤ length ((num 4 4).spell p n)
count_has_four p n = omega (arith, length-num 4 4 p n)

-- ---- one part after another

pub then : (a : List ℕ) (g : ℕ → List ℕ) (t0 t1 t2 : List ℕ) → t1 ≡ t0 ++ a → t2 ≡ t1 ++ g (length t1) → t2 ≡ t0 ++ (a ++ g (length t0 + length a))
then a g t0 t1 t2 e f =
    let at : length t1 ≡ length t0 + length a = omega (arith, ap length e, length-append t0 a) in
    f ∙ ap (λ (q : ℕ). t1 ++ g q) at ∙ ap (λ (c : List ℕ). c ++ g (length t0 + length a)) e ∙ append_assoc t0 a _

pub then_both : {A B : Type 0} (f : Format A) (g : Format B) (x : A) (y : B) (t0 t1 t2 : List ℕ) → t1 ≡ t0 ++ f.spell (length t0) x → t2 ≡ t1 ++ g.spell (length t1) y → t2 ≡ t0 ++ (both f g).spell (length t0) (x, y)
then_both f g x y t0 t1 t2 e h = then (f.spell (length t0) x) (λ q. g.spell q y) t0 t1 t2 e h

pub then_before : {A : Type 0} (u : Format (Unit {0})) (f : Format A) (x : A) (t0 t1 t2 : List ℕ) → t1 ≡ t0 ++ u.spell (length t0) tt → t2 ≡ t1 ++ f.spell (length t1) x → t2 ≡ t0 ++ (before u f).spell (length t0) x
then_before u f x t0 t1 t2 e h = then (u.spell (length t0) tt) (λ q. f.spell q x) t0 t1 t2 e h

pub then_behind : {A : Type 0} (f : Format A) (u : Format (Unit {0})) (x : A) (t0 t1 t2 : List ℕ) → t1 ≡ t0 ++ f.spell (length t0) x → t2 ≡ t1 ++ u.spell (length t1) tt → t2 ≡ t0 ++ (behind f u).spell (length t0) x
then_behind f u x t0 t1 t2 e h = then (f.spell (length t0) x) (λ q. u.spell q tt) t0 t1 t2 e h

-- a tag of one octet, and what follows it
pub then_tag : (o : ℕ) (g : ℕ → List ℕ) (t0 t1 t2 : List ℕ) → t1 ≡ t0 ++ o ∷ [] → t2 ≡ t1 ++ g (length t1) → t2 ≡ t0 ++ o ∷ g (length t0 + 1)
then_tag o g t0 t1 t2 e h = then (o ∷ []) g t0 t1 t2 e h

-- the same where the last part is a call's answer
module _ {X : Type 0} (result : Result X OutOfMemory) where
  pub word_written : (n : ℕ) (bytes t0 t1 t2 : List ℕ) → bytes ≡ octets 4 n → t1 ≡ t0 ++ zeros (padding 4 (length t0)) → IfOk result (λ u. t2 ≡ t1 ++ bytes) → Writes (num 4 4) n t0 result t2
  unfolding num
  word_written n bytes t0 t1 t2 is e = on_ok result (λ h. h ∙ ap (λ (b : List ℕ). t1 ++ b) is ∙ ap (λ (b : List ℕ). b ++ octets 4 n) e ∙ append_assoc t0 _ (octets 4 n))

  pub both_written : {A B : Type 0} (f : Format A) (g : Format B) (x : A) (y : B) (t0 t1 t2 : List ℕ) → t1 ≡ t0 ++ f.spell (length t0) x → Writes g y t1 result t2 → Writes (both f g) (x, y) t0 result t2
  both_written f g x y t0 t1 t2 e = on_ok result (then_both f g x y t0 t1 t2 e)

  pub before_written : {A : Type 0} (u : Format (Unit {0})) (f : Format A) (x : A) (t0 t1 t2 : List ℕ) → t1 ≡ t0 ++ u.spell (length t0) tt → Writes f x t1 result t2 → Writes (before u f) x t0 result t2
  before_written u f x t0 t1 t2 e = on_ok result (then_before u f x t0 t1 t2 e)

  pub text_written : (x : List ℕ) (n : ℕ) (t0 t1 t2 t3 : List ℕ) → n ≡ length x + 1 → t1 ≡ t0 ++ (num 4 4).spell (length t0) n → t2 ≡ t1 ++ x → Writes (num 1 1) 0 t2 result t3 → Writes text x t0 result t3
  unfolding text
  text_written x n t0 t1 t2 t3 is counted octets = on_ok result (λ h.
      h ∙ ap (λ (b : List ℕ). t2 ++ b) (spell_octet (length t2) 0 (omega arith)) ∙ ap (λ (b : List ℕ). b ++ 0 ∷ []) (octets ∙ ap (λ (b : List ℕ). b ++ x) (counted ∙ ap (λ (m : ℕ). t0 ++ (num 4 4).spell (length t0) m) is))
      ∙ append_assoc (t0 ++ _) x (0 ∷ []) ∙ append_assoc t0 _ (x ++ 0 ∷ []))

-- ---- one item after another

pub none_yet : {A : Type 0} (f : Format A) (p : ℕ) (xs : List A) (t : List ℕ) → xs ≡ [] → t ≡ t ++ each_spelled f p xs
unfolding each_spelled
none_yet f p xs t e = rw e (sym (append-nil t))

each_more : {A : Type 0} (f : Format A) (p : ℕ) (xs : List A) (x : A) → each_spelled f p (xs ++ x ∷ []) ≡ each_spelled f p xs ++ f.spell (p + length (each_spelled f p xs)) x
unfolding each_spelled
each_more f p [] x = append-nil _ ∙ ap (λ (q : ℕ). f.spell q x) (omega arith)
each_more f p (y ∷ ys) x =
    let a = f.spell p y in
    let b = each_spelled f (p + length a) ys in
    ap (λ (c : List ℕ). a ++ c) (each_more f (p + length a) ys x) ∙ sym (append_assoc a b _) ∙ ap (λ (q : ℕ). (a ++ b) ++ f.spell q x) (omega (arith, length-append a b))

pub one_more : {A : Type 0} (f : Format A) (xs ys : List A) (x : A) (t0 t1 t2 : List ℕ) → t1 ≡ t0 ++ each_spelled f (length t0) xs → t2 ≡ t1 ++ f.spell (length t1) x → ys ≡ xs ++ x ∷ [] → t2 ≡ t0 ++ each_spelled f (length t0) ys
one_more f xs ys x t0 t1 t2 inv e is =
    then _ (λ q. f.spell q x) t0 t1 t2 inv e ∙ ap (λ (c : List ℕ). t0 ++ c) (sym (each_more f (length t0) xs x) ∙ ap (each_spelled f (length t0)) (sym is))

then_several : {A : Type 0} (f : Format A) (n : ℕ) (xs : List A) (t0 t1 t2 : List ℕ) → n ≡ length xs → t1 ≡ t0 ++ (num 4 4).spell (length t0) n → t2 ≡ t1 ++ each_spelled f (length t1) xs → t2 ≡ t0 ++ (several f).spell (length t0) xs
then_several f n xs t0 t1 t2 is e h =
    then _ (λ q. each_spelled f q xs) t0 t1 t2 e h
    ∙ ap (λ (q : ℕ). t0 ++ ((num 4 4).spell (length t0) n ++ each_spelled f q xs)) (behind_count (length t0) n)
    ∙ ap (λ (m : ℕ). t0 ++ ((num 4 4).spell (length t0) m ++ each_spelled f (aligned 4 (length t0) + 4) xs)) is

pub several_written : {A X : Type 0} (result : Result X OutOfMemory) (f : Format A) (n : ℕ) (xs ys : List A) (t0 t1 t2 : List ℕ) → n ≡ length ys → xs ≡ ys → t1 ≡ t0 ++ (num 4 4).spell (length t0) n → IfOk result (λ u. t2 ≡ t1 ++ each_spelled f (length t1) xs) → Writes (several f) ys t0 result t2
several_written result f n xs ys t0 t1 t2 is same e = on_ok result (λ h. then_several f n ys t0 t1 t2 is e (h ∙ ap (λ zs. t1 ++ each_spelled f (length t1) zs) same))

-- ---- a region behind the count of its octets

-- the count is put in place once the region is whole
recounted : (front c : List ℕ) (start : ℕ) (filled closed : List ℕ) → start ≡ length front + 4 → filled ≡ (front ++ octets 4 0) ++ c → closed ≡ take (start - 4) filled ++ (octets 4 (length filled - start) ++ drop start filled) → closed ≡ front ++ (octets 4 (length c) ++ c)
unfolding octets
recounted front c start filled closed is e h =
    let four : length (front ++ octets 4 0) ≡ length front + 4 = length-append front (octets 4 0) in
    let all : length filled ≡ length front + 4 + length c = ap length e ∙ length-append (front ++ octets 4 0) c ∙ ap (λ (n : ℕ). n + length c) four in
    let before : take (start - 4) filled ≡ front = ap (take (start - 4)) (e ∙ append_assoc front (octets 4 0) c) ∙ take_at front (octets 4 0 ++ c) (start - 4) (omega arith) in
    let behind : drop start filled ≡ c = ap (drop start) e ∙ drop_at (front ++ octets 4 0) c start (omega arith) in
    let count : length filled - start ≡ length c = omega arith in
    h ∙ ap (λ (b : List ℕ). b ++ (octets 4 (length filled - start) ++ drop start filled)) before ∙ ap (λ (n : ℕ). front ++ (octets 4 n ++ drop start filled)) count ∙ ap (λ (b : List ℕ). front ++ (octets 4 (length c) ++ b)) behind

region_is : {A : Type 0} (f : Format A) (x : A) (start : ℕ) (t0 t1 t2 t3 : List ℕ) → t1 ≡ t0 ++ (num 4 4).spell (length t0) 0 → start ≡ length t1 → t2 ≡ t1 ++ f.spell (length t1) x → t3 ≡ take (start - 4) t2 ++ (octets 4 (length t2 - start) ++ drop start t2) → t3 ≡ t0 ++ (counted f).spell (length t0) x
unfolding num aligned octets
region_is f x start t0 t1 t2 t3 opened at filled closed =
    let front = t0 ++ zeros (padding 4 (length t0)) in
    let place = aligned 4 (length t0) + 4 in
    let p1 : length t1 ≡ place = ap length opened ∙ length-append t0 _ ∙ behind_count (length t0) 0 in
    let e1 : t1 ≡ front ++ octets 4 0 = opened ∙ sym (append_assoc t0 _ (octets 4 0)) in
    let c = f.spell place x in
    let e2 : t2 ≡ (front ++ octets 4 0) ++ c = filled ∙ ap (λ (q : ℕ). t1 ++ f.spell q x) p1 ∙ ap (λ (b : List ℕ). b ++ c) e1 in
    let four : length (front ++ octets 4 0) ≡ length front + 4 = length-append front (octets 4 0) in
    recounted front c start t2 t3 (at ∙ ap length e1 ∙ four) e2 closed ∙ append_assoc t0 (zeros (padding 4 (length t0))) _ ∙ ap (λ (b : List ℕ). t0 ++ b) (sym (append_assoc (zeros (padding 4 (length t0))) (octets 4 (length c)) c))

pub region_written : {A X : Type 0} (result : Result X OutOfMemory) (f : Format A) (x : A) (start : ℕ) (t0 t1 t2 t3 : List ℕ) → t1 ≡ t0 ++ (num 4 4).spell (length t0) 0 → start ≡ length t1 → t2 ≡ t1 ++ f.spell (length t1) x → IfOk result (λ u. t3 ≡ take (start - 4) t2 ++ (octets 4 (length t2 - start) ++ drop start t2)) → Writes (counted f) x t0 result t3
region_written result f x start t0 t1 t2 t3 opened at filled = on_ok result (region_is f x start t0 t1 t2 t3 opened at filled)

-- ---- identifiers

nested_is : (complete : Bool) (deep d o : ℕ) (x : Identifier) (t0 t1 t2 : List ℕ) → deep ≡ suc d → o ≡ T.code_octet complete (T.code x) → t1 ≡ t0 ++ o ∷ [] → t2 ≡ t1 ++ (T.branch complete (T.nested complete d) (T.code x)).spell (length t1) x → t2 ≡ t0 ++ (T.nested complete deep).spell (length t0) x
unfolding T.nested
nested_is complete deep d o x t0 t1 t2 n is e h =
    let one : t2 ≡ t0 ++ (T.nested complete (suc d)).spell (length t0) x = then_tag (T.code_octet complete (T.code x)) (λ q. (T.branch complete (T.nested complete d) (T.code x)).spell q x) t0 t1 t2 (e ∙ ap (λ (m : ℕ). t0 ++ m ∷ []) is) h in
    one ∙ ap (λ (m : ℕ). t0 ++ (T.nested complete m).spell (length t0) x) (sym n)

pub nested_written : {X : Type 0} (result : Result X OutOfMemory) (complete : Bool) (deep d o : ℕ) (x : Identifier) (t0 t1 t2 : List ℕ) → deep ≡ suc d → o ≡ T.code_octet complete (T.code x) → t1 ≡ t0 ++ o ∷ [] → Writes (T.branch complete (T.nested complete d) (T.code x)) x t1 result t2 → Writes (T.nested complete deep) x t0 result t2
nested_written result complete deep d o x t0 t1 t2 n is e = on_ok result (nested_is complete deep d o x t0 t1 t2 n is e)
