-- Parameter headers: the parameters that are spelled are those that are found.
use Rattle.std.proofs.Common.{◌≡◌, ℕ, zero, suc, ◌+◌, ◌^◌, ◌/◌, ◌%◌, ◌<◌, ◌≤◌, Bool, true, false, cond, List, [], ◌∷◌, ◌++◌, length, take, drop, Option, Some, None, Ok, refl, sym, ap, ap₂, ◌∙◌, append_assoc, arith, ◌==◌, ltb}
use Rattle.std.proofs.lemmas.Bool.{le-ltb, eq-eqb, ne_eqb}
use Rattle.std.proofs.lemmas.List.{length-append, append-nil, take_at, drop_at, drop-drop}
use Rattle.xt_shapes.specs.declared.leaves.Order.{Order}
use Rattle.xcdr_model.specs.declared.malformed.Why.TheVariants.{MemberId}
use Rattle.xcdr_model.specs.Numbers.{octets, number, padding}
use Rattle.xcdr_model.specs.Reading.{Reading, step, fault_at}
use Rattle.xcdr_model.specs.Spelling.{Then}
use Rattle.xcdr_model.specs.Xcdr1Reading.{block_at, Mark, mark_at, is_no_id, is_end, is_ignored, sized_at, params_at, checked_id, and_one}
use Rattle.xcdr_model.specs.Xcdr1Spelling.{Header, short_form, long_form, IsParam, IsIgnored, IsEnd, Params1, pieces}
use Rattle.xcdr_model.specs.Xcdr2Reading.{Piece}
use Rattle.shape_laws.proofs.Steps.{spot, then_ok, length-octets, number_again, step_is}

block_again : (n p : ℕ) (pad x rest : List ℕ) → length pad ≡ padding 4 p → length x ≡ n → block_at n (spot p (pad ++ (x ++ rest))) ≡ Ok (x, spot (p + (padding 4 p + n)) rest)
unfolding block_at
block_again n p pad x rest e d =
    let long : ltb (length (pad ++ (x ++ rest))) (padding 4 p + n) ≡ false = le-ltb _ _ (omega (arith, length-append pad (x ++ rest), length-append x rest)) in
    let len : length (pad ++ x) ≡ padding 4 p + n = omega (arith, length-append pad x) in
    let after : step (padding 4 p + n) (spot p (pad ++ (x ++ rest))) ≡ spot (p + (padding 4 p + n)) rest = ap (λ (c : List ℕ). step (padding 4 p + n) (spot p c)) (sym (append_assoc pad x rest)) ∙ step_is (pad ++ x) rest (padding 4 p + n) p len in
    rw (long, drop_at pad (x ++ rest) (padding 4 p) e, take_at x rest n d, after) refl

-- the first number of some octets
take_number : (o : Order) (k n : ℕ) (more : List ℕ) → n < 256 ^ k → number o (take k (octets o k n ++ more)) ≡ n
take_number o k n more lt = ap (number o) (take_at (octets o k n) more k (length-octets o k n)) ∙ number_again o k n lt

drop_octets : (o : Order) (k n : ℕ) (more : List ℕ) → drop k (octets o k n ++ more) ≡ more
drop_octets o k n more = drop_at (octets o k n) more k (length-octets o k n)

abbrev short_of : ℕ → ℕ → Mark
short_of w len = record { extended = false; id = w % 2 ^ 14; must = w / 2 ^ 14 % 2 == 1; length = len }

-- a header of the short form
pub short_again : (o : Order) (w len p : ℕ) (pad rest : List ℕ) → w < 2 ^ 16 → len < 2 ^ 16 → ((w % 2 ^ 14 == 0x3F01) ≡ false) → length pad ≡ padding 4 p
    → mark_at o (spot p (pad ++ ((octets o 2 w ++ octets o 2 len) ++ rest))) ≡ Ok (short_of w len, spot (p + (padding 4 p + 4)) rest)
unfolding mark_at
short_again o w len p pad rest lt lt2 other e =
    let h = octets o 2 w ++ octets o 2 len in
    let h-len : length h ≡ 4 = omega (arith, length-append (octets o 2 w) (octets o 2 len), length-octets o 2 w, length-octets o 2 len) in
    let one : number o (take 2 h) ≡ w = take_number o 2 w (octets o 2 len) (omega arith) in
    let tail : drop 2 h ≡ octets o 2 len ++ [] = drop_octets o 2 w (octets o 2 len) ∙ sym (append-nil (octets o 2 len)) in
    let two : number o (take 2 (drop 2 h)) ≡ len = ap (λ (c : List ℕ). number o (take 2 c)) tail ∙ take_number o 2 len [] (omega arith) in
    then_ok _ (block_again 4 p pad h rest e h-len) (rw (one, other, two) refl)

abbrev long_of : ℕ → ℕ → Mark
long_of n len = record { extended = true; id = n % 2 ^ 28; must = n / 2 ^ 30 % 2 == 1; length = len }

-- a header of the extended form
pub long_again : (o : Order) (w n len p : ℕ) (pad rest : List ℕ) → w < 2 ^ 16 → n < 2 ^ 32 → len < 2 ^ 32 → ((w % 2 ^ 14 == 0x3F01) ≡ true) → length pad ≡ padding 4 p
    → mark_at o (spot p (pad ++ ((octets o 2 w ++ (octets o 2 8 ++ (octets o 4 n ++ octets o 4 len))) ++ rest))) ≡ Ok (long_of n len, spot (p + (padding 4 p + 12)) rest)
unfolding mark_at
long_again o w n len p pad rest lt lt2 lt3 same e =
    let front = octets o 2 w ++ octets o 2 8 in
    let back = octets o 4 n ++ octets o 4 len in
    let h = octets o 2 w ++ (octets o 2 8 ++ back) in
    let split : h ≡ front ++ back = sym (append_assoc (octets o 2 w) (octets o 2 8) back) in
    let front-len : length front ≡ 4 = omega (arith, length-append (octets o 2 w) (octets o 2 8), length-octets o 2 w, length-octets o 2 8) in
    let back-len : length back ≡ 8 = omega (arith, length-append (octets o 4 n) (octets o 4 len), length-octets o 4 n, length-octets o 4 len) in
    let h-len : length h ≡ 12 = ap length split ∙ length-append front back ∙ omega arith in
    let four : block_at 4 (spot p (pad ++ (h ++ rest))) ≡ Ok (front, spot (p + (padding 4 p + 4)) (back ++ rest)) =
    ap (λ (c : List ℕ). block_at 4 (spot p (pad ++ c))) (ap (λ (c : List ℕ). c ++ rest) split ∙ append_assoc front back rest) ∙ block_again 4 p pad front (back ++ rest) e front-len in
    let word : number o (take 2 front) ≡ w = take_number o 2 w (octets o 2 8) (omega arith) in
    let eight : number o (take 2 (drop 2 h)) ≡ 8 = ap (λ (c : List ℕ). number o (take 2 c)) (drop_octets o 2 w (octets o 2 8 ++ back)) ∙ take_number o 2 8 back (omega arith) in
    let at4 : drop 4 h ≡ back = ap (drop 4) split ∙ drop_at front back 4 front-len in
    let id : number o (take 4 (drop 4 h)) ≡ n = ap (λ (c : List ℕ). number o (take 4 c)) at4 ∙ take_number o 4 n (octets o 4 len) (omega arith) in
    let at8 : drop 8 h ≡ octets o 4 len ++ [] = sym (drop-drop 4 4 h) ∙ ap (drop 4) at4 ∙ drop_octets o 4 n (octets o 4 len) ∙ sym (append-nil (octets o 4 len)) in
    let size : number o (take 4 (drop 8 h)) ≡ len = ap (λ (c : List ℕ). number o (take 4 c)) at8 ∙ take_number o 4 len [] (omega arith) in
    then_ok _ four (rw (word, same) (then_ok _ (block_again 12 p pad h rest e h-len) (rw (eight, id, size) refl)))

-- ---- a member's header

pub record Marks (o : Order) (q : Piece) (p : ℕ) (b rest : List ℕ) : Type 0 where
  pub mark : Mark
  pub read : mark_at o (spot p (b ++ rest)) ≡ Ok (mark, spot q.content.at (q.content.rest ++ rest))
  pub id : mark.id ≡ q.id
  pub must : mark.must ≡ q.must
  pub size : mark.length ≡ length q.content.rest
  pub no_end : is_end mark ≡ false
  pub no_ignored : is_ignored mark ≡ false
  pub has_id : is_no_id mark ≡ false

pub head_again : (o : Order) (q : Piece) (p : ℕ) (b rest : List ℕ) → IsParam o q p b → Marks o q p b rest
head_again o q p b rest h = by_form h.form refl
  where
    by_form : Header o q.id (length q.content.rest) q.must h.head → h.head ≡ h.head → Marks o q p b rest
    by_form (short_form w lt low mark len-fits small e) d =
        let other : (w % 2 ^ 14 == 0x3F01) ≡ false = ne_eqb _ _ (λ z. omega arith) in
        let head : length h.head ≡ 4 = ap length e ∙ omega (arith, length-append (octets o 2 w) (octets o 2 (length q.content.rest)), length-octets o 2 w, length-octets o 2 (length q.content.rest)) in
        let at : p + (padding 4 p + 4) ≡ q.content.at = omega (arith, h.content_is, h.aligned) in
        let parts : b ++ rest ≡ h.pad ++ ((octets o 2 w ++ octets o 2 (length q.content.rest)) ++ (q.content.rest ++ rest)) = rw (h.parts, e) (simp append_assoc) in
        record {
          mark = short_of w (length q.content.rest);
          read = ap (λ (c : List ℕ). mark_at o (spot p c)) parts ∙ short_again o w (length q.content.rest) p h.pad (q.content.rest ++ rest) lt len-fits other h.aligned ∙ ap (λ (n : ℕ). Ok (short_of w (length q.content.rest), spot n (q.content.rest ++ rest))) at;
          id = low;
          must = mark;
          size = refl;
          no_end = ne_eqb _ _ (λ z. omega arith);
          no_ignored = ne_eqb _ _ (λ z. omega arith);
          has_id = le-ltb _ _ (omega arith);
        }
    by_form (long_form w n lt word n-fits low mark len-fits small e) d =
        let same : (w % 2 ^ 14 == 0x3F01) ≡ true = eq-eqb _ _ word in
        let back = octets o 4 n ++ octets o 4 (length q.content.rest) in
        let head : length h.head ≡ 12 = ap length e ∙ omega (arith, length-append (octets o 2 w) (octets o 2 8 ++ back), length-append (octets o 2 8) back, length-append (octets o 4 n) (octets o 4 (length q.content.rest)), length-octets o 2 w, length-octets o 2 8, length-octets o 4 n, length-octets o 4 (length q.content.rest)) in
        let at : p + (padding 4 p + 12) ≡ q.content.at = omega (arith, h.content_is, h.aligned) in
        let parts : b ++ rest ≡ h.pad ++ ((octets o 2 w ++ (octets o 2 8 ++ back)) ++ (q.content.rest ++ rest)) = rw (h.parts, e) (simp append_assoc) in
        record {
          mark = long_of n (length q.content.rest);
          read = ap (λ (c : List ℕ). mark_at o (spot p c)) parts ∙ long_again o w n (length q.content.rest) p h.pad (q.content.rest ++ rest) lt n-fits len-fits same h.aligned ∙ ap (λ (m : ℕ). Ok (long_of n (length q.content.rest), spot m (q.content.rest ++ rest))) at;
          id = low;
          must = mark;
          size = refl;
          no_end = refl;
          no_ignored = refl;
          has_id = ne_eqb _ _ (λ z. omega arith);
        }

abbrev made : ℕ → ℕ → ℕ → Bool → List ℕ → Piece
made hd id at must c = record { header = hd; id = id; must = must; content = record { at = at; rest = c } }

same_piece : (q : Piece) (hd id at : ℕ) (must : Bool) (c : List ℕ) → hd ≡ q.header → id ≡ q.id → must ≡ q.must → at ≡ q.content.at → c ≡ q.content.rest → made hd id at must c ≡ q
same_piece q hd id at must c e1 e2 e3 e4 e5 = rw (e1, e2, e3, e4, e5) refl

-- the content of any header
content_again : (header : ℕ) (m : Mark) (at : ℕ) (c rest : List ℕ) → m.length ≡ length c → sized_at header m (spot at (c ++ rest)) ≡ Ok (made header m.id at m.must c, spot (at + length c) rest)
unfolding sized_at
content_again header m at c rest e =
    let long : ltb (length (c ++ rest)) (length c) ≡ false = le-ltb _ _ (omega (arith, length-append c rest)) in
    rw (e, long, take_at c rest (length c) refl, step_is c rest (length c) at refl) refl

pub sized_again : (o : Order) (q : Piece) (p : ℕ) (b rest : List ℕ) (h : IsParam o q p b) (k : Marks o q p b rest) → sized_at (p + padding 4 p) k.mark (spot q.content.at (q.content.rest ++ rest)) ≡ Ok (q, spot (p + length b) rest)
sized_again o q p b rest h k =
    let past : q.content.at + length q.content.rest ≡ p + length b = omega (arith, h.content_is, ap length h.parts ∙ length-append h.pad (h.head ++ q.content.rest), length-append h.head q.content.rest) in
    content_again (p + padding 4 p) k.mark q.content.at q.content.rest rest k.size
    ∙ ap₂ (λ (r : Piece) (n : ℕ). Ok (r, spot n rest)) (same_piece q (p + padding 4 p) k.mark.id q.content.at k.mark.must q.content.rest (sym h.header_is) k.id k.must refl refl) past

header_long : (o : Order) (q : Piece) (h : List ℕ) → Header o q.id (length q.content.rest) q.must h → 4 ≤ length h
header_long o q h (short_form w lt low mark len-fits small e) = omega (arith, ap length e ∙ length-append (octets o 2 w) (octets o 2 (length q.content.rest)), length-octets o 2 w, length-octets o 2 (length q.content.rest))
header_long o q h (long_form w n lt word n-fits low mark len-fits small e) =
    let back = octets o 4 n ++ octets o 4 (length q.content.rest) in
    omega (arith, ap length e ∙ length-append (octets o 2 w) (octets o 2 8 ++ back), length-append (octets o 2 8) back, length-octets o 2 w, length-octets o 2 8)

pub param_long : (o : Order) (q : Piece) (p : ℕ) (b : List ℕ) → IsParam o q p b → 4 ≤ length b
param_long o q p b h = omega (arith, ap length h.parts ∙ length-append h.pad (h.head ++ q.content.rest), length-append h.head q.content.rest, header_long o q h.head h.form)

pub end_long : (o : Order) (p : ℕ) (b : List ℕ) → IsEnd o p b → 4 ≤ length b
end_long o p b h = omega (arith, ap length h.parts ∙ length-append h.pad (octets o 2 h.w ++ octets o 2 h.len), length-append (octets o 2 h.w) (octets o 2 h.len), length-octets o 2 h.w, length-octets o 2 h.len)

at_left : (P Q : ℕ → List ℕ → Type 0) (p : ℕ) (b rest : List ℕ) (h : Then P Q p b) → b ++ rest ≡ h.left ++ (h.right ++ rest)
at_left P Q p b rest h = ap (λ (c : List ℕ). c ++ rest) h.parts ∙ append_assoc h.left h.right rest

pub params_again : (o : Order) (qs : List (Option Piece)) (n p : ℕ) (b rest : List ℕ) → length b < n → Params1 o qs p b → params_at o n (spot p (b ++ rest)) ≡ (pieces qs, Ok (spot (p + length b) rest))
unfolding params_at
params_again o qs zero p b rest lt h = absurd (omega arith)
params_again o [] (suc n) p b rest lt h =
    let other : (h.w % 2 ^ 14 == 0x3F01) ≡ false = ne_eqb _ _ (λ z. omega (arith, h.word)) in
    let here : (h.w % 2 ^ 14 == 0x3F02) ≡ true = eq-eqb _ _ h.word in
    let x = octets o 2 h.w ++ octets o 2 h.len in
    let parts : b ++ rest ≡ h.pad ++ (x ++ rest) = rw h.parts (append_assoc h.pad x rest) in
    let past : p + (padding 4 p + 4) ≡ p + length b = omega (arith, h.aligned, ap length h.parts ∙ length-append h.pad x, length-append (octets o 2 h.w) (octets o 2 h.len), length-octets o 2 h.w, length-octets o 2 h.len) in
    let read : mark_at o (spot p (b ++ rest)) ≡ Ok (short_of h.w h.len, spot (p + length b) rest) =
    ap (λ (c : List ℕ). mark_at o (spot p c)) parts ∙ short_again o h.w h.len p h.pad rest h.word_fits h.fits other h.aligned ∙ ap (λ (m : ℕ). Ok (short_of h.w h.len, spot m rest)) past in
    rw (read, here) refl
params_again o (None ∷ qs) (suc n) p b rest lt h =
    let g = h.one in
    let x = octets o 2 g.w ++ octets o 2 (length g.more) in
    let other : (g.w % 2 ^ 14 == 0x3F01) ≡ false = ne_eqb _ _ (λ z. omega (arith, g.word)) in
    let no_end : (g.w % 2 ^ 14 == 0x3F02) ≡ false = ne_eqb _ _ (λ z. omega (arith, g.word)) in
    let here : (g.w % 2 ^ 14 == 0x3F03) ≡ true = eq-eqb _ _ g.word in
    let x-len : length x ≡ 4 = omega (arith, length-append (octets o 2 g.w) (octets o 2 (length g.more)), length-octets o 2 g.w, length-octets o 2 (length g.more)) in
    let left-len : length h.left ≡ padding 4 p + 4 + length g.more = omega (arith, g.aligned, ap length g.parts ∙ length-append g.pad (x ++ g.more), length-append x g.more) in
    let len : length b ≡ length h.left + length h.right = ap length h.parts ∙ length-append h.left h.right in
    let parts : b ++ rest ≡ g.pad ++ (x ++ (g.more ++ (h.right ++ rest))) = at_left (IsIgnored o) (Params1 o qs) p b rest h ∙ ap (λ (c : List ℕ). c ++ (h.right ++ rest)) g.parts ∙ simp append_assoc in
    let read : mark_at o (spot p (b ++ rest)) ≡ Ok (short_of g.w (length g.more), spot (p + (padding 4 p + 4)) (g.more ++ (h.right ++ rest))) =
    ap (λ (c : List ℕ). mark_at o (spot p c)) parts ∙ short_again o g.w (length g.more) p g.pad (g.more ++ (h.right ++ rest)) g.word_fits g.fits other g.aligned in
    let past : p + (padding 4 p + 4) + length g.more ≡ p + length h.left = omega arith in
    let sized = content_again (p + padding 4 p) (short_of g.w (length g.more)) (p + (padding 4 p + 4)) g.more (h.right ++ rest) refl ∙ ap (λ (m : ℕ). Ok (made (p + padding 4 p) (g.w % 2 ^ 14) (p + (padding 4 p + 4)) (g.w / 2 ^ 14 % 2 == 1) g.more, spot m (h.right ++ rest))) past in
    let more = params_again o qs n (p + length h.left) h.right rest (omega arith) h.two in
    let all : p + length h.left + length h.right ≡ p + length b = omega arith in
    rw (read, no_end, here, sized) (more ∙ ap (λ (m : ℕ). (pieces qs, Ok (spot m rest))) all)
params_again o (Some q ∷ qs) (suc n) p b rest lt h =
    let k = head_again o q p h.left (h.right ++ rest) h.one in
    let len : length b ≡ length h.left + length h.right = ap length h.parts ∙ length-append h.left h.right in
    let read : mark_at o (spot p (b ++ rest)) ≡ Ok (k.mark, spot q.content.at (q.content.rest ++ (h.right ++ rest))) = ap (λ (c : List ℕ). mark_at o (spot p c)) (at_left (IsParam o q) (Params1 o qs) p b rest h) ∙ k.read in
    let sized = sized_again o q p h.left (h.right ++ rest) h.one k in
    let more = params_again o qs n (p + length h.left) h.right rest (omega (arith, param_long o q p h.left h.one)) h.two in
    let all : p + length h.left + length h.right ≡ p + length b = omega arith in
    let checked : checked_id (p + padding 4 p) k.mark ≡ Ok k.mark = ap (λ (c : Bool). cond c (fault_at (p + padding 4 p) MemberId) (Ok k.mark)) k.has_id in
    rw (read, k.no_end, k.no_ignored) (ap (λ (r : Reading Piece). and_one r (λ s1. params_at o n s1)) (then_ok _ checked sized) ∙ rw (more, all) refl)
