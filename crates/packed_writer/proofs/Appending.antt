-- Octets appended in parts.
use Rattle.std.proofs.Common.{◌≡◌, refl, sym, ap, ◌∙◌, subst, Bool, true, false, cond, ◌*◌, ◌^◌, ℕ, Option, Some, None, IfSome, ◌+◌, ◌-◌, List, [], ◌++◌, length, take, drop, replicate, arith, append_assoc, append-nil, length-append}
use Rattle.std.proofs.Math.Seq.{take-append_seam, drop-append_seam}
use Rattle.xt_shapes.specs.declared.leaves.Order.TheVariants.{Little}
use Rattle.xt_shapes.specs.Select.{is_must}
use Rattle.xt_shapes.specs.Shape.{Head}
use Rattle.xcdr_model.specs.FixedSpelling.{Fixed, nothing, number_fixed, then_fixed, headed_fixed, param_fixed}
use Rattle.xcdr_model.specs.Numbers.{octets, padding}
use Rattle.xcdr_model.specs.Xcdr2Spelling.{bit}
use Rattle.xt_wire.specs.writer.Writing.{padding_fixed}
use Rattle.xcdr_writer.specs.Parts.{is_short, short_header, long_header}
use Rattle.xt_wire.proofs.OfWriter.NumberSteps.{length-octets}
use Rattle.xt_wire.proofs.OfWriter.Puts.{length-number}
use Rattle.packed_writer.specs.Appending.{Begun, IsAt, Appends, Counts}
use Rattle.packed_writer.specs.Params.{short_begun, long_begun}

pub at_end : (f : Fixed) (a b : Begun) (p : ℕ) → IsAt a p → Appends f a b → IsAt b (p + length (f p))
at_end f a b p at w = omega (arith, ap length (w.octets p at), length-append a.octets (f p), at, w.origin)

pub same_at : (f g : Fixed) {a b : Begun} → ((p : ℕ) → IsAt a p → f p ≡ g p) → Appends g a b → Appends f a b
same_at f g {a} {b} e w = record { origin = w.origin; octets = λ p at. w.octets p at ∙ ap (λ (l : List ℕ). a.octets ++ l) (sym (e p at)) }

pub same : (f g : Fixed) {a b : Begun} → ((p : ℕ) → f p ≡ g p) → Appends g a b → Appends f a b
same f g {a} {b} e w = record { origin = w.origin; octets = λ p at. w.octets p at ∙ ap (λ (l : List ℕ). a.octets ++ l) (sym (e p)) }

pub none : (a : Begun) → Appends nothing a a
none a = record { origin = refl; octets = λ p at. sym (append-nil a.octets) }

pub two : (f g : Fixed) {a b c : Begun} → Appends f a b → Appends g b c → Appends (then_fixed f g) a c
unfolding then_fixed
two f g {a} {b} {c} w v = record {
  origin = v.origin ∙ w.origin;
  octets = λ p at.
      let q = p + length (f p) in
      v.octets q (at_end f a b p at w) ∙ ap (λ (l : List ℕ). l ++ g q) (w.octets p at) ∙ append_assoc a.octets (f p) (g q);
}

-- ---- calls that may answer None

pub some_at : {T : Type 0} (r : Option T) (a b : Begun) (f g : Fixed) → ((p : ℕ) → IsAt a p → f p ≡ g p) → IfSome r (λ t. Appends g a b) → IfSome r (λ t. Appends f a b)
some_at None a b f g e w = tt
some_at (Some t) a b f g e w = same_at f g e w

pub some_same : {T : Type 0} (r : Option T) (a b : Begun) (f g : Fixed) → ((p : ℕ) → f p ≡ g p) → IfSome r (λ t. Appends g a b) → IfSome r (λ t. Appends f a b)
some_same r a b f g e w = some_at r a b f g (λ p at. e p) w

pub some_as : {T : Type 0} (r : Option T) (a b : Begun) (f g : Fixed) → f ≡ g → IfSome r (λ t. Appends g a b) → IfSome r (λ t. Appends f a b)
some_as r a b f g e w = some_same r a b f g (λ p. ap (λ (k : Fixed). k p) e) w

-- the last of two parts
pub last : {T : Type 0} (r : Option T) (c : Begun) (f h g : Fixed) {a b : Begun} → ((p : ℕ) → f p ≡ then_fixed h g p) → Appends h a b → IfSome r (λ t. Appends g b c) → IfSome r (λ t. Appends f a c)
last None c f h g e w v = tt
last (Some t) c f h g e w v = same f (then_fixed h g) e (two h g w v)

-- ---- a part after another: what is left then

-- From a on f is appended, where from b on g is.
abbrev pub Going : Fixed → Fixed → Begun → Begun → Type 0
Going f g a b = (c : Begun) → Appends g b c → Appends f a c

pub begins : (f g : Fixed) (a : Begun) → ((p : ℕ) → f p ≡ g p) → Going f g a a
begins f g a e c w = same f g e w

pub onward_at : (f l h g : Fixed) {a b c : Begun} → Going f l a b → ((p : ℕ) → l p ≡ then_fixed h g p) → Appends h b c → Going f g a c
onward_at f l h g {a} {b} {c} u e w d v = u d (same l (then_fixed h g) e (two h g w v))

pub onward : (f l h g : Fixed) {a b c : Begun} → Going f l a b → l ≡ then_fixed h g → Appends h b c → Going f g a c
onward f l h g u e w = onward_at f l h g u (λ p. ap (λ (k : Fixed). k p) e) w

pub ends_at : (f l : Fixed) {a b : Begun} → Going f l a b → ((p : ℕ) → l p ≡ []) → Appends f a b
ends_at f l {a} {b} u e = u b (same l nothing e (none b))

pub ends : (f l : Fixed) {a b : Begun} → Going f l a b → l ≡ nothing → Appends f a b
ends f l u e = ends_at f l u (λ p. ap (λ (k : Fixed). k p) e)

-- ---- a count that is set behind what it counts

count_set : (k : ℕ) (front z xs : List ℕ) → length z ≡ k → let b = front ++ z in
    let c = b ++ xs in
    take (length b - k) c ++ (octets Little k (length c - length b) ++ drop (length b) c) ≡ front ++ (octets Little k (length xs) ++ xs)
count_set k front z xs many =
    let b = front ++ z in
    let c = b ++ xs in
    let len : length b - k ≡ length front = omega (arith, length-append front z, many) in
    let first : take (length b - k) c ≡ front = ap (λ (l : List ℕ). take (length b - k) l) (append_assoc front z xs) ∙ ap (λ (n : ℕ). take n (front ++ (z ++ xs))) len ∙ take-append_seam front (z ++ xs) in
    let rest : length c - length b ≡ length xs = omega (arith, length-append b xs) in
    ap (λ (l : List ℕ). l ++ (octets Little k (length c - length b) ++ drop (length b) c)) first
    ∙ ap (λ (l : List ℕ). front ++ (octets Little k (length c - length b) ++ l)) (drop-append_seam b xs)
    ∙ ap (λ (n : ℕ). front ++ (octets Little k n ++ xs)) rest

set_in : (k : ℕ) (front z xs b c d : List ℕ) → length z ≡ k → b ≡ front ++ z → c ≡ b ++ xs → d ≡ take (length b - k) c ++ (octets Little k (length c - length b) ++ drop (length b) c) → d ≡ front ++ (octets Little k (length xs) ++ xs)
set_in k front z xs b c d many e g is =
    let whole : c ≡ (front ++ z) ++ xs = g ∙ ap (λ (l : List ℕ). l ++ xs) e in
    is ∙ ap (λ (l : List ℕ). take (length l - k) c ++ (octets Little k (length c - length l) ++ drop (length l) c)) e
    ∙ ap (λ (l : List ℕ). take (length (front ++ z) - k) l ++ (octets Little k (length l - length (front ++ z)) ++ drop (length (front ++ z)) l)) whole
    ∙ count_set k front z xs many

counted : (f : Fixed) {a b c d : Begun} → Appends (number_fixed 4 Little 4 0) a b → Appends f b c → Counts 4 (length b.octets) c d → Appends (headed_fixed Little f) a d
unfolding headed_fixed number_fixed
counted f {a} {b} {c} {d} w v k = record {
  origin = k.origin ∙ v.origin ∙ w.origin;
  octets = λ p at.
      let q = p + (padding 4 p + 4) in
      let zeros = replicate {A = ℕ} (padding 4 p) 0 in
      let z = octets Little 4 0 in
      let xs = f q in
      let here : b.octets ≡ (a.octets ++ zeros) ++ z = w.octets p at ∙ sym (append_assoc a.octets zeros z) in
      let there : IsAt b q = at_end (number_fixed 4 Little 4 0) a b p at w ∙ ap (λ (n : ℕ). b.origin + (p + n)) (length-number 4 Little 4 0 p) in
      set_in 4 (a.octets ++ zeros) z xs b.octets c.octets d.octets (length-octets Little 4 0) here (v.octets q there) k.octets
      ∙ append_assoc a.octets zeros (octets Little 4 (length xs) ++ xs)
      ∙ ap (λ (l : List ℕ). a.octets ++ l) (sym (append_assoc zeros (octets Little 4 (length xs)) xs));
}

-- the count is set in a call that may answer None
pub some_counted : {T : Type 0} (r : Option T) (d : Begun) (f : Fixed) {a b c : Begun} (begin : ℕ) → begin ≡ length b.octets → Appends (number_fixed 4 Little 4 0) a b → Appends f b c → IfSome r (λ t. Counts 4 begin c d) → IfSome r (λ t. Appends (headed_fixed Little f) a d)
some_counted None d f begin e w v k = tt
some_counted (Some t) d f {a} {b} {c} begin e w v k = counted f w v (subst (λ (n : ℕ). Counts 4 n c d) e k)

-- ---- contents with an origin of their own

pub apart : (f : Fixed) {a b c d : Begun} → b ≡ record a { origin = length a.octets } → Appends f b c → d ≡ record c { origin = a.origin } → Appends (λ p. f 0) a d
apart f {a} {b} {c} {d} e w g =
    let same_octets : b.octets ≡ a.octets = ap (λ (k : Begun). k.octets) e in
    let at_once : IsAt b 0 = ap length same_octets ∙ omega (arith, ap (λ (k : Begun). k.origin) e) in
    record {
      origin = ap (λ (k : Begun). k.origin) g;
      octets = λ p at. ap (λ (k : Begun). k.octets) g ∙ w.octets 0 at_once ∙ ap (λ (l : List ℕ). l ++ f 0) same_octets;
    }

-- a content behind a beginning of a header that ends with its length
length_set : (k : ℕ) (head xs : List ℕ) {a b c d : Begun} (p : ℕ) → IsAt a p → Appends (then_fixed (padding_fixed 4) (λ q. head ++ octets Little k 0)) a b → Appends (λ q. xs) b c → Counts k (length b.octets) c d → d.octets ≡ a.octets ++ (replicate (padding 4 p) 0 ++ ((head ++ octets Little k (length xs)) ++ xs))
unfolding then_fixed
length_set k head xs {a} {b} {c} {d} p at w v s =
    let zeros = replicate {A = ℕ} (padding 4 p) 0 in
    let z = octets Little k 0 in
    let n = octets Little k (length xs) in
    let first = a.octets ++ zeros in
    let here : b.octets ≡ (first ++ head) ++ z = w.octets p at ∙ sym (append_assoc a.octets zeros (head ++ z)) ∙ sym (append_assoc first head z) in
    let there = at_end (then_fixed (padding_fixed 4) (λ q. head ++ z)) a b p at w in
    set_in k (first ++ head) z xs b.octets c.octets d.octets (length-octets Little k 0) here (v.octets _ there) s.octets
    ∙ append_assoc first head (n ++ xs)
    ∙ ap (λ (l : List ℕ). first ++ l) (sym (append_assoc head n xs))
    ∙ append_assoc a.octets zeros ((head ++ n) ++ xs)

-- so many octets as the content has, by what stands before and behind it
long_as : (xs : List ℕ) {b c : Begun} (begin n q : ℕ) → IsAt b q → begin ≡ length b.octets → n ≡ length c.octets - begin → Appends (λ r. xs) b c → n ≡ length xs
long_as xs {b} {c} begin n q at e is v = omega (arith, e, is, ap length (v.octets q at), length-append b.octets xs)

short_form : (h : Head) (xs : List ℕ) (p : ℕ) → is_short h.id (length xs) ≡ true → param_fixed Little h xs p ≡ replicate (padding 4 p) 0 ++ (short_header Little (is_must h) h.id (length xs) ++ xs)
unfolding param_fixed
short_form h xs p short = ap (λ (b : Bool). replicate {A = ℕ} (padding 4 p) 0 ++ (cond b (short_header Little (is_must h) h.id (length xs)) (long_header Little (is_must h) h.id (length xs)) ++ xs)) short

pub short_param : {T : Type 0} (r : Option T) (d : Begun) (h : Head) (xs : List ℕ) {a b c : Begun} (begin n : ℕ) → begin ≡ length b.octets → n ≡ length c.octets - begin → is_short h.id n ≡ true → Appends (short_begun (is_must h) h.id) a b → Appends (λ q. xs) b c → IfSome r (λ t. Counts 2 begin c d) → IfSome r (λ t. Appends (param_fixed Little h xs) a d)
short_param None d h xs begin n e is short w v k = tt
short_param (Some t) d h xs {a} {b} {c} begin n e is short w v k =
    let s = subst (λ (m : ℕ). Counts 2 m c d) e k in
    record {
      origin = s.origin ∙ v.origin ∙ w.origin;
      octets = λ p at.
          let long = long_as xs begin n _ (at_end (short_begun (is_must h) h.id) a b p at w) e is v in
          length_set 2 (octets Little 2 (bit (is_must h) * 2 ^ 14 + h.id)) xs p at w v s ∙ ap (λ (l : List ℕ). a.octets ++ l) (sym (short_form h xs p (ap (λ (m : ℕ). is_short h.id m) (sym long) ∙ short)));
    }

-- the extended header, up to its length
abbrev long_front : Bool → ℕ → List ℕ
long_front must id = octets Little 2 0x7F01 ++ (octets Little 2 8 ++ octets Little 4 (bit must * 2 ^ 30 + id))

long_parts : (must : Bool) (id n : ℕ) → long_header Little must id n ≡ long_front must id ++ octets Little 4 n
long_parts must id n =
    let x = octets Little 2 0x7F01 in
    let y = octets Little 2 8 in
    let z = octets Little 4 (bit must * 2 ^ 30 + id) in
    let l = octets Little 4 n in
    ap (λ (k : List ℕ). x ++ k) (sym (append_assoc y z l)) ∙ sym (append_assoc x (y ++ z) l)

long_form : (h : Head) (xs : List ℕ) (p : ℕ) → is_short h.id (length xs) ≡ false → param_fixed Little h xs p ≡ replicate (padding 4 p) 0 ++ ((long_front (is_must h) h.id ++ octets Little 4 (length xs)) ++ xs)
unfolding param_fixed
long_form h xs p long =
    let zeros = replicate {A = ℕ} (padding 4 p) 0 in
    ap (λ (b : Bool). zeros ++ (cond b (short_header Little (is_must h) h.id (length xs)) (long_header Little (is_must h) h.id (length xs)) ++ xs)) long ∙ ap (λ (l : List ℕ). zeros ++ (l ++ xs)) (long_parts (is_must h) h.id (length xs))

pub long_param : {T : Type 0} (r : Option T) (d : Begun) (h : Head) (xs : List ℕ) {a b c : Begun} (begin n : ℕ) → begin ≡ length b.octets → n ≡ length c.octets - begin → is_short h.id n ≡ false → Appends (long_begun (is_must h) h.id) a b → Appends (λ q. xs) b c → IfSome r (λ t. Counts 4 begin c d) → IfSome r (λ t. Appends (param_fixed Little h xs) a d)
long_param None d h xs begin n e is long w v k = tt
long_param (Some t) d h xs {a} {b} {c} begin n e is long w v k =
    let s = subst (λ (m : ℕ). Counts 4 m c d) e k in
    let head = subst (λ (l : List ℕ). Appends (then_fixed (padding_fixed 4) (λ q. l)) a b) (long_parts (is_must h) h.id 0) w in
    record {
      origin = s.origin ∙ v.origin ∙ w.origin;
      octets = λ p at.
          let many = long_as xs begin n _ (at_end (long_begun (is_must h) h.id) a b p at w) e is v in
          length_set 4 (long_front (is_must h) h.id) xs p at head v s ∙ ap (λ (l : List ℕ). a.octets ++ l) (sym (long_form h xs p (ap (λ (m : ℕ). is_short h.id m) (sym many) ∙ long)));
    }
