-- A sample behind what stands before it.
use Rattle.std.proofs.Common.{◌≡◌, refl, ap, ◌∙◌, ℕ, suc, ◌+◌, ◌-◌, ◌<◌, List, [], ◌∷◌, ◌++◌, length, set, replicate, arith, append_assoc, length-append}
use Rattle.xcdr_model.specs.FixedSpelling.{Fixed}
use Rattle.xcdr_model.specs.Numbers.{padding}
use Rattle.xcdr_model.specs.SampleSpelling.{with_head}
use Rattle.xt_wire.specs.writer.Writing.{padding_fixed}
use Rattle.packed_writer.specs.Appending.{Begun, IsAt, Appends}
use Rattle.packed_writer.proofs.Appending.{at_end}

-- the octet that counts the padding, in the head of a sample
padding_told : (front rest : List ℕ) (id n : ℕ) → set (front ++ (0 ∷ id ∷ 0 ∷ 0 ∷ rest)) (length front + 3) n ≡ front ++ (0 ∷ id ∷ 0 ∷ n ∷ rest)
padding_told [] rest id n = refl
padding_told (x ∷ front) rest id n =
    let all = front ++ (0 ∷ id ∷ 0 ∷ 0 ∷ rest) in
    let next : suc (length front) + 3 ≡ suc (length front + 3) = omega arith in
    ap (λ (i : ℕ). set (x ∷ all) i n) next ∙ ap (λ (l : List ℕ). x ∷ l) (padding_told front rest id n)

pub whole_sample : (f : Fixed) (front head : List ℕ) (id : ℕ) {a b c : Begun} → head ≡ front ++ 0 ∷ id ∷ 0 ∷ 0 ∷ [] → a ≡ record { origin = length head; octets = head } → Appends f a b → Appends (padding_fixed 4) b c → set c.octets (length head - 1) (padding 4 (length b.octets - b.origin)) ≡ front ++ with_head id (f 0)
whole_sample f front head id {a} {b} {c} e is w v =
    let start : a.octets ≡ head = ap (λ (k : Begun). k.octets) is in
    let origin : a.origin ≡ length head = ap (λ (k : Begun). k.origin) is in
    let at_once : IsAt a 0 = ap length start ∙ omega (arith, origin) in
    let behind = at_end f a b 0 at_once w in
    let body = f 0 in
    let long : length b.octets - b.origin ≡ length body = omega (arith, behind) in
    let n = padding 4 (length body) in
    let zeros = replicate {A = ℕ} n 0 in
    let last : length head - 1 ≡ length front + 3 = omega (arith, ap length e, length-append front (0 ∷ id ∷ 0 ∷ 0 ∷ [])) in
    let all : c.octets ≡ front ++ (0 ∷ id ∷ 0 ∷ 0 ∷ (body ++ zeros))
    = v.octets (0 + length body) behind
    ∙ ap (λ (k : ℕ). b.octets ++ replicate (padding 4 k) 0) (omega arith)
    ∙ ap (λ (l : List ℕ). l ++ zeros) (w.octets 0 at_once ∙ ap (λ (l : List ℕ). l ++ body) (start ∙ e))
    ∙ append_assoc (front ++ 0 ∷ id ∷ 0 ∷ 0 ∷ []) body zeros
    ∙ append_assoc front (0 ∷ id ∷ 0 ∷ 0 ∷ []) (body ++ zeros) in
    ap (λ (l : List ℕ). set l (length head - 1) (padding 4 (length b.octets - b.origin))) all
    ∙ ap (λ (i : ℕ). set (front ++ (0 ∷ id ∷ 0 ∷ 0 ∷ (body ++ zeros))) i (padding 4 (length b.octets - b.origin))) last
    ∙ ap (λ (k : ℕ). set (front ++ (0 ∷ id ∷ 0 ∷ 0 ∷ (body ++ zeros))) (length front + 3) (padding 4 k)) long
    ∙ padding_told front (body ++ zeros) id n

-- that octet is there
pub head_there : (f : Fixed) (front head : List ℕ) (id : ℕ) {a b c : Begun} → head ≡ front ++ 0 ∷ id ∷ 0 ∷ 0 ∷ [] → a ≡ record { origin = length head; octets = head } → Appends f a b → Appends (padding_fixed 4) b c → length head - 1 < length c.octets
head_there f front head id {a} {b} {c} e is w v =
    let origin : a.origin ≡ length head = ap (λ (k : Begun). k.origin) is in
    let at_once : IsAt a 0 = ap (λ (k : Begun). length k.octets) is ∙ omega (arith, origin) in
    let behind = at_end f a b 0 at_once w in
    let after = at_end (padding_fixed 4) b c (0 + length (f 0)) behind v in
    omega (arith, after, v.origin, w.origin, origin, ap length e, length-append front (0 ∷ id ∷ 0 ∷ 0 ∷ []))
