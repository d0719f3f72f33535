-- From the octets that were read to the frame at their front.
use Rattle.std.proofs.Common.{◌≡◌, ◌≢◌, ap₂, ℕ, ◌+◌, ◌≤◌, ◌<◌, List, [], ◌∷◌, ◌++◌, sym, ap, ◌∙◌, length, take, drop, take_all, append-nil, length-append, arith, Option, Err}
use Rattle.std.proofs.lemmas.List.{take_at, drop_at}
use Rattle.std.proofs.lemmas.Grind.{common_steps}
use Rattle.std.specs.Int.{w32, from_be_bytes, to_be_bytes}
use Rattle.type_lookup.specs.declared.faults.FrameFault.{FrameFault}
use Rattle.type_lookup.specs.declared.faults.FrameFault.TheVariants.{LinkFault, Truncated, TooLong, BadMessage, OutOfMemory}
use Rattle.type_lookup.specs.messages.Fields.{payload}
use Rattle.type_lookup.specs.Causes.{IsOutside}
use Rattle.type_lookup.specs.Frames.{Answers, broken, filled, sized, lengthy, front}

pub front-cut : (octets : List ℕ) → 0 < length octets → length octets < 4 → front octets ≡ broken Truncated
unfolding front
front-cut [] lt le = absurd (omega arith)
front-cut (octet ∷ octets) lt le = grind (arith, common_steps)

lengthy-head : (head tail : List ℕ) → length head ≡ 4 → lengthy (head ++ tail) ≡ sized (from_be_bytes w32 head) tail
lengthy-head head tail four =
    let long : 4 ≤ length (head ++ tail) = omega (arith, length-append head tail) in
    let first : take 4 (head ++ tail) ≡ head = take_at head tail 4 four in
    let rest : drop 4 (head ++ tail) ≡ tail = drop_at head tail 4 four in
    let full : lengthy (head ++ tail) ≡ sized (from_be_bytes w32 (take 4 (head ++ tail))) (drop 4 (head ++ tail)) = grind (arith, common_steps, long) in
    full ∙ ap (λ h. sized (from_be_bytes w32 h) (drop 4 (head ++ tail))) first ∙ ap (sized (from_be_bytes w32 head)) rest

pub front-head : (head tail : List ℕ) → length head ≡ 4 → front (head ++ tail) ≡ sized (from_be_bytes w32 head) tail
unfolding front
front-head [] tail four = absurd (omega arith)
front-head (h ∷ hs) tail four = lengthy-head (h ∷ hs) tail four

front-alone : (head : List ℕ) → length head ≡ 4 → front head ≡ sized (from_be_bytes w32 head) []
front-alone head four = ap front (sym (append-nil head)) ∙ front-head head [] four

pub front-zero : (head : List ℕ) (n : ℕ) → length head ≡ 4 → n ≡ from_be_bytes w32 head → n ≡ 0 → front head ≡ broken (BadMessage 0)
front-zero head n four e none = front-alone head four ∙ ap (λ k. sized k []) (sym e ∙ none)

sized-long : (n : ℕ) (tail : List ℕ) → 262144 < n → sized n tail ≡ broken (TooLong n)
sized-long n tail lt = grind (arith, common_steps)

pub front-long : (head : List ℕ) (n : ℕ) → length head ≡ 4 → n ≡ from_be_bytes w32 head → 262144 < n → front head ≡ broken (TooLong n)
front-long head n four e lt = front-alone head four ∙ ap (λ k. sized k []) (sym e) ∙ sized-long n [] lt

sized-short : (n : ℕ) (tail : List ℕ) → n ≢ 0 → n ≤ 262144 → length tail < n → sized n tail ≡ broken Truncated
sized-short n tail some le lt = grind (arith, common_steps)

pub front-short : (head tail : List ℕ) (n : ℕ) → length head ≡ 4 → n ≡ from_be_bytes w32 head → n ≢ 0 → n ≤ 262144 → length tail < n → front (head ++ tail) ≡ broken Truncated
front-short head tail n four e some le lt = front-head head tail four ∙ ap (λ k. sized k tail) (sym e) ∙ sized-short n tail some le lt

sized-filled : (n : ℕ) (tail : List ℕ) → n ≢ 0 → n ≤ 262144 → length tail ≡ n → sized n tail ≡ filled n (payload (take n tail)) (drop n tail)
sized-filled n tail some le e = grind (arith, common_steps)

take-whole : (n : ℕ) (tail : List ℕ) → length tail ≡ n → take n tail ≡ tail
take-whole n tail e = grind (arith, common_steps)

drop-whole : (n : ℕ) (tail : List ℕ) → length tail ≡ n → drop n tail ≡ []
drop-whole n tail e = grind (arith, common_steps)

pub front-filled : (head tail : List ℕ) (n : ℕ) → length head ≡ 4 → n ≡ from_be_bytes w32 head → n ≢ 0 → n ≤ 262144 → length tail ≡ n → front (head ++ tail) ≡ filled n (payload tail) []
front-filled head tail n four e some le full =
    front-head head tail four ∙ ap (λ k. sized k tail) (sym e) ∙ sized-filled n tail some le full
    ∙ ap (λ t. filled n (payload t) (drop n tail)) (take-whole n tail full) ∙ ap (filled n (payload tail)) (drop-whole n tail full)

-- the octets of a length of 0, and of a length and its payload, end where they say
pub ends-zero : (head : List ℕ) (n : ℕ) → length head ≡ 4 → n ≡ from_be_bytes w32 head → n ≡ 0 → length head ≡ 4 + from_be_bytes w32 (take 4 head)
ends-zero head n four e none =
    let size : from_be_bytes w32 (take 4 head) ≡ 0 = ap (from_be_bytes w32) (take_all 4 head (omega (arith, four))) ∙ sym e ∙ none in
    omega (arith, four, size)

pub ends-filled : (head tail : List ℕ) (n : ℕ) → length head ≡ 4 → n ≡ from_be_bytes w32 head → length tail ≡ n → length (head ++ tail) ≡ 4 + from_be_bytes w32 (take 4 (head ++ tail))
ends-filled head tail n four e full =
    let size : from_be_bytes w32 (take 4 (head ++ tail)) ≡ n = ap (from_be_bytes w32) (take_at head tail 4 four) ∙ sym e in
    omega (arith, length-append head tail, four, full, size)

-- what was read as a message is its frame
pub frame_spelling : (head text payload : List ℕ) (n : ℕ) → to_be_bytes w32 n ≡ head → length text ≡ n → text ≡ payload → head ++ text ≡ to_be_bytes w32 (length payload) ++ payload
frame_spelling head text payload n number full same = ap₂ (λ (l r : List ℕ). l ++ r) (sym number ∙ ap (to_be_bytes w32) (sym full ∙ ap length same)) same

-- after a fault of the link or of the memory nothing is said of what was read
pub outside-answers : (octets : List ℕ) (left : Option (List ℕ)) (fault : FrameFault) → IsOutside fault → Answers octets left (Err fault)
outside-answers octets left LinkFault outside = tt
outside-answers octets left OutOfMemory outside = tt
outside-answers octets left Truncated outside = absurd outside
outside-answers octets left (TooLong n) outside = absurd outside
outside-answers octets left (BadMessage at) outside = absurd outside
