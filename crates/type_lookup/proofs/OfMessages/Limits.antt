-- What holds of each message that is read: it keeps the limits, and the payload is its spelling.
use Rattle.std.proofs.Common.{◌≡◌, ℕ, zero, suc, ◌≤◌, List, [], ◌∷◌, ◌++◌, Bool, true, false, if◌then◌else◌, nat_lt, ◌||◌, ◌==◌, ◌⊎◌, sym, ap, ap₂, ◌∙◌, refl, append_assoc, append-nil, take-append-drop, length-take-le, subst, length, take, drop, slice_index, arith, eqb-true}
use Rattle.std.proofs.lemmas.Grind.{common_steps}
use Rattle.std.proofs.lemmas.List.{length-take, length-drop}
use Rattle.std.proofs.lemmas.List.Elements.{All-nil, All-cons}
use Rattle.std.proofs.lemmas.Nat.{le_bytes_4}
use Rattle.std.specs.Prelude.{Option, Some, None}
use Rattle.std.specs.List.{All}
use Rattle.type_trees.specs.declared.types.HashId.{HashId}
use Rattle.type_lookup.specs.declared.messages.messages.Fetched.{Fetched}
use Rattle.type_lookup.specs.declared.messages.messages.Needed.{Needed}
use Rattle.type_lookup.specs.declared.messages.messages.Operation.{Operation}
use Rattle.type_lookup.specs.declared.messages.messages.Operation.TheVariants as operation
use Rattle.type_lookup.specs.declared.messages.messages.Message.{Message}
use Rattle.type_lookup.specs.declared.messages.messages.Message.TheVariants.{GetTypes, GetTypeDependencies, PutTypes, Types, Dependencies, Put}
use Rattle.type_lookup.specs.messages.Fields.{Field, got, bad, then_read, octet_at, number_at, at_most, text_at, id_at, object_at, fetched_at, needed_at, outcome_at, point_at, put_first, times, counted_at, direction_at, number_of, known_operation, operation_of, operation_at, body_at, message_at, alone, payload}
use Rattle.type_lookup.specs.messages.Spelling.{number_octets, object_octets, fetched_octets, needed_octets, point_octets, all_octets, counted_octets, head_octets, payload_of, IsKnownId, HasObjectLength, IsFetched, IsNeeded, IsPoint, HasHash, Keeps, KeepsLimits, AreOctets}
use Rattle.type_trees.specs.Ids.{is_object_kind, id_octets}

-- the field at the front of the octets keeps P, and its spelling was read
record Spelled {T : Type 0} (P : T → Type 0) (spell : T → List ℕ) (octets rest : List ℕ) (x : T) : Type 0 where
  keeps : P x
  is : octets ≡ spell x ++ rest

-- ---- octets

behind-octets : (xs rest : List ℕ) → AreOctets (xs ++ rest) → AreOctets rest
behind-octets [] rest are = are
behind-octets (x ∷ xs) rest are = behind-octets xs rest (λ i. are (suc i))

pub rest-octets : (octets xs rest : List ℕ) → AreOctets octets → octets ≡ xs ++ rest → AreOctets rest
rest-octets octets xs rest are e = behind-octets xs rest (subst AreOctets e are)

pub front-octets : (n : ℕ) (xs : List ℕ) → AreOctets xs → AreOctets (take n xs)
front-octets zero xs are i = omega arith
front-octets (suc n) [] are i = omega arith
front-octets (suc n) (x ∷ xs) are zero = are 0
front-octets (suc n) (x ∷ xs) are (suc i) = front-octets n xs (λ j. are (suc j)) i

two-parts : (octets xs behind ys rest : List ℕ) → octets ≡ xs ++ behind → behind ≡ ys ++ rest → octets ≡ (xs ++ ys) ++ rest
two-parts octets xs behind ys rest p q = p ∙ ap (λ l. xs ++ l) q ∙ sym (append_assoc xs ys rest)

-- ---- a field and what follows it

never-got : {T : Type 0} (left : ℕ) (x : T) (rest : List ℕ) → bad left ≡ got x rest → ⊥
never-got left x rest e = cc

got-value : {T : Type 0} (x y : T) (rest end : List ℕ) → got x rest ≡ got y end → x ≡ y
got-value x y rest end e = cc

got-rest : {T : Type 0} (x y : T) (rest end : List ℕ) → got x rest ≡ got y end → rest ≡ end
got-rest x y rest end e = cc

both-read : {A B : Type 0} (f : Field A) (next : A → List ℕ → Field B) (y : B) (end : List ℕ) → then_read f next ≡ got y end
    → (a : A) × (rest : List ℕ) × (f ≡ got a rest) × (next a rest ≡ got y end)
both-read (got a rest) next y end e = (a, rest, refl, e)
both-read (bad left) next y end e = absurd (never-got left y end e)

-- a value that is taken only where a test fails
unless-over : {T : Type 0} (over : Bool) (left : ℕ) (x y : T) (rest end : List ℕ) → (if over then bad left else got x rest) ≡ got y end
    → (over ≡ false) × (x ≡ y) × (rest ≡ end)
unless-over true left x y rest end e = absurd (never-got left y end e)
unless-over false left x y rest end e = (refl, got-value x y rest end e, got-rest x y rest end e)

only-where : {T : Type 0} (good : Bool) (left : ℕ) (x y : T) (rest end : List ℕ) → (if good then got x rest else bad left) ≡ got y end
    → (good ≡ true) × (x ≡ y) × (rest ≡ end)
only-where true left x y rest end e = (refl, got-value x y rest end e, got-rest x y rest end e)
only-where false left x y rest end e = absurd (never-got left y end e)

not-above : (most n : ℕ) → nat_lt most n ≡ false → n ≤ most
not-above most n e = grind (arith, common_steps)

-- ---- plain fields

octet-spelled : (octets rest : List ℕ) (octet : ℕ) → octet_at octets ≡ got octet rest → octets ≡ octet ∷ rest
octet-spelled [] rest octet e = absurd (never-got 0 octet rest e)
octet-spelled (first ∷ others) rest octet e = ap₂ (λ (o : ℕ) (os : List ℕ). o ∷ os) (got-value first octet others rest e) (got-rest first octet others rest e)

number-spelled : (octets rest : List ℕ) (n : ℕ) → AreOctets octets → number_at octets ≡ got n rest → octets ≡ number_octets n ++ rest
number-spelled octets rest n are e =
    let (full, value, behind) = unless-over (nat_lt (length octets) 4) (length octets) _ n (drop 4 octets) rest e in
    let four : length (take 4 octets) ≡ 4 = length-take-le 4 octets (not-above _ _ full) in
    let number : number_octets n ≡ take 4 octets = le_bytes_4 (take 4 octets) n four (front-octets 4 octets are) (sym value) in
    sym (take-append-drop 4 octets) ∙ ap₂ (λ (l r : List ℕ). l ++ r) (sym number) behind

most-spelled : (most : ℕ) (octets rest : List ℕ) (n : ℕ) → AreOctets octets → at_most most octets ≡ got n rest → (n ≤ most) × (octets ≡ number_octets n ++ rest)
most-spelled most octets rest n are e =
    let (m, behind, first, second) = both-read (number_at octets) (λ k r. if nat_lt most k then bad (length octets) else got k r) n rest e in
    let (within, same, end) = unless-over (nat_lt most m) (length octets) m n behind rest second in
    (subst (λ (k : ℕ). k ≤ most) same (not-above most m within), number-spelled octets behind m are first ∙ ap₂ (λ (k : ℕ) (r : List ℕ). number_octets k ++ r) same end)

text-spelled : (n : ℕ) (octets rest text : List ℕ) → text_at n octets ≡ got text rest → (length text ≡ n) × (octets ≡ text ++ rest)
text-spelled n octets rest text e =
    let (full, value, behind) = unless-over (nat_lt (length octets) n) (length octets) (take n octets) text (drop n octets) rest e in
    (omega (arith, not-above _ _ full, length-take n octets, ap length value), sym (take-append-drop n octets) ∙ ap₂ (λ (l r : List ℕ). l ++ r) value behind)

IsGoodId : HashId → Type 0
IsGoodId id = IsKnownId id × HasHash id

over-full : {T : Type 0} (over : Bool) (left : ℕ) (f : Field T) (y : T) (end : List ℕ) → (if over then bad left else f) ≡ got y end → over ≡ false
over-full true left f y end e = absurd (never-got left y end e)
over-full false left f y end e = refl

good-point : {T : Type 0} (good : Bool) (left : ℕ) (f : Field T) (y : T) (end : List ℕ) → (if good then f else bad left) ≡ got y end → good ≡ true
good-point true left f y end e = refl
good-point false left f y end e = absurd (never-got left y end e)

chosen-point : {T : Type 0} (good : Bool) (left : ℕ) (f : Field T) (y : T) (end : List ℕ) → (if good then f else bad left) ≡ got y end → f ≡ got y end
chosen-point true left f y end e = e
chosen-point false left f y end e = absurd (never-got left y end e)

good-known : (id : HashId) → IsGoodId id → IsKnownId id
unfolding IsGoodId
good-known id h = h.0

-- an identifier's octets where there are 15
id-whole : (octets rest : List ℕ) (id : HashId) → id_at octets ≡ got id rest → nat_lt (length octets) 15 ≡ false → (is_object_kind (slice_index octets 0) ≡ true) × (record { kind = slice_index octets 0; hash = take 14 (drop 1 octets) } ≡ id) × (drop 15 octets ≡ rest)
id-whole octets rest id e full =
    only-where (is_object_kind (slice_index octets 0)) (length octets) _ id (drop 15 octets) rest (sym (ap (λ b. if b then bad (length octets) else if is_object_kind (slice_index octets 0) then got (record { kind = slice_index octets 0; hash = take 14 (drop 1 octets) }) (drop 15 octets) else bad (length octets)) full) ∙ e)

id-full : (octets rest : List ℕ) (id : HashId) → id_at octets ≡ got id rest → nat_lt (length octets) 15 ≡ false
id-full octets rest id e = over-full (nat_lt (length octets) 15) (length octets) (if is_object_kind (slice_index octets 0) then got (record { kind = slice_index octets 0; hash = take 14 (drop 1 octets) }) (drop 15 octets) else bad (length octets)) id rest e

id-parts : (octets : List ℕ) → 15 ≤ length octets → octets ≡ slice_index octets 0 ∷ (take 14 (drop 1 octets) ++ drop 15 octets)
id-parts [] full = absurd (omega (arith, full))
id-parts (o ∷ os) full = ap (λ (l : List ℕ). o ∷ l) (sym (take-append-drop 14 os))

id-spelled : (octets rest : List ℕ) (id : HashId) → AreOctets octets → id_at octets ≡ got id rest → Spelled IsGoodId id_octets octets rest id
unfolding IsGoodId
id-spelled octets rest id are e =
    let full = id-full octets rest id e in
    let (known, same, behind) = id-whole octets rest id e full in
    let hash : length (take 14 (drop 1 octets)) ≡ 14 = omega (arith, not-above _ _ full, length-take 14 (drop 1 octets), length-drop 1 octets) in
    record {
      keeps = (ap (λ (i : HashId). is_object_kind i.kind) (sym same) ∙ known, sym (ap (λ (i : HashId). length i.hash) same) ∙ hash);
      is = id-parts octets (not-above _ _ full) ∙ ap₂ (λ (i : HashId) (r : List ℕ). id_octets i ++ r) same behind;
    }

object-spelled : (octets rest object : List ℕ) → AreOctets octets → object_at octets ≡ got object rest → Spelled HasObjectLength object_octets octets rest object
object-spelled octets rest object are e =
    let (n, behind, first, second) = both-read (at_most 131072 octets) text_at object rest e in
    let (within, front) = most-spelled 131072 octets behind n are first in
    let (size, text) = text-spelled n behind rest object second in
    record {
      keeps = omega (arith, within, size);
      is = two-parts octets (number_octets (length object)) behind object rest (front ∙ ap (λ (k : ℕ). number_octets k ++ behind) (sym size)) text;
    }

fetched-spelled : (octets rest : List ℕ) (fetched : Fetched) → AreOctets octets → fetched_at octets ≡ got fetched rest → Spelled IsFetched fetched_octets octets rest fetched
fetched-spelled octets rest fetched are e =
    let (id, behind, first, others) = both-read (id_at octets) (λ id r. then_read (object_at r) (λ object end. got (record { id = id; octets = object }) end)) fetched rest e in
    let (object, end, second, last) = both-read (object_at behind) (λ object end. got (record { id = id; octets = object }) end) fetched rest others in
    let same = got-value (record { id = id; octets = object }) fetched end rest last in
    let stop = got-rest (record { id = id; octets = object }) fetched end rest last in
    let front = id-spelled octets behind id are first in
    let back = object-spelled behind end object (rest-octets octets (id_octets id) behind are front.is) second in
    subst (Spelled IsFetched fetched_octets octets rest) same (record {
      keeps = (good-known id front.keeps, back.keeps);
      is = two-parts octets (id_octets id) behind (object_octets object) rest front.is (back.is ∙ ap (λ (l : List ℕ). object_octets object ++ l) stop);
    })

needed-spelled : (octets rest : List ℕ) (needed : Needed) → AreOctets octets → needed_at octets ≡ got needed rest → Spelled IsNeeded needed_octets octets rest needed
needed-spelled octets rest needed are e =
    let (id, behind, first, others) = both-read (id_at octets) (λ id r. then_read (number_at r) (λ size end. got (record { id = id; size = size }) end)) needed rest e in
    let (size, end, second, last) = both-read (number_at behind) (λ size end. got (record { id = id; size = size }) end) needed rest others in
    let same = got-value (record { id = id; size = size }) needed end rest last in
    let stop = got-rest (record { id = id; size = size }) needed end rest last in
    let front = id-spelled octets behind id are first in
    let back = number-spelled behind end size (rest-octets octets (id_octets id) behind are front.is) second in
    subst (Spelled IsNeeded needed_octets octets rest) same (record {
      keeps = good-known id front.keeps;
      is = two-parts octets (id_octets id) behind (number_octets size) rest front.is (back ∙ ap (λ (l : List ℕ). number_octets size ++ l) stop);
    })

outcome-spelled : (octets rest : List ℕ) (outcome : ℕ) → AreOctets octets → outcome_at octets ≡ got outcome rest → Spelled (λ o. o ≤ 4) (λ o. o ∷ []) octets rest outcome
outcome-spelled octets rest outcome are e =
    let (o, behind, first, second) = both-read (octet_at octets) (λ o r. if nat_lt 4 o then bad (length octets) else got o r) outcome rest e in
    let (within, same, end) = unless-over (nat_lt 4 o) (length octets) o outcome behind rest second in
    record {
      keeps = subst (λ (k : ℕ). k ≤ 4) same (not-above 4 o within);
      is = octet-spelled octets behind o first ∙ ap₂ (λ (k : ℕ) (r : List ℕ). k ∷ r) same end;
    }

point-kind : (n : ℕ) → (n == 0 || n == 4) ≡ true → (n ≡ 0) ⊎ (n ≡ 4)
point-kind n e = grind (arith, common_steps)

point-spelled : (octets rest point : List ℕ) → point_at octets ≡ got point rest → Spelled IsPoint point_octets octets rest point
point-spelled octets rest point e =
    let (n, behind, first, second) = both-read (octet_at octets) (λ n r. if n == 0 || n == 4 then text_at n r else bad (length octets)) point rest e in
    let kind = good-point (n == 0 || n == 4) (length octets) (text_at n behind) point rest second in
    let (size, text) = text-spelled n behind rest point (chosen-point (n == 0 || n == 4) (length octets) (text_at n behind) point rest second) in
    record {
      keeps = subst (λ (k : ℕ). (k ≡ 0) ⊎ (k ≡ 4)) (sym size) (point-kind n kind);
      is = octet-spelled octets behind n first ∙ ap₂ (λ (k : ℕ) (r : List ℕ). k ∷ r) (sym size) text;
    }

-- ---- items

one-more : {T : Type 0} (x : T) (f : Field (List T)) (xs : List T) (rest : List ℕ) → put_first x f ≡ got xs rest → (ys : List T) × (f ≡ got ys rest) × (x ∷ ys ≡ xs)
one-more x (got ys behind) xs rest e = (ys, ap (got ys) (got-rest (x ∷ ys) xs behind rest e), got-value (x ∷ ys) xs behind rest e)
one-more x (bad left) xs rest e = absurd (never-got left xs rest e)

-- so many items
record SpelledAll {T : Type 0} (P : T → Type 0) (spell : T → List ℕ) (n : ℕ) (octets rest : List ℕ) (xs : List T) : Type 0 where
  count : length xs ≡ n
  each : All P xs
  is : octets ≡ all_octets spell xs ++ rest

all-one : {T : Type 0} (P : T → Type 0) (spell : T → List ℕ) (n : ℕ) (octets behind rest : List ℕ) (x : T) (xs : List T) → Spelled P spell octets behind x → SpelledAll P spell n behind rest xs → SpelledAll P spell (suc n) octets rest (x ∷ xs)
all-one P spell n octets behind rest x xs p q = record {
  count = omega (arith, q.count);
  each = All-cons P x xs p.keeps q.each;
  is = two-parts octets (spell x) behind (all_octets spell xs) rest p.is q.is;
}

times-spelled : {T : Type 0} (P : T → Type 0) (spell : T → List ℕ) (read : List ℕ → Field T)
    → ((octets rest : List ℕ) (x : T) → AreOctets octets → read octets ≡ got x rest → Spelled P spell octets rest x)
    → (n : ℕ) (octets rest : List ℕ) (xs : List T) → AreOctets octets → times read n octets ≡ got xs rest → SpelledAll P spell n octets rest xs
times-spelled P spell read item zero octets rest xs are e =
    subst (SpelledAll P spell 0 octets rest) (got-value [] xs octets rest e) (record { count = refl; each = All-nil P; is = got-rest [] xs octets rest e })
times-spelled P spell read item (suc n) octets rest xs are e =
    let (x, behind, first, others) = both-read (read octets) (λ value r. put_first value (times read n r)) xs rest e in
    let (ys, second, same) = one-more x (times read n behind) xs rest others in
    let one = item octets behind x are first in
    subst (SpelledAll P spell (suc n) octets rest) same (all-one P spell n octets behind rest x ys one (times-spelled P spell read item n behind rest ys (rest-octets octets (spell x) behind are one.is) second))

counted-spelled : {T : Type 0} (P : T → Type 0) (spell : T → List ℕ) (read : List ℕ → Field T)
    → ((octets rest : List ℕ) (x : T) → AreOctets octets → read octets ≡ got x rest → Spelled P spell octets rest x)
    → (octets rest : List ℕ) (xs : List T) → AreOctets octets → counted_at read octets ≡ got xs rest → Spelled (Keeps P) (counted_octets spell) octets rest xs
counted-spelled P spell read item octets rest xs are e =
    let (n, behind, first, second) = both-read (at_most 1024 octets) (times read) xs rest e in
    let (within, front) = most-spelled 1024 octets behind n are first in
    let all = times-spelled P spell read item n behind rest xs (rest-octets octets (number_octets n) behind are front) second in
    record {
      keeps = record { count = omega (arith, within, all.count); each = all.each };
      is = two-parts octets (number_octets (length xs)) behind (all_octets spell xs) rest (front ∙ ap (λ (k : ℕ). number_octets k ++ behind) (sym all.count)) all.is;
    }

-- ---- messages

direction_of : Bool → ℕ
direction_of false = 0
direction_of true = 1

direction-known : (d left : ℕ) (reply : Bool) (rest end : List ℕ) → (if d == 0 then got false rest else if d == 1 then got true rest else bad left) ≡ got reply end → (d ≡ direction_of reply) × (rest ≡ end)
unfolding direction_of
direction-known d left reply rest end e = known (d == 0) (d == 1) refl refl e
  where
    known : (a b : Bool) → (d == 0) ≡ a → (d == 1) ≡ b → (if a then got false rest else if b then got true rest else bad left) ≡ got reply end → (d ≡ direction_of reply) × (rest ≡ end)
    known true b is other f = (eqb-true d 0 is ∙ ap direction_of (got-value false reply rest end f), got-rest false reply rest end f)
    known false true first is f = (eqb-true d 1 is ∙ ap direction_of (got-value true reply rest end f), got-rest true reply rest end f)
    known false false first second f = absurd (never-got left reply end f)

direction-spelled : (octets rest : List ℕ) (reply : Bool) → direction_at octets ≡ got reply rest → octets ≡ direction_of reply ∷ rest
direction-spelled octets rest reply e =
    let (d, behind, first, second) = both-read (octet_at octets) (λ d r. if d == 0 then got false r else if d == 1 then got true r else bad (length octets)) reply rest e in
    let (known, same) = direction-known d (length octets) reply behind rest second in
    octet-spelled octets behind d first ∙ ap₂ (λ (k : ℕ) (r : List ℕ). k ∷ r) known same

operation-number : (n : ℕ) (op : Operation) → operation_of n ≡ Some op → n ≡ number_of op
operation-number n op e = known (n == 25318099) (n == 119907363) (n == 68426699) refl refl refl e
  where
    some-same : (a b : Operation) → Some a ≡ Some b → a ≡ b
    some-same a b f = cc

    known : (a b c : Bool) → (n == 25318099) ≡ a → (n == 119907363) ≡ b → (n == 68426699) ≡ c → (if a then Some operation.GetTypes else if b then Some operation.GetTypeDependencies else if c then Some operation.PutTypes else None) ≡ Some op → n ≡ number_of op
    known true b c gets depends puts f = eqb-true n 25318099 gets ∙ ap number_of (some-same operation.GetTypes op f)
    known false true c gets depends puts f = eqb-true n 119907363 depends ∙ ap number_of (some-same operation.GetTypeDependencies op f)
    known false false true gets depends puts f = eqb-true n 68426699 puts ∙ ap number_of (some-same operation.PutTypes op f)
    known false false false gets depends puts f = absurd cc

operation-known : (left : ℕ) (o : Option Operation) (op : Operation) (rest end : List ℕ) → known_operation left o rest ≡ got op end → (o ≡ Some op) × (rest ≡ end)
operation-known left None op rest end e = absurd (never-got left op end e)
operation-known left (Some known) op rest end e = (ap (λ (k : Operation). Some k) (got-value known op rest end e), got-rest known op rest end e)

operation-spelled : (octets rest : List ℕ) (op : Operation) → AreOctets octets → operation_at octets ≡ got op rest → octets ≡ number_octets (number_of op) ++ rest
operation-spelled octets rest op are e =
    let (n, behind, first, second) = both-read (number_at octets) (λ n r. known_operation (length octets) (operation_of n) r) op rest e in
    let (known, same) = operation-known (length octets) (operation_of n) op behind rest second in
    number-spelled octets behind n are first ∙ ap₂ (λ (k : ℕ) (r : List ℕ). number_octets k ++ r) (operation-number n op known) same

-- the fields behind the tag: with the head before them they are the spelling
record SpelledBody (reply : Bool) (op : Operation) (tag : ℕ) (octets rest : List ℕ) (message : Message) : Type 0 where
  keeps : KeepsLimits message
  is : head_octets (direction_of reply) op tag ++ octets ≡ payload_of message ++ rest

known-all : (ids : List HashId) → Keeps IsGoodId ids → Keeps IsKnownId ids
unfolding IsGoodId
known-all ids k = record { count = k.count; each = λ i d lt. (k.each i d lt).0 }

single-octets : (xs : List ℕ) → all_octets (λ (o : ℕ). o ∷ []) xs ≡ xs
single-octets [] = refl
single-octets (x ∷ xs) = ap (λ l. x ∷ l) (single-octets xs)

one-part : (head octets xs rest : List ℕ) → octets ≡ xs ++ rest → head ++ octets ≡ (head ++ xs) ++ rest
one-part head octets xs rest e = ap (λ (l : List ℕ). head ++ l) e ∙ sym (append_assoc head xs rest)

page-behind : (make : List ℕ → Message) (octets rest : List ℕ) (message : Message) → then_read (point_at octets) (λ point end. got (make point) end) ≡ got message rest
    → (point : List ℕ) × Spelled IsPoint point_octets octets rest point × (make point ≡ message)
page-behind make octets rest message e =
    let (point, end, first, last) = both-read (point_at octets) (λ point end. got (make point) end) message rest e in
    let stop = got-rest (make point) message end rest last in
    (point, point-spelled octets rest point (first ∙ ap (got point) stop), got-value (make point) message end rest last)

-- a list alone behind the head
list-behind : {T : Type 0} (P : T → Type 0) (spell : T → List ℕ) (read : List ℕ → Field T) → ((octets rest : List ℕ) (x : T) → AreOctets octets → read octets ≡ got x rest → Spelled P spell octets rest x)
    → (make : List T → Message) (octets rest : List ℕ) (message : Message) → AreOctets octets → then_read (counted_at read octets) (λ xs r. got (make xs) r) ≡ got message rest
    → (xs : List T) × Spelled (Keeps P) (counted_octets spell) octets rest xs × (make xs ≡ message)
list-behind P spell read item make octets rest message are e =
    let (xs, end, first, last) = both-read (counted_at read octets) (λ xs r. got (make xs) r) message rest e in
    let stop = got-rest (make xs) message end rest last in
    (xs, counted-spelled P spell read item octets rest xs are (first ∙ ap (got xs) stop), got-value (make xs) message end rest last)

body-spelled : (reply : Bool) (op : Operation) (tag : ℕ) (octets rest : List ℕ) (message : Message) → AreOctets octets → body_at reply op tag octets ≡ got message rest → SpelledBody reply op tag octets rest message
unfolding payload_of direction_of
body-spelled false operation.GetTypes tag octets rest message are e =
    let (ids, all, same) = list-behind IsGoodId id_octets id_at id-spelled (GetTypes tag) octets rest message are e in
    subst (SpelledBody false operation.GetTypes tag octets rest) same (record {
      keeps = known-all ids all.keeps;
      is = one-part (head_octets 0 operation.GetTypes tag) octets (counted_octets id_octets ids) rest all.is;
    })
body-spelled false operation.GetTypeDependencies tag octets rest message are e =
    let (ids, behind, first, others) = both-read (counted_at id_at octets) (λ ids r. then_read (point_at r) (λ point end. got (GetTypeDependencies tag ids point) end)) message rest e in
    let all = counted-spelled IsGoodId id_octets id_at id-spelled octets behind ids are first in
    let (point, page, same) = page-behind (GetTypeDependencies tag ids) behind rest message others in
    subst (SpelledBody false operation.GetTypeDependencies tag octets rest) same (record {
      keeps = (known-all ids all.keeps, page.keeps);
      is = two-parts (head_octets 0 operation.GetTypeDependencies tag ++ octets) (head_octets 0 operation.GetTypeDependencies tag ++ counted_octets id_octets ids) behind (point_octets point) rest
          (one-part (head_octets 0 operation.GetTypeDependencies tag) octets (counted_octets id_octets ids) behind all.is) page.is;
    })
body-spelled false operation.PutTypes tag octets rest message are e =
    let (objects, all, same) = list-behind HasObjectLength object_octets object_at object-spelled (PutTypes tag) octets rest message are e in
    subst (SpelledBody false operation.PutTypes tag octets rest) same (record {
      keeps = all.keeps;
      is = one-part (head_octets 0 operation.PutTypes tag) octets (counted_octets object_octets objects) rest all.is;
    })
body-spelled true operation.GetTypes tag octets rest message are e =
    let (objects, all, same) = list-behind IsFetched fetched_octets fetched_at fetched-spelled (Types tag) octets rest message are e in
    subst (SpelledBody true operation.GetTypes tag octets rest) same (record {
      keeps = all.keeps;
      is = one-part (head_octets 1 operation.GetTypes tag) octets (counted_octets fetched_octets objects) rest all.is;
    })
body-spelled true operation.GetTypeDependencies tag octets rest message are e =
    let (needed, behind, first, others) = both-read (counted_at needed_at octets) (λ needed r. then_read (point_at r) (λ point end. got (Dependencies tag needed point) end)) message rest e in
    let all = counted-spelled IsNeeded needed_octets needed_at needed-spelled octets behind needed are first in
    let (point, page, same) = page-behind (Dependencies tag needed) behind rest message others in
    subst (SpelledBody true operation.GetTypeDependencies tag octets rest) same (record {
      keeps = (all.keeps, page.keeps);
      is = two-parts (head_octets 1 operation.GetTypeDependencies tag ++ octets) (head_octets 1 operation.GetTypeDependencies tag ++ counted_octets needed_octets needed) behind (point_octets point) rest
          (one-part (head_octets 1 operation.GetTypeDependencies tag) octets (counted_octets needed_octets needed) behind all.is) page.is;
    })
body-spelled true operation.PutTypes tag octets rest message are e =
    let (outcomes, all, same) = list-behind (λ o. o ≤ 4) (λ o. o ∷ []) outcome_at outcome-spelled (Put tag) octets rest message are e in
    let plain : counted_octets (λ (o : ℕ). o ∷ []) outcomes ≡ object_octets outcomes = ap (λ (l : List ℕ). number_octets (length outcomes) ++ l) (single-octets outcomes) in
    subst (SpelledBody true operation.PutTypes tag octets rest) same (record {
      keeps = all.keeps;
      is = one-part (head_octets 1 operation.PutTypes tag) octets (object_octets outcomes) rest (all.is ∙ ap (λ (l : List ℕ). l ++ rest) plain);
    })

message-spelled : (octets rest : List ℕ) (message : Message) → AreOctets octets → message_at octets ≡ got message rest → KeepsLimits message × (octets ≡ payload_of message ++ rest)
unfolding direction_of
message-spelled octets rest message are e =
    let (reply, behind, first, others) = both-read (direction_at octets) (λ reply b. then_read (operation_at b) (λ op r. then_read (number_at r) (λ tag end. body_at reply op tag end))) message rest e in
    let direction = direction-spelled octets behind reply first in
    let known : AreOctets behind = rest-octets octets (direction_of reply ∷ []) behind are direction in
    let (op, more, second, tagged) = both-read (operation_at behind) (λ op r. then_read (number_at r) (λ tag end. body_at reply op tag end)) message rest others in
    let operation = operation-spelled behind more op known second in
    let left : AreOctets more = rest-octets behind (number_octets (number_of op)) more known operation in
    let (tag, end, third, body) = both-read (number_at more) (λ tag end. body_at reply op tag end) message rest tagged in
    let number = number-spelled more end tag left third in
    let all = body-spelled reply op tag end rest message (rest-octets more (number_octets tag) end left number) body in
    let head : octets ≡ head_octets (direction_of reply) op tag ++ end = two-parts octets (direction_of reply ∷ number_octets (number_of op)) more (number_octets tag) end (direction ∙ ap (λ (l : List ℕ). direction_of reply ∷ l) operation) number in
    (all.keeps, head ∙ all.is)

lone : (field : Field Message) (message : Message) (rest : List ℕ) → alone field ≡ got message rest → field ≡ got message []
lone (got found []) message rest e = ap (λ m. got m []) (got-value found message [] rest e)
lone (got found (octet ∷ octets)) message rest e = absurd (never-got (length (octet ∷ octets)) message rest e)
lone (bad left) message rest e = absurd (never-got left message rest e)

-- A message that a payload is keeps the limits, and the payload is its spelling.
pub message_limits : (octets rest : List ℕ) (message : Message) → AreOctets octets → payload octets ≡ got message rest → KeepsLimits message × (octets ≡ payload_of message)
unfolding payload
message_limits octets rest message are e =
    let (keeps, is) = message-spelled octets [] message are (lone (message_at octets) message rest e) in
    (keeps, is ∙ append-nil (payload_of message))
