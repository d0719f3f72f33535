-- What a message's spelling reads as: the message.
use Rattle.std.proofs.Common.{◌≡◌, ℕ, suc, ◌≤◌, ◌<◌, ◌^◌, List, [], ◌∷◌, ◌++◌, Bool, true, false, inl, inr, lit<, sym, ap, ◌∙◌, refl, length, take, drop, append_assoc, append-nil, length-append, arith}
use Rattle.std.proofs.lemmas.List.{take_at, drop_at}
use Rattle.std.proofs.lemmas.List.Elements.{All-head}
use Rattle.std.proofs.lemmas.Grind.{common_steps}
use Rattle.std.proofs.lemmas.Nat.{from_le_bytes-to_le_bytes_4}
use Rattle.std.specs.List.{All}
use Rattle.std.specs.Int.{w32, from_le_bytes}
use Rattle.type_trees.specs.declared.types.HashId.{HashId}
use Rattle.type_lookup.specs.declared.messages.messages.Fetched.{Fetched}
use Rattle.type_lookup.specs.declared.messages.messages.Needed.{Needed}
use Rattle.type_lookup.specs.declared.messages.messages.Operation.{Operation}
use Rattle.type_lookup.specs.declared.messages.messages.Operation.TheVariants as operation
use Rattle.type_lookup.specs.declared.messages.messages.Message.{Message}
use Rattle.type_lookup.specs.declared.messages.messages.Message.TheVariants.{GetTypes, GetTypeDependencies, PutTypes, Types, Dependencies, Put}
use Rattle.type_lookup.specs.messages.Fields.{Field, got, then_read, number_at, at_most, text_at, id_at, object_at, fetched_at, needed_at, outcome_at, point_at, put_first, times, counted_at, number_of, operation_of, known_operation, operation_at, body_at, message_at, alone, payload}
use Rattle.type_lookup.specs.messages.Spelling.{number_octets, object_octets, fetched_octets, needed_octets, point_octets, all_octets, counted_octets, head_octets, payload_of, IsKnownId, HasObjectLength, IsFetched, IsNeeded, IsPoint, HasHash, IsFetchedInRange, IsNeededInRange, KeepsLimits, InRange}
use Rattle.type_trees.specs.Ids.{is_object_kind, id_octets}

number-length : (n : ℕ) → length (number_octets n) ≡ 4
number-length n = refl

number-read : (octets rest : List ℕ) (n : ℕ) → length octets ≡ 4 → from_le_bytes w32 octets ≡ n → number_at (octets ++ rest) ≡ got n rest
number-read octets rest n four e =
    let long : 4 ≤ length (octets ++ rest) = omega (arith, length-append octets rest) in
    let first : take 4 (octets ++ rest) ≡ octets = take_at octets rest 4 four in
    let behind : drop 4 (octets ++ rest) ≡ rest = drop_at octets rest 4 four in
    let full : number_at (octets ++ rest) ≡ got (from_le_bytes w32 (take 4 (octets ++ rest))) (drop 4 (octets ++ rest)) = grind (arith, common_steps, long) in
    full ∙ ap (λ o. got (from_le_bytes w32 o) (drop 4 (octets ++ rest))) first ∙ ap (got (from_le_bytes w32 octets)) behind ∙ ap (λ k. got k rest) e

pub number-back : (n : ℕ) (rest : List ℕ) → n < 2 ^ 32 → number_at (number_octets n ++ rest) ≡ got n rest
number-back n rest lt = number-read (number_octets n) rest n (number-length n) (from_le_bytes-to_le_bytes_4 n lt)

most-read : (most n : ℕ) (octets rest : List ℕ) → n ≤ most → number_at octets ≡ got n rest → at_most most octets ≡ got n rest
most-read most n octets rest le e = rw e (grind (arith, common_steps))

pub most-back : (most n : ℕ) (rest : List ℕ) → n ≤ most → n < 2 ^ 32 → at_most most (number_octets n ++ rest) ≡ got n rest
most-back most n rest le lt = most-read most n (number_octets n ++ rest) rest le (number-back n rest lt)

pub text-back : (text rest : List ℕ) → text_at (length text) (text ++ rest) ≡ got text rest
text-back text rest =
    let long : length text ≤ length (text ++ rest) = omega (arith, length-append text rest) in
    let full : text_at (length text) (text ++ rest) ≡ got (take (length text) (text ++ rest)) (drop (length text) (text ++ rest)) = grind (arith, common_steps, long) in
    full ∙ ap (λ o. got o (drop (length text) (text ++ rest))) (take_at text rest (length text) refl) ∙ ap (got text) (drop_at text rest (length text) refl)

pub object-back : (object rest : List ℕ) → length object ≤ 131072 → object_at (object_octets object ++ rest) ≡ got object rest
object-back object rest le =
    ap object_at (append_assoc (number_octets (length object)) object rest)
    ∙ ap (λ f. then_read f text_at) (most-back 131072 (length object) (object ++ rest) le (omega arith))
    ∙ text-back object rest

-- so many items
pub times-back : {T : Type 0} (read : List ℕ → Field T) (spell : T → List ℕ) (P : T → Type 0) → ((x : T) (rest : List ℕ) → P x → read (spell x ++ rest) ≡ got x rest)
    → (xs : List T) (rest : List ℕ) → All P xs → times read (length xs) (all_octets spell xs ++ rest) ≡ got xs rest
times-back read spell P back [] rest h = refl
times-back read spell P back (x ∷ xs) rest h =
    let first = back x (all_octets spell xs ++ rest) (All-head P x xs h) in
    let others = times-back read spell P back xs rest (λ k d lt. h (suc k) d (omega arith)) in
    ap (times read (suc (length xs))) (append_assoc (spell x) (all_octets spell xs) rest)
    ∙ ap (λ f. then_read f (λ value behind. put_first value (times read (length xs) behind))) first
    ∙ ap (put_first x) others

pub counted-back : {T : Type 0} (read : List ℕ → Field T) (spell : T → List ℕ) (P : T → Type 0) → ((x : T) (rest : List ℕ) → P x → read (spell x ++ rest) ≡ got x rest)
    → (xs : List T) (rest : List ℕ) → length xs ≤ 1024 → All P xs → counted_at read (counted_octets spell xs ++ rest) ≡ got xs rest
counted-back read spell P back xs rest le h =
    ap (counted_at read) (append_assoc (number_octets (length xs)) (all_octets spell xs) rest)
    ∙ ap (λ f. then_read f (times read)) (most-back 1024 (length xs) (all_octets spell xs ++ rest) le (omega arith))
    ∙ times-back read spell P back xs rest h

id-read : (kind : ℕ) (hash rest : List ℕ) → length hash ≡ 14 → is_object_kind kind ≡ true → id_at (kind ∷ (hash ++ rest)) ≡ got (record { kind = kind; hash = hash }) rest
id-read kind hash rest e known =
    let long : 14 ≤ length (hash ++ rest) = omega (arith, length-append hash rest) in
    let first : take 14 (hash ++ rest) ≡ hash = take_at hash rest 14 e in
    let behind : drop 14 (hash ++ rest) ≡ rest = drop_at hash rest 14 e in
    let full : id_at (kind ∷ (hash ++ rest)) ≡ got (record { kind = kind; hash = take 14 (hash ++ rest) }) (drop 14 (hash ++ rest)) = grind (arith, common_steps, long, known) in
    full ∙ ap (λ h. got (record { kind = kind; hash = h }) (drop 14 (hash ++ rest))) first ∙ ap (got (record { kind = kind; hash = hash })) behind

pub id-back : (id : HashId) (rest : List ℕ) → length id.hash ≡ 14 → is_object_kind id.kind ≡ true → id_at (id_octets id ++ rest) ≡ got id rest
id-back id rest e known = id-read id.kind id.hash rest e known

pub fetched-back : (fetched : Fetched) (rest : List ℕ) → (IsFetched fetched) × IsFetchedInRange fetched → fetched_at (fetched_octets fetched ++ rest) ≡ got fetched rest
fetched-back fetched rest (keeps, hash) =
    ap fetched_at (append_assoc (id_octets fetched.id) (object_octets fetched.octets) rest)
    ∙ ap (λ f. then_read f (λ id behind. then_read (object_at behind) (λ object end. got (record { id = id; octets = object }) end))) (id-back fetched.id (object_octets fetched.octets ++ rest) hash keeps.0)
    ∙ ap (λ f. then_read f (λ object end. got (record { id = fetched.id; octets = object }) end)) (object-back fetched.octets rest keeps.1)

pub needed-back : (needed : Needed) (rest : List ℕ) → (IsNeeded needed) × IsNeededInRange needed → needed_at (needed_octets needed ++ rest) ≡ got needed rest
needed-back needed rest (keeps, range) =
    ap needed_at (append_assoc (id_octets needed.id) (number_octets needed.size) rest)
    ∙ ap (λ f. then_read f (λ id behind. then_read (number_at behind) (λ size end. got (record { id = id; size = size }) end))) (id-back needed.id (number_octets needed.size ++ rest) range.0 keeps)
    ∙ ap (λ f. then_read f (λ size end. got (record { id = needed.id; size = size }) end)) (number-back needed.size rest range.1)

outcome-read : (outcome : ℕ) (rest : List ℕ) → outcome ≤ 4 → outcome_at (outcome ∷ rest) ≡ got outcome rest
outcome-read outcome rest le = grind (arith, common_steps)

pub outcomes-back : (outcomes : List ℕ) → All (λ outcome. outcome ≤ 4) outcomes → times outcome_at (length outcomes) outcomes ≡ got outcomes []
outcomes-back [] h = refl
outcomes-back (x ∷ xs) h =
    ap (λ f. then_read f (λ value behind. put_first value (times outcome_at (length xs) behind))) (outcome-read x xs (All-head (λ outcome. outcome ≤ 4) x xs h))
    ∙ ap (put_first x) (outcomes-back xs (λ k d lt. h (suc k) d (omega arith)))

point-read : (point : List ℕ) → IsPoint point → point_at (point_octets point) ≡ text_at (length point) point
point-read point (inl none) = rw none refl
point-read point (inr four) = rw four refl

pub point-back : (point : List ℕ) → IsPoint point → point_at (point_octets point) ≡ got point []
point-back point h = point-read point h ∙ ap (text_at (length point)) (sym (append-nil point)) ∙ text-back point []

number_of-range : (op : Operation) → number_of op < 2 ^ 32
number_of-range operation.GetTypes = lit< tt
number_of-range operation.GetTypeDependencies = lit< tt
number_of-range operation.PutTypes = lit< tt

known-back : (left : ℕ) (op : Operation) (rest : List ℕ) → known_operation left (operation_of (number_of op)) rest ≡ got op rest
known-back left operation.GetTypes rest = refl
known-back left operation.GetTypeDependencies rest = refl
known-back left operation.PutTypes rest = refl

operation-back : (op : Operation) (rest : List ℕ) → operation_at (number_octets (number_of op) ++ rest) ≡ got op rest
operation-back op rest =
    ap (λ f. then_read f (λ n behind. known_operation (length (number_octets (number_of op) ++ rest)) (operation_of n) behind)) (number-back (number_of op) rest (number_of-range op))
    ∙ known-back (length (number_octets (number_of op) ++ rest)) op rest

behind-direction : Bool → List ℕ → Field Message
behind-direction reply octets = then_read (operation_at octets) (λ op rest. then_read (number_at rest) (λ tag end. body_at reply op tag end))

behind-back : (reply : Bool) (op : Operation) (tag : ℕ) (body : List ℕ) → tag < 2 ^ 32 → behind-direction reply ((number_octets (number_of op) ++ number_octets tag) ++ body) ≡ body_at reply op tag body
unfolding behind-direction
behind-back reply op tag body lt =
    ap (behind-direction reply) (append_assoc (number_octets (number_of op)) (number_octets tag) body)
    ∙ ap (λ f. then_read f (λ o rest. then_read (number_at rest) (λ t end. body_at reply o t end))) (operation-back op (number_octets tag ++ body))
    ∙ ap (λ f. then_read f (λ t end. body_at reply op t end)) (number-back tag body lt)

request-back : (op : Operation) (tag : ℕ) (body : List ℕ) → tag < 2 ^ 32 → message_at (head_octets 0 op tag ++ body) ≡ body_at false op tag body
unfolding behind-direction
request-back op tag body lt = behind-back false op tag body lt

reply-back : (op : Operation) (tag : ℕ) (body : List ℕ) → tag < 2 ^ 32 → message_at (head_octets 1 op tag ++ body) ≡ body_at true op tag body
unfolding behind-direction
reply-back op tag body lt = behind-back true op tag body lt

whole : {T : Type 0} (read : List ℕ → Field (List T)) (spell : List T → List ℕ) (xs : List T) → read (spell xs ++ []) ≡ got xs [] → read (spell xs) ≡ got xs []
whole read spell xs e = ap read (sym (append-nil (spell xs))) ∙ e

-- A message that keeps the limits is what its payload reads as.
pub message_back : (message : Message) → KeepsLimits message → InRange message → payload (payload_of message) ≡ got message []
unfolding payload payload_of
message_back (GetTypes tag ids) k r =
    let all = counted-back id_at id_octets (λ id. IsKnownId id × HasHash id) (λ id rest h. id-back id rest h.1 h.0) ids [] k.count (λ i d lt. (k.each i d lt, r.1 i d lt)) in
    ap alone (request-back operation.GetTypes tag (counted_octets id_octets ids) r.0
    ∙ ap (λ f. then_read f (λ xs rest. got (GetTypes tag xs) rest)) (whole (counted_at id_at) (counted_octets id_octets) ids all))
message_back (GetTypeDependencies tag ids point) k r =
    let all = counted-back id_at id_octets (λ id. IsKnownId id × HasHash id) (λ id rest h. id-back id rest h.1 h.0) ids (point_octets point) k.0.count (λ i d lt. (k.0.each i d lt, r.1 i d lt)) in
    ap (λ o. alone (message_at o)) (append_assoc (head_octets 0 operation.GetTypeDependencies tag) (counted_octets id_octets ids) (point_octets point))
    ∙ ap alone (request-back operation.GetTypeDependencies tag (counted_octets id_octets ids ++ point_octets point) r.0
    ∙ ap (λ f. then_read f (λ xs rest. then_read (point_at rest) (λ p end. got (GetTypeDependencies tag xs p) end))) all
    ∙ ap (λ f. then_read f (λ p end. got (GetTypeDependencies tag ids p) end)) (point-back point k.1))
message_back (PutTypes tag objects) k r =
    let all = counted-back object_at object_octets HasObjectLength (λ o rest h. object-back o rest h) objects [] k.count k.each in
    ap alone (request-back operation.PutTypes tag (counted_octets object_octets objects) r
    ∙ ap (λ f. then_read f (λ xs rest. got (PutTypes tag xs) rest)) (whole (counted_at object_at) (counted_octets object_octets) objects all))
message_back (Types tag objects) k r =
    let all = counted-back fetched_at fetched_octets (λ f. IsFetched f × IsFetchedInRange f) fetched-back objects [] k.count (λ i d lt. (k.each i d lt, r.1 i d lt)) in
    ap alone (reply-back operation.GetTypes tag (counted_octets fetched_octets objects) r.0
    ∙ ap (λ f. then_read f (λ xs rest. got (Types tag xs) rest)) (whole (counted_at fetched_at) (counted_octets fetched_octets) objects all))
message_back (Dependencies tag needed point) k r =
    let all = counted-back needed_at needed_octets (λ n. IsNeeded n × IsNeededInRange n) needed-back needed (point_octets point) k.0.count (λ i d lt. (k.0.each i d lt, r.1 i d lt)) in
    ap (λ o. alone (message_at o)) (append_assoc (head_octets 1 operation.GetTypeDependencies tag) (counted_octets needed_octets needed) (point_octets point))
    ∙ ap alone (reply-back operation.GetTypeDependencies tag (counted_octets needed_octets needed ++ point_octets point) r.0
    ∙ ap (λ f. then_read f (λ xs rest. then_read (point_at rest) (λ p end. got (Dependencies tag xs p) end))) all
    ∙ ap (λ f. then_read f (λ p end. got (Dependencies tag needed p) end)) (point-back point k.1))
message_back (Put tag outcomes) k r =
    ap alone (reply-back operation.PutTypes tag (object_octets outcomes) r
    ∙ ap (λ f. then_read (then_read f (times outcome_at)) (λ xs rest. got (Put tag xs) rest)) (most-back 1024 (length outcomes) outcomes k.count (omega (arith, k.count)))
    ∙ ap (λ f. then_read f (λ xs rest. got (Put tag xs) rest)) (outcomes-back outcomes k.each))
