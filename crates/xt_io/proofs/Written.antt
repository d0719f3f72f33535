-- Records that are written are read.
use Rattle.std.proofs.Common.{◌≡◌, ℕ, zero, suc, ◌+◌, ◌-◌, ◌≤◌, ◌<◌, ◌^◌, false, lit<, List, [], ◌∷◌, ◌++◌, length, take, drop, None, Some, refl, sym, ap, ◌∙◌, arith, append_assoc, append-nil, zero-add, nat_lt, length-append}
use Rattle.std.proofs.Math.Seq.{take-append_seam, drop-append_seam}
use Rattle.std.proofs.lemmas.Nat.{from_be_bytes-to_be_bytes_4}
use Rattle.std.proofs.lemmas.Grind.{common_steps}
use Rattle.std.specs.Int.{w32, to_be_bytes, from_be_bytes}
use Rattle.xt_outside.specs.declared.records.Kind.{Kind}
use Rattle.xt_outside.specs.declared.records.Kind.TheVariants.{Object, Sample, Idl, Json, Note}
use Rattle.xt_outside.specs.declared.records.Item.{Item}
use Rattle.xt_outside.specs.declared.records.Head.{Head}
use Rattle.xt_outside.specs.Bundles.{Bundle, headed, octet_of, limit_of, kind_of, known_at, length_at, sized_at, front, bundle_from, bundle_of_front, before_bundle, with_payload, after_head, nothing, item_of}
use Rattle.xt_io.specs.Records.{head_octets, record_octets, items_octets, AreRecords, AreRead, AreWhole, end_of_items, items_before}

limit_fits : (kind : Kind) → limit_of kind < 2 ^ 32
limit_fits Object = lit< tt
limit_fits Sample = lit< tt
limit_fits Idl = lit< tt
limit_fits Json = lit< tt
limit_fits Note = lit< tt

kind_back : (kind : Kind) → kind_of (octet_of kind) ≡ Some kind
kind_back Object = refl
kind_back Sample = refl
kind_back Idl = refl
kind_back Json = refl
kind_back Note = refl

not_below : (m n : ℕ) → n ≤ m → nat_lt m n ≡ false
not_below m n le = grind (arith, common_steps)

sized_within : (kind : Kind) (at n : ℕ) (octets : List ℕ) → n ≤ limit_of kind → sized_at kind at n octets ≡ headed (record { kind = kind; at = at; length = n }) octets
sized_within kind at n octets fits = rw (not_below (limit_of kind) n fits) refl

length_of_four : (kind : Kind) (at a b c d : ℕ) (rest : List ℕ) → length_at kind at (a ∷ b ∷ c ∷ d ∷ rest) ≡ sized_at kind at (from_be_bytes w32 (a ∷ b ∷ c ∷ d ∷ [])) rest
length_of_four kind at a b c d rest =
    let enough : nat_lt (length (a ∷ b ∷ c ∷ d ∷ rest)) 4 ≡ false = not_below (length (a ∷ b ∷ c ∷ d ∷ rest)) 4 (omega arith) in
    rw enough refl

-- the head of a record stands at the front of its octets
front_of_record : (kind : Kind) (at : ℕ) (payload rest : List ℕ) → length payload ≤ limit_of kind
    → front at ((head_octets kind (length payload) ++ payload) ++ rest) ≡ headed (record { kind = kind; at = at; length = length payload }) (payload ++ rest)
unfolding front
front_of_record kind at payload rest fits =
    let n = length payload in
    let number : from_be_bytes w32 (to_be_bytes w32 n) ≡ n = from_be_bytes-to_be_bytes_4 n (omega (arith, limit_fits kind, fits)) in
    ap (λ k. known_at k (octet_of kind) at (to_be_bytes w32 n ++ (payload ++ rest))) (kind_back kind)
    ∙ length_of_four kind at _ _ _ _ (payload ++ rest)
    ∙ ap (λ (m : ℕ). sized_at kind at m (payload ++ rest)) number
    ∙ sized_within kind at n (payload ++ rest) fits

with_whole : (head : Head) (payload rest : List ℕ) (behind : Bundle) → head.length ≡ length payload → with_payload head (payload ++ rest) behind ≡ before_bundle (item_of head payload) behind
unfolding with_payload
with_whole head payload rest behind e =
    let enough : nat_lt (length (payload ++ rest)) head.length ≡ false = not_below _ _ (omega (arith, e, length-append payload rest)) in
    let whole : take head.length (payload ++ rest) ≡ payload = ap (λ (n : ℕ). take n (payload ++ rest)) e ∙ take-append_seam payload rest in
    rw (enough, whole) refl

one_record : (item : Item) (more at : ℕ) (rest : List ℕ) → item.at ≡ at → length item.payload ≤ limit_of item.kind
    → bundle_from (suc more) at (record_octets item.kind item.payload ++ rest) ≡ before_bundle item (bundle_from more (at + (5 + length item.payload)) rest)
unfolding bundle_from
one_record item more at rest place fits =
    let head : Head = record { kind = item.kind; at = at; length = length item.payload } in
    let behind : drop (length item.payload) (item.payload ++ rest) ≡ rest = drop-append_seam item.payload rest in
    let same : item_of head item.payload ≡ item = ap (λ (n : ℕ). let i : Item = record { kind = item.kind; at = n; payload = item.payload } in i) (sym place) in
    ap (bundle_of_front (λ head rest. with_payload head rest (bundle_from more (after_head at head) (drop head.length rest)))) (front_of_record item.kind at item.payload rest fits)
    ∙ with_whole head item.payload rest _ refl
    ∙ ap (λ i. before_bundle i (bundle_from more (at + (5 + length item.payload)) (drop (length item.payload) (item.payload ++ rest)))) same
    ∙ ap (λ l. before_bundle item (bundle_from more (at + (5 + length item.payload)) l)) behind

read_on : (items : List Item) (more at : ℕ) (rest : List ℕ) → AreRecords at items
    → bundle_from (length items + more) at (items_octets items ++ rest) ≡ items_before items (bundle_from more (end_of_items at items) rest)
read_on [] more at rest are = ap (λ (n : ℕ). bundle_from n at rest) (zero-add more)
read_on (item ∷ items) more at rest are =
    let next = at + (5 + length item.payload) in
    let count : length (item ∷ items) + more ≡ suc (length items + more) = omega arith in
    ap (λ (n : ℕ). bundle_from n at (items_octets (item ∷ items) ++ rest)) count
    ∙ ap (bundle_from (suc (length items + more)) at) (append_assoc (record_octets item.kind item.payload) (items_octets items) rest)
    ∙ one_record item (length items + more) at (items_octets items ++ rest) are.0 are.1
    ∙ ap (before_bundle item) (read_on items more next rest are.2)

pub are_read : AreRead
are_read items more at rest are = read_on items more at rest are

none_left : (more at : ℕ) → bundle_from more at [] ≡ nothing
unfolding bundle_from front
none_left zero at = refl
none_left (suc more) at = refl

pub are_whole : AreWhole
are_whole items are few =
    let count : length items + (1048576 - length items) ≡ 1048576 = omega (arith, few) in
    ap (λ (n : ℕ). bundle_from n 0 (items_octets items)) (sym count)
    ∙ ap (bundle_from (length items + (1048576 - length items)) 0) (sym (append-nil (items_octets items)))
    ∙ read_on items (1048576 - length items) 0 [] are
    ∙ ap (items_before items) (none_left (1048576 - length items) (end_of_items 0 items))
    ∙ ap (λ (l : List Item). let b : Bundle = record { items = l; end = None } in b) (append-nil items)
