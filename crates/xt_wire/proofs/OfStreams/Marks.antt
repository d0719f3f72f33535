-- What the mark of a reader tells.
use Rattle.std.proofs.Common.{◌≡◌, ℕ, suc, ◌+◌, ◌*◌, ◌≤◌, ◌<◌, ◌==◌, List, [], ◌∷◌, map, refl, sym, ap, ◌∙◌, arith, if◌then◌else◌, Some, None, ◌⊎◌, ⊎_elim}
use Rattle.std.specs.declared.option.Option.{Option}
use Rattle.std.specs.Option.{option_map}
use Rattle.std.proofs.lemmas.Nat.{mul-le}
use Rattle.xt_outside.specs.Bundles.{Bundle, octet_of, kind_of}
use Rattle.xt_outside.specs.declared.records.Kind.{Kind}
use Rattle.xt_outside.specs.declared.records.Kind.TheVariants.{Object, Sample, Idl, Json, Note}
use Rattle.xt_outside.specs.declared.records.Item.{Item}
use Rattle.xt_outside.specs.declared.records.RecordFault.{RecordFault}
use Rattle.xt_outside.specs.declared.records.RecordFault.TheVariants.{ReadFault, Truncated, UnknownKind, TooLong, TooMany, OutOfMemory}
use Rattle.xt_io.specs.declared.bundle.Pending.{Pending}
use Rattle.xt_io.specs.Readers.{Reading, inside}
use Rattle.xt_wire.specs.streams.Marks.{number_of_two, number_of, fault_numbers, item_numbers, item_number, octets_numbers, bundle_numbers, pending_numbers, mark_numbers, mark_of}

-- ---- numbers of lists

square_apart : (s t : ℕ) → suc s ≤ t → s * s + s < t * t
square_apart s t le =
    let least : suc s * suc s ≤ t * t = mul-le (suc s) (suc s) t t le le in
    let more : s * s + s < suc s * suc s = grind arith in
    omega (arith, least, more)

trichotomy : (s t : ℕ) → (s ≡ t) ⊎ ((suc s ≤ t) ⊎ (suc t ≤ s))
trichotomy s t = grind arith

pub two-inj : (a b c d : ℕ) → number_of_two a b ≡ number_of_two c d → (a ≡ c) × (b ≡ d)
unfolding number_of_two
two-inj a b c d e = ⊎_elim
    (λ same. let squares : (a + b) * (a + b) ≡ (c + d) * (c + d) = ap (λ (n : ℕ). n * n) same in let first : a ≡ c = omega (arith, e, squares) in (first, omega (arith, first, same)))
    (⊎_elim
    (λ lt. absurd (omega (arith, e, square_apart (a + b) (c + d) lt)))
    (λ lt. absurd (omega (arith, e, square_apart (c + d) (a + b) lt))))
    (trichotomy (a + b) (c + d))

pub number-inj : (xs ys : List ℕ) → number_of xs ≡ number_of ys → xs ≡ ys
unfolding number_of
number-inj [] [] e = refl
number-inj [] (y ∷ ys) e = absurd (omega (arith, e))
number-inj (x ∷ xs) [] e = absurd (omega (arith, e))
number-inj (x ∷ xs) (y ∷ ys) e =
    let both = two-inj x (number_of xs) y (number_of ys) (omega (arith, e)) in
    let rest : xs ≡ ys = number-inj xs ys both.1 in
    rw (both.0, rest) refl

-- ---- numbers of records, read back

kind-back : (kind : Kind) → kind_of (octet_of kind) ≡ Some kind
kind-back Object = refl
kind-back Sample = refl
kind-back Idl = refl
kind-back Json = refl
kind-back Note = refl

first : List ℕ → ℕ
first [] = 0
first (x ∷ xs) = x

rest : List ℕ → List ℕ
rest [] = []
rest (x ∷ xs) = xs

abbrev second : List ℕ → ℕ
second xs = first (rest xs)

abbrev third : List ℕ → ℕ
third xs = first (rest (rest xs))

abbrev tagged : ℕ → List ℕ → Option RecordFault
tagged tag xs = if tag == 1 then Some ReadFault else if tag == 2 then option_map (λ kind. Truncated (first xs) kind) (kind_of (second xs)) else if tag == 3 then Some (UnknownKind (first xs) (second xs)) else if tag == 4 then option_map (λ kind. TooLong (first xs) kind (third xs)) (kind_of (second xs)) else if tag == 5 then Some (TooMany (first xs)) else Some OutOfMemory

fault_from : List ℕ → Option RecordFault
fault_from [] = None
fault_from (tag ∷ xs) = tagged tag xs

fault-back : (o : Option RecordFault) → fault_from (fault_numbers o) ≡ o
unfolding fault_from first rest
fault-back None = refl
fault-back (Some ReadFault) = refl
fault-back (Some (Truncated at kind)) = ap (option_map (λ k. Truncated at k)) (kind-back kind)
fault-back (Some (UnknownKind at octet)) = refl
fault-back (Some (TooLong at kind n)) = ap (option_map (λ k. TooLong at k n)) (kind-back kind)
fault-back (Some (TooMany at)) = refl
fault-back (Some OutOfMemory) = refl

item_from : List ℕ → Option Item
item_from xs = option_map (λ kind. record { kind = kind; at = second xs; payload = rest (rest xs) }) (kind_of (first xs))

item-back : (item : Item) → item_from (item_numbers item) ≡ Some item
unfolding item_from first rest
item-back item = ap (option_map (λ kind. record { kind = kind; at = item.at; payload = item.payload })) (kind-back item.kind)

pending_from : List ℕ → Option Pending
pending_from [] = None
pending_from (octet ∷ xs) = option_map (λ kind. record { head = record { kind = kind; at = first xs; length = second xs }; rest = third xs }) (kind_of octet)

pending-back : (o : Option Pending) → pending_from (pending_numbers o) ≡ o
unfolding pending_from first rest
pending-back None = refl
pending-back (Some p) = ap (option_map (λ kind. record { head = record { kind = kind; at = p.head.at; length = p.head.length }; rest = p.rest })) (kind-back p.head.kind)

item-inj : (a b : Item) → item_number a ≡ item_number b → a ≡ b
item-inj a b e =
    let same : Some a ≡ Some b = sym (item-back a) ∙ ap item_from (number-inj _ _ e) ∙ item-back b in cc

items-inj : (xs ys : List Item) → map item_number xs ≡ map item_number ys → xs ≡ ys
items-inj [] [] e = refl
items-inj [] (y ∷ ys) e = absurd cc
items-inj (x ∷ xs) [] e = absurd cc
items-inj (x ∷ xs) (y ∷ ys) e =
    let heads : item_number x ≡ item_number y = cc in
    let tails : map item_number xs ≡ map item_number ys = cc in
    let head : x ≡ y = item-inj x y heads in
    let tail : xs ≡ ys = items-inj xs ys tails in
    rw (head, tail) refl

same_bundle : {xs ys : List Item} {e f : Option RecordFault} → xs ≡ ys → e ≡ f → Some (let b : Bundle = record { items = xs; end = e } in b) ≡ Some (let b : Bundle = record { items = ys; end = f } in b)
same_bundle p q = rw (p, q) refl

bundle-inj : (a b : Option Bundle) → bundle_numbers a ≡ bundle_numbers b → a ≡ b
bundle-inj None None e = refl
bundle-inj None (Some b) e = absurd cc
bundle-inj (Some a) None e = absurd cc
bundle-inj (Some a) (Some b) e =
    let ends : number_of (fault_numbers a.end) ≡ number_of (fault_numbers b.end) = cc in
    let lists : map item_number a.items ≡ map item_number b.items = cc in
    let end : a.end ≡ b.end = sym (fault-back a.end) ∙ ap fault_from (number-inj _ _ ends) ∙ fault-back b.end in
    let items : a.items ≡ b.items = items-inj _ _ lists in
    same_bundle items end

pub octets-inj : (a b : Option (List ℕ)) → octets_numbers a ≡ octets_numbers b → a ≡ b
octets-inj None None e = refl
octets-inj None (Some ys) e = absurd cc
octets-inj (Some xs) None e = absurd cc
octets-inj (Some xs) (Some ys) e = let same : xs ≡ ys = cc in ap (λ l. Some l) same

-- What two readers of one mark share.
pub record Shares (a b : Reading) : Type 0 where
  pub inside : inside a ≡ inside b
  pub ahead : a.ahead ≡ b.ahead
  pub pending : a.pending ≡ b.pending
  pub follow : a.may_follow ≡ b.may_follow
  pub faults : a.faults ≡ b.faults
  pub name : a.name ≡ b.name

pub mark-inj : (a b : Reading) → mark_of a ≡ mark_of b → Shares a b
unfolding mark_of
mark-inj a b e =
    let same : mark_numbers a ≡ mark_numbers b = number-inj _ _ e in
    let ahead : number_of (bundle_numbers a.ahead) ≡ number_of (bundle_numbers b.ahead) = cc in
    let left : number_of (octets_numbers (inside a)) ≡ number_of (octets_numbers (inside b)) = cc in
    let pending : number_of (pending_numbers a.pending) ≡ number_of (pending_numbers b.pending) = cc in
    record {
      inside = octets-inj _ _ (number-inj _ _ left);
      ahead = bundle-inj _ _ (number-inj _ _ ahead);
      pending = sym (pending-back a.pending) ∙ ap pending_from (number-inj _ _ pending) ∙ pending-back b.pending;
      follow = cc;
      faults = cc;
      name = cc;
    }
