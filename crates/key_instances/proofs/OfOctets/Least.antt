-- The counted member with the least id, found from the last member to the first.
use Rattle.std.proofs.Common.{◌≡◌, ℕ, suc, ◌+◌, ◌≤◌, ◌<◌, Bool, true, false, cond, ◌&&◌, ◌⊎◌, ◌==◌, nat_le, Option, Some, None, refl, ap, ◌∙◌, inl, inr, arith}
use Rattle.std.proofs.lemmas.Bool.{cases_Bool, and_parts, and_from, or_from, ltb-true, leb-true, lt-ltb, le-leb, eqb-true, ne_eqb, both_ways}
use Rattle.std.specs.Option.{option_map}
use Rattle.xt_shapes.specs.Keyable.{counted}
use Rattle.xt_shapes.specs.Shape.{Head, Shape, Members, no_members, member}
use Rattle.xcdr_model.specs.Keys.{counts_id}
use Rattle.key_instances.specs.declared.octets.order.Counted.{Counted}
use Rattle.key_instances.specs.octets.Orders.{NoneBetween, IsNext, member_in, is_earlier, comes_first}

abbrev pub id_of : Option Counted → Option ℕ
id_of o = option_map (λ (c : Counted). c.id) o

-- this member, at place k, or the one found behind it
abbrev pub earlier : Bool → ℕ → ℕ → Head → Option Counted → Option Counted
earlier keyed n k h later = cond (comes_first keyed h n (id_of later)) (Some (record { at = k; id = h.id })) later

-- among members of which the first stands at place k
abbrev pub least : Bool → ℕ → ℕ → Members → Option Counted
least keyed n k no_members = None
least keyed n k (member h t ms) = earlier keyed n k h (least keyed n (suc k) ms)

-- the same as `IsLeast`, of members of which the first stands at place k
record Among (keyed : Bool) (ms : Members) (n k : ℕ) (c : Counted) : Type 0 where
  head : Head
  type : Shape
  behind : ℕ
  place : c.at ≡ k + behind
  there : member_in ms behind ≡ Some (head, type)
  id : head.id ≡ c.id
  is_counted : counted keyed head ≡ true
  late : n ≤ c.id
  least : NoneBetween keyed ms n c.id

abbrev Found : Bool → Members → ℕ → ℕ → Option Counted → Type 0
Found keyed ms n k None = (id : ℕ) → n ≤ id → counts_id keyed ms id ≡ false
Found keyed ms n k (Some c) = Among keyed ms n k c

-- an id from n on, before the other's, is not that of a member that doesn't come first
not_own : (keyed : Bool) (h : Head) (n : ℕ) (other : Option ℕ) (id : ℕ) → comes_first keyed h n other ≡ false → n ≤ id → is_earlier id other ≡ true → (counted keyed h && (h.id == id)) ≡ false
not_own keyed h n other id e late before = by (counted keyed h) (cases_Bool (h.id == id)) e
  where
    by : (b : Bool) → ((h.id == id) ≡ true) ⊎ ((h.id == id) ≡ false) → (b && (nat_le n h.id && is_earlier h.id other)) ≡ false → (b && (h.id == id)) ≡ false
    by false q f = refl
    by true (inr m) f = m
    by true (inl y) f =
        let same = eqb-true h.id id y in
        absurd (both_ways (nat_le n h.id && is_earlier h.id other) f (and_from (nat_le n h.id) (is_earlier h.id other) (le-leb n h.id (omega (arith, late, same))) (ap (λ (k : ℕ). is_earlier k other) same ∙ before)))

-- an id before the member's own
before_own : (keyed : Bool) (h : Head) (id : ℕ) → id < h.id → (counted keyed h && (h.id == id)) ≡ false
before_own keyed h id below = by (counted keyed h) (ne_eqb h.id id (λ e. omega (arith, e, below)))
  where
    by : (b : Bool) → (h.id == id) ≡ false → (b && (h.id == id)) ≡ false
    by true e = e
    by false e = refl

first_here : (keyed : Bool) (n k : ℕ) (h : Head) (t : Shape) (ms : Members) (other : Option ℕ) → comes_first keyed h n other ≡ true → ((id : ℕ) → n ≤ id → is_earlier h.id other ≡ true → id < h.id → counts_id keyed ms id ≡ false)
    → Among keyed (member h t ms) n k (record { at = k; id = h.id })
first_here keyed n k h t ms other e rest =
    let p = and_parts (counted keyed h) (nat_le n h.id && is_earlier h.id other) e in
    let q = and_parts (nat_le n h.id) (is_earlier h.id other) p.1 in
    record {
      head = h;
      type = t;
      behind = 0;
      place = omega arith;
      there = refl;
      id = refl;
      is_counted = p.0;
      late = leb-true n h.id q.0;
      least = λ id late below. or_from (counted keyed h && (h.id == id)) (counts_id keyed ms id) (before_own keyed h id below) (rest id late q.1 below);
    }

step : (keyed : Bool) (n k : ℕ) (h : Head) (t : Shape) (ms : Members) (later : Option Counted) → Found keyed ms n (suc k) later → Found keyed (member h t ms) n k (earlier keyed n k h later)
step keyed n k h t ms None rest = by (comes_first keyed h n None) refl
  where
    by : (b : Bool) → comes_first keyed h n None ≡ b → Found keyed (member h t ms) n k (cond b (Some (record { at = k; id = h.id })) None)
    by true e = first_here keyed n k h t ms None e (λ id late first below. rest id late)
    by false e = λ id late. or_from (counted keyed h && (h.id == id)) (counts_id keyed ms id) (not_own keyed h n None id e late refl) (rest id late)
step keyed n k h t ms (Some c) rest = by (comes_first keyed h n (Some c.id)) refl
  where
    by : (b : Bool) → comes_first keyed h n (Some c.id) ≡ b → Found keyed (member h t ms) n k (cond b (Some (record { at = k; id = h.id })) (Some c))
    by true e = first_here keyed n k h t ms (Some c.id) e (λ id late first below. rest.least id late (omega (arith, below, ltb-true h.id c.id first)))
    by false e = record {
      head = rest.head;
      type = rest.type;
      behind = suc rest.behind;
      place = omega (arith, rest.place);
      there = rest.there;
      id = rest.id;
      is_counted = rest.is_counted;
      late = rest.late;
      least = λ id late below. or_from (counted keyed h && (h.id == id)) (counts_id keyed ms id) (not_own keyed h n (Some c.id) id e late (lt-ltb id c.id below)) (rest.least id late below);
    }

found_all : (keyed : Bool) (n k : ℕ) (ms : Members) → Found keyed ms n k (least keyed n k ms)
found_all keyed n k no_members = λ id late. refl
found_all keyed n k (member h t ms) = step keyed n k h t ms (least keyed n (suc k) ms) (found_all keyed n (suc k) ms)

as_next : (keyed : Bool) (ms : Members) (n : ℕ) (o : Option Counted) → Found keyed ms n 0 o → IsNext keyed ms n o
as_next keyed ms n None f = f
as_next keyed ms n (Some c) f = record {
  head = f.head;
  type = f.type;
  there = ap (member_in ms) (let at : c.at ≡ f.behind = omega (arith, f.place) in at) ∙ f.there;
  id = f.id;
  is_counted = f.is_counted;
  late = f.late;
  least = f.least;
}

pub least_next : (keyed : Bool) (ms : Members) (n : ℕ) → IsNext keyed ms n (least keyed n 0 ms)
least_next keyed ms n = as_next keyed ms n (least keyed n 0 ms) (found_all keyed n 0 ms)
