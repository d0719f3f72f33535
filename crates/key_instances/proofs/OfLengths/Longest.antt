-- Of each valid type a value whose key is as long as any, or longer than a hash: texts and sequences are at their bound, or have 17 items.
use Rattle.std.proofs.Common.{◌≡◌, ℕ, zero, suc, Bool, true, false, cond, not, ◌&&◌, ◌==◌, List, [], ◌∷◌, length, map, replicate, refl, ap, ap₂, ◌∙◌, inl, inr, arith, nat_lt}
use Rattle.std.proofs.lemmas.Bool.{cases_Bool, and_parts, and_from, eq-eqb, false_from_ne_true, ltb-true, not_from_false}
use Rattle.std.proofs.lemmas.List.{length-replicate}
use Rattle.xt_shapes.specs.Defaults.{default_of}
use Rattle.xt_shapes.specs.Keyable.{any_key, counted}
use Rattle.xt_shapes.specs.Lists.{has, all}
use Rattle.xt_shapes.specs.NodeRules.{rules_hold, members_hold, structure_fits, dims_fit, is_light}
use Rattle.xt_shapes.specs.Shape.{Head, Shape, prim, str, enumeration, bitmask, sequence, array, map_of, structure, union, Members, no_members, member, product}
use Rattle.xt_shapes.specs.Typing.{is_past, is_text_within, has_type, have_types}
use Rattle.xt_shapes.specs.Vals.{Val, text, listed, struct_of, Slots, no_slots, one_slot, present, vals_of, each_val}
use Rattle.xcdr_model.specs.KeyOctets.{members_from, key_type, key_types}
use Rattle.xcdr_model.specs.Keys.{by_id, all_present, key_part, key_parts}
use Rattle.shape_laws.specs.Premises.{DefaultTyped}
use Rattle.shape_laws.proofs.GatherTyped.{vals_each}
use Rattle.shape_laws.proofs.KeySame.{seconds}
use Rattle.shape_laws.proofs.KeySort.{Entries}
use Rattle.shape_laws.proofs.Rules.{right}

-- a bound, or what is too long for a hash
abbrev pub most : ℕ → ℕ
most bound = cond (bound == 0) 17 bound

abbrev mutual
  pub longest : Shape → Val
  longest (prim p) = default_of (prim p)
  longest (str bound) = text (replicate (most bound) 1)
  longest (enumeration e bits ls) = default_of (enumeration e bits ls)
  longest (bitmask bits fs) = default_of (bitmask bits fs)
  longest (sequence bound tc t) = listed (vals_of (replicate (most bound) (longest t)))
  longest (array dims tc t) = listed (vals_of (replicate (product dims) (longest t)))
  longest (map_of bound kc k vc t) = default_of (map_of bound kc k vc t)
  longest (structure e ms) = struct_of (longest_slots ms)
  longest (union e k d cs) = default_of (union e k d cs)

  pub longest_slots : Members → Slots
  longest_slots no_members = no_slots
  longest_slots (member h t ms) = one_slot (present (longest t)) (longest_slots ms)

-- ---- it has the type

not_past : (bound n : ℕ) → n ≡ most bound → not (is_past bound n) ≡ true
not_past bound n e = elim (cases_Bool (bound == 0)) [
  | inl y ↦ ap (λ (c : Bool). not (not c && nat_lt bound n)) y
  | inr m ↦ (let same : n ≡ bound = e ∙ ap (λ (c : Bool). cond c 17 bound) m in
      not_from_false (is_past bound n) (false_from_ne_true (is_past bound n) (λ more. omega (arith, same, ltb-true bound n (right (not (bound == 0)) (nat_lt bound n) more)))))
]

all_same : {A : Type 0} (p : A → Bool) (n : ℕ) (x : A) → p x ≡ true → all p (replicate n x) ≡ true
all_same p zero x e = refl
all_same p (suc n) x e = and_from (p x) (all p (replicate n x)) e (all_same p n x e)

no_nul : (n : ℕ) → has (λ b. b == 0) (replicate n 1) ≡ false
no_nul zero = refl
no_nul (suc n) = no_nul n

text_typed : (bound n : ℕ) → n ≡ most bound → is_text_within bound (replicate n 1) ≡ true
text_typed bound n e =
    let t = replicate n 1 in
    and_from (not (is_past bound (length t))) (all (λ b. nat_lt b 256) t && not (has (λ b. b == 0) t)) (not_past bound (length t) (length-replicate n 1 ∙ e))
    (and_from (all (λ b. nat_lt b 256) t) (not (has (λ b. b == 0) t)) (all_same (λ b. nat_lt b 256) n 1 refl) (not_from_false (has (λ b. b == 0) t) (no_nul n)))

items_typed : (t : Shape) (n : ℕ) (ok : ℕ → Bool) → ok n ≡ true → has_type t (longest t) ≡ true → (ok (length (each_val (vals_of (replicate n (longest t))))) && all (λ w. has_type t w) (each_val (vals_of (replicate n (longest t))))) ≡ true
items_typed t n ok e h =
    let xs = replicate n (longest t) in
    ap (λ (ys : List Val). ok (length ys) && all (λ w. has_type t w) ys) (vals_each xs)
    ∙ and_from (ok (length xs)) (all (λ w. has_type t w) xs) (ap ok (length-replicate n (longest t)) ∙ e) (all_same (λ w. has_type t w) n (longest t) h)

mutual
  unfolding has_type have_types

  pub longest_typed : DefaultTyped → (t : Shape) → rules_hold t ≡ true → has_type t (longest t) ≡ true
  longest_typed d (prim p) r = d (prim p) r
  longest_typed d (str bound) r = text_typed bound (most bound) refl
  longest_typed d (enumeration e bits ls) r = d (enumeration e bits ls) r
  longest_typed d (bitmask bits fs) r = d (bitmask bits fs) r
  longest_typed d (sequence bound tc t) r = items_typed t (most bound) (λ n. not (is_past bound n)) (not_past bound (most bound) refl) (longest_typed d t (right (is_light t) (rules_hold t) r))
  longest_typed d (array dims tc t) r = items_typed t (product dims) (λ n. n == product dims) (eq-eqb (product dims) (product dims) refl) (longest_typed d t (right (is_light t) (rules_hold t) (right (dims_fit dims) (is_light t && rules_hold t) r)))
  longest_typed d (map_of bound kc k vc t) r = d (map_of bound kc k vc t) r
  longest_typed d (structure e ms) r = slots_typed d ms (right (structure_fits ms) (members_hold ms) r)
  longest_typed d (union e k disc cs) r = d (union e k disc cs) r

  slots_typed : DefaultTyped → (ms : Members) → members_hold ms ≡ true → have_types ms (longest_slots ms) ≡ true
  slots_typed d no_members r = refl
  slots_typed d (member h t ms) r =
      let p = and_parts (rules_hold t) (members_hold ms) r in
      and_from (has_type t (longest t)) (have_types ms (longest_slots ms)) (longest_typed d t p.0) (slots_typed d ms p.1)

-- ---- its key is the longest of the key's type

insert_seconds : {A B : Type 0} (f : A → B) (x : ℕ × A) (xs : Entries A) → by_id (x.0, f x.1) (seconds f xs) ≡ seconds f (by_id x xs)
insert_seconds f x [] = refl
insert_seconds f x (y ∷ ys) = by (nat_lt x.0 y.0) (insert_seconds f x ys)
  where
    by : (c : Bool) → by_id (x.0, f x.1) (seconds f ys) ≡ seconds f (by_id x ys) → cond c ((x.0, f x.1) ∷ (y.0, f y.1) ∷ seconds f ys) ((y.0, f y.1) ∷ by_id (x.0, f x.1) (seconds f ys)) ≡ seconds f (cond c (x ∷ y ∷ ys) (y ∷ by_id x ys))
    by true e = refl
    by false e = ap (λ zs. (y.0, f y.1) ∷ zs) e

pub all_longest : (xs : Entries Shape) → all_present (map (λ x. x.1) (seconds longest xs)) ≡ longest_slots (members_from xs)
all_longest [] = refl
all_longest (x ∷ xs) = ap (one_slot (present (longest x.1))) (all_longest xs)

one_longest : (c : Bool) (h : Head) (t : Shape) (ys : Entries Val) (xs : Entries Shape) → key_part t (longest t) ≡ longest (key_type t) → ys ≡ seconds longest xs
    → cond c (by_id (h.id, key_part t (longest t)) ys) ys ≡ seconds longest (cond c (by_id (h.id, key_type t) xs) xs)
one_longest false h t ys xs e f = f
one_longest true h t ys xs e f = ap₂ (λ (v : Val) (zs : Entries Val). by_id (h.id, v) zs) e f ∙ insert_seconds longest (h.id, key_type t) xs

mutual
  pub longest_part : (t : Shape) → key_part t (longest t) ≡ longest (key_type t)
  longest_part (prim p) = refl
  longest_part (str bound) = refl
  longest_part (enumeration e bits ls) = refl
  longest_part (bitmask bits fs) = refl
  longest_part (sequence bound tc t) = refl
  longest_part (array dims tc t) = refl
  longest_part (map_of bound kc k vc t) = refl
  longest_part (structure e ms) = ap (λ (zs : Entries Val). struct_of (all_present (map (λ z. z.1) zs))) (longest_parts (any_key ms) ms) ∙ ap struct_of (all_longest (key_types (any_key ms) ms))
  longest_part (union e k d cs) = refl

  pub longest_parts : (keyed : Bool) (ms : Members) → key_parts keyed ms (longest_slots ms) ≡ seconds longest (key_types keyed ms)
  longest_parts keyed no_members = refl
  longest_parts keyed (member h t ms) = one_longest (counted keyed h) h t (key_parts keyed ms (longest_slots ms)) (key_types keyed ms) (longest_part t) (longest_parts keyed ms)
