-- From what was read to the record at the front.
use Rattle.std.proofs.Common.{◌≡◌, ℕ, ◌≤◌, ◌<◌, List, [], ◌∷◌, None, Some, Result, Ok, Err, refl, sym, ap, ◌∙◌, subst, length, take, drop, get_or, arith, take_all, drop_of_length-le}
use Rattle.std.proofs.lemmas.List.{length-take}
use Rattle.std.proofs.lemmas.Grind.{common_steps}
use Rattle.std.specs.Int.{w32, from_be_bytes}
use Rattle.std.specs.declared.option.Option.{Option}
use Rattle.xt_outside.specs.declared.records.Kind.{Kind}
use Rattle.xt_outside.specs.declared.records.Head.{Head}
use Rattle.xt_outside.specs.declared.records.RecordFault.{RecordFault}
use Rattle.xt_outside.specs.declared.records.RecordFault.TheVariants.{Truncated, UnknownKind, TooLong}
use Rattle.xt_outside.specs.Outside.{TakesUpTo}
use Rattle.xt_outside.specs.Bundles.{Front, limit_of, kind_of, known_at, length_at, sized_at, front}
use Rattle.xt_io.specs.Fronts.{GivesFront, ReadsFront}

-- one octet was taken
abbrev pub Headed : Option (List ℕ) → ℕ → Option (List ℕ) → Type 0
Headed None octet after = Unit {0}
Headed (Some all) octet after = (rest : List ℕ) × (all ≡ octet ∷ rest) × (after ≡ Some rest)

pub headed-one : (a b : Option (List ℕ)) (into : List ℕ) (n : ℕ) → TakesUpTo (length into) a b (take n into) → length into ≡ 1 → 1 ≤ n → Headed a (get_or into 0 0) b
headed-one None b into n p one le = tt
headed-one (Some []) b [] n p one le = absurd (omega arith)
headed-one (Some []) b (o ∷ os) n p one le =
    let all : take n (o ∷ os) ≡ o ∷ os = take_all n (o ∷ os) (omega arith) in
    absurd (cc (all, p.0))
headed-one (Some (x ∷ xs)) b [] n p one le = absurd (omega arith)
headed-one (Some (x ∷ xs)) b (o ∷ []) n p one le =
    let all : take n (o ∷ []) ≡ o ∷ [] = take_all n (o ∷ []) (omega arith) in
    (xs, ap (λ (l : List ℕ). get_or l 0 0 ∷ xs) (sym p.0 ∙ all), p.1)
headed-one (Some (x ∷ xs)) b (o ∷ q ∷ os) n p one le = absurd (omega arith)

pub reads_end : (at : ℕ) (a b : Option (List ℕ)) (into : List ℕ) (n : ℕ) → TakesUpTo (length into) a b (take n into) → length into ≡ 1 → n < 1 → ReadsFront (front at) a (Ok None) b
unfolding front
reads_end at None b into n p one lt = tt
reads_end at (Some []) b into n p one lt = (refl, p.1 ∙ ap (λ (l : List ℕ). Some l) (drop_of_length-le [] (omega arith)))
reads_end at (Some (x ∷ xs)) b into n p one lt =
    absurd (omega (arith, ap length p.0, length-take n into, length-take (length into) (x ∷ xs)))

pub reads_unknown : (at octet : ℕ) (a b : Option (List ℕ)) → Headed a octet b → kind_of octet ≡ None → ReadsFront (front at) a (Err (UnknownKind at octet)) b
unfolding front
reads_unknown at octet None b h e = tt
reads_unknown at octet (Some x) b h e = rw h.1 (ap (λ k. known_at k octet at h.0) e)

pub reads_known : (at octet : ℕ) (kind : Kind) (a b c : Option (List ℕ)) (result : Result (Option Head) RecordFault) → Headed a octet b → kind_of octet ≡ Some kind
    → ReadsFront (length_at kind at) b result c → ReadsFront (front at) a result c
unfolding front
reads_known at octet kind None b c result h e p = tt
reads_known at octet kind (Some x) b c result h e p = rw (h.1, e) (subst (λ (o : Option (List ℕ)). ReadsFront (length_at kind at) o result c) h.2 p)

pub reads_cut : (at : ℕ) (kind : Kind) (b c : Option (List ℕ)) (into : List ℕ) (n : ℕ) → TakesUpTo (length into) b c (take n into) → length into ≡ 4 → n < 4
    → ReadsFront (length_at kind at) b (Err (Truncated at kind)) c
reads_cut at kind None c into n p four lt = tt
reads_cut at kind (Some x) c into n p four lt =
    let short : length x < 4 = omega (arith, ap length p.0, length-take n into, length-take (length into) x) in
    grind (arith, common_steps)

-- a length past the limit
pub sized_too_long : (kind : Kind) (at n : ℕ) (b c : Option (List ℕ)) → limit_of kind < n → ReadsFront (sized_at kind at n) b (Err (TooLong at kind n)) c
sized_too_long kind at n None c lt = tt
sized_too_long kind at n (Some x) c lt = grind (arith, common_steps)

pub sized_head : (kind : Kind) (at n : ℕ) (b : Option (List ℕ)) → n ≤ limit_of kind → ReadsFront (sized_at kind at n) b (Ok (Some (record { kind = kind; at = at; length = n }))) b
sized_head kind at n None le = tt
sized_head kind at n (Some x) le = grind (arith, common_steps)

long_enough : (at : ℕ) (kind : Kind) (x into : List ℕ) → 4 ≤ length x → take 4 x ≡ into → length_at kind at x ≡ sized_at kind at (from_be_bytes w32 into) (drop 4 x)
long_enough at kind x into le e = rw (← e) (grind (arith, common_steps))

pub reads_sized : (at : ℕ) (kind : Kind) (b c d : Option (List ℕ)) (into : List ℕ) (n : ℕ) (result : Result (Option Head) RecordFault) → TakesUpTo (length into) b c (take n into) → length into ≡ 4 → 4 ≤ n
    → ReadsFront (sized_at kind at (from_be_bytes w32 into)) c result d → ReadsFront (length_at kind at) b result d
reads_sized at kind None c d into n result p four le q = tt
reads_sized at kind (Some x) c d into n result p four le q =
    let all : take n into ≡ into = take_all n into (omega arith) in
    let size : take 4 x ≡ into = ap (λ k. take k x) (sym four) ∙ sym p.0 ∙ all in
    let rest : c ≡ Some (drop 4 x) = p.1 ∙ ap (λ k. Some (drop k x)) four in
    let long : 4 ≤ length x = omega (arith, ap length size, length-take 4 x) in
    let after = subst (λ (o : Option (List ℕ)). ReadsFront (sized_at kind at (from_be_bytes w32 into)) o result d) rest q in
    let same : length_at kind at x ≡ sized_at kind at (from_be_bytes w32 into) (drop 4 x) = long_enough at kind x into long size in
    subst (λ (f : Front). GivesFront f result d) (sym same) after
