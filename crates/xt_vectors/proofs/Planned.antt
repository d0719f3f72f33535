-- Members as they are drawn and changed: their ids rise below nine, and an enumeration has at most four literals.
use Rattle.std.proofs.Common.{◌≡◌, ℕ, zero, suc, ◌+◌, ◌-◌, ◌/◌, ◌^◌, ◌<◌, ◌≤◌, ◌==◌, Bool, true, false, List, [], ◌∷◌, ◌++◌, map, take, length, if◌then◌else◌, inl, inr, refl, sym, ap, subst, append-nil, lit<, arith}
use Rattle.std.specs.Prelude.{nat_lt}
use Rattle.std.proofs.Math.Nat.{mod-lt}
use Rattle.std.proofs.lemmas.Bool.{cases_Bool, ltb-true}
use Rattle.std.proofs.lemmas.List.{length-append, length-map}
use Rattle.xt_shapes.specs.declared.leaves.Try.{Try}
use Rattle.xt_vectors.specs.declared.plans.Plan.{Plan}
use Rattle.xt_vectors.specs.declared.plans.Sort.{Sort}
use Rattle.xt_vectors.specs.declared.plans.Sort.TheVariants.{Long, Octet, Text, Shorts, Literals, Pair}
use Rattle.xt_vectors.specs.declared.readers.Change.{Change}
use Rattle.xt_vectors.specs.declared.readers.Change.TheVariants.{Same, Shorter, Longer, Tighter, Fewer}
use Rattle.xt_vectors.specs.Draws.{next, drawn}
use Rattle.xt_vectors.specs.Plans.{bound_drawn, last_drawn, sort_drawn, is_zero, plan_drawn, plans_drawn}
use Rattle.xt_vectors.specs.Readers.{tighter_as, fewer_as, changed, shorter, kept, added, reader_plans}

pub below : (m s : ℕ) → 0 < m → drawn m s < m
unfolding drawn
below m s p = mod-lt (next s / 2 ^ 33) p

-- an enumeration has at most four literals
abbrev pub Fits : Sort → Type 0
Fits (Literals last) = last ≤ 3
Fits Long = Unit {0}
Fits Octet = Unit {0}
Fits (Text bound) = Unit {0}
Fits (Shorts bound) = Unit {0}
Fits Pair = Unit {0}

-- members whose ids rise from one number on and stay below another
abbrev pub Between : ℕ → ℕ → List Plan → Type 0
Between low high [] = low ≤ high
Between low high (p ∷ ps) = (low ≤ p.id) × Fits p.sort × Between (p.id + 1) high ps

pub low_high : (low high : ℕ) (ps : List Plan) → Between low high ps → low ≤ high
low_high low high [] b = b
low_high low high (p ∷ ps) b = omega (arith, b.0, low_high (p.id + 1) high ps b.2)

one_behind : (low high : ℕ) (ps : List Plan) (p : Plan) → Between low high ps → p.id ≡ high → Fits p.sort → Between low (high + 1) (ps ++ p ∷ [])
one_behind low high [] p b is fits = (omega (arith, b, is), fits, omega (arith, is))
one_behind low high (q ∷ ps) p b is fits = (b.0, b.1, one_behind (q.id + 1) high ps p b.2 is fits)

wider : (low high more : ℕ) (ps : List Plan) → high ≤ more → Between low high ps → Between low more ps
wider low high more [] le b = omega (arith, le, b)
wider low high more (p ∷ ps) le b = (b.0, b.1, wider (p.id + 1) high more ps le b.2)

taken : (k low high : ℕ) (ps : List Plan) → Between low high ps → Between low high (take k ps)
taken zero low high ps b = low_high low high ps b
taken (suc k) low high [] b = b
taken (suc k) low high (p ∷ ps) b = (b.0, b.1, taken k (p.id + 1) high ps b.2)

-- ---- drawn

pick : (b : Bool) (x y : Sort × ℕ) → Fits x.0 → Fits y.0 → Fits (if b then x else y).0
pick true x y f g = f
pick false x y f g = g

sort_fits : (s : ℕ) → Fits (sort_drawn s).0
unfolding sort_drawn
sort_fits s =
    let t = drawn 6 s in
    let n = next s in
    let few : last_drawn n ≤ 3 = omega (arith, below 3 n (lit< tt)) in
    pick (t == 0) (Long, n) _ tt (pick (t == 1) (Octet, n) _ tt (pick (t == 2) (Text (bound_drawn n), next n) _ tt (pick (t == 3) (Shorts (bound_drawn n), next n) _ tt (pick (t == 4) (Literals (last_drawn n), next n) (Pair, n) few tt))))

-- a member with an id
abbrev Planned : ℕ → Plan → Type 0
Planned id p = (p.id ≡ id) × Fits p.sort

choose : (id : ℕ) (b : Bool) (x y : Plan × ℕ) → Planned id x.0 → Planned id y.0 → Planned id (if b then x else y).0
choose id true x y f g = f
choose id false x y f g = g

plan_planned : (id s : ℕ) → Planned id (plan_drawn id s).0
unfolding plan_drawn
plan_planned id s = choose id (is_zero (sort_drawn s).1) _ _ (refl, sort_fits s) (refl, sort_fits s)

pub plans_between : (n s : ℕ) → Between 0 n (plans_drawn n s).0
plans_between zero s = omega arith
plans_between (suc n) s =
    let before = plans_drawn n s in
    let p = plan_planned n before.1 in
    subst (λ k. Between 0 k (before.0 ++ (plan_drawn n before.1).0 ∷ [])) (let e : n + 1 ≡ suc n = omega arith in e) (one_behind 0 n before.0 (plan_drawn n before.1).0 (plans_between n s) p.0 p.1)

pub plans_length : (n s : ℕ) → length (plans_drawn n s).0 ≡ n
plans_length zero s = refl
plans_length (suc n) s = let before = plans_drawn n s in omega (arith, length-append before.0 ((plan_drawn n before.1).0 ∷ []), plans_length n s)

-- ---- changed

tighter_kept : (tc : Try) (p : Plan) (sort : Sort) → Fits p.sort → Planned p.id (tighter_as tc p sort)
tighter_kept tc p (Text bound) f = (refl, tt)
tighter_kept tc p (Shorts bound) f = (refl, tt)
tighter_kept tc p Long f = (refl, f)
tighter_kept tc p Octet f = (refl, f)
tighter_kept tc p (Literals last) f = (refl, f)
tighter_kept tc p Pair f = (refl, f)

fewer_kept : (p : Plan) (sort : Sort) → Fits sort → Fits p.sort → Planned p.id (fewer_as p sort)
fewer_kept p (Literals last) few f = (refl, omega (arith, few))
fewer_kept p Long few f = (refl, f)
fewer_kept p Octet few f = (refl, f)
fewer_kept p (Text bound) few f = (refl, f)
fewer_kept p (Shorts bound) few f = (refl, f)
fewer_kept p Pair few f = (refl, f)

changed_kept : (c : Change) (p : Plan) → Fits p.sort → Planned p.id (changed c p)
changed_kept (Tighter tc) p f = tighter_kept tc p p.sort f
changed_kept Fewer p f = fewer_kept p p.sort f f
changed_kept Same p f = (refl, f)
changed_kept Shorter p f = (refl, f)
changed_kept Longer p f = (refl, f)

all_changed : (c : Change) (low high : ℕ) (ps : List Plan) → Between low high ps → Between low high (map (changed c) ps)
all_changed c low high [] b = b
all_changed c low high (p ∷ ps) b =
    let k = changed_kept c p b.1 in
    (omega (arith, b.0, k.0), k.1, subst (λ n. Between (n + 1) high (map (changed c) ps)) (sym k.0) (all_changed c (p.id + 1) high ps b.2))

one_added : (c : Change) (low high : ℕ) (ps : List Plan) → Between low high ps → Between low (high + 1) (ps ++ added c high)
one_added Longer low high ps b = one_behind low high ps (record { id = high; sort = Long; tc = Try.Discard; optional = false; must_understand = false }) b refl tt
one_added Same low high ps b = subst (Between low (high + 1)) (sym (append-nil ps)) (wider low high (high + 1) ps (omega arith) b)
one_added Shorter low high ps b = subst (Between low (high + 1)) (sym (append-nil ps)) (wider low high (high + 1) ps (omega arith) b)
one_added (Tighter tc) low high ps b = subst (Between low (high + 1)) (sym (append-nil ps)) (wider low high (high + 1) ps (omega arith) b)
one_added Fewer low high ps b = subst (Between low (high + 1)) (sym (append-nil ps)) (wider low high (high + 1) ps (omega arith) b)

pub reader_between : (c : Change) (n : ℕ) (ps : List Plan) → Between 0 n ps → Between 0 (n + 1) (reader_plans c n ps)
unfolding reader_plans
reader_between c n ps b = one_added c 0 n (map (changed c) (take (kept c (length ps)) ps)) (all_changed c 0 n (take (kept c (length ps)) ps) (taken (kept c (length ps)) 0 n ps b))

-- ---- there is a member

some_shorter : (n : ℕ) → 1 ≤ n → 1 ≤ shorter n
some_shorter n le = elim (cases_Bool (nat_lt 1 n)) [
  | inl y ↦ (let more : 1 < n = ltb-true 1 n y in subst (λ k. 1 ≤ k) (sym (ap (λ b. if b then n - 1 else n) y)) (let one : 1 ≤ n - 1 = omega (arith, more) in one))
  | inr all ↦ subst (λ k. 1 ≤ k) (sym (ap (λ b. if b then n - 1 else n) all)) le
]

some_kept : (c : Change) (n : ℕ) → 1 ≤ n → 1 ≤ kept c n
some_kept Shorter n le = some_shorter n le
some_kept Same n le = le
some_kept Longer n le = le
some_kept (Tighter tc) n le = le
some_kept Fewer n le = le

-- the first of some is among any beginning of them
some_taken : (k : ℕ) (ps : List Plan) → 1 ≤ k → 1 ≤ length ps → 1 ≤ length (take k ps)
some_taken zero ps k le = absurd (omega arith)
some_taken (suc n) [] k le = le
some_taken (suc n) (p ∷ ps) k le = omega arith

pub some_reader : (c : Change) (n : ℕ) (ps : List Plan) → 1 ≤ length ps → 1 ≤ length (reader_plans c n ps)
unfolding reader_plans
some_reader c n ps le =
    let first = take (kept c (length ps)) ps in
    omega (arith, length-append (map (changed c) first) (added c n), length-map first (changed c), some_taken (kept c (length ps)) ps (some_kept c (length ps) le) le)

pub few_between : (low high : ℕ) (ps : List Plan) → Between low high ps → low + length ps ≤ high
few_between low high [] b = omega (arith, b)
few_between low high (p ∷ ps) b = omega (arith, b.0, few_between (p.id + 1) high ps b.2)
