-- The rounds of a fetch, by what comes next.
use Rattle.std.proofs.Common.{◌≡◌, ℕ, suc, ◌+◌, ◌≤◌, List, [], ◌∷◌, ◌++◌, length, Option, refl, sym, ap, subst, arith}
use Rattle.std.specs.Prelude.{None, Some}
use Rattle.type_trees.specs.declared.types.HashId.{HashId}
use Rattle.type_object.specs.Pools.{Texts}
use Rattle.type_object.specs.visits.Visits.{Known}
use Rattle.type_lookup.specs.declared.messages.messages.Fetched.{Fetched}
use Rattle.type_lookup.specs.declared.messages.messages.Message.{Message}
use Rattle.type_lookup.specs.declared.messages.messages.Message.TheVariants.{GetTypes}
use Rattle.lookup_fetch.specs.declared.plan.Next.{Next}
use Rattle.lookup_fetch.specs.declared.plan.Next.TheVariants.{Many, Whole, Ask}
use Rattle.lookup_fetch.specs.declared.faults.FetchFault.{FetchFault}
use Rattle.lookup_fetch.specs.declared.faults.FetchFault.TheVariants.{TooMany}
use Rattle.lookup_fetch.specs.Rounds.{reached, objects_of, lacking, found_in, plan, reply_fault, texts_in, done, stopped, waits, Rounds, ends, asks, unless_fault, unanswered, answered, rounds}
use Rattle.lookup_fetch.proofs.Planning.{plan_whole, plan_ask}

-- ---- what comes next

-- too many identifiers are met
abbrev pub IsMany : Known → List HashId → Type 0
IsMany known ids = plan known ids ≡ Many

-- all objects are there: these
abbrev pub IsWhole : Known → List HashId → List Fetched → Type 0
IsWhole known ids objects = plan known ids ≡ Whole objects

-- these are asked for
abbrev pub Asks : Known → List HashId → List HashId → Type 0
Asks known ids asked = plan known ids ≡ Ask asked

pub data Coming (known : Known) (ids : List HashId) : Type 0 where
  many : IsMany known ids → Coming known ids
  whole : (objects : List Fetched) → IsWhole known ids objects → Coming known ids
  asking : (asked : List HashId) → Asks known ids asked → Coming known ids

pub coming : (known : Known) (ids : List HashId) → Coming known ids
coming known ids = by (plan known ids) refl
  where
    by : (next : Next) → plan known ids ≡ next → Coming known ids
    by Many e = many e
    by (Whole objects) e = whole objects e
    by (Ask asked) e = asking asked e

module _ (known : Known) (ids : List HashId) (few : length (reached known ids) ≤ 4096) where
  abbrev met : List HashId
  met = reached known ids

  pub whole_next : (objects : List Fetched) → objects_of known (reached known ids) ≡ Some objects → IsWhole known ids objects
  whole_next objects e = sym (plan_whole known ids met met (Some objects) objects refl few refl (sym e) refl)

  pub ask_next : objects_of known (reached known ids) ≡ None → Asks known ids (lacking known (reached known ids))
  ask_next e = sym (plan_ask known ids met met met (lacking known met) None refl few refl (sym e) refl refl refl)

-- ---- the rounds then

module _ (ids : List HashId) (tag : ℕ) (held : Texts) where
  pub many_rounds : (messages : List Message) → IsMany (found_in held) ids → rounds ids tag held messages ≡ ends (stopped TooMany)
  unfolding rounds
  many_rounds [] e = ap (unanswered tag) e
  many_rounds (reply ∷ replies) e = ap (λ (n : Next). answered tag n reply (rounds ids (tag + 1) (held ++ texts_in reply) replies)) e

  pub whole_rounds : (messages : List Message) (objects : List Fetched) → IsWhole (found_in held) ids objects → rounds ids tag held messages ≡ ends (done objects)
  unfolding rounds
  whole_rounds [] objects e = ap (unanswered tag) e
  whole_rounds (reply ∷ replies) objects e = ap (λ (n : Next). answered tag n reply (rounds ids (tag + 1) (held ++ texts_in reply) replies)) e

  pub last_asked : (asked : List HashId) → Asks (found_in held) ids asked → rounds ids tag held [] ≡ asks (GetTypes tag asked ∷ []) (ends waits)
  unfolding rounds
  last_asked asked e = ap (unanswered tag) e

  pub next_asked : (reply : Message) (replies : List Message) (asked : List HashId) → Asks (found_in held) ids asked
      → rounds ids tag held (reply ∷ replies) ≡ asks (GetTypes tag asked ∷ []) (unless_fault (reply_fault tag asked reply) (rounds ids (tag + 1) (held ++ texts_in reply) replies))
  unfolding rounds
  next_asked reply replies asked e = ap (λ (n : Next). answered tag n reply (rounds ids (tag + 1) (held ++ texts_in reply) replies)) e

-- ---- rounds that wait have a request more than replies

-- They wait, and have so many requests.
abbrev Waits : ℕ → Rounds → Type 0
Waits count all = all.end ≡ waits → length all.requests ≡ count

waits_behind : (request : Message) (fault : Option FetchFault) (after : Rounds) (n : ℕ) → Waits (suc n) after → Waits (suc (suc n)) (asks (request ∷ []) (unless_fault fault after))
waits_behind request None after n so e = ap suc (so e)
waits_behind request (Some fault) after n so e = absurd (cc e)

waiting : (ids : List HashId) (tag : ℕ) (held : Texts) (messages : List Message) → Waits (suc (length messages)) (rounds ids tag held messages)
waiting ids tag held [] = elim (coming (found_in held) ids) [
  | many e ↦ subst (Waits 1) (sym (many_rounds ids tag held [] e)) (λ w. absurd (cc w))
  | whole objects e ↦ subst (Waits 1) (sym (whole_rounds ids tag held [] objects e)) (λ w. absurd (cc w))
  | asking asked e ↦ subst (Waits 1) (sym (last_asked ids tag held asked e)) (λ w. refl)
]
waiting ids tag held (reply ∷ replies) = elim (coming (found_in held) ids) [
  | many e ↦ subst (Waits (suc (suc (length replies)))) (sym (many_rounds ids tag held (reply ∷ replies) e)) (λ w. absurd (cc w))
  | whole objects e ↦ subst (Waits (suc (suc (length replies)))) (sym (whole_rounds ids tag held (reply ∷ replies) objects e)) (λ w. absurd (cc w))
  | asking asked e ↦
      subst (Waits (suc (suc (length replies)))) (sym (next_asked ids tag held reply replies asked e))
      (waits_behind (GetTypes tag asked) (reply_fault tag asked reply) (rounds ids (tag + 1) (held ++ texts_in reply) replies) (length replies) (waiting ids (tag + 1) (held ++ texts_in reply) replies))
]

-- With as many replies as requests they don't wait.
pub not_waiting : (ids : List HashId) (tag : ℕ) (held : Texts) (messages : List Message) → length (rounds ids tag held messages).requests ≡ length messages → (rounds ids tag held messages).end ≡ waits → ⊥
not_waiting ids tag held messages same e = let n = waiting ids tag held messages e in absurd (omega (arith, n, same))
