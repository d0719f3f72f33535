-- What comes next in a fetch.
use Rattle.std.proofs.Common.{◌≡◌, ℕ, ◌<◌, ◌≤◌, Bool, true, false, not, cond, List, length, Option, refl, sym, ap, subst, ◌∙◌}
use Rattle.std.specs.Prelude.{All, None, Some, nat_lt}
use Rattle.std.proofs.lemmas.Bool.{lt-ltb, le-ltb}
use Rattle.type_trees.specs.declared.types.HashId.{HashId}
use Rattle.type_lookup.specs.declared.messages.messages.Fetched.{Fetched}
use Rattle.type_object.specs.visits.Visits.{Known, is_known}
use Rattle.type_object.proofs.OfVisits.Left.{all_left, all_chosen}
use Rattle.type_object.specs.Pools.{Texts}
use Rattle.type_lookup.specs.messages.Spelling.{IsKnownId}
use Rattle.lookup_fetch.specs.declared.plan.Next.{Next}
use Rattle.lookup_fetch.specs.declared.plan.Next.TheVariants.{Many, Whole, Ask}
use Rattle.lookup_fetch.specs.Plans.{IsAsking}
use Rattle.lookup_fetch.specs.Rounds.{reached, objects_of, closure, found_in, or_ask, lacking, plan}
use Rattle.lookup_fetch.proofs.Reaching.{unknown}

pub plan_many : (k : Known) (ids met : List HashId) → met ≡ reached k ids → 4096 < length met → Many ≡ plan k ids
unfolding plan
plan_many k ids met is many = sym (ap (λ b. cond b Many (or_ask (lacking k (reached k ids)) (closure k ids))) (ap (λ o. nat_lt 4096 (length o)) (sym is) ∙ lt-ltb 4096 (length met) many))

closed : (k : Known) (ids met : List HashId) → met ≡ reached k ids → length met ≤ 4096 → closure k ids ≡ objects_of k met
unfolding closure
closed k ids met is few = ap (λ b. cond b None (objects_of k (reached k ids))) (ap (λ o. nat_lt 4096 (length o)) (sym is) ∙ le-ltb 4096 (length met) few) ∙ ap (objects_of k) (sym is)

planned : (k : Known) (ids met : List HashId) → met ≡ reached k ids → length met ≤ 4096 → plan k ids ≡ or_ask (lacking k met) (objects_of k met)
unfolding plan
planned k ids met is few =
    ap (λ b. cond b Many (or_ask (lacking k (reached k ids)) (closure k ids))) (ap (λ o. nat_lt 4096 (length o)) (sym is) ∙ le-ltb 4096 (length met) few)
    ∙ ap (or_ask (lacking k (reached k ids))) (closed k ids met is few) ∙ ap (λ o. or_ask (lacking k o) (objects_of k met)) (sym is)

pub plan_whole : (k : Known) (ids met slice : List HashId) (o : Option (List Fetched)) (objects : List Fetched) → met ≡ reached k ids → length met ≤ 4096 → slice ≡ met → o ≡ objects_of k slice → o ≡ Some objects → Whole objects ≡ plan k ids
plan_whole k ids met slice o objects is few same gathered whole = sym (planned k ids met is few ∙ ap (or_ask (lacking k met)) (ap (objects_of k) (sym same) ∙ sym gathered ∙ whole))

pub plan_ask : (k : Known) (ids met slice other left : List HashId) (o : Option (List Fetched)) → met ≡ reached k ids → length met ≤ 4096 → slice ≡ met → o ≡ objects_of k slice → o ≡ None → other ≡ met → left ≡ lacking k other → Ask left ≡ plan k ids
plan_ask k ids met slice other left o is few same gathered none again are =
    sym (planned k ids met is few ∙ ap (or_ask (lacking k met)) (ap (objects_of k) (sym same) ∙ sym gathered ∙ none) ∙ ap (λ (l : List HashId). Ask l) (ap (lacking k) (sym again) ∙ sym are))

closed_whole : (b : Bool) (ids : List HashId) (objects : List Fetched) (o : Option (List Fetched)) → Whole objects ≡ cond b Many (or_ask ids o) → o ≡ Some objects
closed_whole true ids objects o e = absurd (cc e)
closed_whole false ids objects None e = absurd (cc e)
closed_whole false ids objects (Some others) e = cc e

-- where all objects are there, they are the closure
pub whole_closure : (k : Known) (ids : List HashId) (objects : List Fetched) → Whole objects ≡ plan k ids → closure k ids ≡ Some objects
unfolding plan
whole_closure k ids objects e = closed_whole (nat_lt 4096 (length (reached k ids))) (lacking k (reached k ids)) objects (closure k ids) e

-- what is asked for
pub asking : (held : Texts) (met slice left : List HashId) → slice ≡ met → left ≡ lacking (found_in held) slice → All IsKnownId met → length left ≤ 64 → IsAsking held left
asking held met slice left same are kinds few = record {
  few = few;
  kinds = all_left IsKnownId (λ id. not (is_known (found_in held) id)) 64 slice left are (subst (All IsKnownId) (sym same) kinds);
  new = all_chosen (λ id. found_in held id ≡ None) (λ id. not (is_known (found_in held) id)) 64 slice left are (λ id e. unknown (found_in held id) e);
}
