-- What is listed of the objects that were met.
use Rattle.std.proofs.Common.{◌≡◌, ℕ, ◌-◌, ◌<◌, ◌≤◌, Bool, true, not, cond, List, [], ◌∷◌, length, take, take_all, drop, filter, inl, inr, refl, sym, ap, subst, ◌∙◌, arith}
use Rattle.std.specs.Prelude.{All}
use Rattle.std.proofs.lemmas.Bool.{cases_lt}
use Rattle.std.proofs.lemmas.List.{take_rest, length-drop}
use Rattle.type_trees.specs.declared.types.HashId.{HashId}
use Rattle.type_object.specs.References.{is_among}
use Rattle.type_object.specs.visits.Visits.{Known, is_known, met}
use Rattle.lookup_service.specs.replies.Replies.{depends}
use Rattle.type_object.proofs.OfVisits.Left.{all_left}
use Rattle.lookup_service.proofs.OfReplies.Walking.{met_known}

same_filter : (p q : HashId → Bool) (xs : List HashId) → ((id : HashId) → p id ≡ q id) → filter p xs ≡ filter q xs
same_filter p q [] h = refl
same_filter p q (x ∷ xs) h = ap (λ b. cond b (x ∷ filter p xs) (filter p xs)) (h x) ∙ ap (λ o. cond (q x) (x ∷ o) o) (same_filter p q xs h)

pub listed_is : (k : Known) (asked seen slice set left : List HashId) → seen ≡ met k 5120 asked → slice ≡ seen → ((id : HashId) → is_among id set ≡ is_among id asked) → left ≡ take 4096 (filter (λ id. not (is_among id set)) slice) → left ≡ depends k asked
unfolding depends
listed_is k asked seen slice set left is same among out =
    out ∙ ap (λ o. take 4096 (filter (λ id. not (is_among id set)) o)) (same ∙ is)
    ∙ ap (take 4096) (same_filter (λ id. not (is_among id set)) (λ id. not (is_among id asked)) (met k 5120 asked) (λ id. ap not (among id)))

pub listed_known : (k : Known) (asked seen slice set left : List HashId) → seen ≡ met k 5120 asked → slice ≡ seen → left ≡ take 4096 (filter (λ id. not (is_among id set)) slice) → All (λ id. is_known k id ≡ true) left
listed_known k asked seen slice set left is same out =
    all_left (λ id. is_known k id ≡ true) (λ id. not (is_among id set)) 4096 slice left out (subst (All (λ id. is_known k id ≡ true)) (sym (same ∙ is)) (met_known k 5120 asked))

-- at most 64 from a place on
pub page_is : (ids : List HashId) (index count : ℕ) → count ≤ 64 → (count < 64 → length ids - index ≤ count) → take count (take (length ids - index) (drop index ids)) ≡ take 64 (drop index ids)
page_is ids index count fits whole =
    ap (take count) (take_rest ids index)
    ∙ elim (cases_lt count 64) [
      | inl lt ↦ let long : length (drop index ids) ≤ count = (let w = whole lt in omega (arith, w, length-drop index ids)) in take_all count (drop index ids) long ∙ sym (take_all 64 (drop index ids) (omega arith))
      | inr ge ↦ let same : count ≡ 64 = omega arith in ap (λ n. take n (drop index ids)) same
    ]
