-- What holds of every pool, and holds with one text more.
use Rattle.std.proofs.Common.{◌≡◌, ◌≢◌, ℕ, ◌<◌, Bool, true, false, cond, List, [], ◌∷◌, ◌++◌, length, Some, None, refl, sym, ap, subst, ◌∙◌, arith}
use Rattle.std.specs.Prelude.{All, OnOk, OnErr, Result, Ok, Err, map, slice_get}
use Rattle.std.specs.Option.{option_map}
use Rattle.std.proofs.lemmas.Option.{slice_get_within, get_or_from_slice_get, slice_get-map}
use Rattle.std.proofs.lemmas.List.{length-append}
use Rattle.std.proofs.lemmas.List.Elements.{All-nil, All-cons, All-head, All-tail, All-push}
use Rattle.std.proofs.lemmas.List.Quantifiers.{all_pairs_push}
use Rattle.type_trees.specs.declared.types.HashId.{HashId}
use Rattle.type_trees.specs.Ids.{same_id}
use Rattle.type_object.specs.Names.{named}
use Rattle.type_object.specs.Pools.{Texts, IsObject, IsPool, found}
use Rattle.type_object.specs.declared.entry.Entry.{Entry}
use Rattle.type_object.specs.Entries.{held}
use Rattle.type_trees.proofs.SameIds.{same_is, same_id_itself}

found_by : (P : HashId → List ℕ → Type 0) (b : Bool) (x : HashId × List ℕ) (xs : Texts) (id : HashId) (bs : List ℕ) → same_id id x.0 ≡ b → P x.0 x.1 → (found id xs ≡ Some bs → P id bs) → cond b (Some x.1) (found id xs) ≡ Some bs → P id bs
found_by P true x xs id bs s h more e = let text : x.1 ≡ bs = cc in subst (λ (i : HashId). P i bs) (sym (same_is id x.0 s)) (subst (P x.0) text h)
found_by P false x xs id bs s h more e = more e

-- what is found of a pool holds of its entry
found_has : (P : HashId → List ℕ → Type 0) (pool : Texts) (id : HashId) (bs : List ℕ) → All (λ e. P e.0 e.1) pool → found id pool ≡ Some bs → P id bs
found_has P [] id bs h e = absurd cc
found_has P (x ∷ xs) id bs h e = found_by P (same_id id x.0) x xs id bs refl (All-head (λ e. P e.0 e.1) x xs h) (found_has P xs id bs (All-tail (λ e. P e.0 e.1) x xs h)) e

pub found_own : (pool : Texts) (id : HashId) (bs : List ℕ) → IsPool pool → found id pool ≡ Some bs → id ≡ named bs
found_own pool id bs h e = found_has (λ i t. i ≡ named t) pool id bs h.own e

pub found_object : (pool : Texts) (id : HashId) (bs : List ℕ) → IsPool pool → found id pool ≡ Some bs → IsObject bs
found_object pool id bs h e = found_has (λ i t. IsObject t) pool id bs h.objects e

absent_by : (b : Bool) (x : HashId × List ℕ) (xs : Texts) (id : HashId) → same_id id x.0 ≡ b → (found id xs ≡ None → All (λ e. e.0 ≢ id) xs) → cond b (Some x.1) (found id xs) ≡ None → All (λ e. e.0 ≢ id) (x ∷ xs)
absent_by true x xs id s more e = absurd cc
absent_by false x xs id s more e = All-cons (λ e. e.0 ≢ id) x xs (λ same. let there : same_id id x.0 ≡ true = ap (same_id id) same ∙ same_id_itself id in let z : true ≡ false = sym there ∙ s in absurd cc) (more e)

absent_others : (pool : Texts) (id : HashId) → found id pool ≡ None → All (λ e. e.0 ≢ id) pool
absent_others [] id e = All-nil (λ e. e.0 ≢ id)
absent_others (x ∷ xs) id e = absent_by (same_id id x.0) x xs id refl (absent_others xs id) e

pub none_pooled : IsPool []
none_pooled = record {
  few = omega arith;
  objects = All-nil (λ e. IsObject e.1);
  own = All-nil (λ e. e.0 ≡ named e.1);
  distinct = λ i j d lt le. absurd (omega arith);
}

pub one_more_pooled : (pool : Texts) (id : HashId) (bs : List ℕ) → IsPool pool → found id pool ≡ None → length pool < 4096 → id ≡ named bs → IsObject bs → IsPool (pool ++ (id, bs) ∷ [])
one_more_pooled pool id bs h absent room name object = record {
  few = omega (arith, length-append pool ((id, bs) ∷ []));
  objects = All-push (λ e. IsObject e.1) pool (id, bs) h.objects object;
  own = All-push (λ e. e.0 ≡ named e.1) pool (id, bs) h.own name;
  distinct = all_pairs_push (λ a b. a.0 ≢ b.0) pool (id, bs) h.distinct (λ k d lt. absent_others pool id absent k d lt);
}

pub at_own : (pool : Texts) (i : ℕ) (e : HashId × List ℕ) → IsPool pool → slice_get pool i ≡ Some e → e.0 ≡ named e.1
at_own pool i e h is = let P : HashId × List ℕ → Type 0 = λ x. x.0 ≡ named x.1 in subst P (get_or_from_slice_get pool i e e is) (h.own i e (slice_get_within pool i e is))

pub entry_own : (es : List (HashId × Entry)) (i : ℕ) (id : HashId) (e : Entry) (bs : List ℕ) → IsPool (map held es) → Some (id, e) ≡ slice_get es i → bs ≡ e.octets → id ≡ named bs
entry_own es i id e bs h is text = at_own (map held es) i (id, e.octets) h (slice_get-map held es i ∙ ap (option_map held) (sym is)) ∙ ap named (sym text)

-- a call's answer: the text was added, or nothing was
pub stored_pooled : {X E : Type 0} (result : Result X E) (pool new : Texts) (id : HashId) (bs : List ℕ) → OnOk result (new ≡ pool ++ (id, bs) ∷ []) → OnErr result (new ≡ pool) → IsPool pool → found id pool ≡ None → length pool < 4096 → id ≡ named bs → IsObject bs → IsPool new
stored_pooled (Ok x) pool new id bs ok err h absent room name object = subst IsPool (sym ok) (one_more_pooled pool id bs h absent room name object)
stored_pooled (Err e) pool new id bs ok err h absent room name object = subst IsPool (sym err) h
