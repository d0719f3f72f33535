-- What is declared, listed record after record.
use Rattle.std.proofs.Common.{◌≡◌, ℕ, ◌+◌, ◌<◌, List, [], ◌∷◌, ◌++◌, map, length, drop, get_or, None, Some, Result, Ok, Err, refl, sym, ap, ◌∙◌, subst}
use Rattle.std.specs.Prelude.{Option, slice_get}
use Rattle.std.proofs.lemmas.List.{drop_more}
use Rattle.std.proofs.lemmas.Option.{get_or_from_slice_get, slice_get_within}
use Rattle.type_trees.specs.declared.types.HashId.{HashId}
use Rattle.type_object.specs.Pools.{Texts, Refusal, added}
use Rattle.type_resolve.specs.Adding.{after_added, all_added}
use Rattle.tool_runs.specs.output.Outputs.{Output, after_pieces}
use Rattle.tool_runs.specs.output.Runs.{Leads}
use Rattle.tool_runs.specs.Commands.{only}
use Rattle.tool_types.specs.declared.declaring.Declared.{Declared as Record}
use Rattle.tool_types.specs.Declaring.{AllGood, IsGood, declared_view}
use Rattle.tool_commands.specs.listing.Listing.{all_texts, object_record, texts_in}

-- ---- the next of a list

pub next_record : (records : List Record) (i : ℕ) (d : Record) → i < length records → d ≡ get_or records i d → drop i records ≡ d ∷ drop (i + 1) records
next_record records i d lt is = drop_more records i d lt ∙ ap (λ (x : Record). x ∷ drop (i + 1) records) (sym is)

pub good_record : (records : List Record) (i : ℕ) (d : Record) → drop i records ≡ d ∷ drop (i + 1) records → AllGood (drop i records) → IsGood d × AllGood (drop (i + 1) records)
good_record records i d e good = subst AllGood e good

-- ---- objects

added_behind : (r : Result (HashId × Texts) Refusal) (b : Texts) (xs ys : List (List ℕ)) → ((p : Texts) → all_added p xs ≡ (b, None) → all_added p (xs ++ ys) ≡ all_added b ys) → (a : Texts) → after_added a r (λ p. all_added p xs) ≡ (b, None)
    → after_added a r (λ p. all_added p (xs ++ ys)) ≡ all_added b ys
added_behind (Ok r) b xs ys more a e = more r.1 e
added_behind (Err why) b xs ys more a e = absurd (let none : (let x : Texts × Option Refusal = (a, Some why) in x) ≡ (b, None) = e in let apart : Some why ≡ None = ap (λ (x : Texts × Option Refusal). x.1) none in cc)

-- texts behind others that were all added
pub all_behind : (a b : Texts) (xs ys : List (List ℕ)) → all_added a xs ≡ (b, None) → all_added a (xs ++ ys) ≡ all_added b ys
unfolding all_added
all_behind a b [] ys e = ap (λ (x : Texts × Option Refusal). all_added x.0 ys) e
all_behind a b (x ∷ xs) ys e = added_behind (added a x) b xs ys (λ p. all_behind p b xs ys) a e

pub none_added : (a : Texts) → all_added a [] ≡ (a, None)
unfolding all_added
none_added a = refl

pub record_added : (a b : Texts) (d : Record) (ds : List Record) → all_added a (texts_in (declared_view d)) ≡ (b, None) → all_added a (all_texts (map declared_view (d ∷ ds))) ≡ all_added b (all_texts (map declared_view ds))
record_added a b d ds e = all_behind a b (texts_in (declared_view d)) (all_texts (map declared_view ds)) e

-- ---- their records

slice_next : (pool : Texts) (i : ℕ) (e : HashId × List ℕ) → slice_get pool i ≡ Some e → drop i pool ≡ e ∷ drop (i + 1) pool
slice_next pool i e is = drop_more pool i e (slice_get_within pool i e is) ∙ ap (λ (x : HashId × List ℕ). x ∷ drop (i + 1) pool) (get_or_from_slice_get pool i e e is)

-- what was written leads to the next object and those behind it
pub next_object : (pool : Texts) (i : ℕ) (id : HashId) (octets : List ℕ) (first : Option Output) (old new : Option (List ℕ)) → slice_get pool i ≡ Some (id, octets) → Leads first (Some (only (map object_record (drop i pool)))) old new
    → Leads first (Some (after_pieces (object_record (id, octets) ∷ []) (only (map object_record (drop (i + 1) pool))))) old new
next_object pool i id octets first old new is p = subst (λ (l : Texts). Leads first (Some (only (map object_record l))) old new) (slice_next pool i (id, octets) is) p
