-- Of texts alone the pool of a front has what is compiled.
use Rattle.std.proofs.Common.{◌≡◌, ℕ, ◌+◌, List, [], ◌∷◌, ◌++◌, true, false, None, Some, Result, Ok, Err, refl, ap, ◌∙◌, subst}
use Rattle.std.proofs.lemmas.Bool.{and_parts}
use Rattle.std.specs.Prelude.{Option}
use Rattle.xt_io.specs.declared.Item.{Item}
use Rattle.xt_io.specs.declared.Kind.{Kind}
use Rattle.xt_io.specs.declared.Kind.TheVariants.{Object, Sample, Idl, Json, Note}
use Rattle.type_trees.specs.declared.types.HashId.{HashId}
use Rattle.type_object.specs.Pools as pools
use Rattle.type_object.specs.Pools.{Texts, added}
use Rattle.type_resolve.specs.Adding.{all_added}
use Rattle.type_resolve.specs.Objects.{texts}
use Rattle.idl_input.specs.declared.faults.IdlFault.{IdlFault}
use Rattle.idl_types.specs.State as idl_types
use Rattle.xt_idl.specs.Whole.{idl}
use Rattle.tool_runs.specs.output.Outputs.{Refusal, ◌>>=◌}
use Rattle.tool_types.specs.Types.{Declared, types, object, Declaration, declare, declared_as, declared_by, name_in, object_added, text_parsed, with_all, with_objects}
use Rattle.type_resolve.specs.Definitions.{types_texts}
use Rattle.tool_commands.specs.listing.Listing.{all_texts, are_texts, is_text, texts_in, FrontHasCompiled}
use Rattle.tool_commands.proofs.OfListing.Listed.{all_behind, none_added}

-- ---- the objects of a text's types

types_on : (k : ℕ) (pool more : Texts) (xs : List (List ℕ)) (ts : idl_types.Declared) → ((p : Texts) → with_objects k p ts ≡ Ok more → all_added p (types_texts ts) ≡ (more, None)) → (r : Texts × Option pools.Refusal) → all_added pool xs ≡ r → (with_all k r >>= λ p. with_objects k p ts) ≡ Ok more → all_added pool (xs ++ types_texts ts) ≡ (more, None)
types_on k pool more xs ts rest (p, None) is e = all_behind pool p xs (types_texts ts) is ∙ rest p e
types_on k pool more xs ts rest (p, Some refusal) is e = absurd cc

types_added : (k : ℕ) (pool more : Texts) (ts : idl_types.Declared) → with_objects k pool ts ≡ Ok more → all_added pool (types_texts ts) ≡ (more, None)
unfolding with_objects
types_added k pool more [] e = let same : pool ≡ more = cc in none_added pool ∙ ap (λ (p : Texts). let x : Texts × Option pools.Refusal = (p, None) in x) same
types_added k pool more (t ∷ ts) e = types_on k pool more (texts t.1) ts (λ p. types_added k p more ts) (all_added pool (texts t.1)) refl e

-- ---- a record

-- What a text declares, its objects were added.
record OfText (pool : Texts) (d : Declared × Texts) : Type 0 where
  added_all : is_text d.0 ≡ true → all_added pool (texts_in d.0) ≡ (d.1, None)

of_types : (k : ℕ) (pool : Texts) (ts : idl_types.Declared) (d : Declared × Texts) (r : Result Texts Refusal) → with_objects k pool ts ≡ r → (let said : Declaration = r >>= λ more. Ok (types ts, more) in said) ≡ Ok d → OfText pool d
of_types k pool ts d (Ok more) is e =
    let made : Declared × Texts = (types ts, more) in
    let same : made ≡ d = cc in
    subst (λ (x : Declared × Texts). OfText pool x) same (record { added_all = λ u. types_added k pool more ts is })
of_types k pool ts d (Err refusal) is e = absurd cc

of_text : (k : ℕ) (pool : Texts) (d : Declared × Texts) (r : Result idl_types.Declared IdlFault) → text_parsed k pool r ≡ Ok d → OfText pool d
of_text k pool d (Ok ts) e = of_types k pool ts d (with_objects k pool ts) refl e
of_text k pool d (Err fault) e = absurd cc

-- an object's record is no text
of_object : (k : ℕ) (pool : Texts) (d : Declared × Texts) (r : Result (HashId × Texts) pools.Refusal) → object_added k r ≡ Ok d → OfText pool d
of_object k pool d (Ok r) e =
    let made : Declared × Texts = (object r.0 (name_in (pools.object_at r.0 r.1)), r.1) in
    let same : made ≡ d = cc in
    subst (λ (x : Declared × Texts). OfText pool x) same (record { added_all = λ (u : false ≡ true). absurd cc })
of_object k pool d (Err refusal) e = absurd cc

of_record : (k : ℕ) (pool : Texts) (kind : Kind) (payload : List ℕ) (d : Declared × Texts) → declared_as kind k pool payload ≡ Ok d → OfText pool d
of_record k pool Idl payload d e = of_text k pool d (idl payload) e
of_record k pool Object payload d e = of_object k pool d (added pool payload) e
of_record k pool Sample payload d e = of_object k pool d (added pool payload) e
of_record k pool Json payload d e = of_object k pool d (added pool payload) e
of_record k pool Note payload d e = of_object k pool d (added pool payload) e

-- ---- all records

abbrev Rest : ℕ → List Item → Type 0
Rest k items = (pool : Texts) (front : List Declared × Texts) → declare k pool items ≡ Ok front → are_texts front.0 ≡ true → all_added pool (all_texts front.0) ≡ (front.1, None)

front_on : (k : ℕ) (items : List Item) (front : List Declared × Texts) (d : Declared × Texts) (pool : Texts) → OfText pool d → Rest (k + 1) items → (r : Result (List Declared × Texts) Refusal) → declare (k + 1) d.1 items ≡ r
    → (let said : Result (List Declared × Texts) Refusal = r >>= λ ds. Ok (d.0 ∷ ds.0, ds.1) in said) ≡ Ok front → are_texts front.0 ≡ true → all_added pool (all_texts front.0) ≡ (front.1, None)
front_on k items front d pool of rest (Ok ds) is e only =
    let made : List Declared × Texts = (d.0 ∷ ds.0, ds.1) in
    let same : made ≡ front = cc in
    subst (λ (f : List Declared × Texts). are_texts f.0 ≡ true → all_added pool (all_texts f.0) ≡ (f.1, None)) same
    (λ texts_only. let parts = and_parts (is_text d.0) (are_texts ds.0) texts_only in all_behind pool d.1 (texts_in d.0) (all_texts ds.0) (of.added_all parts.0) ∙ rest d.1 ds is parts.1) only
front_on k items front d pool of rest (Err why) is e only = absurd cc

record_on : (k : ℕ) (items : List Item) (front : List Declared × Texts) (pool : Texts) (item : Item) → Rest (k + 1) items → (r : Declaration) → declared_by k pool item ≡ r
    → (let said : Result (List Declared × Texts) Refusal = r >>= λ d. declare (k + 1) d.1 items >>= λ ds. Ok (d.0 ∷ ds.0, ds.1) in said) ≡ Ok front → are_texts front.0 ≡ true → all_added pool (all_texts front.0) ≡ (front.1, None)
record_on k items front pool item rest (Ok d) is e only = front_on k items front d pool (of_record k pool item.kind item.payload d is) rest (declare (k + 1) d.1 items) refl e only
record_on k items front pool item rest (Err why) is e only = absurd cc

pooled : (k : ℕ) (items : List Item) → Rest k items
unfolding declare
pooled k [] pool front e only =
    let made : List Declared × Texts = ([], pool) in
    let same : made ≡ front = cc in
    subst (λ (f : List Declared × Texts). all_added pool (all_texts f.0) ≡ (f.1, None)) same (none_added pool)
pooled k (item ∷ items) pool front e only = record_on k items front pool item (pooled (k + 1) items) (declared_by k pool item) refl e only

pub front_has_compiled : FrontHasCompiled
front_has_compiled records front e only = pooled 0 records [] front e only
