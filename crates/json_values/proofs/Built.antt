-- Values read one after another.
use Rattle.std.proofs.Common.{◌≡◌, refl, ℕ, ◌+◌, ◌<◌, ◌≤◌, List, [], ◌∷◌, ◌++◌, length, get_or, drop, Ok, Err, ap, sym, append_assoc}
use Rattle.std.proofs.lemmas.List.{drop_more, drop_all}
use Rattle.serde_json.specs.Data.{Data}
use Rattle.serde_json.specs.View.{view, items_view}
use Rattle.serde_json.specs.declared.value.Value.{Value}
use Rattle.xt_shapes.specs.declared.leaves.Step.{Step}
use Rattle.xt_shapes.specs.Vals.{Val}
use Rattle.json_values.specs.Steps.{Reading, beneath, and_then, mapped_to}
use Rattle.json_values.specs.Read.{items_of}

-- what was read so far goes before the rest
abbrev pub after : {A : Type 0} → List A → Reading (List A) → Reading (List A)
after done r = mapped_to (λ xs. done ++ xs) r

pub after_none : {A : Type 0} (r : Reading (List A)) → after [] r ≡ r
after_none (Ok xs) = refl
after_none (Err e) = refl

pub after_one : {A : Type 0} (done : List A) (x : A) (r : Reading (List A)) → after done (mapped_to (λ xs. x ∷ xs) r) ≡ after (done ++ x ∷ []) r
after_one done x (Ok xs) = ap Ok (sym (append_assoc done (x ∷ []) xs))
after_one done x (Err e) = refl

-- one more value
pub after_next : {A : Type 0} (done : List A) (x : A) (one : Reading A) (r : Reading (List A)) → one ≡ Ok x
    → after done (and_then one (λ y. mapped_to (λ xs. y ∷ xs) r)) ≡ after (done ++ x ∷ []) r
after_next done x one r is = rw is (after_one done x r)

pub items_next : (f : Data → Reading Val) (ds : List Value) (i : ℕ) (d : Value) → i < length ds → d ≡ get_or ds i d
    → items_of f (items_view (drop i ds)) ≡ and_then (beneath Step.Element (f (view d))) (λ v. mapped_to (λ vs. v ∷ vs) (items_of f (items_view (drop (i + 1) ds))))
items_next f ds i d within is = rw (drop_more ds i d within, ← is) refl

pub items_end : (f : Data → Reading Val) (ds : List Value) (i : ℕ) → length ds ≤ i → items_of f (items_view (drop i ds)) ≡ Ok []
items_end f ds i past = rw (drop_all i ds past) refl
