-- A pair is an array of two items.
use Rattle.std.proofs.Common.{◌≡◌, refl, ℕ, List, [], ◌∷◌, length, get_or, drop, ◌+◌, ◌<◌, ◌++◌, Ok, Err, ◌∙◌, arith}
use Rattle.serde_json.specs.Data.{Data, array}
use Rattle.serde_json.specs.View.{view, items_view}
use Rattle.serde_json.specs.declared.value.Value.{Value}
use Rattle.xt_shapes.specs.Vals.{Val}
use Rattle.json_values.specs.declared.faults.JsonRule.{JsonRule}
use Rattle.json_values.specs.declared.faults.ValueFault.{ValueFault}
use Rattle.json_values.proofs.Built.{after, after_next}
use Rattle.std.proofs.lemmas.List.{drop_more}
use Rattle.xt_shapes.specs.declared.leaves.Step.{Step}
use Rattle.json_values.specs.Steps.{Reading, here, beneath}
use Rattle.json_values.specs.Read.{pair_of, key_and_value, entries_of}

pub not_two : (f g : Data → Reading Val) (ds : List Value) → (length ds ≡ 2 → ⊥) → pair_of f g (array (items_view ds)) ≡ here JsonRule.Count
not_two f g [] other = refl
not_two f g (a ∷ []) other = refl
not_two f g (a ∷ b ∷ []) other = absurd (other refl)
not_two f g (a ∷ b ∷ c ∷ ds) other = refl

same : (ds : List Value) (a : Value) → length ds ≡ 2 → get_or ds 1 a ≡ get_or ds 1 (get_or ds 1 a)
same [] a is = absurd (omega arith)
same (x ∷ []) a is = absurd (omega arith)
same (x ∷ y ∷ ds) a is = refl

pub two : (f g : Data → Reading Val) (ds : List Value) (a b : Value) → length ds ≡ 2 → a ≡ get_or ds 0 a → b ≡ get_or ds 1 b → pair_of f g (array (items_view ds)) ≡ key_and_value f g (view a) (view b)
two f g [] a b is is_a is_b = absurd (omega arith)
two f g (x ∷ []) a b is is_a is_b = absurd (omega arith)
two f g (x ∷ y ∷ []) a b is is_a is_b = rw (is_a, is_b) refl
two f g (x ∷ y ∷ z ∷ ds) a b is is_a is_b = absurd (omega arith)

pub both_read : (f g : Data → Reading Val) (ds : List Value) (a b : Value) (x y : Val) → length ds ≡ 2 → a ≡ get_or ds 0 a → b ≡ get_or ds 1 b
    → beneath Step.Key (f (view a)) ≡ Ok x → beneath Step.Entry (g (view b)) ≡ Ok y → pair_of f g (array (items_view ds)) ≡ Ok (x, y)
both_read f g ds a b x y is is_a is_b key value = two f g ds a b is is_a is_b ∙ rw (key, value) refl

pub no_key : (f g : Data → Reading Val) (ds : List Value) (a : Value) (e : ValueFault) → length ds ≡ 2 → a ≡ get_or ds 0 a
    → beneath Step.Key (f (view a)) ≡ Err e → pair_of f g (array (items_view ds)) ≡ Err e
no_key f g ds a e is is_a key = two f g ds a (get_or ds 1 a) is is_a (same ds a is) ∙ rw key refl

-- one more pair
pub entries_step : (f g : Data → Reading Val) (ds : List Value) (i : ℕ) (d : Value) (done : List (Val × Val)) (p : Val × Val) → i < length ds → d ≡ get_or ds i d → pair_of f g (view d) ≡ Ok p
    → after done (entries_of f g (items_view (drop i ds))) ≡ after (done ++ p ∷ []) (entries_of f g (items_view (drop (i + 1) ds)))
entries_step f g ds i d done p within is read =
    rw (drop_more ds i d within, ← is) (after_next done p (pair_of f g (view d)) (entries_of f g (items_view (drop (i + 1) ds))) read)
