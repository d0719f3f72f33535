-- Lists of numbers are lists of values without parts.
use Rattle.std.proofs.Common.{◌≡◌, refl, ◌∙◌, Bool, true, false, List, ℕ, [], ◌∷◌, ◌++◌, append_assoc}
use Rattle.serde_json.specs.Data.{Data}
use Rattle.serde_json.specs.Written.{compact_text, items_text}
use Rattle.xt_shapes.specs.Vals.{Val, listed, Vals, no_vals, one_val, vals_of}
use Rattle.json_values.specs.Written.{vals_data, int_data, prim_data}
use Rattle.packed_reader.specs.declared.values.Numbers.{Numbers}
use Rattle.packed_reader.specs.View.{numbers_of}
use Rattle.packed_json.specs.Lists.{numbers_text}
use Rattle.packed_json.specs.Plans.{Writes, leaf_meaning, list_meaning, vals_text, vals_fit}

leaf_items : (f : Val → Data) (later : Bool) (vs : Vals) → vals_text (λ v. compact_text (f v)) later vs ≡ items_text later (vals_data f vs)
leaf_items f later no_vals = refl
leaf_items f later (one_val v vs) = rw (leaf_items f true vs) refl

leaf_fit : (vs : Vals) → vals_fit (λ v. true) vs ≡ true
leaf_fit no_vals = refl
leaf_fit (one_val v vs) = leaf_fit vs

pub numbers_written : (x : Numbers) (out behind new : List ℕ) → behind ≡ out ++ 91 ∷ [] → new ≡ behind ++ numbers_text x.prim x.order false x.count x.octets.now
    → Writes (list_meaning (leaf_meaning (int_data (prim_data x.prim)))) (listed (vals_of (numbers_of x))) out new
numbers_written x out behind new bracket list = record {
  fits = leaf_fit (vals_of (numbers_of x));
  text = list ∙ rw (bracket, leaf_items (int_data (prim_data x.prim)) false (vals_of (numbers_of x))) (append_assoc out (91 ∷ []) _);
}
