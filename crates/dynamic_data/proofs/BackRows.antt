-- Lists of values are read from their JSON as they were.
use Rattle.std.proofs.Common.{◌≡◌, refl, ℕ, suc, List, length, Bool, true, false, not, ◌&&◌, ◌==◌, Ok, ap, ◌∙◌}
use Rattle.std.proofs.lemmas.Bool.{and_parts}
use Rattle.serde_json.specs.Data as json
use Rattle.serde_json.specs.Data.{Data}
use Rattle.serde_json.specs.Events.{items_len}
use Rattle.xt_shapes.specs.Vals.{Val, listed, mapped, Vals, no_vals, one_val, Pairs, no_pairs, one_pair, vals_of, pairs_of, each_val, each_pair}
use Rattle.xt_shapes.specs.Lists.{all}
use Rattle.xt_shapes.specs.Shape.{product}
use Rattle.xt_shapes.specs.Typing.{is_past, repeats}
use Rattle.json_values.specs.declared.faults.JsonRule.{JsonRule}
use Rattle.json_values.specs.Steps.{Reading, and_then, mapped_to}
use Rattle.json_values.specs.Read.{items_of, list_of, sequence_of, array_of, entries_of, if_distinct, map_of_pairs}
use Rattle.json_values.specs.Written.{vals_data, pairs_data}
use Rattle.dynamic_data.proofs.BackLeaves.{at_false, not_true}

pub vals_back : (vs : Vals) → vals_of (each_val vs) ≡ vs
vals_back no_vals = refl
vals_back (one_val v vs) = ap (one_val v) (vals_back vs)

pub pairs_back : (ps : Pairs) → pairs_of (each_pair ps) ≡ ps
pairs_back no_pairs = refl
pairs_back (one_pair k v ps) = ap (one_pair k v) (pairs_back ps)

vals_counted : (g : Val → Data) (vs : Vals) → items_len (vals_data g vs) ≡ length (each_val vs)
vals_counted g no_vals = refl
vals_counted g (one_val v vs) = ap suc (vals_counted g vs)

pairs_counted : (g h : Val → Data) (ps : Pairs) → items_len (pairs_data g h ps) ≡ length (each_pair ps)
pairs_counted g h no_pairs = refl
pairs_counted g h (one_pair k v ps) = ap suc (pairs_counted g h ps)

-- each value that passes a test is read as it was
abbrev pub Back : (Val → Bool) → (Data → Reading Val) → (Val → Data) → Type 0
Back p f g = (v : Val) → p v ≡ true → f (g v) ≡ Ok v

vals_read : (p : Val → Bool) (f : Data → Reading Val) (g : Val → Data) → Back p f g → (vs : Vals) → all p (each_val vs) ≡ true → items_of f (vals_data g vs) ≡ Ok (each_val vs)
vals_read p f g back no_vals h = refl
vals_read p f g back (one_val v vs) h =
    let parts = and_parts (p v) (all p (each_val vs)) h in
    rw (back v parts.0, vals_read p f g back vs parts.1) refl

list_back : (is_wrong : Bool) (rule : JsonRule) (p : Val → Bool) (f : Data → Reading Val) (g : Val → Data) → Back p f g → (vs : Vals) → is_wrong ≡ false → all p (each_val vs) ≡ true
    → list_of is_wrong rule f (vals_data g vs) ≡ Ok (listed vs)
list_back is_wrong rule p f g back vs right h =
    at_false is_wrong _ _ right ∙ ap (mapped_to (λ ws. listed (vals_of ws))) (vals_read p f g back vs h) ∙ ap (λ ws. Ok (listed ws)) (vals_back vs)

pub back_sequence : (bound : ℕ) (p : Val → Bool) (f : Data → Reading Val) (g : Val → Data) → Back p f g → (vs : Vals) → (not (is_past bound (length (each_val vs))) && all p (each_val vs)) ≡ true
    → sequence_of bound f (json.array (vals_data g vs)) ≡ Ok (listed vs)
back_sequence bound p f g back vs h =
    let parts = and_parts (not (is_past bound (length (each_val vs)))) _ h in
    list_back (is_past bound (items_len (vals_data g vs))) JsonRule.Bound p f g back vs (ap (is_past bound) (vals_counted g vs) ∙ not_true _ parts.0) parts.1

pub back_array : (dims : List ℕ) (p : Val → Bool) (f : Data → Reading Val) (g : Val → Data) → Back p f g → (vs : Vals) → ((length (each_val vs) == product dims) && all p (each_val vs)) ≡ true
    → array_of dims f (json.array (vals_data g vs)) ≡ Ok (listed vs)
back_array dims p f g back vs h =
    let parts = and_parts (length (each_val vs) == product dims) _ h in
    list_back (not (items_len (vals_data g vs) == product dims)) JsonRule.Count p f g back vs (ap (λ n. not (n == product dims)) (vals_counted g vs) ∙ ap not parts.0) parts.1

pairs_read : (p q : Val → Bool) (f f' : Data → Reading Val) (g g' : Val → Data) → Back p f g → Back q f' g' → (ps : Pairs) → all (λ e. p e.0 && q e.1) (each_pair ps) ≡ true
    → entries_of f f' (pairs_data g g' ps) ≡ Ok (each_pair ps)
pairs_read p q f f' g g' back back' no_pairs h = refl
pairs_read p q f f' g g' back back' (one_pair k v ps) h =
    let parts = and_parts (p k && q v) (all (λ e. p e.0 && q e.1) (each_pair ps)) h in
    let both = and_parts (p k) (q v) parts.0 in
    rw (back k both.0, back' v both.1, pairs_read p q f f' g g' back back' ps parts.1) refl

distinct_back : (ps : Pairs) → repeats (each_pair ps) ≡ false → if_distinct (each_pair ps) ≡ Ok (mapped ps)
distinct_back ps h = at_false (repeats (each_pair ps)) _ _ h ∙ ap (λ qs. Ok (mapped qs)) (pairs_back ps)

pub back_map : (bound : ℕ) (p q : Val → Bool) (f f' : Data → Reading Val) (g g' : Val → Data) → Back p f g → Back q f' g' → (ps : Pairs)
    → ((not (is_past bound (length (each_pair ps))) && not (repeats (each_pair ps))) && all (λ e. p e.0 && q e.1) (each_pair ps)) ≡ true
    → map_of_pairs bound f f' (json.array (pairs_data g g' ps)) ≡ Ok (mapped ps)
back_map bound p q f f' g g' back back' ps h =
    let parts = and_parts (not (is_past bound (length (each_pair ps))) && not (repeats (each_pair ps))) _ h in
    let more = and_parts (not (is_past bound (length (each_pair ps)))) (not (repeats (each_pair ps))) parts.0 in
    at_false (is_past bound (items_len (pairs_data g g' ps))) _ _ (ap (is_past bound) (pairs_counted g g' ps) ∙ not_true _ more.0)
    ∙ ap (λ r. and_then r if_distinct) (pairs_read p q f f' g g' back back' ps parts.1) ∙ distinct_back ps (not_true _ more.1)
