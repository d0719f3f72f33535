-- Lists that are read of JSON, item by item.
use Rattle.std.proofs.Common.{◌≡◌, refl, ℕ, suc, ◌+◌, ◌==◌, Bool, false, not, List, [], ◌∷◌, ◌++◌, length, map, Some, Ok, Err, option_map, sym, ap, subst, ◌∙◌, arith, append_assoc, append-nil, eq-eqb}
use Rattle.std.proofs.lemmas.List.{length-map}
use Rattle.json.specs.Token.{Token}
use Rattle.json.specs.Json as json
use Rattle.json.specs.Json.{Json}
use Rattle.serde_json.specs.Data as rows
use Rattle.serde_json.specs.Data.{Data}
use Rattle.serde_json.specs.Events.{items_len}
use Rattle.xt_shapes.specs.declared.leaves.Step.{Step}
use Rattle.xt_shapes.specs.Vals.{Val, listed, vals_of}
use Rattle.xt_shapes.specs.Shape.{product}
use Rattle.xt_shapes.specs.Typing.{is_past}
use Rattle.type_trees.specs.declared.types.ArrayType.{ArrayType}
use Rattle.type_trees.specs.declared.types.SeqType.{SeqType}
use Rattle.type_trees.specs.Trees.{sequence, array}
use Rattle.type_trees.specs.View.{tree, sequence_tree, array_tree}
use Rattle.type_trees.proofs.Views.{sequence_tree_is, array_tree_is}
use Rattle.packed_reader.specs.declared.values.OwnNumbers.{OwnNumbers}
use Rattle.packed_reader.specs.declared.values.Packed as p
use Rattle.packed_reader.specs.declared.values.Packed.{Packed}
use Rattle.packed_reader.specs.View.{packed_val, own_numbers}
use Rattle.packed_reader.proofs.NumberSteps.{numbers_count}
use Rattle.packed_reader.proofs.Views.{packed_own, packed_list}
use Rattle.xt_shapes.specs.declared.leaves.Order.TheVariants.{Little}
use Rattle.xt_shapes.specs.declared.leaves.Primitive.{Primitive}
use Rattle.type_rules.specs.Places as places
use Rattle.json_values.specs.declared.faults.JsonRule.{JsonRule}
use Rattle.json_values.specs.Steps.{Reading, beneath, and_then, mapped_to}
use Rattle.json_values.specs.Read.{value_of, items_of, list_of, sequence_of, array_of, prim_of}
use Rattle.dynamic_data.proofs.BackLeaves.{at_false}
use Rattle.packed_json.specs.Tapes.{Means, AllMean, ListMeans, Reads, ReadsItems, ReadsRun, AllMeanAfter}

none_mean : (f : Data → Reading Val) (n : ℕ) → AllMean f n json.no_items []
none_mean f n = record { found = rows.no_items; of = refl; reads = refl; within = omega arith }

one_more : (f : Data → Reading Val) (n : ℕ) (j : Json) (v : Val) (js : json.Items) (vs : List Val) → Means f n j v → AllMean f n js vs → AllMean f n (json.item j js) (v ∷ vs)
one_more f n j v js vs h k = record {
  found = rows.item h.found k.found;
  of = rw (h.of, k.of) refl;
  reads = rw (h.reads, k.reads) refl;
  within = omega (arith, h.within, k.within);
}

pub items_begin : (f : Data → Reading Val) (n : ℕ) (js : json.Items) → AllMeanAfter f n js js []
items_begin f n js vs h = h

pub items_next : (f : Data → Reading Val) (n : ℕ) (js left more : json.Items) (j : Json) (done : List Val) (v : Val) → left ≡ json.item j more → Means f n j v → AllMeanAfter f n js left done → AllMeanAfter f n js more (done ++ v ∷ [])
items_next f n js left more j done v is h so_far vs k =
    let next : AllMean f n left (v ∷ vs) = subst (λ l. AllMean f n l (v ∷ vs)) (sym is) (one_more f n j v more vs h k) in
    subst (AllMean f n js) (sym (append_assoc done (v ∷ []) vs)) (so_far (v ∷ vs) next)

pub items_end : (f : Data → Reading Val) (n : ℕ) (js left : json.Items) (done : List Val) → left ≡ json.no_items → AllMeanAfter f n js left done → AllMean f n js done
items_end f n js left done is so_far = subst (AllMean f n js) (append-nil done) (so_far [] (subst (λ l. AllMean f n l []) (sym is) (none_mean f n)))

-- ---- how many there are

pub split : {A B C : Type 0} (r : Reading A) (s : Reading B) (f : A → B → C) (c : C) → and_then r (λ a. mapped_to (λ b. f a b) s) ≡ Ok c → (a : A) × (b : B) × (r ≡ Ok a) × (s ≡ Ok b) × (f a b ≡ c)
split (Ok a) (Ok b) f c e = (a, b, refl, refl, cc)
split (Ok a) (Err e') f c e = absurd cc
split (Err e') s f c e = absurd cc

pub items_count : (f : Data → Reading Val) (ds : rows.Items) (vs : List Val) → items_of f ds ≡ Ok vs → items_len ds ≡ length vs
items_count f rows.no_items vs e = let same : vs ≡ [] = cc in ap length (sym same)
items_count f (rows.item d ds) vs e =
    let parts = split (beneath Step.Element (f d)) (items_of f ds) (λ v ws. v ∷ ws) vs e in
    ap suc (items_count f ds parts.1 parts.3) ∙ ap length parts.4

list_means : (g : Data → Reading Val) (f : Data → Reading Val) (n : ℕ) (rule : JsonRule) (wrong : ℕ → Bool) → ((ds : rows.Items) → g (rows.array ds) ≡ list_of (wrong (items_len ds)) rule f ds)
    → (js : json.Items) (vs : List Val) → AllMean f n js vs → wrong (length vs) ≡ false → Means g (1 + n) (json.array js) (listed (vals_of vs))
list_means g f n rule wrong is js vs h right = record {
  found = rows.array h.found;
  of = ap (option_map rows.array) h.of;
  reads = is h.found ∙ at_false (wrong (items_len h.found)) _ _ (ap wrong (items_count f h.found vs h.reads) ∙ right) ∙ ap (mapped_to (λ ws. listed (vals_of ws))) h.reads;
  within = omega (arith, h.within);
}

lists_mean : (g : Data → Reading Val) (f : Data → Reading Val) (n : ℕ) (rule : JsonRule) (wrong : ℕ → Bool) → ((ds : rows.Items) → g (rows.array ds) ≡ list_of (wrong (items_len ds)) rule f ds)
    → (j : Json) (vs : List Val) → ListMeans f n j vs → wrong (length vs) ≡ false → Means g (1 + n) j (listed (vals_of vs))
lists_mean g f n rule wrong is j vs found right = subst (λ k. Means g (1 + n) k (listed (vals_of vs))) (sym found.1) (list_means g f n rule wrong is found.0 vs found.2 right)

-- ---- of a type

pub sequence_means : (kind : SeqType) (ts : List Token) (values : List Packed) → ReadsItems (value_of (tree kind.elem.ty)) (places.depth (tree kind.elem.ty)) ts (Some values) → is_past kind.bound (length values) ≡ false
    → Reads (value_of (sequence_tree kind)) (places.depth (sequence_tree kind)) ts (Some (p.List values))
sequence_means kind ts values h right j begins =
    let t = tree kind.elem.ty in
    rw (sequence_tree_is kind, packed_list values)
    (lists_mean (value_of (sequence kind.bound kind.elem.tc t)) (value_of t) (places.depth t) JsonRule.Bound (λ k. is_past kind.bound k) (λ ds. refl) j (map packed_val values) (h j begins) (ap (is_past kind.bound) (length-map values packed_val) ∙ right))

pub array_means : (kind : ArrayType) (ts : List Token) (values : List Packed) → ReadsItems (value_of (tree kind.elem.ty)) (places.depth (tree kind.elem.ty)) ts (Some values) → length values ≡ product kind.dims
    → Reads (value_of (array_tree kind)) (places.depth (array_tree kind)) ts (Some (p.List values))
array_means kind ts values h count j begins =
    let t = tree kind.elem.ty in
    rw (array_tree_is kind, packed_list values)
    (lists_mean (value_of (array kind.dims kind.elem.tc t)) (value_of t) (places.depth t) JsonRule.Count (λ k. not (k == product kind.dims)) (λ ds. refl) j (map packed_val values) (h j begins) (ap not (eq-eqb (length (map packed_val values)) (product kind.dims) (length-map values packed_val ∙ count))))

-- ---- of numbers

pub run_means : (bound : ℕ) (q : Primitive) (ts : List Token) (own : OwnNumbers) → ReadsRun (prim_of q) ts (Some own) → is_past bound own.count ≡ false → Reads (sequence_of bound (prim_of q)) 1 ts (Some (p.Own own))
run_means bound q ts own h right j begins =
    rw (packed_own own)
    (lists_mean (sequence_of bound (prim_of q)) (prim_of q) 0 JsonRule.Bound (λ k. is_past bound k) (λ ds. refl) j (own_numbers own) (h j begins) (ap (is_past bound) (numbers_count own.prim Little own.count own.octets) ∙ right))

pub grid_means : (dims : List ℕ) (q : Primitive) (ts : List Token) (own : OwnNumbers) → ReadsRun (prim_of q) ts (Some own) → own.count ≡ product dims → Reads (array_of dims (prim_of q)) 1 ts (Some (p.Own own))
grid_means dims q ts own h count j begins =
    rw (packed_own own)
    (lists_mean (array_of dims (prim_of q)) (prim_of q) 0 JsonRule.Count (λ k. not (k == product dims)) (λ ds. refl) j (own_numbers own) (h j begins) (ap not (eq-eqb (length (own_numbers own)) (product dims) (numbers_count own.prim Little own.count own.octets ∙ count))))
