-- What is built of the parts is the projection.
use Rattle.std.proofs.Common.{◌≡◌, sym, ap, ◌∙◌, ℕ, ◌+◌, ◌<◌, ◌≤◌, Bool, false, cond, ◌==◌, List, Option, Some, None, Result, Ok, Err, IfOk, length, get_or, drop, IsTrue}
use Rattle.std.proofs.lemmas.List.{drop_all}
use Rattle.settled_parts.specs.declared.settling.Outcome.{Outcome}
use Rattle.settled_parts.specs.declared.settling.Outcome.TheVariants.{Sample, Discarded, MustUnderstand}
use Rattle.settled_parts.specs.Settling.{outcome_val}
use Rattle.try_construct.specs.Steps.{items_built, entries_built, structure_built, one_case_built, union_built}
use Rattle.try_construct.specs.Typed.{IsTyped}
use Rattle.type_trees.specs.Bridge.{shape, type_shape, cases_shape, case_head}
use Rattle.type_trees.specs.declared.types.ArrayType.{ArrayType}
use Rattle.type_trees.specs.declared.types.Case.{Case}
use Rattle.type_trees.specs.declared.types.MapType.{MapType}
use Rattle.type_trees.specs.declared.types.SeqType.{SeqType}
use Rattle.type_trees.specs.declared.types.StructType.{StructType}
use Rattle.type_trees.specs.declared.types.UnionType.{UnionType}
use Rattle.type_trees.specs.Parts.{sequence_parts, array_parts, map_parts, structure_parts, union_parts}
use Rattle.type_trees.specs.View.{array_tree, map_tree, sequence_tree, struct_tree, union_tree, val}
use Rattle.type_trees.proofs.Shapes.{cases_shape_at}
use Rattle.type_trees.proofs.Views.{sequence_tree_is, array_tree_is, map_tree_is, struct_tree_is, union_tree_is}
use Rattle.xcdr_model.specs.Projection.{Part, failed, one_sided, of_kind, of_case, projected, projected_case}
use Rattle.xcdr_model.specs.Samples as samples
use Rattle.xcdr_model.specs.Samples.{outcome_of, projection}
use Rattle.xt_shapes.specs.declared.leaves.Ext.{Ext}
use Rattle.xt_shapes.specs.declared.leaves.Try.{Try}
use Rattle.xt_shapes.specs.Kinds.{as_sequence, as_array, as_map, as_structure, as_union}
use Rattle.xt_shapes.specs.Shape.{Shape, sequence, array, map_of, structure, union, Members, Cases}
use Rattle.xt_shapes.specs.Typing.{has_type}
use Rattle.xt_shapes.specs.Vals.{Val, Slot, items_in, entries_in, slots_in}

-- what an answer is, where it is that by an equation
pub rephrased : {X Y E : Type 0} (f : X → Y) (r : Result X E) (a b : Y) → a ≡ b → IfOk r (λ p. f p ≡ a) → IfOk r (λ p. f p ≡ b)
rephrased f (Ok x) a b e h = h ∙ e
rephrased f (Err x) a b e h = tt

-- ---- by kind

pub sequence_is : (k : SeqType) → Some (sequence_parts k) ≡ as_sequence (shape (sequence_tree k))
sequence_is k = ap (λ t. as_sequence (shape t)) (sym (sequence_tree_is k))

pub array_is : (k : ArrayType) → Some (array_parts k) ≡ as_array (shape (array_tree k))
array_is k = ap (λ t. as_array (shape t)) (sym (array_tree_is k))

pub map_is : (k : MapType) → Some (map_parts k) ≡ as_map (shape (map_tree k))
map_is k = ap (λ t. as_map (shape t)) (sym (map_tree_is k))

pub structure_is : (k : StructType) → Some (structure_parts k) ≡ as_structure (shape (struct_tree k))
structure_is k = ap (λ t. as_structure (shape t)) (sym (struct_tree_is k))

pub union_is : (k : UnionType) → Some (union_parts k) ≡ as_union (shape (union_tree k))
union_is k = ap (λ t. as_union (shape t)) (sym (union_tree_is k))

-- a type of another kind fails
pub sequence_built : (s : Shape) (k : ℕ × Try × Shape) (t2 : Shape) (v : Val) → Some k ≡ as_sequence s → projected s t2 v ≡ of_kind (as_sequence t2) (λ e2. items_built k.0 k.1 k.2 e2.2 (items_in v))
unfolding projected
sequence_built (sequence bound tc t) k t2 v is = (let e : (bound, tc, t) ≡ k = cc in ap (λ (y : ℕ × Try × Shape). of_kind (as_sequence t2) (λ e2. items_built y.0 y.1 y.2 e2.2 (items_in v))) e)
sequence_built s k t2 v is = absurd cc

pub array_built : (s : Shape) (k : List ℕ × Try × Shape) (t2 : Shape) (v : Val) → Some k ≡ as_array s → projected s t2 v ≡ of_kind (as_array t2) (λ e2. items_built 0 k.1 k.2 e2.2 (items_in v))
unfolding projected
array_built (array dims tc t) k t2 v is = (let e : (dims, tc, t) ≡ k = cc in ap (λ (y : List ℕ × Try × Shape). of_kind (as_array t2) (λ e2. items_built 0 y.1 y.2 e2.2 (items_in v))) e)
array_built s k t2 v is = absurd cc

pub map_built : (s : Shape) (k : ℕ × Try × Shape × Try × Shape) (t2 : Shape) (v : Val) → Some k ≡ as_map s → projected s t2 v ≡ of_kind (as_map t2) (λ e2. entries_built k e2 (entries_in v))
unfolding projected
map_built (map_of bound kc key vc t) k t2 v is = (let e : (bound, kc, key, vc, t) ≡ k = cc in ap (λ (y : ℕ × Try × Shape × Try × Shape). of_kind (as_map t2) (λ e2. entries_built y e2 (entries_in v))) e)
map_built s k t2 v is = absurd cc

pub members_built : (s : Shape) (k : Ext × Members) (t2 : Shape) (v : Val) → Some k ≡ as_structure s → projected s t2 v ≡ of_kind (as_structure t2) (λ e2. structure_built k e2 (slots_in v))
unfolding projected
members_built (structure ext ms) k t2 v is = (let e : (ext, ms) ≡ k = cc in ap (λ (y : Ext × Members). of_kind (as_structure t2) (λ e2. structure_built y e2 (slots_in v))) e)
members_built s k t2 v is = absurd cc

pub cases_built : (s : Shape) (k : Ext × Bool × Shape × Cases) (t2 : Shape) (v : Val) → Some k ≡ as_union s → projected s t2 v ≡ of_kind (as_union t2) (λ e2. union_built k e2 v)
unfolding projected
cases_built (union ext key disc cs) k t2 v is = (let e : (ext, key, disc, cs) ≡ k = cc in ap (λ (y : Ext × Bool × Shape × Cases). of_kind (as_union t2) (λ e2. union_built y e2 v)) e)
cases_built s k t2 v is = absurd cc

pub of_some : {A : Type 0} (f : A → Part) (x : A) (o : Option A) (p : Part) → Some x ≡ o → p ≡ of_kind o f → f x ≡ p
of_some f x o p is e = sym (e ∙ ap (λ y. of_kind y f) (sym is))

pub of_none : {A : Type 0} (f : A → Part) (o : Option A) (p q : Part) → q ≡ (failed, false) → None ≡ o → p ≡ of_kind o f → q ≡ p
of_none f o p q fails is e = fails ∙ sym (e ∙ ap (λ y. of_kind y f) (sym is))

-- ---- cases, one after another

pub case_step : (cs : List Case) (i : ℕ) (c : Case) (id : ℕ) (b : Bool) (t2 : Option Shape) (s : Slot) → i < length cs → c ≡ get_or cs i c → (c.id == id) ≡ b
    → projected_case (cases_shape (drop i cs)) id t2 s ≡ cond b (of_case (one_case_built (case_head c) (type_shape c.ty)) t2 s) (projected_case (cases_shape (drop (i + 1) cs)) id t2 s)
unfolding projected_case
case_step cs i c id b t2 s low is test =
    ap (λ x. projected_case x id t2 s) (cases_shape_at cs i c low is)
    ∙ ap (λ (y : Bool). cond y (of_case (one_case_built (case_head c) (type_shape c.ty)) t2 s) (projected_case (cases_shape (drop (i + 1) cs)) id t2 s)) test

pub case_end : (cs : List Case) (i id : ℕ) (t2 : Option Shape) (s : Slot) → length cs ≤ i → projected_case (cases_shape (drop i cs)) id t2 s ≡ (one_sided, false)
unfolding projected_case
case_end cs i id t2 s high = ap (λ l. projected_case (cases_shape l) id t2 s) (drop_all i cs high)

-- ---- the sample's type

pub typed_outcome : (t t2 : Shape) (v : Val) (o : Outcome) (x : Part) → outcome_val o ≡ outcome_of x → x ≡ projected t t2 v → ((w : Val) → projection t t2 v ≡ samples.sample w → IsTrue (has_type t w)) → IsTyped t o
typed_outcome t t2 v (Sample w) x is e law = law (val w) (ap outcome_of (sym e) ∙ sym is)
typed_outcome t t2 v Discarded x is e law = tt
typed_outcome t t2 v MustUnderstand x is e law = tt
