-- The lines of instances, one after another.
use Rattle.std.proofs.Common.{◌≡◌, ℕ, zero, suc, ◌+◌, ◌<◌, ◌≤◌, List, [], ◌∷◌, ◌++◌, length, drop, append-nil, None, Some, refl, sym, ap, ◌∙◌, subst, arith}
use Rattle.std.specs.declared.option.Option.{Option}
use Rattle.std.specs.Prelude.{slice_get}
use Rattle.std.specs.Option.{option_map, option_and_then}
use Rattle.std.specs.List.{concat}
use Rattle.std.proofs.lemmas.List.{drop_all, length-map}
use Rattle.xt_shapes.specs.Vals.{Val}
use Rattle.type_trees.specs.Trees.{Tree}
use Rattle.key_instances.specs.kept.Kept.{Instances}
use Rattle.key_instances.specs.Caches.{key_of, count_of, value_of}
use Rattle.tool_runs.specs.declared.output.ending.Ending.TheVariants.{Done}
use Rattle.tool_runs.specs.output.Outputs.{Output, after_pieces, finished}
use Rattle.tool_runs.specs.output.Runs.{Leads}
use Rattle.tool_samples.specs.instances.Instancing.{instances_end, instance_line, value_line, value_lines, head_at, values_at, lines_at, all_lines}

-- ---- the instance at a place

head_is : (t : Tree) (o : Option (List ℕ × List Val)) (key : List ℕ) (n : ℕ) → Some key ≡ option_map (λ (e : List ℕ × List Val). e.0) o → Some n ≡ option_map (λ (e : List ℕ × List Val). length e.1) o → instance_line t key n ≡ concat (head_at t o)
head_is t None key n p q = absurd cc
head_is t (Some e) key n p q =
    let same : key ≡ e.0 = cc in
    let many : n ≡ length e.1 = cc in
    ap (λ (k : List ℕ). instance_line t k n) same ∙ ap (λ (m : ℕ). instance_line t e.0 m) many ∙ sym (append-nil (instance_line t e.0 (length e.1)))

pub head_said : (t : Tree) (es : Instances) (i : ℕ) (key : List ℕ) (n : ℕ) → Some key ≡ key_of es i → Some n ≡ count_of es i → instance_line t key n ≡ concat (head_at t (slice_get es i))
head_said t es i key n p q = head_is t (slice_get es i) key n p q

-- ---- its values

next_line : (t : Tree) (vs : List Val) (j : ℕ) (v : Val) → slice_get vs j ≡ Some v → drop j (value_lines t vs) ≡ value_line t v ∷ drop (suc j) (value_lines t vs)
next_line t [] j v p = absurd cc
next_line t (w ∷ vs) zero v p = let same : w ≡ v = cc in ap (λ (x : Val). value_line t x ∷ value_lines t vs) same
next_line t (w ∷ vs) (suc j) v p = next_line t vs j v p

next_of : (t : Tree) (o : Option (List ℕ × List Val)) (j : ℕ) (v : Val) → Some v ≡ option_and_then (λ (e : List ℕ × List Val). slice_get e.1 j) o → drop j (values_at t o) ≡ value_line t v ∷ drop (suc j) (values_at t o)
next_of t None j v p = absurd cc
next_of t (Some e) j v p = next_line t e.1 j v (sym p)

next_value : (t : Tree) (es : Instances) (i j : ℕ) (v : Val) → Some v ≡ value_of es i j → drop j (values_at t (slice_get es i)) ≡ value_line t v ∷ drop (j + 1) (values_at t (slice_get es i))
next_value t es i j v p =
    let up : suc j ≡ j + 1 = omega arith in
    next_of t (slice_get es i) j v p ∙ ap (λ (k : ℕ). value_line t v ∷ drop k (values_at t (slice_get es i))) up

none_of : (t : Tree) (o : Option (List ℕ × List Val)) (n j : ℕ) → Some n ≡ option_map (λ (e : List ℕ × List Val). length e.1) o → n ≤ j → drop j (values_at t o) ≡ []
none_of t None n j p q = absurd cc
none_of t (Some e) n j p q =
    let many : n ≡ length e.1 = cc in
    drop_all j (value_lines t e.1) (omega (arith, many, q, length-map e.1 (λ v. value_line t v)))

no_value : (t : Tree) (es : Instances) (i n j : ℕ) → Some n ≡ count_of es i → n ≤ j → drop j (values_at t (slice_get es i)) ≡ []
no_value t es i n j p q = none_of t (slice_get es i) n j p q

-- what was written leads to the next value and those behind it
pub to_value : (t : Tree) (es : Instances) (i j : ℕ) (v : Val) (first : Option Output) (rest : Output) (old new : Option (List ℕ)) → Some v ≡ value_of es i j → Leads first (Some (after_pieces (drop j (values_at t (slice_get es i))) rest)) old new
    → Leads first (Some (after_pieces (value_line t v ∷ []) (after_pieces (drop (j + 1) (values_at t (slice_get es i))) rest))) old new
to_value t es i j v first rest old new there p = subst (λ (l : List (List ℕ)). Leads first (Some (after_pieces l rest)) old new) (next_value t es i j v there) p

-- all values were written
pub behind_values : (t : Tree) (es : Instances) (i n j : ℕ) (first : Option Output) (rest : Output) (old new : Option (List ℕ)) → Some n ≡ count_of es i → n ≤ j → Leads first (Some (after_pieces (drop j (values_at t (slice_get es i))) rest)) old new
    → Leads first (Some rest) old new
behind_values t es i n j first rest old new many le p = subst (λ (l : List (List ℕ)). Leads first (Some (after_pieces l rest)) old new) (no_value t es i n j many le) p

-- ---- all instances

next_lines : (t : Tree) (es : Instances) (i : ℕ) → i < length es → all_lines t (drop i es) ≡ lines_at t (slice_get es i) ++ all_lines t (drop (suc i) es)
next_lines t [] i p = absurd (omega (arith, p))
next_lines t (e ∷ es) zero p = refl
next_lines t (e ∷ es) (suc i) p = next_lines t es i (omega (arith, p))

next_instance : (t : Tree) (es : Instances) (i : ℕ) → i < length es → all_lines t (drop i es) ≡ lines_at t (slice_get es i) ++ all_lines t (drop (i + 1) es)
next_instance t es i p =
    let up : suc i ≡ i + 1 = omega arith in
    next_lines t es i p ∙ ap (λ (k : ℕ). lines_at t (slice_get es i) ++ all_lines t (drop k es)) up

no_instance : (t : Tree) (es : Instances) (i : ℕ) → length es ≤ i → all_lines t (drop i es) ≡ []
no_instance t es i p = ap (all_lines t) (drop_all i es p)

-- what was written leads to the next instance and those behind it
pub to_instance : (t : Tree) (es : Instances) (i : ℕ) (first : Option Output) (old new : Option (List ℕ)) → i < length es → Leads first (Some (instances_end t (drop i es))) old new
    → Leads first (Some (after_pieces (lines_at t (slice_get es i)) (instances_end t (drop (i + 1) es)))) old new
to_instance t es i first old new lt p = subst (λ (l : List (List ℕ)). Leads first (Some (record { pieces = l; ending = Done })) old new) (next_instance t es i lt) p

-- all instances were written
pub behind_instances : (t : Tree) (es : Instances) (i : ℕ) (first : Option Output) (old new : Option (List ℕ)) → length es ≤ i → Leads first (Some (instances_end t (drop i es))) old new → Leads first (Some finished) old new
behind_instances t es i first old new le p = subst (λ (l : List (List ℕ)). Leads first (Some (record { pieces = l; ending = Done })) old new) (no_instance t es i le) p

-- the line of an instance, and then those of its values
pub to_head : (t : Tree) (o : Option (List ℕ × List Val)) (rest : Output) → after_pieces (lines_at t o) rest ≡ after_pieces (head_at t o) (after_pieces (values_at t o) rest)
to_head t None rest = refl
to_head t (Some e) rest = refl
