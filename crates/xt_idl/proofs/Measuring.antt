-- The measure of a type, step by step.
use Rattle.std.proofs.Common.{◌≡◌, refl, sym, ap, ◌∙◌, ℕ, zero, suc, ◌+◌, ◌*◌, ◌<◌, min, max, arith, Bool, true, false, not, ◌&&◌, ◌||◌, cond, List, [], ◌∷◌, ◌++◌, map, length, take, get_or, append_assoc, Option, Some, None, slice_get}
use Rattle.std.proofs.lemmas.List.{map_push, take_more}
use Rattle.type_trees.proofs.OfSizes.Capped.{capped_times, capped_twice}
use Rattle.xt_shapes.specs.declared.leaves.Primitive.TheVariants.{Boolean}
use Rattle.xt_shapes.specs.Keyable.{any_key, counted_keyable, keyable}
use Rattle.xt_shapes.specs.declared.leaves.Try.{Try}
use Rattle.xt_shapes.specs.Shape.{product}
use Rattle.xt_shapes.specs.Weight.{weight, weights, greatest}
use Rattle.type_trees.specs.Trees.{MemberHead, CaseHead, StructHead, Tree, prim, str, enumeration, bitmask, sequence, array, map_of, structure, union, alias, Members, no_members, member}
use Rattle.type_trees.specs.View.{members_of, cases_of}
use Rattle.type_trees.specs.Bridge.{shape, member_shapes, case_shapes}
use Rattle.type_trees.specs.sizes.TypeNodes.{nodes, member_nodes, case_nodes}
use Rattle.type_rules.specs.Places.{depth, members_depth, cases_depth}
use Rattle.idl_types.specs.State.{Declared}
use Rattle.idl_types.specs.Uses.{tree_at, whole}
use Rattle.idl_types.specs.declared.declarations.UsedMember.{UsedMember}
use Rattle.idl_types.specs.declared.declarations.UsedCase.{UsedCase}
use Rattle.idl_types.specs.Definitions.{ListedMembers, listed, members_on, member_whole, case_whole}
use Rattle.xt_idl.specs.declared.measures.Measure.{Measure}
use Rattle.xt_idl.specs.declared.measures.MembersMeasure.{MembersMeasure}
use Rattle.xt_idl.specs.declared.measures.CasesMeasure.{CasesMeasure}
use Rattle.xt_idl.specs.Measures.{deep, large, of_members, of_cases, measured, all_measured, with_member, with_case, of_structure, of_collection}

-- ---- at a place

abbrev measure_or : Option Measure → Measure
measure_or None = measured (prim Boolean)
measure_or (Some m) = m

at_place : (ts : Declared) (at : ℕ) → measured (tree_at ts at) ≡ measure_or (slice_get (all_measured ts) at)
at_place [] at = refl
at_place (t ∷ ts) zero = refl
at_place (t ∷ ts) (suc at) = at_place ts at

pub at_some : (ts : Declared) (ms : List Measure) (at : ℕ) (m : Measure) → ms ≡ all_measured ts → slice_get ms at ≡ Some m → m ≡ measured (tree_at ts at)
at_some ts ms at m kept is = sym (at_place ts at ∙ ap (λ x. measure_or (slice_get x at)) (sym kept) ∙ ap measure_or is)

pub at_none : (ts : Declared) (ms : List Measure) (at : ℕ) → ms ≡ all_measured ts → slice_get ms at ≡ None → measured (prim Boolean) ≡ measured (tree_at ts at)
at_none ts ms at kept is = sym (at_place ts at ∙ ap (λ x. measure_or (slice_get x at)) (sym kept) ∙ ap measure_or is)

-- ---- one member more

depth_more : (ms : List (MemberHead × Tree)) (m : MemberHead × Tree) → members_depth (members_of (ms ++ m ∷ [])) ≡ max (members_depth (members_of ms)) (depth m.1)
depth_more [] m = omega arith
depth_more (x ∷ ms) m = omega (arith, depth_more ms m)

nodes_more : (ms : List (MemberHead × Tree)) (m : MemberHead × Tree) → member_nodes (members_of (ms ++ m ∷ [])) ≡ member_nodes (members_of ms) + nodes m.1
nodes_more [] m = omega arith
nodes_more (x ∷ ms) m = omega (arith, nodes_more ms m)

weight_more : (ms : List (MemberHead × Tree)) (m : MemberHead × Tree) → weights (member_shapes (members_of (ms ++ m ∷ []))) ≡ weights (member_shapes (members_of ms)) + weight (shape m.1)
weight_more [] m = omega arith
weight_more (x ∷ ms) m = omega (arith, weight_more ms m)

or_assoc : (a b c : Bool) → (a || (b || c)) ≡ ((a || b) || c)
or_assoc true b c = refl
or_assoc false b c = refl

and_assoc : (a b c : Bool) → (a && (b && c)) ≡ ((a && b) && c)
and_assoc true b c = refl
and_assoc false b c = refl

or_false : (a : Bool) → (a || false) ≡ a
or_false true = refl
or_false false = refl

and_true : (a : Bool) → (a && true) ≡ a
and_true true = refl
and_true false = refl

key_more : (ms : List (MemberHead × Tree)) (m : MemberHead × Tree) → any_key (member_shapes (members_of (ms ++ m ∷ []))) ≡ (any_key (member_shapes (members_of ms)) || m.0.key)
key_more [] m = or_false m.0.key
key_more (x ∷ ms) m = ap (λ b. x.0.key || b) (key_more ms m) ∙ or_assoc x.0.key (any_key (member_shapes (members_of ms))) m.0.key

counted_more : (keyed : Bool) (ms : List (MemberHead × Tree)) (m : MemberHead × Tree)
    → counted_keyable keyed (member_shapes (members_of (ms ++ m ∷ []))) ≡ (counted_keyable keyed (member_shapes (members_of ms)) && (not (not keyed || m.0.key) || (not m.0.optional && keyable (shape m.1))))
counted_more keyed [] m = and_true (not (not keyed || m.0.key) || (not m.0.optional && keyable (shape m.1)))
counted_more keyed (x ∷ ms) m = ap (λ b. (not (not keyed || x.0.key) || (not x.0.optional && keyable (shape x.1))) && b) (counted_more keyed ms m) ∙ and_assoc (not (not keyed || x.0.key) || (not x.0.optional && keyable (shape x.1))) (counted_keyable keyed (member_shapes (members_of ms))) (not (not keyed || m.0.key) || (not m.0.optional && keyable (shape m.1)))

deep_max : (a b : ℕ) → deep (max a b) ≡ max (deep a) (deep b)
deep_max a b = omega arith

large_sum : (a b : ℕ) → large (a + b) ≡ large (large a + large b)
large_sum a b = omega arith

pub members_more : (ms : List (MemberHead × Tree)) (m : MemberHead × Tree) → of_members (members_of (ms ++ m ∷ [])) ≡ with_member m.0.key m.0.optional (measured m.1) (of_members (members_of ms))
members_more ms m = rw (depth_more ms m, nodes_more ms m, weight_more ms m, key_more ms m, counted_more true ms m, counted_more false ms m, deep_max (members_depth (members_of ms)) (depth m.1), large_sum (member_nodes (members_of ms)) (nodes m.1), large_sum (weights (member_shapes (members_of ms))) (weight (shape m.1))) refl

unlisted : (ms : Members) → members_of (listed ms) ≡ ms
unlisted no_members = refl
unlisted (member h t ms) = ap (λ rest. member h t rest) (unlisted ms)

-- the members that a structure has from its base
pub base_is : (t : Tree) → (measured t).members ≡ of_members (members_of (members_on t))
base_is (structure head ms) = ap of_members (sym (unlisted ms))
base_is (prim p) = refl
base_is (str n) = refl
base_is (enumeration n x b ls) = refl
base_is (bitmask n b fs) = refl
base_is (sequence n c t) = refl
base_is (array ds c t) = refl
base_is (map_of n kc k vc v) = refl
base_is (union head d cs) = refl
base_is (alias n t) = refl

-- ---- one case more

case_depth_more : (cs : List (CaseHead × Tree)) (c : CaseHead × Tree) → cases_depth (cases_of (cs ++ c ∷ [])) ≡ max (cases_depth (cases_of cs)) (depth c.1)
case_depth_more [] c = omega arith
case_depth_more (x ∷ cs) c = omega (arith, case_depth_more cs c)

case_nodes_more : (cs : List (CaseHead × Tree)) (c : CaseHead × Tree) → case_nodes (cases_of (cs ++ c ∷ [])) ≡ case_nodes (cases_of cs) + nodes c.1
case_nodes_more [] c = omega arith
case_nodes_more (x ∷ cs) c = omega (arith, case_nodes_more cs c)

greatest_more : (cs : List (CaseHead × Tree)) (c : CaseHead × Tree) → greatest (case_shapes (cases_of (cs ++ c ∷ []))) ≡ max (greatest (case_shapes (cases_of cs))) (weight (shape c.1))
greatest_more [] c = omega arith
greatest_more (x ∷ cs) c = omega (arith, greatest_more cs c)

large_max : (a b : ℕ) → large (max a b) ≡ max (large a) (large b)
large_max a b = omega arith

pub cases_more : (cs : List (CaseHead × Tree)) (c : CaseHead × Tree) → of_cases (cases_of (cs ++ c ∷ [])) ≡ with_case (measured c.1) (of_cases (cases_of cs))
cases_more cs c = rw (case_depth_more cs c, case_nodes_more cs c, greatest_more cs c, deep_max (cases_depth (cases_of cs)) (depth c.1), large_sum (case_nodes (cases_of cs)) (nodes c.1), large_max (greatest (case_shapes (cases_of cs))) (weight (shape c.1))) refl

-- ---- a structure

chosen : (some : Bool) (sub : Bool → Bool) → sub some ≡ cond some (sub true) (sub false)
chosen true sub = refl
chosen false sub = refl

deep_one : (n : ℕ) → deep (1 + n) ≡ deep (1 + deep n)
deep_one n = omega arith

large_one : (n : ℕ) → large (1 + n) ≡ large (1 + large n)
large_one n = omega arith

pub structure_is : (head : StructHead) (ms : Members) → measured (structure head ms) ≡ of_structure (of_members ms)
structure_is head ms =
    rw (deep_one (members_depth ms), large_one (member_nodes ms), large_one (weights (member_shapes ms)), chosen (any_key (member_shapes ms)) (λ keyed. counted_keyable keyed (member_shapes ms))) refl

-- ---- an array

many : (count : ℕ) → large (min 18446744073709551615 count) ≡ large count
many count = omega arith

large_more : (a b : ℕ) → large a ≡ large b → large (1 + a) ≡ large (1 + b)
large_more a b same = omega (arith, same)

-- the number of elements is capped before it is multiplied
pub elements_large : (count weight : ℕ) → large (1 + large (min 18446744073709551615 count) * weight) ≡ large (1 + count * weight)
elements_large count weight = ap (λ n. large (1 + n * weight)) (many count) ∙ large_more (large count * weight) (count * weight) (capped_times 65537 count weight)

pub array_is : (ds : List ℕ) (tc : Try) (t : Tree) → measured (array ds tc t) ≡ of_collection (measured t).depth (measured t).nodes (large (1 + product ds * (measured t).weight)) (measured t).is_leaf
array_is ds tc t =
    let w = weight (shape t) in
    let same : large (1 + product ds * w) ≡ large (1 + product ds * large w) = sym (capped_twice 65537 (product ds) w) ∙ large_more (large (product ds) * large w) (product ds * large w) (capped_times 65537 (product ds) (large w)) in
    rw (deep_one (depth t), large_one (nodes t), same) refl

-- ---- one turn of each loop

mapped_more : {A B : Type 0} (f : A → B) (xs : List A) (i : ℕ) (x : A) → i < length xs → x ≡ get_or xs i x → map f (take (i + 1) xs) ≡ map f (take i xs) ++ f x ∷ []
mapped_more f xs i x within is = rw (take_more xs i x within, ← is) (map_push f (take i xs) x)

pub member_on : (ts : Declared) (before : ListedMembers) (own : List UsedMember) (i : ℕ) (x : UsedMember) → i < length own → x ≡ get_or own i x → (s : MembersMeasure) (m : Measure)
    → s ≡ of_members (members_of (before ++ map (member_whole ts) (take i own))) → m ≡ measured (whole ts x.used) → with_member x.key x.optional m s ≡ of_members (members_of (before ++ map (member_whole ts) (take (i + 1) own)))
member_on ts before own i x within is s m so_far next =
    let done : ListedMembers = map (member_whole ts) (take i own) in
    ap (with_member x.key x.optional m) so_far ∙ ap (λ (n : Measure). with_member x.key x.optional n (of_members (members_of (before ++ done)))) next ∙ sym (members_more (before ++ done) (member_whole ts x))
    ∙ ap (λ l. of_members (members_of l)) (append_assoc before done (member_whole ts x ∷ []) ∙ ap (λ l. before ++ l) (sym (mapped_more (member_whole ts) own i x within is)))

pub case_on : (ts : Declared) (cases : List UsedCase) (i : ℕ) (x : UsedCase) → i < length cases → x ≡ get_or cases i x → (s : CasesMeasure) (m : Measure)
    → s ≡ of_cases (cases_of (map (case_whole ts) (take i cases))) → m ≡ measured (whole ts x.used) → with_case m s ≡ of_cases (cases_of (map (case_whole ts) (take (i + 1) cases)))
case_on ts cases i x within is s m so_far next =
    let done : List (CaseHead × Tree) = map (case_whole ts) (take i cases) in
    ap (with_case m) so_far ∙ ap (λ (n : Measure). with_case n (of_cases (cases_of done))) next ∙ sym (cases_more done (case_whole ts x)) ∙ ap (λ l. of_cases (cases_of l)) (sym (mapped_more (case_whole ts) cases i x within is))
