-- The first failure, level by level.
use Rattle.std.proofs.Common.{◌≡◌, refl, ℕ, ℤ, List, [], ◌∷◌, Bool, true, false, not, cond, Option, Some, None, ◌==◌, ◌&&◌, ◌||◌}
use Rattle.std.specs.Bool.{beq}
use Rattle.xt_shapes.specs.declared.leaves.Ext.{Ext}
use Rattle.xt_shapes.specs.declared.leaves.Rep.{Rep}
use Rattle.xt_shapes.specs.declared.leaves.Try.{Try}
use Rattle.xt_shapes.specs.declared.leaves.Step.{Step}
use Rattle.xt_shapes.specs.declared.leaves.Primitive.{Primitive}
use Rattle.xcdr_model.specs.declared.verdict.Rule.{Rule}
use Rattle.xcdr_model.specs.declared.verdict.Policy.{Policy}
use Rattle.xt_shapes.specs.Shape.{Literal, Flag, Head, CaseHead, Shape, prim, str, enumeration, bitmask, sequence, array, map_of, structure, union, Members, no_members, member, Cases, no_cases, one_case}
use Rattle.xt_shapes.specs.Kinds.{as_prim, as_str, as_enum, as_mask, as_sequence, as_array, as_map, as_structure, as_union}
use Rattle.xt_shapes.specs.Select.{select, case_at, shape_at}
use Rattle.xt_shapes.specs.Kinds.{same_prim, same_ext}
use Rattle.xcdr_model.specs.Equivalence.{same_dims, same_shape}
use Rattle.xt_shapes.specs.Lists.{is_some_and}
use Rattle.xt_shapes.specs.Shape.{heads, case_heads}
use Rattle.xcdr_model.specs.Rules.{delimited, same_names, same_case_names, same_literal_names, literal_sets, label_sets, ids_within, needs_within, common_member, same_places, holds_bound}
use Rattle.xcdr_model.specs.Keys.{key_fit}
use Rattle.xcdr_model.specs.Failure.{First, rule, and_then, step, of_kind, if_some, strong, key_failure, top_rules, structure_rules, first_of, case_pair, case_pairs, failure, index_failure, id_failure, case_failure, structure_ends}

pub rule_true : (r : Rule) (n : First) → rule r true n ≡ n
unfolding rule
rule_true r n = refl

pub rule_false : (r : Rule) (n : First) → rule r false n ≡ Some (r, [])
unfolding rule
rule_false r n = refl

pub and_then_none : (n : First) → and_then None n ≡ n
unfolding and_then
and_then_none n = refl

pub and_then_some : (f : Rule × List Step) (n : First) → and_then (Some f) n ≡ Some f
unfolding and_then
and_then_some f n = refl

pub step_none : (s : Step) → step s None ≡ None
unfolding step
step_none s = refl

pub step_some : (s : Step) (f : Rule × List Step) → step s (Some f) ≡ Some (f.0, s ∷ f.1)
unfolding step
step_some s f = refl

pub of_kind_none : {A : Type 0} (f : A → First) → of_kind None f ≡ Some (Rule.Kind, [])
unfolding of_kind
of_kind_none f = refl

pub of_kind_some : {A : Type 0} (x : A) (f : A → First) → of_kind (Some x) f ≡ f x
unfolding of_kind
of_kind_some x f = refl

pub if_some_none : {A : Type 0} (f : A → First) → if_some None f ≡ None
unfolding if_some
if_some_none f = refl

pub if_some_some : {A : Type 0} (x : A) (f : A → First) → if_some (Some x) f ≡ f x
unfolding if_some
if_some_some x f = refl

pub strong_is : (r : Rep) (t u : Shape) (f : First) → strong r t u f ≡ cond (same_shape t u) None (rule Rule.NotDelimited (delimited r u) f)
unfolding strong
strong_is r t u f = refl

pub structure_rules_is : (q : Policy) (top : Bool) (e : Ext) (ms : Members) (e2 : Ext) (ns : Members) (next : First) → structure_rules q top e ms e2 ns next ≡
    rule Rule.Extensibility (same_ext e e2) (rule Rule.Names (q.ignore_member_names || same_names (heads ms) (heads ns)) (rule Rule.CommonMember (common_member ms ns) (rule Rule.MustUnderstand (needs_within ms ns && needs_within ns ms)
    (and_then (top_rules top ms ns) next))))
unfolding structure_rules
structure_rules_is q top e ms e2 ns next = refl

pub ends_final : (q : Policy) (r : Rep) (ms ns : Members) → structure_ends q r Ext.Final ms ns ≡ rule Rule.MemberSet (ids_within ms ns && ids_within ns ms) (rule Rule.MemberIndex (same_places ms ns) (index_failure q r ms ns))
unfolding structure_ends
ends_final q r ms ns = refl

pub ends_appendable : (q : Policy) (r : Rep) (ms ns : Members) → structure_ends q r Ext.Appendable ms ns ≡ rule Rule.MemberIndex (same_places ms ns) (index_failure q r ms ns)
unfolding structure_ends
ends_appendable q r ms ns = refl

pub ends_mutable : (q : Policy) (r : Rep) (ms ns : Members) → structure_ends q r Ext.Mutable ms ns ≡ id_failure q r ms ns
unfolding structure_ends
ends_mutable q r ms ns = refl

-- ---- by kind

pub failure_prim : (q : Policy) (r : Rep) (top : Bool) (p : Primitive) (u : Shape) → failure q r top (prim p) u ≡ of_kind (as_prim u) (λ x. rule Rule.Kind (same_prim p x) None)
unfolding failure
failure_prim q r top p u = refl

pub failure_str : (q : Policy) (r : Rep) (top : Bool) (a : ℕ) (u : Shape) → failure q r top (str a) u ≡ of_kind (as_str u) (λ b. rule Rule.Bound (q.ignore_string_bounds || holds_bound a b) None)
unfolding failure
failure_str q r top a u = refl

pub failure_enumeration : (q : Policy) (r : Rep) (top : Bool) (e : Ext) (bits : ℕ) (ls : List Literal) (u : Shape) → failure q r top (enumeration e bits ls) u ≡
    of_kind (as_enum u) (λ x. rule Rule.Extensibility (same_ext e x.0) (rule Rule.BitBound (bits == x.1) (rule Rule.LiteralNames (same_literal_names ls x.2) (rule Rule.LiteralSet (literal_sets e ls x.2) None))))
unfolding failure
failure_enumeration q r top e bits ls u = refl

pub failure_bitmask : (q : Policy) (r : Rep) (top : Bool) (bits : ℕ) (fs : List Flag) (u : Shape) → failure q r top (bitmask bits fs) u ≡ of_kind (as_mask u) (λ x. rule Rule.BitBound (bits == x.0) None)
unfolding failure
failure_bitmask q r top bits fs u = refl

pub failure_sequence : (q : Policy) (r : Rep) (top : Bool) (a : ℕ) (tc : Try) (t u : Shape) → failure q r top (sequence a tc t) u ≡
    of_kind (as_sequence u) (λ x. rule Rule.Bound (q.ignore_sequence_bounds || holds_bound a x.0) (step Step.Element (strong r t x.2 (failure q r false t x.2))))
unfolding failure
failure_sequence q r top a tc t u = refl

pub failure_array : (q : Policy) (r : Rep) (top : Bool) (ds : List ℕ) (tc : Try) (t u : Shape) → failure q r top (array ds tc t) u ≡
    of_kind (as_array u) (λ x. rule Rule.Dimensions (same_dims ds x.0) (step Step.Element (strong r t x.2 (failure q r false t x.2))))
unfolding failure
failure_array q r top ds tc t u = refl

pub failure_map : (q : Policy) (r : Rep) (top : Bool) (a : ℕ) (kc : Try) (k : Shape) (vc : Try) (t u : Shape) → failure q r top (map_of a kc k vc t) u ≡
    of_kind (as_map u) (λ x. rule Rule.Bound (q.ignore_sequence_bounds || holds_bound a x.0) (and_then (step Step.Key (strong r k x.2 (failure q r false k x.2))) (step Step.Entry (strong r t x.4 (failure q r false t x.4)))))
unfolding failure
failure_map q r top a kc k vc t u = refl

pub failure_structure : (q : Policy) (r : Rep) (top : Bool) (e : Ext) (ms : Members) (u : Shape) → failure q r top (structure e ms) u ≡
    of_kind (as_structure u) (λ x. structure_rules q top e ms x.0 x.1 (structure_ends q r e ms x.1))
unfolding failure structure_ends
failure_structure q r top Ext.Final ms u = refl
failure_structure q r top Ext.Appendable ms u = refl
failure_structure q r top Ext.Mutable ms u = refl

pub failure_union : (q : Policy) (r : Rep) (top : Bool) (e : Ext) (key : Bool) (d : Shape) (cs : Cases) (u : Shape) → failure q r top (union e key d cs) u ≡
    of_kind (as_union u) (λ x. rule Rule.Extensibility (same_ext e x.0) (rule Rule.Names (q.ignore_member_names || same_case_names (case_heads cs) (case_heads x.3))
    (rule Rule.Discriminator (not top || beq key x.1) (and_then (step Step.Disc (strong r d x.2 (failure q r false d x.2))) (rule Rule.Labels (label_sets e cs x.3) (case_pairs (λ i t2. case_failure q r cs i t2) cs x.3))))))
unfolding failure
failure_union q r top e key d cs u = refl

-- ---- members and cases

pub key_failure_none : (ns : Members) → key_failure no_members ns ≡ None
unfolding key_failure
key_failure_none ns = refl

pub key_failure_step : (h : Head) (t : Shape) (ms ns : Members) → key_failure (member h t ms) ns ≡ cond (not h.key || is_some_and (shape_at ns h.id) (λ u. key_fit t u)) (key_failure ms ns) (Some (Rule.KeyFit, Step.Member h.id ∷ []))
unfolding key_failure
key_failure_step h t ms ns = refl

pub index_failure_left : (q : Policy) (r : Rep) (ns : Members) → index_failure q r no_members ns ≡ None
unfolding index_failure
index_failure_left q r ns = refl

pub index_failure_right : (q : Policy) (r : Rep) (ms : Members) → index_failure q r ms no_members ≡ None
unfolding index_failure
index_failure_right q r no_members = refl
index_failure_right q r (member h t ms) = refl

pub index_failure_step : (q : Policy) (r : Rep) (h : Head) (t : Shape) (ms : Members) (h2 : Head) (u : Shape) (ns : Members) → index_failure q r (member h t ms) (member h2 u ns) ≡
    and_then (step (Step.Member h.id) (strong r t u (failure q r false t u))) (index_failure q r ms ns)
unfolding index_failure
index_failure_step q r h t ms h2 u ns = refl

pub id_failure_none : (q : Policy) (r : Rep) (ns : Members) → id_failure q r no_members ns ≡ None
unfolding id_failure
id_failure_none q r ns = refl

pub id_failure_step : (q : Policy) (r : Rep) (h : Head) (t : Shape) (ms ns : Members) → id_failure q r (member h t ms) ns ≡
    and_then (if_some (shape_at ns h.id) (λ u. step (Step.Member h.id) (failure q r false t u))) (id_failure q r ms ns)
unfolding id_failure
id_failure_step q r h t ms ns = refl

pub case_failure_none : (q : Policy) (r : Rep) (i : ℕ) (o : Option Shape) → case_failure q r no_cases i o ≡ None
unfolding case_failure
case_failure_none q r i o = refl

pub case_failure_step : (q : Policy) (r : Rep) (h : CaseHead) (t : Shape) (cs : Cases) (i : ℕ) (o : Option Shape) → case_failure q r (one_case h t cs) i o ≡
    cond (h.id == i) (if_some o (λ u. step (Step.Member h.id) (failure q r false t u))) (case_failure q r cs i o)
unfolding case_failure
case_failure_step q r h t cs i o = refl

pub case_pair_is : (f : ℕ → Option Shape → First) (cs ds : Cases) (d : ℤ) → case_pair f cs ds d ≡ if_some (select cs d) (λ i. if_some (select ds d) (λ j. f i (case_at ds j)))
unfolding case_pair
case_pair_is f cs ds d = refl

pub first_of_none : {A : Type 0} (f : A → First) → first_of f [] ≡ None
unfolding first_of
first_of_none f = refl

pub first_of_step : {A : Type 0} (f : A → First) (x : A) (xs : List A) → first_of f (x ∷ xs) ≡ and_then (f x) (first_of f xs)
unfolding first_of
first_of_step f x xs = refl

pub ruleset step_rules = (rule_true, rule_false, and_then_none, and_then_some, step_none, step_some, of_kind_none, of_kind_some, if_some_none, if_some_some)

pub ruleset kind_rules = (failure_prim, failure_str, failure_enumeration, failure_bitmask, failure_sequence, failure_array, failure_map, failure_structure, failure_union)

pub ruleset end_rules = (ends_final, ends_appendable, ends_mutable)
