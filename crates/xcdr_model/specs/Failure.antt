-- The first rule of assignability that fails, with its path, in the order in which the rules are tried. The rules are those of DDS-XTypes 1.3, 7.2.4.4; their order, and that a failure is named by rule and path, is this profile's own.
use Rattle.std.specs.Prelude.{ℕ, ℤ, List, [], ◌∷◌, ◌++◌, Bool, true, false, cond, not, Option, Some, None, ◌==◌, ◌&&◌, ◌||◌}
use Rattle.std.specs.Bool.{beq}
use Rattle.std.specs.List.{flat_map}
use Rattle.xt_shapes.specs.declared.leaves.Ext.{Ext}
use Rattle.xt_shapes.specs.declared.leaves.Ext.TheVariants.{Final, Appendable, Mutable}
use Rattle.xt_shapes.specs.declared.leaves.Rep.{Rep}
use Rattle.xt_shapes.specs.declared.leaves.Step.{Step}
use Rattle.xt_shapes.specs.declared.leaves.Try.{Try}
use Rattle.xt_shapes.specs.Kinds.{same_prim, same_ext, as_prim, as_str, as_enum, as_mask, as_sequence, as_array, as_map, as_structure, as_union}
use Rattle.xt_shapes.specs.Lists.{has, is_some_and}
use Rattle.xt_shapes.specs.Select.{select, default_case, case_at, shape_at}
use Rattle.xt_shapes.specs.Shape.{Literal, Shape, prim, str, enumeration, bitmask, sequence, array, map_of, structure, union, Members, no_members, member, Cases, no_cases, one_case, heads, case_heads}
use Rattle.xcdr_model.specs.declared.verdict.Policy.{Policy}
use Rattle.xcdr_model.specs.declared.verdict.Rule.{Rule}
use Rattle.xcdr_model.specs.Equivalence.{same_dims, same_shape}
use Rattle.xcdr_model.specs.Keys.{same_counted, key_fit}
use Rattle.xcdr_model.specs.Rules.{delimited, same_names, same_case_names, same_literal_names, literal_sets, label_sets, ids_within, needs_within, common_member, same_places, holds_bound}
use Rattle.xt_shapes.specs.declared.leaves.Step.TheVariants as steps
use Rattle.xcdr_model.specs.declared.verdict.Rule.TheVariants as rules

abbrev pub Failure : Type 0
Failure = Rule × List Step

-- no failure, or the first
abbrev pub First : Type 0
First = Option Failure

-- a rule, and then what is tried after it
unfoldable pub rule : Rule → Bool → First → First
rule r true next = next
rule r false next = Some (r, [])

unfoldable pub and_then : First → First → First
and_then None next = next
and_then (Some f) next = Some f

-- a descent's failure, with the step put before its path
unfoldable pub step : Step → First → First
step s None = None
step s (Some f) = Some (f.0, s ∷ f.1)

unfoldable pub of_kind : {A : Type 0} → Option A → (A → First) → First
of_kind None f = Some (rules.Kind, [])
of_kind (Some x) f = f x

unfoldable pub if_some : {A : Type 0} → Option A → (A → First) → First
if_some None f = None
if_some (Some x) f = f x

unfoldable pub first_of : {A : Type 0} → (A → First) → List A → First
first_of f [] = None
first_of f (x ∷ xs) = and_then (f x) (first_of f xs)

-- a strong descent (7.2.4.3): equivalent, or delimited and then by the rules
unfoldable pub strong : Rep → Shape → Shape → First → First
strong r t u f = cond (same_shape t u) None (rule rules.NotDelimited (delimited r u) f)

-- ---- structures

unfoldable pub key_failure : Members → Members → First
key_failure no_members ns = None
key_failure (member h t ms) ns = cond (not h.key || is_some_and (shape_at ns h.id) (λ u. key_fit t u)) (key_failure ms ns) (Some (rules.KeyFit, steps.Member h.id ∷ []))

-- the rules of top structures: keys of nested types don't count (this profile's own)
abbrev pub top_rules : Bool → Members → Members → First
top_rules top ms ns = cond top (rule rules.KeySet (same_counted true ms true ns) (key_failure ms ns)) None

-- the rules of structures before the descents
unfoldable pub structure_rules : Policy → Bool → Ext → Members → Ext → Members → First → First
structure_rules q top e ms e2 ns next =
    rule rules.Extensibility (same_ext e e2) (rule rules.Names (q.ignore_member_names || same_names (heads ms) (heads ns)) (rule rules.CommonMember (common_member ms ns) (rule rules.MustUnderstand (needs_within ms ns && needs_within ns ms)
    (and_then (top_rules top ms ns) next))))

-- and then of the order of members, and of their set
abbrev pub place_rules : Members → Members → First → First
place_rules ms ns next = rule rules.MemberIndex (same_places ms ns) next

abbrev pub set_rules : Members → Members → First → First
set_rules ms ns next = rule rules.MemberSet (ids_within ms ns && ids_within ns ms) (place_rules ms ns next)

-- ---- enumerations

abbrev pub enum_rules : Ext × ℕ × List Literal → Ext × ℕ × List Literal → First
enum_rules x y = rule rules.Extensibility (same_ext x.0 y.0) (rule rules.BitBound (x.1 == y.1) (rule rules.LiteralNames (same_literal_names x.2 y.2) (rule rules.LiteralSet (literal_sets x.0 x.2 y.2) None)))

-- ---- unions

-- the labels of a case list in order
abbrev pub all_labels : Cases → List ℤ
all_labels cs = flat_map (λ h. h.labels) (case_heads cs)

-- the pair of cases that a number selects
unfoldable pub case_pair : (ℕ → Option Shape → First) → Cases → Cases → ℤ → First
case_pair f cs ds d = if_some (select cs d) (λ i. if_some (select ds d) (λ j. f i (case_at ds j)))

-- for each label of the writer's, then of the reader's, and then the two defaults
abbrev pub case_pairs : (ℕ → Option Shape → First) → Cases → Cases → First
case_pairs f cs ds = and_then (first_of (case_pair f cs ds) (all_labels ds ++ all_labels cs))
    (if_some (default_case cs) (λ i. if_some (default_case ds) (λ j. f i (case_at ds j))))

-- whether a number, or one of some, selects two cases, by their ids
abbrev pub is_case : Option ℕ → ℕ → Bool
is_case None id = false
is_case (Some found) id = found == id

abbrev pub is_selected : Cases → ℤ → ℕ → Bool
is_selected cs d id = is_case (select cs d) id

abbrev pub is_met : Cases → Cases → List ℤ → ℕ → ℕ → Bool
is_met cs ds ls i j = has (λ d. is_selected cs d i && is_selected ds d j) ls

-- the rules of unions, between them the discriminator's descent, and behind them those to the cases
abbrev pub union_order : Policy → Bool → Ext × Bool × Cases → Ext × Bool × Shape × Cases → First → First → First
union_order q top x y disc pairs =
    rule rules.Extensibility (same_ext x.0 y.0) (rule rules.Names (q.ignore_member_names || same_case_names (case_heads x.2) (case_heads y.3))
    (rule rules.Discriminator (not top || beq x.1 y.1) (and_then disc (rule rules.Labels (label_sets x.0 x.2 y.3) pairs))))

-- ---- the rules at a pair: of the top (the flag), or of a part

unfoldable mutual
  pub failure : Policy → Rep → Bool → Shape → Shape → First
  failure q r top (prim p) u = of_kind (as_prim u) (λ x. rule rules.Kind (same_prim p x) None)
  failure q r top (str a) u = of_kind (as_str u) (λ b. rule rules.Bound (q.ignore_string_bounds || holds_bound a b) None)
  failure q r top (enumeration e bits ls) u = of_kind (as_enum u) (λ x. enum_rules (e, bits, ls) x)
  failure q r top (bitmask bits fs) u = of_kind (as_mask u) (λ x. rule rules.BitBound (bits == x.0) None)
  failure q r top (sequence a tc t) u = of_kind (as_sequence u) (λ x. rule rules.Bound (q.ignore_sequence_bounds || holds_bound a x.0) (step steps.Element (strong r t x.2 (failure q r false t x.2))))
  failure q r top (array ds tc t) u = of_kind (as_array u) (λ x. rule rules.Dimensions (same_dims ds x.0) (step steps.Element (strong r t x.2 (failure q r false t x.2))))
  failure q r top (map_of a kc k vc t) u = of_kind (as_map u) (λ x. rule rules.Bound (q.ignore_sequence_bounds || holds_bound a x.0) (and_then (step steps.Key (strong r k x.2 (failure q r false k x.2))) (step steps.Entry (strong r t x.4 (failure q r false t x.4)))))
  failure q r top (structure Final ms) u = of_kind (as_structure u) (λ x. structure_rules q top Final ms x.0 x.1 (set_rules ms x.1 (index_failure q r ms x.1)))
  failure q r top (structure Appendable ms) u = of_kind (as_structure u) (λ x. structure_rules q top Appendable ms x.0 x.1 (place_rules ms x.1 (index_failure q r ms x.1)))
  failure q r top (structure Mutable ms) u = of_kind (as_structure u) (λ x. structure_rules q top Mutable ms x.0 x.1 (id_failure q r ms x.1))
  failure q r top (union e key d cs) u = of_kind (as_union u) (λ x. union_order q top (e, key, cs) x (step steps.Disc (strong r d x.2 (failure q r false d x.2))) (case_pairs (λ i t2. case_failure q r cs i t2) cs x.3))

  -- at each index that both have
  pub index_failure : Policy → Rep → Members → Members → First
  index_failure q r no_members ns = None
  index_failure q r (member h t ms) no_members = None
  index_failure q r (member h t ms) (member h2 u ns) = and_then (step (steps.Member h.id) (strong r t u (failure q r false t u))) (index_failure q r ms ns)

  -- at each common id
  pub id_failure : Policy → Rep → Members → Members → First
  id_failure q r no_members ns = None
  id_failure q r (member h t ms) ns = and_then (if_some (shape_at ns h.id) (λ u. step (steps.Member h.id) (failure q r false t u))) (id_failure q r ms ns)

  -- at the reader's case of an id
  pub case_failure : Policy → Rep → Cases → ℕ → Option Shape → First
  case_failure q r no_cases i t2 = None
  case_failure q r (one_case h t cs) i t2 = cond (h.id == i) (if_some t2 (λ u. step (steps.Member h.id) (failure q r false t u))) (case_failure q r cs i t2)

-- ---- the same rules under names of their own

-- the rules of structures behind those on keys
unfoldable pub structure_ends : Policy → Rep → Ext → Members → Members → First
structure_ends q r Final ms ns = set_rules ms ns (index_failure q r ms ns)
structure_ends q r Appendable ms ns = place_rules ms ns (index_failure q r ms ns)
structure_ends q r Mutable ms ns = id_failure q r ms ns

abbrev pub map_rules : Policy → Rep → ℕ × Try × Shape × Try × Shape → ℕ × Try × Shape × Try × Shape → First
map_rules q r x y =
    rule rules.Bound (q.ignore_sequence_bounds || holds_bound x.0 y.0) (and_then (step steps.Key (strong r x.2 y.2 (failure q r false x.2 y.2))) (step steps.Entry (strong r x.4 y.4 (failure q r false x.4 y.4))))

-- at the cases that a number selects on both sides
abbrev pub label_failure : Policy → Rep → Cases → Cases → ℤ → First
label_failure q r cs ds = case_pair (λ i t2. case_failure q r cs i t2) cs ds

abbrev pub default_failure : Policy → Rep → Cases → Cases → First
default_failure q r cs ds = if_some (default_case cs) (λ i. if_some (default_case ds) (λ j. case_failure q r cs i (case_at ds j)))

abbrev pub cases_failure : Policy → Rep → Cases → Cases → First
cases_failure q r cs ds = case_pairs (λ i t2. case_failure q r cs i t2) cs ds

abbrev pub union_rules : Policy → Rep → Bool → Ext × Bool × Shape × Cases → Ext × Bool × Shape × Cases → First
union_rules q r top x y = union_order q top (x.0, x.1, x.3) y (step steps.Disc (strong r x.2 y.2 (failure q r false x.2 y.2))) (cases_failure q r x.3 y.3)

-- ---- the verdict on a reader's type and a writer's: nothing fails, or the first failure

abbrev pub first_failure : Policy → Rep → Shape → Shape → First
first_failure q r t u = rule rules.Coercion (q.coercion || same_shape t u) (failure q r true t u)
