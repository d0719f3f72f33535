-- When a reader's type is assignable from a writer's, as a relation on whole types (DDS-XTypes 1.3, 7.2.4).
use Rattle.std.specs.Prelude.{◌≡◌, ℕ, ℤ, List, Bool, true, not, Option, Some, None, IsTrue, ◌&&◌, ◌||◌, ◌⊎◌}
use Rattle.std.specs.Bool.{beq}
use Rattle.xt_shapes.specs.declared.leaves.Ext.TheVariants.{Final, Appendable, Mutable}
use Rattle.xt_shapes.specs.declared.leaves.Rep.{Rep}
use Rattle.xt_shapes.specs.declared.leaves.Try.{Try}
use Rattle.xt_shapes.specs.Kinds.{as_structure, as_union}
use Rattle.xt_shapes.specs.Lists.{is_some_and}
use Rattle.xt_shapes.specs.Select.{select, case_at, shape_at}
use Rattle.xt_shapes.specs.Shape.{Literal, Flag, Shape, prim, str, enumeration, bitmask, sequence, array, map_of, structure, union, Members, no_members, member, Cases, no_cases, one_case, heads, case_heads}
use Rattle.xcdr_model.specs.declared.verdict.Policy.{Policy}
use Rattle.xcdr_model.specs.Keys.{same_counted, key_fit}
use Rattle.xcdr_model.specs.Rules.{delimited, same_names, same_case_names, same_literal_names, literal_sets, label_sets, ids_within, needs_within, common_member, holds_bound}

abbrev pub when : {A : Type 0} → Option A → (A → Type 0) → Type 0
when None P = Unit {0}
when (Some x) P = P x

-- strong assignability (7.2.4.3): equivalent, or delimited and fitting
abbrev pub Strong : Rep → (Shape → Type 0) → Shape → Shape → Type 0
Strong r Fits t t2 = (t ≡ t2) ⊎ (IsTrue (delimited r t2) × Fits t2)

-- what every pair of structures keeps: names, a common member, and on both sides what must be understood
abbrev pub members_match : Policy → Members → Members → Bool
members_match q ms ns = (q.ignore_member_names || same_names (heads ms) (heads ns)) && (common_member ms ns && (needs_within ms ns && needs_within ns ms))

-- ---- the relation below the top

abbrev mutual
  pub Fits : Policy → Rep → Shape → Shape → Type 0
  Fits q r (prim p) t2 = t2 ≡ prim p
  Fits q r (str a) t2 = (b : ℕ) × (t2 ≡ str b) × IsTrue (q.ignore_string_bounds || holds_bound a b)
  Fits q r (enumeration e bits ls) t2 = (ls2 : List Literal) × (t2 ≡ enumeration e bits ls2) × IsTrue (same_literal_names ls ls2 && literal_sets e ls ls2)
  Fits q r (bitmask bits fs) t2 = (fs2 : List Flag) × (t2 ≡ bitmask bits fs2)
  Fits q r (sequence a tc t) t2 = (b : ℕ) × (cb : Try) × (u : Shape) × (t2 ≡ sequence b cb u) × Strong r (λ x. Fits q r t x) t u × IsTrue (q.ignore_sequence_bounds || holds_bound a b)
  Fits q r (array dims tc t) t2 = (cb : Try) × (u : Shape) × (t2 ≡ array dims cb u) × Strong r (λ x. Fits q r t x) t u
  Fits q r (map_of a kc k vc t) t2 = (b : ℕ) × (cb : Try) × (j : Shape) × (db : Try) × (u : Shape) × (t2 ≡ map_of b cb j db u) × Strong r (λ x. Fits q r k x) k j × Strong r (λ x. Fits q r t x) t u × IsTrue (q.ignore_sequence_bounds || holds_bound a b)
  Fits q r (structure Final ms) t2 = (ns : Members) × (t2 ≡ structure Final ns) × IsTrue (members_match q ms ns && (ids_within ms ns && ids_within ns ms)) × FitInOrder q r ms ns
  Fits q r (structure Appendable ms) t2 = (ns : Members) × (t2 ≡ structure Appendable ns) × IsTrue (members_match q ms ns) × FitInOrder q r ms ns
  Fits q r (structure Mutable ms) t2 = (ns : Members) × (t2 ≡ structure Mutable ns) × IsTrue (members_match q ms ns) × FitById q r ms ns
  Fits q r (union e key disc cs) t2 = (key2 : Bool) × (disc2 : Shape) × (ds : Cases) × (t2 ≡ union e key2 disc2 ds) × Strong r (λ x. Fits q r disc x) disc disc2
      × IsTrue ((q.ignore_member_names || same_case_names (case_heads cs) (case_heads ds)) && label_sets e cs ds) × FitCases q r cs cs ds

  -- at each index that both have
  pub FitInOrder : Policy → Rep → Members → Members → Type 0
  FitInOrder q r no_members ns = Unit {0}
  FitInOrder q r (member h t ms) no_members = Unit {0}
  FitInOrder q r (member h t ms) (member h2 t2 ns) = (h.id ≡ h2.id) × (h.optional ≡ h2.optional) × Strong r (λ x. Fits q r t x) t t2 × FitInOrder q r ms ns

  -- at each common id
  pub FitById : Policy → Rep → Members → Members → Type 0
  FitById q r no_members ns = Unit {0}
  FitById q r (member h t ms) ns = when (shape_at ns h.id) (λ t2. Fits q r t t2) × FitById q r ms ns

  -- for each number that selects a case on both sides; all are the reader's cases
  pub FitCases : Policy → Rep → Cases → Cases → Cases → Type 0
  FitCases q r whole no_cases ds = Unit {0}
  FitCases q r whole (one_case h t cs) ds = ((d : ℤ) (j : ℕ) → select whole d ≡ Some h.id → select ds d ≡ Some j → when (case_at ds j) (λ t2. Fits q r t t2)) × FitCases q r whole cs ds

-- ---- the top pair: keys are looked at there alone (this profile's own)

abbrev pub key_members_fit : Members → Members → Bool
key_members_fit no_members ns = true
key_members_fit (member h t ms) ns = (not h.key || is_some_and (shape_at ns h.id) (λ u. key_fit t u)) && key_members_fit ms ns

-- equal sets of key ids, and the key members fit; both discriminators are key or neither
abbrev pub keys_match : Shape → Shape → Bool
keys_match (structure e ms) u = is_some_and (as_structure u) (λ x. same_counted true ms true x.1 && key_members_fit ms x.1)
keys_match (union e key d cs) u = is_some_and (as_union u) (λ x. beq key x.1)
keys_match _ u = true

pub record Assignable (q : Policy) (r : Rep) (t u : Shape) : Type 0 where
  pub coerced : (q.coercion ≡ true) ⊎ (t ≡ u)
  pub keys : IsTrue (keys_match t u)
  pub fits : Fits q r t u
