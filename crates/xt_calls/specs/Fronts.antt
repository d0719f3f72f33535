-- That what a front declared is sound, and comes back from its pool, is one fact each (this profile's own).
use Rattle.std.specs.Prelude.{◌≡◌, ℕ, List, [], ◌∷◌, ◌⊎◌, Result, Ok, Err}
use Rattle.std.specs.Coded.{Coded, Coded-set, ×_prop, Π_prop, →_prop, Unit-prop, code_by, coded_ℕ, coded_bool, coded_list, coded_option, coded×, coded⊎}
use mathlib.Core.Logic.{inl, inr}
use mathlib.Core.Path.{refl}
use mathlib.Core.Sum.{⊎_set}
use ghost.Sets.{retract_set}
use Rattle.xt_shapes.specs.contracts.leaves.Step as step
use Rattle.xt_shapes.specs.declared.leaves.Step.{Step}
use Rattle.type_trees.specs.declared.types.HashId.{HashId}
use Rattle.type_trees.specs.contracts.types.HashId as hash_id
use Rattle.type_trees.specs.Trees.{Tree}
use Rattle.type_resolve.specs.declared.sides.Identifiers.{Identifiers}
use Rattle.object_walks.specs.Resolving.{Refusal, missing, recursive, invalid}
use Rattle.type_object.specs.Pools.{Texts}
use Rattle.idl_types.specs.State as idl_types
use Rattle.idl_types.specs.Definitions.{declared}
use Rattle.tool_types.specs.Types as spec
use Rattle.tool_types.specs.declared.declaring.Declared.{Declared}
use Rattle.tool_types.specs.declared.declaring.Declared.TheVariants.{Types, Object}
use Rattle.tool_types.specs.Declaring.{Identifies, AreIdentified, AreGood, IsGood, AllGood}
use Rattle.tool_types.specs.Coming.{ComeBack, ComesBack, AllComeBack}
use Rattle.xt_calls.specs.Sets.{Identifier-set, Tree-set}

-- ---- sound

Identifies-prop : (t : Tree) (ids : Identifiers) → IsProp (Identifies t ids)
Identifies-prop t ids p q = λ i. record {
  minimal = Identifier-set _ _ p.minimal q.minimal i;
  complete = Identifier-set _ _ p.complete q.complete i;
}

AreIdentified-prop : (ts : idl_types.Declared) (ids : List Identifiers) → IsProp (AreIdentified ts ids)
AreIdentified-prop [] [] = Unit-prop
AreIdentified-prop [] (ids ∷ more) = λ p q. absurd p
AreIdentified-prop (t ∷ ts) [] = λ p q. absurd p
AreIdentified-prop (t ∷ ts) (ids ∷ more) = ×_prop (Identifies-prop _ _) (AreIdentified-prop ts more)

AreGood-prop : (ts : idl_types.Declared) → IsProp (AreGood ts)
AreGood-prop [] = Unit-prop
AreGood-prop (t ∷ ts) = ×_prop (Coded-set coded_bool _ _) (×_prop (Coded-set (coded_option (coded× coded_ℕ (coded_list step.the_row.coded))) _ _) (AreGood-prop ts))

IsGood-prop : (d : Declared) → IsProp (IsGood d)
IsGood-prop (Types ds ids) = ×_prop (AreGood-prop (declared ds)) (AreIdentified-prop (declared ds) ids)
IsGood-prop (Object id name) = Unit-prop

pub AllGood-prop : (ds : List Declared) → IsProp (AllGood ds)
AllGood-prop [] = Unit-prop
AllGood-prop (d ∷ ds) = ×_prop (IsGood-prop d) (AllGood-prop ds)

-- ---- what an identifier resolves to

abbrev Fields : Type 0
Fields = HashId ⊎ (HashId ⊎ (HashId × (ℕ × List Step)))

abbrev fields_of : Refusal → Fields
fields_of (missing id) = inl id
fields_of (recursive id) = inr (inl id)
fields_of (invalid id rule path) = inr (inr (id, (rule, path)))

abbrev with_fields : Fields → Refusal
with_fields (inl id) = missing id
with_fields (inr (inl id)) = recursive id
with_fields (inr (inr f)) = invalid f.0 f.1.0 f.1.1

has_fields : (r : Refusal) → with_fields (fields_of r) ≡ r
has_fields (missing id) = refl
has_fields (recursive id) = refl
has_fields (invalid id rule path) = refl

coded_refusal : Coded Refusal
coded_refusal = code_by Fields (coded⊎ hash_id.the_row.coded (coded⊎ hash_id.the_row.coded (coded× hash_id.the_row.coded (coded× coded_ℕ (coded_list step.the_row.coded))))) fields_of with_fields has_fields

abbrev side_of : Result Tree Refusal → Tree ⊎ Refusal
side_of (Ok t) = inl t
side_of (Err r) = inr r

abbrev with_side : Tree ⊎ Refusal → Result Tree Refusal
with_side (inl t) = Ok t
with_side (inr r) = Err r

has_side : (x : Result Tree Refusal) → with_side (side_of x) ≡ x
has_side (Ok t) = refl
has_side (Err r) = refl

found-set : IsSet (Result Tree Refusal)
found-set = retract_set side_of with_side has_side (⊎_set Tree-set (Coded-set coded_refusal))

-- ---- from the pool

ComeBack-prop : (pool : Texts) (ts : idl_types.Declared) → IsProp (ComeBack pool ts)
ComeBack-prop pool [] = Unit-prop
ComeBack-prop pool (t ∷ ts) = ×_prop (Π_prop (λ id. →_prop (found-set _ _))) (ComeBack-prop pool ts)

ComesBack-prop : (pool : Texts) (d : spec.Declared) → IsProp (ComesBack pool d)
ComesBack-prop pool (spec.types ts) = ComeBack-prop pool ts
ComesBack-prop pool (spec.object id name) = Unit-prop

pub AllComeBack-prop : (pool : Texts) (ds : List spec.Declared) → IsProp (AllComeBack pool ds)
AllComeBack-prop pool [] = Unit-prop
AllComeBack-prop pool (d ∷ ds) = ×_prop (ComesBack-prop pool d) (AllComeBack-prop pool ds)
