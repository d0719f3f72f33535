-- Types that may be used, and those that stand under names.
use Rattle.std.proofs.Common.{◌≡◌, sym, subst, ℕ, zero, suc, [], ◌∷◌, Option, Some, None, take}
use Rattle.std.specs.Prelude.{slice_get}
use Rattle.std.proofs.lemmas.Option.{none-some}
use Rattle.type_trees.specs.Trees.{Tree, prim, str, sequence, map_of, array, enumeration, bitmask, structure, union, alias}
use Rattle.idl_tokens.specs.Classes.{Text}
use Rattle.idl_types.specs.State.{Declared}
use Rattle.idl_laws.specs.Printable.{IsNamed, IsUse, IsTyped, IsDefinition}
use Rattle.idl_laws.proofs.OfParsed.Sound.{Sound}

-- each type of the one list stands in the other at its place
abbrev pub Within : Declared → Declared → Type 0
Within known types = (at : ℕ) (d : Text × Tree) → slice_get known at ≡ Some d → slice_get types at ≡ Some d

pub taken_within : (n : ℕ) (types : Declared) → Within (take n types) types
taken_within zero types at d e = absurd (none-some d e)
taken_within (suc n) [] at d e = absurd (none-some d e)
taken_within (suc n) (t ∷ types) zero d e = e
taken_within (suc n) (t ∷ types) (suc at) d e = taken_within n types at d e

named_more : (known types : Declared) → Within known types → (name : Option Text) (t : Tree) → IsNamed known name t → IsNamed types name t
named_more known types more None t named = absurd named
named_more known types more (Some full) t named = (named.0, more named.0 (full, t) named.1)

pub use_more : (known types : Declared) → Within known types → (t : Tree) → IsUse known t → IsUse types t
use_more known types more (prim p) used = tt
use_more known types more (str n) used = used
use_more known types more (sequence n tc t) used = (used.0, use_more known types more t used.1)
use_more known types more (map_of n kc k vc v) used = (used.0, (use_more known types more k used.1.0, use_more known types more v used.1.1))
use_more known types more (array ds tc t) used = absurd used
use_more known types more (enumeration name ext bits ls) used = named_more known types more name (enumeration name ext bits ls) used
use_more known types more (bitmask name bits fs) used = named_more known types more name (bitmask name bits fs) used
use_more known types more (structure head ms) used = named_more known types more head.name (structure head ms) used
use_more known types more (union head disc cs) used = named_more known types more head.name (union head disc cs) used
use_more known types more (alias name t) used = named_more known types more name (alias name t) used

pub use_typed : (known : Declared) (t : Tree) → IsUse known t → IsTyped known t
use_typed known (prim p) used = used
use_typed known (str n) used = used
use_typed known (sequence n tc t) used = used
use_typed known (map_of n kc k vc v) used = used
use_typed known (array ds tc t) used = absurd used
use_typed known (enumeration name ext bits ls) used = used
use_typed known (bitmask name bits fs) used = used
use_typed known (structure head ms) used = used
use_typed known (union head disc cs) used = used
use_typed known (alias name t) used = used

pub typed_more : (known types : Declared) → Within known types → (t : Tree) → IsTyped known t → IsTyped types t
typed_more known types more (array ds tc t) typed = (typed.0, (typed.1.0, use_more known types more t typed.1.1))
typed_more known types more (prim p) typed = tt
typed_more known types more (str n) typed = typed
typed_more known types more (sequence n tc t) typed = use_more known types more (sequence n tc t) typed
typed_more known types more (map_of n kc k vc v) typed = use_more known types more (map_of n kc k vc v) typed
typed_more known types more (enumeration name ext bits ls) typed = use_more known types more (enumeration name ext bits ls) typed
typed_more known types more (bitmask name bits fs) typed = use_more known types more (bitmask name bits fs) typed
typed_more known types more (structure head ms) typed = use_more known types more (structure head ms) typed
typed_more known types more (union head disc cs) typed = use_more known types more (union head disc cs) typed
typed_more known types more (alias name t) typed = use_more known types more (alias name t) typed

-- ---- declared types

stands_named : (types : Declared) (at : ℕ) (full : Text) (name : Option Text) (t : Tree) → slice_get types at ≡ Some (full, t) → name ≡ Some full → IsNamed types name t
stands_named types at full name t stands e = subst (λ n. IsNamed types n t) (sym e) (at, stands)

-- a definition has its name, so it may be used by it
definition_used : (types known : Declared) (at : ℕ) (full : Text) (t : Tree) → slice_get types at ≡ Some (full, t) → IsDefinition known full t → IsUse types t
definition_used types known at full (prim p) stands defined = absurd defined
definition_used types known at full (str n) stands defined = absurd defined
definition_used types known at full (sequence n tc t) stands defined = absurd defined
definition_used types known at full (map_of n kc k vc v) stands defined = absurd defined
definition_used types known at full (array ds tc t) stands defined = absurd defined
definition_used types known at full (enumeration name ext bits ls) stands defined = stands_named types at full name (enumeration name ext bits ls) stands defined.0
definition_used types known at full (bitmask name bits fs) stands defined = stands_named types at full name (bitmask name bits fs) stands defined.0
definition_used types known at full (structure head ms) stands defined = stands_named types at full head.name (structure head ms) stands defined.0
definition_used types known at full (union head disc cs) stands defined = stands_named types at full head.name (union head disc cs) stands defined.0
definition_used types known at full (alias name t) stands defined = stands_named types at full name (alias name t) stands defined.0

pub declared_used : (types : Declared) → Sound types → (at : ℕ) (full : Text) (t : Tree) → slice_get types at ≡ Some (full, t) → IsUse types t
declared_used types sound at full t stands = definition_used types (take at types) at full t stands (sound at full t stands).defined
