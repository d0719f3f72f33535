-- What a text declares are types with objects.
use Rattle.std.proofs.Common.{◌≡◌, refl, true, subst, ℕ, zero, suc, [], ◌∷◌, ◌++◌, Some}
use Rattle.std.proofs.lemmas.Option.{none-some, same_Some}
use Rattle.std.specs.Prelude.{slice_get}
use Rattle.type_trees.specs.Trees.{Tree, prim, str, enumeration, bitmask, sequence, array, map_of, structure, union, alias}
use Rattle.idl_tokens.specs.Classes.{Text}
use Rattle.idl_types.specs.State.{Declared}
use Rattle.type_resolve.specs.Objects.{has_objects}
use Rattle.idl_laws.specs.Printable.{IsDefinition, AreDefinitions}
use Rattle.idl_laws.proofs.OfParsed.Whole.{parsed_is_printable}
use Rattle.resolve_laws.specs.parsed.Defining.{ParsedHasObjects}

definition_has : (known : Declared) (full : Text) (t : Tree) → IsDefinition known full t → has_objects t ≡ true
definition_has known full (structure head ms) is = refl
definition_has known full (union head disc cs) is = refl
definition_has known full (enumeration name ext bits ls) is = refl
definition_has known full (bitmask name bits fs) is = refl
definition_has known full (alias name t) is = refl
definition_has known full (prim p) is = absurd is
definition_has known full (str n) is = absurd is
definition_has known full (sequence n tc t) is = absurd is
definition_has known full (array ds tc t) is = absurd is
definition_has known full (map_of n kc k vc v) is = absurd is

each_has : (known ds : Declared) → AreDefinitions known ds → (at : ℕ) (e : Text × Tree) → slice_get ds at ≡ Some e → has_objects e.1 ≡ true
each_has known [] defined at e is = absurd (none-some e is)
each_has known (d ∷ ds) defined zero e is = subst (λ (x : Text × Tree). has_objects x.1 ≡ true) (same_Some d e is) (definition_has known d.0 d.1 defined.1.1.0)
each_has known (d ∷ ds) defined (suc at) e is = each_has (known ++ d ∷ []) ds defined.1.1.1 at e is

pub parsed_has_objects : ParsedHasObjects
parsed_has_objects text ds at full t parsed is = each_has [] ds (parsed_is_printable text ds parsed).defined at (full, t) is
