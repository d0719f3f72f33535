-- What a text declares has all its names, and comes back from its complete objects.
use Rattle.std.proofs.Common.{◌≡◌, subst, ℕ, zero, suc, [], ◌∷◌, ◌++◌, Some, None}
use Rattle.std.proofs.lemmas.Option.{none-some, same_Some}
use Rattle.std.proofs.lemmas.Bool.{and_from}
use Rattle.std.specs.Prelude.{slice_get}
use Rattle.type_trees.specs.Trees.{Tree, prim, str, enumeration, bitmask, sequence, array, map_of, structure, union, alias}
use Rattle.type_rules.specs.Valid.{type_fault}
use Rattle.idl_tokens.specs.Classes.{Text}
use Rattle.idl_types.specs.State.{Declared}
use Rattle.idl_laws.specs.Printable.{IsDefinition, AreDefinitions, IsPrintable}
use Rattle.idl_laws.proofs.OfParsed.Whole.{parsed_is_printable}
use Rattle.resolve_laws.proofs.WellFormed.{resolves_to_itself}
use Rattle.resolve_laws.specs.parsed.Laws.{ParsedIsNamed, ParsedResolves}
use Rattle.resolve_laws.proofs.OfParsed.Uses.{IsWhole, AreWhole, typed_whole}
use Rattle.resolve_laws.proofs.OfParsed.Structures.{some_name, structure_whole}
use Rattle.resolve_laws.proofs.OfParsed.Unions.{enumeration_whole, bitmask_whole, union_whole}

definition_whole : (known : Declared) → AreWhole known → (full : Text) (t : Tree) → type_fault t ≡ None → IsDefinition known full t → IsWhole t
definition_whole known whole full (structure head ms) valid is = structure_whole known whole full head ms is.0 is.1.0 is.1.1
definition_whole known whole full (union head disc cs) valid is = union_whole known whole full head disc cs valid is.0 is.1.0 is.1.1
definition_whole known whole full (enumeration name ext bits ls) valid is = enumeration_whole name full ext bits ls is.0 is.1
definition_whole known whole full (bitmask name bits fs) valid is = bitmask_whole name full bits fs is.0 is.1
definition_whole known whole full (alias name t) valid is =
    let part = typed_whole known whole t is.1 in
    record { named = and_from _ _ (some_name name full is.0) part.named; fits = part.fits }
definition_whole known whole full (prim p) valid is = absurd is
definition_whole known whole full (str n) valid is = absurd is
definition_whole known whole full (sequence n tc t) valid is = absurd is
definition_whole known whole full (array ds tc t) valid is = absurd is
definition_whole known whole full (map_of n kc k vc v) valid is = absurd is

-- what holds of each type of a list, and of one behind it
each_more : (P : Text × Tree → Type 0) (known : Declared) (d : Text × Tree) → ((at : ℕ) (e : Text × Tree) → slice_get known at ≡ Some e → P e) → P d
    → (at : ℕ) (e : Text × Tree) → slice_get (known ++ d ∷ []) at ≡ Some e → P e
each_more P [] d before here zero e is = subst P (same_Some d e is) here
each_more P [] d before here (suc at) e is = absurd (none-some e is)
each_more P (k ∷ known) d before here zero e is = before 0 e is
each_more P (k ∷ known) d before here (suc at) e is = each_more P known d (λ at e is. before (suc at) e is) here at e is

one_more : (known : Declared) (d : Text × Tree) → AreWhole known → IsWhole d.1 → AreWhole (known ++ d ∷ [])
one_more known d whole here = record { each = λ at full t is. each_more (λ e. IsWhole e.1) known d (λ at e is. whole.each at e.0 e.1 is) here at (full, t) is }

-- a valid type with all its names
record IsGood (t : Tree) : Type 0 where
  valid : type_fault t ≡ None
  whole : IsWhole t

each_good : (known ds : Declared) → AreWhole known → AreDefinitions known ds → (at : ℕ) (e : Text × Tree) → slice_get ds at ≡ Some e → IsGood e.1
each_good known [] whole defined at e is = absurd (none-some e is)
each_good known (d ∷ ds) whole defined zero e is =
    subst (λ (x : Text × Tree). IsGood x.1) (same_Some d e is) (record { valid = defined.0; whole = definition_whole known whole d.0 d.1 defined.0 defined.1.1.0 })
each_good known (d ∷ ds) whole defined (suc at) e is =
    each_good (known ++ d ∷ []) ds (one_more known d whole (definition_whole known whole d.0 d.1 defined.0 defined.1.1.0)) defined.1.1.1 at e is

none_yet : AreWhole []
none_yet = record { each = λ at full t is. absurd (none-some (full, t) is) }

printable_good : (ds : Declared) → IsPrintable ds → (at : ℕ) (full : Text) (t : Tree) → slice_get ds at ≡ Some (full, t) → IsGood t
printable_good ds printable at full t is = each_good [] ds none_yet printable.defined at (full, t) is

pub parsed_is_named : ParsedIsNamed
parsed_is_named text ds at full t parsed is = let good = printable_good ds (parsed_is_printable text ds parsed) at full t is in (good.whole.named, good.whole.fits)

pub parsed_resolves : ParsedResolves
parsed_resolves text ds at full t parsed is old new id identified adds =
    let good = printable_good ds (parsed_is_printable text ds parsed) at full t is in
    resolves_to_itself old new t id good.valid good.whole.named good.whole.fits identified adds
