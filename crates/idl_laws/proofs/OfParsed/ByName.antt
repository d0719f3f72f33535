-- A type that is read by its name stands in the list of those that were declared.
use Rattle.std.proofs.Common.{◌≡◌, refl, ◌∙◌, ap, ℕ, Option, Some, None}
use Rattle.std.specs.Prelude.{slice_get}
use Rattle.std.specs.Option.{option_map}
use Rattle.std.proofs.lemmas.Option.{none-some, same_Some}
use Rattle.type_trees.specs.Trees.{Tree}
use Rattle.idl_tokens.specs.Classes.{Text}
use Rattle.idl_input.specs.Input.{here}
use Rattle.idl_types.specs.State.{State, Declared}
use Rattle.idl_types.specs.Names.{type_by_name, meant, scoped, or_unknown, type_at, place_by}
use Rattle.idl_laws.proofs.OfParsed.Gives.{Yields, behind, given, fails}

unknown_yields : (P : Tree → Type 0) (at : ℕ) (o : Option Tree) → ((t : Tree) → o ≡ Some t → P t) → Yields (or_unknown at o) P
unknown_yields P at (Some t) all = given (all t refl)
unknown_yields P at None all = fails

-- a type that stands in the list under some name
pub record Stands (types : Declared) (t : Tree) : Type 0 where
  pub place : ℕ
  pub full : Text
  pub is : slice_get types place ≡ Some (full, t)

stands_there : (types : Declared) (at : ℕ) (t : Tree) (d : Option (Text × Tree)) → slice_get types at ≡ d → option_map (λ d. d.1) d ≡ Some t → Stands types t
stands_there types at t (Some (full, u)) e is = record { place = at; full = full; is = e ∙ ap (λ v. Some (full, v)) (same_Some u t is) }
stands_there types at t None e is = absurd (none-some t is)

stands_at : (types : Declared) (o : Option ℕ) (t : Tree) → type_at types o ≡ Some t → Stands types t
stands_at types None t e = absurd (none-some t e)
stands_at types (Some at) t e = stands_there types at t (slice_get types at) refl e

meant_stands : (s : State) (n : _) (t : Tree) → meant s n ≡ Some t → Stands s.types t
unfolding meant
meant_stands s n t e = stands_at s.types (place_by s.names s.opened n) t e

pub by_name_yields : (s : State) → Yields (type_by_name s) (Stands s.types)
unfolding type_by_name
by_name_yields s = behind here (λ at. behind scoped (λ n. unknown_yields (Stands s.types) at (meant s n) (meant_stands s n)))
