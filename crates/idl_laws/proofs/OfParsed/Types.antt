-- What types that were read may be used.
use Rattle.idl_types.specs.State.{State, Declared}
use Rattle.idl_types.specs.Names.{type_by_name}
use Rattle.idl_types.specs.Types.{a_type}
use Rattle.idl_laws.proofs.OfParsed.Gives.{Yields, kept}
use Rattle.idl_laws.proofs.OfParsed.ByName.{by_name_yields}
use Rattle.idl_laws.proofs.OfParsed.TypesRead.{IsKept, type_yields as read_yields}
use Rattle.idl_laws.specs.Printable.{IsUse}
use Rattle.idl_laws.proofs.OfParsed.Sound.{Sound}
use Rattle.idl_laws.proofs.OfParsed.Uses.{declared_used}

name_used : (s : State) → Sound s.types → Yields (type_by_name s) (IsUse s.types)
name_used s sound = kept (by_name_yields s) (λ t stands. declared_used s.types sound stands.place stands.full t stands.is)

uses_kept : (ds : Declared) → IsKept (IsUse ds)
uses_kept ds = record {
  of_prim = λ p. tt;
  of_str = λ n fits. fits;
  of_sequence = λ n tc t fits used. (fits, used);
  of_map = λ n kc k vc v fits key value. (fits, (key, value));
}

-- a type that was read may be used
pub type_yields : (s : State) → Sound s.types → Yields (a_type s) (IsUse s.types)
type_yields s sound = read_yields (IsUse s.types) (uses_kept s.types) s (name_used s sound)
