-- New names of types.
use Rattle.std.proofs.Common.{◌≡◌, refl, true≢false, false, Option, Some, None}
use Rattle.std.specs.Prelude.{is_some}
use Rattle.idl_tokens.specs.names.Scopes.{meaning}
use Rattle.idl_input.specs.Words.{is_keyword}
use Rattle.idl_input.specs.Input.{here}
use Rattle.idl_types.specs.State.{State}
use Rattle.idl_types.specs.Names.{innermost, full_name}
use Rattle.idl_definitions.specs.Structures.{NewName, new_type}
use Rattle.idl_laws.proofs.OfParsed.Gives.{Yields, bind, behind, name_yields}
use Rattle.idl_laws.proofs.OfParsed.Members.{once_yields}

-- a name that the innermost module lacks, with its full name
pub record IsNewName (s : State) (n : NewName) : Type 0 where
  pub full : n.full ≡ full_name s.opened n.name
  pub free : is_keyword n.name ≡ false
  pub new : meaning (innermost s.opened) n.name s.names ≡ None

none_is : {A : Type 0} (o : Option A) → is_some o ≡ false → o ≡ None
none_is (Some a) e = absurd (true≢false e)
none_is None e = refl

pub new_type_yields : (s : State) → Yields (new_type s) (IsNewName s)
unfolding new_type
new_type_yields s =
    behind here (λ at. bind name_yields (λ n free. once_yields at (is_some (meaning (innermost s.opened) n s.names)) (record { at = at; name = n; full = full_name s.opened n }) (IsNewName s)
    (λ e. record { full = refl; free = free; new = none_is _ e })))
