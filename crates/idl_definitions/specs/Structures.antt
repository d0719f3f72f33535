-- Structures and typedefs (DDS-XTypes 1.3, 7.3.1; a base is single inheritance, 7.2.2.4.4).
use Rattle.std.specs.Prelude.{ℕ, ◌+◌, Bool, true, false, if◌then◌else◌, List, [], ◌∷◌, ◌++◌, fold, Some, Ok, Err, codes, is_some}
use Rattle.xt_shapes.specs.declared.leaves.Ext.{Ext}
use Rattle.xt_shapes.specs.Kinds.{same_ext}
use Rattle.type_trees.specs.declared.types.Base.{Base}
use Rattle.type_trees.specs.Trees.{Tree, prim, str, enumeration, bitmask, sequence, array, map_of, structure, union, alias}
use Rattle.type_trees.specs.View.{members_of}
use Rattle.idl_tokens.specs.Classes.{Text}
use Rattle.idl_tokens.specs.names.Scopes.{meaning}
use Rattle.idl_input.specs.declared.faults.IdlFault.TheVariants as fault
use Rattle.idl_input.specs.Input.{Parser, ◌>>=◌, ◌>>◌, pure, here, place, eat, want, name, take_token, sees}
use Rattle.idl_types.specs.State.{State}
use Rattle.idl_types.specs.Names.{innermost, full_name, type_by_name}
use Rattle.idl_types.specs.Types.{a_type}
use Rattle.idl_types.specs.Definitions.{ListedMembers, listed, as_base}
use Rattle.idl_definitions.specs.declared.settings.Settings.{Settings}
use Rattle.idl_definitions.specs.Lists.{to_brace}
use Rattle.idl_definitions.specs.Members.{Listed, once, dimensioned, members_of_type}

-- a type with its name, which stands at a place, and its full name; and whether what it names as base is of the right form
pub record Made : Type 0 where
  pub at : ℕ
  pub name : Text
  pub full : Text
  pub tree : Tree
  pub fits : Bool

-- the name of a type that the innermost module lacks
pub record NewName : Type 0 where
  pub at : ℕ
  pub name : Text
  pub full : Text

unfoldable pub new_type : State → Parser NewName
new_type s = do
  at ← here
  n ← name
  once at (is_some (meaning (innermost s.opened) n s.names)) (record { at = at; name = n; full = full_name s.opened n })

abbrev pub made : NewName → Tree → Made
made n t = record { at = n.at; name = n.name; full = n.full; tree = t; fits = true }

-- ---- bases

-- what a structure has from its base, and whether that is a structure of the same extensibility
pub record Heritage : Type 0 where
  pub fits : Bool
  pub bases : List Base
  pub members : ListedMembers

abbrev pub no_heritage : Bool → Heritage
no_heritage fits = record { fits = fits; bases = []; members = [] }

abbrev pub heritage : Ext → Tree → Heritage
heritage ext (structure head ms) = record { fits = same_ext ext head.ext; bases = head.bases ++ as_base head (listed ms) ∷ []; members = listed ms }
heritage ext (prim p) = no_heritage false
heritage ext (str n) = no_heritage false
heritage ext (enumeration n x b ls) = no_heritage false
heritage ext (bitmask n b fs) = no_heritage false
heritage ext (sequence n c t) = no_heritage false
heritage ext (array ds c t) = no_heritage false
heritage ext (map_of n kc k vc v) = no_heritage false
heritage ext (union head d cs) = no_heritage false
heritage ext (alias n t) = no_heritage false

-- `:` and the base's name, or nothing
unfoldable pub base_clause : State → Ext → Parser Heritage
base_clause s ext = do
  derived ← eat (codes ":")
  if derived then (type_by_name s >>= λ t. pure (heritage ext t)) else pure (no_heritage true)

-- the id after the last member's
abbrev pub following : ListedMembers → ℕ
following ms = fold (λ _ m. m.0.id + 1) 0 ms

abbrev pub inherited : ListedMembers → Listed
inherited ms = record { members = ms; names = []; following = following ms }

-- members behind those of a base, up to `}`
abbrev pub members : State → Bool → ListedMembers → Parser ListedMembers
members s hashed ms = to_brace (members_of_type s hashed) (inherited ms) >>= λ r. pure r.members

-- ---- structures

-- a structure without members isn't in the profile
unfoldable pub in_profile : Parser (Unit {0})
in_profile = λ i. if sees (codes ";") i then Err (fault.NotInProfile (place i)) else Ok (tt, i)

abbrev pub structure_of : Text → Settings → List Base → ListedMembers → Tree
structure_of full set bases ms = structure (record { name = Some full; ext = set.ext; nested = set.nested; hashed_ids = set.hashed; bases = bases }) (members_of ms)

abbrev pub made_from : NewName → Heritage → Tree → Made
made_from n h t = record { at = n.at; name = n.name; full = n.full; tree = t; fits = h.fits }

unfoldable pub struct_def : State → Settings → Parser Made
struct_def s set = do
  take_token
  n ← new_type s
  in_profile
  h ← base_clause s set.ext
  want (codes "{")
  ms ← members s set.hashed h.members
  want (codes ";")
  pure (made_from n h (structure_of n.full set h.bases ms))

-- ---- typedefs

abbrev pub alias_of : Text → Tree → Tree
alias_of full t = alias (Some full) t

unfoldable pub typedef_def : State → Parser Made
typedef_def s = do
  take_token
  t ← a_type s
  n ← new_type s
  whole ← dimensioned t
  want (codes ";")
  pure (made n (alias_of n.full whole))
