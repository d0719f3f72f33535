-- Names, and what they mean in a module (OMG IDL 4.2, 7.5).
use Rattle.std.specs.Prelude.{ℕ, zero, suc, ◌+◌, Bool, if◌then◌else◌, List, [], ◌∷◌, ◌++◌, length, slice_get, Option, Some, None, codes}
use Rattle.std.specs.Option.{option_map}
use Rattle.xt_shapes.specs.Lists.{or_else}
use Rattle.type_trees.specs.Trees.{Tree}
use Rattle.idl_tokens.specs.Classes.{Text}
use Rattle.idl_tokens.specs.declared.names.scopes.Meaning.{Meaning}
use Rattle.idl_tokens.specs.declared.names.scopes.Meaning.TheVariants as meaning_of
use Rattle.idl_tokens.specs.names.Scopes.{Names, meaning}
use Rattle.idl_input.specs.declared.faults.IdlFault.TheVariants as fault
use Rattle.idl_input.specs.Input.{Input, Parser, ◌>>=◌, pure, refuse, here, eat, name, turns}
use Rattle.idl_types.specs.declared.opened.Opened.{Opened}
use Rattle.idl_types.specs.State.{State, Declared, with_module}

-- ---- scopes

abbrev pub number_of : Option Opened → ℕ
number_of None = 0
number_of (Some o) = o.number

-- the scope in that many open modules
abbrev pub scope_in : List Opened → ℕ → ℕ
scope_in os zero = 0
scope_in os (suc n) = number_of (slice_get os n)

abbrev pub innermost : List Opened → ℕ
innermost os = scope_in os (length os)

-- a name with those of the open modules before it
abbrev pub full_name : List Opened → Text → Text
full_name [] s = s
full_name (o ∷ os) s = o.name ++ codes "::" ++ full_name os s

-- A module is opened whose name the innermost scope lacks. Its scope's number is new: one more than there are names.
abbrev pub with_new_module : Text → State → State
with_new_module s st =
    let number = length st.names + 1 in
    with_module number s (record st { names = st.names ++ ((innermost st.opened, s), meaning_of.Module number) ∷ [] })

-- ---- scoped names

-- the modules' names, and the last identifier
pub record ScopedName : Type 0 where
  -- whether it begins with `::`
  pub rooted : Bool
  pub path : List Text
  pub last : Text

abbrev pub type_of : Option Meaning → Option ℕ
type_of (Some (meaning_of.Type at)) = Some at
type_of (Some (meaning_of.Module number)) = None
type_of None = None

abbrev pub module_of : Option Meaning → Option ℕ
module_of (Some (meaning_of.Type at)) = None
module_of (Some (meaning_of.Module number)) = Some number
module_of None = None

abbrev pub module_in : Names → Option ℕ → Text → Option ℕ
module_in names None s = None
module_in names (Some scope) s = module_of (meaning scope s names)

-- the scope to which modules lead, one in another
abbrev pub scope_at : Names → List Text → Option ℕ → Option ℕ
scope_at names [] scope = scope
scope_at names (s ∷ ss) scope = scope_at names ss (module_in names scope s)

abbrev pub named_in : Names → Option ℕ → Text → Option ℕ
named_in names None s = None
named_in names (Some scope) s = type_of (meaning scope s names)

-- the place of the type that a name means, looked up whole in a scope
abbrev pub place_in : Names → ScopedName → ℕ → Option ℕ
place_in names n scope = named_in names (scope_at names n.path (Some scope)) n.last

-- the same in the innermost of that many open modules, and then outwards
abbrev pub outward : Names → List Opened → ScopedName → ℕ → Option ℕ
outward names os n zero = place_in names n 0
outward names os n (suc k) = or_else (place_in names n (number_of (slice_get os k))) (outward names os n k)

abbrev pub place_by : Names → List Opened → ScopedName → Option ℕ
place_by names os n = if n.rooted then place_in names n 0 else outward names os n (length os)

abbrev pub type_at : Declared → Option ℕ → Option Tree
type_at types None = None
type_at types (Some at) = option_map (λ d. d.1) (slice_get types at)

-- what a scoped name means
unfoldable pub meant : State → ScopedName → Option Tree
meant s n = type_at s.types (place_by s.names s.opened n)

-- ---- in a text

abbrev pub turns_of : Input → ℕ
turns_of = turns

abbrev pub a_name : Bool → List Text → Text → ScopedName
a_name rooted path last = record { rooted = rooted; path = path; last = last }

unfoldable pub parts_from : ℕ → Bool → List Text → Text → Parser ScopedName
parts_from zero rooted path last = pure (a_name rooted path last)
parts_from (suc n) rooted path last = do
  more ← eat (codes "::")
  if more then (name >>= λ part. parts_from n rooted (path ++ last ∷ []) part) else pure (a_name rooted path last)

unfoldable pub scoped : Parser ScopedName
scoped = do
  rooted ← eat (codes "::")
  first ← name
  λ i. parts_from (turns i) rooted [] first i

abbrev pub or_unknown : ℕ → Option Tree → Parser Tree
or_unknown at (Some t) = pure t
or_unknown at None = refuse (fault.Unknown at)

-- a type by its name
unfoldable pub type_by_name : State → Parser Tree
type_by_name s = do
  at ← here
  n ← scoped
  or_unknown at (meant s n)
