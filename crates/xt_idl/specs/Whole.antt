-- A whole text (OMG IDL 4.2, 7.4.1 and 7.5.2): definitions, in modules that may be opened again.
use Rattle.std.specs.Prelude.{◌≡◌, ◌≢◌, ℕ, zero, suc, Bool, true, false, not, ◌&&◌, if◌then◌else◌, ◌==◌, nat_lt, List, [], length, Option, Some, None, Result, Ok, Err, codes}
use Rattle.xt_shapes.specs.declared.leaves.Step.{Step}
use Rattle.type_rules.specs.Valid.{type_fault}
use Rattle.xt_annotations.specs.declared.notes.Placed.{Placed}
use Rattle.idl_tokens.specs.declared.tokens.TokenKind.{TokenKind}
use Rattle.idl_tokens.specs.Classes.{Text}
use Rattle.idl_tokens.specs.declared.names.scopes.Meaning.{Meaning}
use Rattle.idl_tokens.specs.declared.names.scopes.Meaning.TheVariants as meaning_of
use Rattle.idl_tokens.specs.names.Scopes.{meaning}
use Rattle.idl_input.specs.declared.faults.IdlFault.{IdlFault}
use Rattle.idl_input.specs.declared.faults.IdlFault.TheVariants as fault
use Rattle.idl_input.specs.declared.words.Keyword.{Keyword}
use Rattle.idl_input.specs.declared.words.Keyword.TheVariants as word
use Rattle.idl_input.specs.Input.{Input, Outcome, Parser, ◌>>=◌, ◌>>◌, pure, syntax, refuse, here, place, want, name, take_token, sees, keyword_at, kind}
use Rattle.idl_types.specs.State.{State, Declared, start, with_type, with_module, without_module}
use Rattle.idl_types.specs.Names.{innermost, with_new_module}
use Rattle.idl_definitions.specs.Notes.{settings}
use Rattle.idl_definitions.specs.Structures.{Made, struct_def, typedef_def}
use Rattle.idl_definitions.specs.Numbered.{enum_def, bitmask_def}
use Rattle.idl_definitions.specs.Unions.{union_def}
use Rattle.xt_idl.specs.Leading.{leading_notes}

-- ---- definitions

abbrev pub definition_by : State → List Placed → Option Keyword → Parser Made
definition_by s ns (Some word.Struct) = struct_def s (settings ns)
definition_by s ns (Some word.Union) = union_def s (settings ns)
definition_by s ns (Some word.Enum) = enum_def s (settings ns)
definition_by s ns (Some word.Bitmask) = bitmask_def s (settings ns)
definition_by s ns (Some word.Typedef) = typedef_def s
definition_by s ns (Some word.Outside) = λ i. Err (fault.NotInProfile (place i))
definition_by s ns _ = syntax

-- The rule that a type breaks, and where. V17 goes first: what a structure names as base is a structure of the same extensibility.
abbrev pub fault_of : Made → Option (ℕ × List Step)
fault_of m = if m.fits then type_fault m.tree else Some (17, [])

-- the type counts from here on, where it is valid
abbrev pub valid_or : State → Made → Option (ℕ × List Step) → Result State IdlFault
valid_or s m None = Ok (with_type (innermost s.opened) m.name m.full m.tree s)
valid_or s m (Some f) = Err (fault.Invalid m.at (record { rule = f.0; node = f.1 }))

abbrev pub outcome : {A : Type 0} → Result A IdlFault → Parser A
outcome (Ok a) = pure a
outcome (Err e) = refuse e

-- a definition, from its keyword on
unfoldable pub typed : State → List Placed → Parser State
typed s ns = λ i. (definition_by s ns (keyword_at i) >>= λ m. outcome (valid_or s m (fault_of m))) i

-- ---- modules

-- A module opens a scope. It may be opened again. Where its name is a type's, that is Twice at the name.
abbrev pub opened_by : ℕ → Text → State → Option Meaning → Parser State
opened_by at n s None = want (codes "{") >> pure (with_new_module n s)
opened_by at n s (Some (meaning_of.Module number)) = want (codes "{") >> pure (with_module number n s)
opened_by at n s (Some (meaning_of.Type k)) = refuse (fault.Twice at)

unfoldable pub module_def : State → Parser State
module_def s = do
  take_token
  at ← here
  n ← name
  opened_by at n s (meaning (innermost s.opened) n s.names)

-- inside a module that has a definition
abbrev pub may_close : State → Bool
may_close s = nat_lt 0 (length s.opened) && not s.fresh

unfoldable pub closed : State → Parser State
closed s = take_token >> want (codes ";") >> pure (without_module s)

-- ---- the text

abbrev pub definition_or_module : State → List Placed → Option Keyword → Parser State
definition_or_module s ns (Some word.Module) = module_def s
definition_or_module s ns _ = typed s ns

-- A text is definitions, openings of modules and their ends. At least one definition stands in each module.
unfoldable pub item : State → Parser State
item s = λ i. if may_close s && sees (codes "}") i then closed s i else (leading_notes >>= λ ns. λ j. definition_or_module s ns (keyword_at j) j) i

abbrev pub is_end : TokenKind → Bool
is_end TokenKind.End = true
is_end _ = false

-- the text may end here: all modules are closed
unfoldable pub at_end : State → Input → Bool
at_end s i = is_end (kind i) && length s.opened == 0

-- The number bounds the turns: each item has an octet at least.
unfoldable pub items_from : ℕ → State → Parser State
items_from zero s = λ i. if at_end s i then Ok (s, i) else syntax i
items_from (suc n) s = λ i. if at_end s i then Ok (s, i) else (item s >>= items_from n) i

abbrev pub types_of : Outcome State → Result Declared IdlFault
types_of (Ok p) = Ok p.0.types
types_of (Err e) = Err e

-- the types that a text declares by their full names, in its order, or its first fault
unfoldable pub idl : Text → Result Declared IdlFault
idl text = types_of (items_from (length text) start (record { text = text; size = length text }))

-- ---- what functions ensure: what the definition gives, unless memory was wanting

-- for a function that reads and changes what is declared
abbrev pub Leads : Outcome State → Result (Unit {0}) IdlFault → State → Input → Type 0
Leads o (Ok u) s i = o ≡ Ok (s, i)
Leads o (Err e) s i = e ≢ fault.OutOfMemory → o ≡ Err e

abbrev pub Changes : Result State IdlFault → Result (Unit {0}) IdlFault → State → Type 0
Changes r (Ok u) s = r ≡ Ok s
Changes r (Err e) s = e ≢ fault.OutOfMemory → r ≡ Err e

abbrev pub Declares : {X A : Type 0} → Result A IdlFault → (X → A) → Result X IdlFault → Type 0
Declares read view (Ok x) = read ≡ Ok (view x)
Declares read view (Err e) = e ≢ fault.OutOfMemory → read ≡ Err e
