-- What stands at a place in a text: the types and names that are declared, and the modules that are open (this profile's own).
use Rattle.std.specs.Prelude.{ℕ, Bool, false, true, List, [], ◌∷◌, ◌++◌, map, length, take, ◌-◌}
use Rattle.type_trees.specs.declared.types.Named.{Named}
use Rattle.type_trees.specs.Trees.{Tree}
use Rattle.type_trees.specs.View.{tree}
use Rattle.idl_tokens.specs.Classes.{Text}
use Rattle.idl_tokens.specs.declared.names.scopes.Meaning.TheVariants as meaning_of
use Rattle.idl_tokens.specs.names.Scopes.{Names, with_name}
use Rattle.idl_types.specs.declared.opened.Opened.{Opened}

-- types by their full names, in the order of the text
abbrev pub Declared : Type 0
Declared = List (Text × Tree)

abbrev pub declared : List Named → Declared
declared = map (λ n. (n.name, tree n.ty))

pub record State : Type 0 where
  pub types : Declared
  -- what names mean in their scopes; the outermost scope has the number 0
  pub names : Names
  -- the open modules, from the outermost
  pub opened : List Opened
  -- whether a module was just opened
  pub fresh : Bool

abbrev pub start : State
start = record { types = []; names = []; opened = []; fresh = false }

-- a type counts from here on
abbrev pub with_type : ℕ → Text → Text → Tree → State → State
with_type scope name full t s =
    record { types = s.types ++ (full, t) ∷ []; names = with_name scope name (meaning_of.Type (length s.types)) s.names; opened = s.opened; fresh = false }

-- a module is opened, whose scope has this number
abbrev pub with_module : ℕ → Text → State → State
with_module number name s = record s { opened = s.opened ++ (record { number = number; name = name }) ∷ []; fresh = true }

abbrev pub outer : List Opened → List Opened
outer os = take (length os - 1) os

-- the innermost module is at its end
abbrev pub without_module : State → State
without_module s = record s { opened = outer s.opened; fresh = false }
