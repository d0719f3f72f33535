-- What names mean in their scopes (OMG IDL 4.2, 7.5.2). Scopes have numbers: the outermost has 0.
use Rattle.std.specs.Prelude.{ℕ, ◌&&◌, ◌==◌, cond, List, [], ◌∷◌, ◌++◌, Option, Some, None}
use Rattle.std.specs.Str.{bytes_eq}
use Rattle.idl_tokens.specs.declared.names.scopes.Meaning.{Meaning}

-- names by their scopes, with their meanings, in the order of their declarations
abbrev pub Names : Type 0
Names = List ((ℕ × List ℕ) × Meaning)

-- what a name means in a scope
abbrev pub meaning : ℕ → List ℕ → Names → Option Meaning
meaning scope name [] = None
meaning scope name (n ∷ ns) = cond (scope == n.0.0 && bytes_eq name n.0.1) (Some n.1) (meaning scope name ns)

abbrev pub with_absent : Option Meaning → Names → ℕ → List ℕ → Meaning → Names
with_absent (Some there) names scope name m = names
with_absent None names scope name m = names ++ ((scope, name), m) ∷ []

-- with a name, unless it is declared in the scope already
abbrev pub with_name : ℕ → List ℕ → Meaning → Names → Names
with_name scope name m names = with_absent (meaning scope name names) names scope name m
