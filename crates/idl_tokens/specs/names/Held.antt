-- What the entries of the scopes' names stand for, and the words of a set (this profile's own).
use Rattle.std.specs.Prelude.{ℕ, List, map}
use Rattle.idl_tokens.specs.declared.names.scopes.Key.{Key}
use Rattle.idl_tokens.specs.declared.names.scopes.Meaning.{Meaning}
use Rattle.idl_tokens.specs.declared.names.sets.Word.{Word}

abbrev pub held : Key × Meaning → (ℕ × List ℕ) × Meaning
held e = ((e.0.scope, e.0.name.now), e.1)

abbrev pub spelled : List Word → List (List ℕ)
spelled = map (λ w. w.octets.now)
