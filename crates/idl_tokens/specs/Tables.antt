-- Tables of words, each with what stands beside it (this profile's own).
use Rattle.std.specs.Prelude.{if◌then◌else◌, List, [], ◌∷◌, Option, Some, None}
use Rattle.std.specs.Str.{bytes_eq}
use Rattle.idl_tokens.specs.Classes.{Text}

-- what stands beside a word, at its first place
abbrev pub beside : {T : Type 0} → List (Text × T) → Text → Option T
beside [] word = None
beside (entry ∷ entries) word = if bytes_eq entry.0 word then Some entry.1 else beside entries word
