-- What a writer does: it appends what a format spells at the place that it has come to (this profile's own).
use Rattle.std.specs.Prelude.{◌≡◌, ℕ, List, ◌++◌, length, Result, IfOk}
use Rattle.xt_lists.specs.declared.memory.OutOfMemory.{OutOfMemory}
use Rattle.object_formats.specs.Format.{Format}

-- where memory is wanting the text is of no use, and nothing is said of it
abbrev pub Writes : {A X : Type 0} → Format A → A → List ℕ → Result X OutOfMemory → List ℕ → Type 0
Writes f x old result new = IfOk result (λ u. new ≡ old ++ f.spell (length old) x)
