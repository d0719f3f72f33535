use Rattle.std.proofs.Common.{◌≡◌, ◌++◌, drop, map}
use Rattle.tool_types.specs.Declaring.{declared_view}
use Rattle.xt_calls.specs.Calls as spec
use Rattle.xt_calls.proofs.printing.print_texts.Given as goal

-- The text so far, and then those of the records that are left.
abbrev pub invariant-loop-declared : goal.invariant-loop-declared
invariant-loop-declared l = spec.texts_in (map declared_view l.records) ≡ l.text ++ spec.texts_in (map declared_view (drop l.declared-index l.records))
