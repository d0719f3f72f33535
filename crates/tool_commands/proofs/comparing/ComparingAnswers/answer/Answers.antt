use Rattle.std.proofs.Common.{List, length, subst, sym, ◌≤◌}
use Rattle.tool_types.specs.declared.declaring.Declared.{Declared as Record}
use Rattle.tool_commands.proofs.Told.{few_records}
use Rattle.tool_commands.proofs.comparing.ComparingAnswers.answer.Goals as goal

pub compare_all-requires-clause-few : goal.compare_all-requires-clause-few
compare_all-requires-clause-few g c =
    subst (λ (l : List Record). length l ≤ 1048576) (sym c.as_slice.ensures) (few_records c.args.records.now c.in_ok-declared.declared c.in_ok-declared.pool c.in_ok-declared.ensures.declared c.requires.few)
