use Rattle.std.proofs.Common.{List, subst, sym}
use Rattle.type_trees.specs.declared.types.Named.{Named}
use Rattle.idl_types.specs.State.{declared}
use Rattle.tool_types.specs.Coming.{ComeBack}
use Rattle.tool_verdicts.proofs.Compared.{found_back}
use Rattle.tool_verdicts.proofs.versions.comparing.of_older.Goals as goal

pub became-requires-clause-newer : goal.became-requires-clause-newer
became-requires-clause-newer c =
    let back = subst (λ (l : List Named). ComeBack c.args.pool.now (declared l)) (sym c.as_slice.ensures) c.requires.newer.back in
    found_back c.args.pool.now c.octets.result.now c.as_slice.result.now c.type_by_name-found.result back c.type_by_name-found.ensures.found c.type_by_name-found.ensures.identified
