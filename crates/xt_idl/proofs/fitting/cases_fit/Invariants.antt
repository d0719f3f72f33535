use Rattle.std.proofs.Common.{◌≡◌, drop}
use Rattle.xt_shapes.specs.Lists.{all}
use Rattle.idl_types.specs.Definitions.{declared}
use Rattle.xt_idl.specs.Measures.{use_keeps}
use Rattle.xt_idl.proofs.fitting.cases_fit.Given as goal

abbrev pub invariant-loop-case : goal.invariant-loop-case
invariant-loop-case l =
    let ts = declared l.known.types.now in
    all (λ x. use_keeps ts x.used) (drop l.case-index l.cases) ≡ all (λ x. use_keeps ts x.used) l.cases
