use Rattle.std.proofs.Common.{◌≡◌, drop}
use Rattle.xt_shapes.specs.Lists.{all}
use Rattle.resolve_laws.specs.Named.{is_word}
use Rattle.resolve_laws.proofs.names.words.Given as goal

abbrev pub invariant-loop-dim : goal.invariant-loop-dim
invariant-loop-dim l = all is_word (drop l.dim-index l.dims) ≡ all is_word l.dims
