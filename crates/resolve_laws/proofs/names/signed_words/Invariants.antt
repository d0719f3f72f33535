use Rattle.std.proofs.Common.{◌≡◌, drop}
use Rattle.xt_shapes.specs.Lists.{all}
use Rattle.resolve_laws.specs.Named.{is_signed_word}
use Rattle.resolve_laws.proofs.names.signed_words.Given as goal

abbrev pub invariant-loop-label : goal.invariant-loop-label
invariant-loop-label l = all is_signed_word (drop l.label-index l.labels) ≡ all is_signed_word l.labels
