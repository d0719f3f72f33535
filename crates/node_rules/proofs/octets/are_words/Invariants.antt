use Rattle.std.proofs.Common.{◌≡◌, drop}
use Rattle.xt_shapes.specs.Lists.{all}
use Rattle.node_rules.specs.Names.{is_word}
use Rattle.node_rules.proofs.octets.are_words.Given as goal

abbrev pub invariant-loop-octet : goal.invariant-loop-octet
invariant-loop-octet l = all is_word (drop l.octet-index l.octets) ≡ all is_word l.octets
