use Rattle.std.proofs.Common.{◌≡◌, drop, ◌&&◌}
use Rattle.xt_shapes.specs.Lists.{all}
use Rattle.resolve_laws.specs.Named.{is_full, is_signed_word}
use Rattle.resolve_laws.proofs.names.literals_named.Given as goal

abbrev pub invariant-loop-literal : goal.invariant-loop-literal
invariant-loop-literal l = ((l.named && all (λ x. is_full x.name) (drop l.literal-index l.literals)) ≡ all (λ x. is_full x.name) l.literals) × (all (λ x. is_signed_word x.value) (drop l.literal-index l.literals) ≡ all (λ x. is_signed_word x.value) l.literals)
