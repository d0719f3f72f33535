use Rattle.std.proofs.Common.{◌≡◌, drop, true}
use Rattle.std.specs.Str.{is_utf8}
use Rattle.xt_shapes.specs.Lists.{all}
use Rattle.json_values.specs.Names.{literal_names}
use Rattle.json_values.specs.Written.{literal_data}
use Rattle.json_values.proofs.write.write_literal.Given as goal

abbrev pub invariant-loop-literal : goal.invariant-loop-literal
invariant-loop-literal l =
    (literal_data (drop l.literal-index l.literals) l.number ≡ literal_data l.literals l.number) × (all is_utf8 (literal_names (drop l.literal-index l.literals)) ≡ true) × (l.out ≡ l.initial.out)
