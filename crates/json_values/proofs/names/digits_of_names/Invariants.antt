use Rattle.std.proofs.Common.{◌≡◌, take, map}
use Rattle.type_trees.specs.declared.types.Member.{Member}
use Rattle.json_values.specs.Names.{digits_of}
use Rattle.json_values.proofs.names.digits_of_names.Given as goal

abbrev pub invariant-loop-member : goal.invariant-loop-member
invariant-loop-member l = l.digits.items ≡ map (λ (m : Member). digits_of m.name) (take l.member-index l.members)
