use Rattle.std.proofs.Common.{◌≡◌, ◌++◌, ◌-◌, false}
use Rattle.packed_json.specs.Lists.{numbers_text}
use Rattle.packed_json.proofs.numbers.put_numbers.Given as goal

-- what is there and what is still to come is what was there and all numbers
abbrev pub invariant-loop-turn : goal.invariant-loop-turn
invariant-loop-turn l = (l.out ++ l.block) ++ numbers_text l.numbers.prim l.numbers.order l.is_later (l.numbers.count - l.turn) l.rest ≡ l.initial.out ++ numbers_text l.numbers.prim l.numbers.order false l.numbers.count l.numbers.octets.now
