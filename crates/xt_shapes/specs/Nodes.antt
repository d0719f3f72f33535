-- How many nodes a value has (this profile's own). An absent member counts 0, a union 2 and its body.
use Rattle.std.specs.Prelude.{ℕ, ◌+◌}
use Rattle.xt_shapes.specs.Vals.{Val, int, text, listed, mapped, struct_of, union_of, Vals, no_vals, one_val, Pairs, no_pairs, one_pair, Slots, no_slots, one_slot, Slot, absent, present}

abbrev mutual
  pub nodes : Val → ℕ
  nodes (int i) = 1
  nodes (text t) = 1
  nodes (listed vs) = 1 + nodes_vals vs
  nodes (mapped ps) = 1 + nodes_pairs ps
  nodes (struct_of ss) = 1 + nodes_slots ss
  nodes (union_of d s) = 2 + nodes_slot s

  pub nodes_vals : Vals → ℕ
  nodes_vals no_vals = 0
  nodes_vals (one_val v vs) = nodes v + nodes_vals vs

  pub nodes_pairs : Pairs → ℕ
  nodes_pairs no_pairs = 0
  nodes_pairs (one_pair k v ps) = nodes k + nodes v + nodes_pairs ps

  pub nodes_slots : Slots → ℕ
  nodes_slots no_slots = 0
  nodes_slots (one_slot s ss) = nodes_slot s + nodes_slots ss

  pub nodes_slot : Slot → ℕ
  nodes_slot absent = 0
  nodes_slot (present w) = nodes w
