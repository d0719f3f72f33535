use Rattle.std.proofs.Common.{◌≡◌, ◌≤◌, ◌+◌, ◌*◌, length, take}
use Rattle.type_lookup.specs.messages.Spelling.{all_octets}
use Rattle.type_lookup.proofs.messages.sizes.counted_size.Given as goal

-- The count and the items so far.
abbrev pub invariant-items : goal.invariant-items
invariant-items g l = record {
  exact : l.size ≡ 4 + length (all_octets g.T.Item.octets (take l.item-index l.items));
  most : l.size ≤ 4 + 131091 * l.item-index;
}
