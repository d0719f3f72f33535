use Rattle.std.proofs.Common.{◌≡◌, ◌++◌, take}
use Rattle.std.specs.List.{All}
use Rattle.type_lookup.specs.messages.Spelling.{all_octets}
use Rattle.type_lookup.proofs.messages.spelling.put_counted.Given as goal

-- The items so far were spelled.
abbrev pub invariant-items : goal.invariant-items
invariant-items g l = record {
  spelled : l.text ≡ l.initial.text ++ all_octets g.T.Item.octets (take l.item-index l.items);
  range : All g.T.Item.in_range (take l.item-index l.items);
}
