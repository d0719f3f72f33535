use Rattle.std.proofs.Common.{subst}
use Rattle.std.proofs.lemmas.List.Elements.{All-more}
use Rattle.type_lookup.proofs.OfMessages.ListSpelling.{spelled-more}
use Rattle.type_lookup.proofs.messages.spelling.put_counted.Goals as goal

pub items-preserved : goal.items-preserved
items-preserved g c = record {
  spelled = spelled-more g.T.Item.octets c.as_slice-items.result.now c.items.item-index c.item-item.result c.item-item.result _ _ _ c.items.invariant.spelled c.in_ok-put.ensures.spelled c.item-item.is c.items-test.true;
  range = All-more g.T.Item.in_range c.as_slice-items.result.now c.items.item-index c.item-item.result c.items-test.true c.items.invariant.range (subst g.T.Item.in_range c.item-item.is c.in_ok-put.ensures.range);
}
