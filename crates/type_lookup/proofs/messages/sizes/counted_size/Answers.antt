use Rattle.std.proofs.Common.{arith}
use Rattle.type_lookup.proofs.OfMessages.ListSpelling.{sized-more}
use Rattle.type_lookup.proofs.messages.sizes.counted_size.Goals as goal

pub items-preserved : goal.items-preserved
items-preserved g c =
    let exact = c.items.invariant.exact in
    let most = c.items.invariant.most in
    let more = sized-more g.T.Item.octets c.as_slice-items.result.now c.items.item-index c.item-item.result c.item-item.result c.item-item.is c.items-test.true in
    let one = c.size-size.ensures.exact in
    let few = c.size-size.ensures.most in
    record { exact = omega (arith, exact, more, one); most = omega (arith, most, few) }
