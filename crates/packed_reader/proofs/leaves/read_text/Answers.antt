use Rattle.std.proofs.Common.{◌≡◌, sym, ◌∙◌, ◌==◌, false, rules}
use Rattle.packed_reader.proofs.Views.{packed_text}
use Rattle.packed_reader.specs.Spots.{spot_of}
use Rattle.packed_reader.proofs.LeafSteps.{text_is}
use Rattle.packed_reader.proofs.leaves.read_text.Goals as goal

pub returns : goal.returns
returns c =
    let n = c.in_ok-count.count in
    let t = c.split_at.result.0.now in
    let end = c.split_at.result.1.now in
    let some : (n == 0) ≡ false = search rules in
    λ r. rw (packed_text c.split_at.result.0) (text_is r c.args.order c.args.bound n t end c.in_ok-octets.octets.now (spot_of c.args.ahead) (spot_of c.in_ok-count.inside) (spot_of c.in_ok-octets.behind) c.in_ok-count.ensures.value some c.in_ok-octets.ensures.value c.split_at.ensures.front c.split_at.ensures.back (sym c.has_nul.ensures ∙ c.if-has_nul.false) (sym c.has_nul-2.ensures ∙ c.if-not-has_nul.false) (sym c.is_past.ensures ∙ c.if-is_past.false))
