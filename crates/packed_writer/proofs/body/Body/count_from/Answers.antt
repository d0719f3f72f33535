use Rattle.std.proofs.Common.{◌≡◌, ◌∙◌, ◌+◌, ◌-◌, ◌≤◌, ℕ, List, ap, sym, length, take, drop, arith, rules, ◌++◌}
use Rattle.std.proofs.lemmas.List.{with_items_is}
use Rattle.xt_shapes.specs.declared.leaves.Order.TheVariants.{Little}
use Rattle.xcdr_model.specs.Numbers.{octets}
use Rattle.packed_writer.specs.Appending.{Begun}
use Rattle.packed_writer.proofs.Counting.{put_parts, length_put, octets_set}
use Rattle.packed_writer.proofs.body.Body.count_from.Goals as goal
use borrow.Rule.Slice.PartMut.{put_mid}

pub returns : goal.returns
returns c =
    let v = c.self.inside.octets in
    let now = c.args.self.now in
    let b = c.args.begin in
    let xs = c.deref_mut.result.now in
    let ys = c.write_u32.new.buf in
    let items : xs ≡ now.octets = c.deref_mut.ensures.value ∙ ap (λ (k : Begun). k.octets) c.self.view_is in
    let long : length xs ≡ v.len = search rules in
    let within : b ≤ length xs = search rules in
    let above : 4 ≤ b = search rules in
    let many : length ys ≡ 4 = search rules in
    let width : b - (b - 4) ≡ 4 = omega (arith, above) in
    let behind : (b - 4) + (b - (b - 4)) ≡ b = omega (arith, above) in
    let n = length now.octets - b in
    let counted : c.len-2.result ≡ v.len = c.len-2.ensures in
    let told : c.len-2.result - b ≡ n = omega (arith, counted, long, ap length items) in
    let set : ys ≡ octets Little 4 n = octets_set 4 (c.len-2.result - b) ys _ many (omega arith) c.write_u32.ensures ∙ ap (λ (k : ℕ). octets Little 4 k) told in
    let ws = put_mid (b - 4) (b - (b - 4)) xs ys in
    let is : ws ≡ take (b - 4) xs ++ (ys ++ drop b xs) = put_parts (b - 4) (b - (b - 4)) xs ys (many ∙ sym width) (omega (arith, behind, within)) ∙ ap (λ (k : ℕ). take (b - 4) xs ++ (ys ++ drop k xs)) behind in
    let kept : length ws ≡ v.len = length_put (b - 4) (b - (b - 4)) xs ys (many ∙ sym width) (omega (arith, behind, within)) ∙ long in
    record {
      origin = ap (λ (k : Begun). k.origin) c.self.view_is;
      octets = with_items_is v ws kept ∙ is ∙ ap (λ (l : List ℕ). take (b - 4) l ++ (ys ++ drop b l)) items ∙ ap (λ (l : List ℕ). take (b - 4) now.octets ++ (l ++ drop b now.octets)) set;
    }
