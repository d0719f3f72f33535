use Rattle.std.proofs.Common.{◌∙◌, sym, ap, length}
use Rattle.std.proofs.lemmas.List.{length-map}
use Rattle.xt_shapes.specs.declared.leaves.Order.TheVariants.{Little}
use Rattle.xt_shapes.specs.Vals.{items_in}
use Rattle.packed_reader.specs.View.{packed_val}
use Rattle.packed_writer.proofs.Values.{items_of_numbers, items_of_own, items_of_list, count_numbers}
use Rattle.packed_writer.proofs.writing.count_in.Goals as goal

pub returns-in-Numbers : goal.returns-in-Numbers
returns-in-Numbers c =
    let x = c.in-Numbers.numbers in
    sym (ap (λ v. length (items_in (packed_val v))) c.in-Numbers.is ∙ ap length (items_of_numbers x) ∙ count_numbers x.prim x.order x.count x.octets.now)

pub returns-in-Own : goal.returns-in-Own
returns-in-Own c =
    let x = c.in-Own.own in
    sym (ap (λ v. length (items_in (packed_val v))) c.in-Own.is ∙ ap length (items_of_own x) ∙ count_numbers x.prim Little x.count x.octets)

pub returns-in-List : goal.returns-in-List
returns-in-List c =
    let vs = c.in-List.values in
    c.len.ensures ∙ sym (ap (λ v. length (items_in (packed_val v))) c.in-List.is ∙ ap length (items_of_list vs) ∙ length-map vs packed_val)
