use Rattle.std.proofs.Common.{◌≡◌, ℤ, List, ◌++◌, length, Option, sym, ap, subst, arith, rules}
use mir.Val.{to_z, of_z}
use Rattle.std.specs.Int.{w128}
use Rattle.json.specs.Token.{Token}
use Rattle.json.specs.Json.{no_items}
use Rattle.json.specs.Find.{NextItem}
use Rattle.xt_shapes.specs.declared.leaves.Order.TheVariants.{Little}
use Rattle.xt_shapes.specs.Sizes.{size}
use Rattle.xcdr_model.specs.Numbers.{octets, raw}
use Rattle.shape_laws.proofs.Steps.{length-octets}
use Rattle.json_values.specs.Read.{prim_of}
use Rattle.packed_reader.specs.View.{numbers_in}
use Rattle.packed_json.specs.Tapes.{AllMeanAfter}
use Rattle.packed_json.proofs.OfTapes.Lists.{items_begin, items_end}
use Rattle.packed_json.proofs.OfTapes.Runs.{run_next, run_longer}
use Rattle.packed_json.proofs.tapes.runs.read_numbers.Goals as goal

pub loop-item-init : goal.loop-item-init
loop-item-init c = record {
  so_far = λ j begins.
      let shape = c.in_ok-items.ensures j begins in
      (shape.0, shape.0, shape.1, shape.2, subst (AllMeanAfter (prim_of c.args.prim) 0 shape.0 shape.0) (sym (ap (numbers_in c.args.prim Little 0) c.in_ok-octets.ensures)) (items_begin (prim_of c.args.prim) 0 shape.0));
  long = omega (arith, ap length c.in_ok-octets.ensures);
}

pub loop-item-preserved : goal.loop-item-preserved
loop-item-preserved c =
    let q = c.args.prim in
    let l = c.loop-item in
    let i = c.in_ok-number.number in
    let same : to_z w128 (of_z w128 i) ≡ i = search rules in
    let longer = subst (λ (k : ℤ). c.put_number.new.octets ≡ l.octets ++ octets Little (size q) (raw (size q) k)) same c.in_ok-put_number.ensures in record {
      so_far = λ j begins.
          let now = l.invariant.so_far j begins in
          let f = c.in-Some.ensures.value now.1 now.3 in
          (now.0, f.1, now.2, f.4, run_next q now.0 now.1 f.1 f.0 i l.count c.in_ok-count.count l.octets c.put_number.new.octets f.2 (c.in_ok-number.ensures f.0 f.3) l.invariant.long c.in_ok-count.ensures.1 longer now.4);
      long = run_longer (size q) l.count c.in_ok-count.count l.octets c.put_number.new.octets (octets Little (size q) (raw (size q) i)) l.invariant.long c.in_ok-count.ensures.1 (length-octets Little (size q) (raw (size q) i)) longer;
    }

pub returns : goal.returns
returns c j begins =
    let F = prim_of c.args.prim in
    let now = c.loop-item.invariant.so_far j begins in
    let done : now.1 ≡ no_items = subst (λ (r : Option (List Token)). NextItem c.loop-item.items r c.next.new.self) c.in_default.is c.next.ensures.value now.1 now.3 in
    (now.0, now.2, items_end F 0 now.0 now.1 (numbers_in c.args.prim Little c.loop-item.count c.loop-item.octets) done now.4)
