use Rattle.std.proofs.Common.{arith, ◌+◌, ◌<◌}
use Rattle.std.proofs.lemmas.Result.{err_from_is_err_and}
use Rattle.xt_shapes.specs.Defaults.{default_of}
use Rattle.xt_shapes.specs.Shape.{prim}
use Rattle.type_trees.specs.Bridge.{type_shape}
use Rattle.try_construct.specs.Items as items
use Rattle.try_construct.specs.Items.{items_of, items_then}
use Rattle.settled_parts.specs.Parts.{part_of}
use Rattle.xt_wire.proofs.OfCursor.Ahead.{goes_on, fails, ends}
use Rattle.xcdr_reader.specs.Blocks.{block_read}
use Rattle.xcdr_reader.proofs.DecodeSteps.{part_none, value_at}
use Rattle.xcdr_reader.proofs.InBlocks.{numbers_then, numbers_begin, number_more, number_next, counted_next}
use Rattle.xcdr_reader.proofs.blocks.read_numbers.Goals as goal

pub loop-at-init : goal.loop-at-init
loop-at-init g c = record {
  within = omega arith;
  ahead = numbers_begin c.args.mode c.args.bound c.args.elem.now.tc (type_shape c.args.elem.now.ty) c.args.prim c.args.count (items_of c.new-items.result) (g.C.Cursor.state c.args.cursor.now) c.requires c.new-items.ensures.none;
}

pub returns-in_err-part : goal.returns-in_err-part
returns-in_err-part g c =
    let e = c.args.elem.now in
    let d = default_of (type_shape e.ty) in
    let x = items_of c.loop-at.items in
    let p = err_from_is_err_and c.from_residual.result c.from_residual.ensures.1 in
    rw (p.1, p.2) (fails part_of part_of (value_at c.args.mode (prim c.args.prim)) (number_more c.args.mode c.args.bound e.tc d c.args.prim c.args.count c.loop-at.at x) (number_next c.args.mode c.args.bound e.tc d c.args.prim c.args.count c.loop-at.at x c.loop-at-test.true c.block_size-many.ensures.stayed c.loop-at.invariant.ahead) c.in_err-part.ensures)

pub loop-at-preserved-then-many-eq0 : goal.loop-at-preserved-then-many-eq0
loop-at-preserved-then-many-eq0 g c =
    let e = c.args.elem.now in
    let d = default_of (type_shape e.ty) in
    let x = items_of c.loop-at.items in
    let u = goes_on part_of (value_at c.args.mode (prim c.args.prim)) (number_more c.args.mode c.args.bound e.tc d c.args.prim c.args.count c.loop-at.at x) (number_next c.args.mode c.args.bound e.tc d c.args.prim c.args.count c.loop-at.at x c.loop-at-test.true c.block_size-many.ensures.stayed c.loop-at.invariant.ahead) c.in_ok-part.ensures in
    record {
      within = omega (arith, c.loop-at-test.true);
      ahead = rw c.in_ok-take.ensures u;
    }

pub returns-in_err-read_block : goal.returns-in_err-read_block
returns-in_err-read_block g c =
    let e = c.args.elem.now in
    let d = default_of (type_shape e.ty) in
    let x = items_of c.loop-at.items in
    let n = c.args.count in
    let i = c.loop-at.at in
    let m = c.block_size-many.result in
    let some : 0 < m = omega (arith, c.if-many-eq0.false) in
    let p = err_from_is_err_and c.from_residual-in_err-read_block.result c.from_residual-in_err-read_block.ensures.1 in
    let u = counted_next c.args.mode c.args.bound e.tc d c.args.prim n i m x (g.met.C.Cursor.stands c.loop-at.cursor) c.loop-at.invariant.within some c.block_size-many.ensures.block c.block_size-many.ensures.stayed c.loop-at.invariant.ahead in
    rw (p.1, p.2) (fails _ part_of (block_read c.args.bound e.tc d c.args.prim m x) (λ y. numbers_then c.args.mode c.args.bound e.tc d c.args.prim n (i + m) y) u c.in_err-read_block.ensures)

pub loop-at-preserved : goal.loop-at-preserved
loop-at-preserved g c =
    let e = c.args.elem.now in
    let d = default_of (type_shape e.ty) in
    let x = items_of c.loop-at.items in
    let n = c.args.count in
    let i = c.loop-at.at in
    let m = c.block_size-many.result in
    let some : 0 < m = omega (arith, c.if-many-eq0.false) in
    let u = counted_next c.args.mode c.args.bound e.tc d c.args.prim n i m x (g.met.C.Cursor.stands c.loop-at.cursor) c.loop-at.invariant.within some c.block_size-many.ensures.block c.block_size-many.ensures.stayed c.loop-at.invariant.ahead in
    record {
      within = omega (arith, c.block_size-many.ensures.block.within, c.loop-at.invariant.within);
      ahead = goes_on _ (block_read c.args.bound e.tc d c.args.prim m x) (λ y. numbers_then c.args.mode c.args.bound e.tc d c.args.prim n (i + m) y) u c.in_ok-read_block.ensures;
    }

pub returns : goal.returns
returns g c =
    let e = c.args.elem.now in
    let d = default_of (type_shape e.ty) in
    let x = items_of c.loop-at.items in
    ends part_of (λ o. items.whole_of x) (part_none (items_then c.args.bound e.tc d) (value_at c.args.mode (prim c.args.prim)) c.args.count c.loop-at.at x (omega (arith, c.loop-at-test.false)) c.loop-at.invariant.ahead) c.part.ensures
