use Rattle.std.proofs.Common.{refl, arith}
use Rattle.type_object.proofs.OfVisits.Left.{past_end}
use Rattle.type_mirror.proofs.Requesting.{counted, counted_all, counted_most, counted_last, counted_none, from_here}
use Rattle.type_mirror.proofs.requests.count_of.Goals as goal

pub objects-init : goal.objects-init
objects-init c = record { so = counted_none c.args.objects.now; same = refl; most = omega arith }

pub returns-then-count-ge-MOST_OBJECTS : goal.returns-then-count-ge-MOST_OBJECTS
returns-then-count-ge-MOST_OBJECTS c = let i = c.objects.invariant in counted_most _ c.objects.count c.objects.room _ (omega (arith, i.most, c.if-count-ge-MOST_OBJECTS.true)) i.so

pub returns-then-size-room : goal.returns-then-size-room
returns-then-size-room c =
    let i = c.objects.invariant in
    counted_all _ c.objects.count c.objects.room _ _ c.object-item.result (from_here c.args.objects.now c.objects.count c.objects.object-index c.object-item.result _ i.same c.objects-test.true c.object-item.is) (omega (arith, c.if-count-ge-MOST_OBJECTS.false)) i.so
    c.size_of-size.result c.size_of-size.ensures.exact (omega (arith, c.if-size-room.true))

pub objects-preserved : goal.objects-preserved
objects-preserved c =
    let i = c.objects.invariant in
    record {
      so = counted _ c.objects.count c.objects.room _ _ c.object-item.result (from_here c.args.objects.now c.objects.count c.objects.object-index c.object-item.result _ i.same c.objects-test.true c.object-item.is) (omega (arith, c.if-count-ge-MOST_OBJECTS.false)) i.so
          c.size_of-size.result c.size_of-size.ensures.exact (omega (arith, c.if-size-room.false));
      same = omega (arith, i.same);
      most = omega (arith, c.if-count-ge-MOST_OBJECTS.false);
    }

pub returns : goal.returns
returns c =
    let i = c.objects.invariant in
    counted_last _ c.objects.count c.objects.room _ (past_end c.args.objects.now c.objects.count (let e = c.objects.auto.object-index-end in omega (arith, e, i.same, c.objects-test.false))) i.so
