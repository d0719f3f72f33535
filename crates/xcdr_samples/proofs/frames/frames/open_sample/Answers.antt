use Rattle.std.proofs.Common.{arith, refl, ◌∙◌}
use Rattle.xt_wire.proofs.OfCursor.Ahead.{along_trans}
use Rattle.xcdr_samples.proofs.frames.frames.open_sample.Goals as goal

pub returns-clause-begun : goal.returns-clause-begun
returns-clause-begun g c =
    let m = g.C.Cursor.state c.read_head.new.cursor in
    let h = c.in_ok-head.head in
    let so = c.set_order.ensures in
    let ro = c.restart-origin.ensures in
    let en = c.in_ok-outer.ensures.entered in
    let st = g.met.C.Cursor.stands c.read_head.new.cursor in
    record {
      head = h;
      middle = m;
      read = c.in_ok-head.ensures.value;
      stands = st;
      entered = record {
        along = along_trans so.along (along_trans ro.value.along en.along);
        fits = c.in_ok-head.ensures.padding;
        region_end = omega (arith, c.in_ok-head.ensures.padding, c.region_end.ensures, c.place.ensures, c.from.ensures, en.region_end, ro.value.place, ro.value.region_end, so.place, so.region_end, st.in_region);
        place = en.place ∙ ro.value.place ∙ so.place;
        ahead = en.ahead ∙ ro.value.ahead ∙ so.ahead;
        origin = en.origin ∙ ro.value.origin ∙ so.place;
        order = en.order ∙ ro.value.order ∙ so.order;
        reach = en.reach ∙ ro.value.reach ∙ so.reach;
        outer = en.outer ∙ ro.value.region_end ∙ so.region_end;
        padding = refl;
        old_origin = ro.origin ∙ so.origin;
        old_order = c.order-order.ensures;
      };
    }
