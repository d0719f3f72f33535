use Rattle.std.proofs.Common.{sym, ap₂, ◌≡◌, ◌∙◌, ◌-◌, ◌%◌, min}
use Rattle.xt_shapes.specs.Sizes.{size}
use Rattle.xcdr_reader.specs.Modes.{most}
use Rattle.xcdr_reader.proofs.InBlocks.{padding_none, unit_some}
use Rattle.xcdr_reader.proofs.blocks.block_size.Goals as goal

pub returns-clause-block : goal.returns-clause-block
returns-clause-block g c =
    let p = c.args.prim in
    let a = g.C.Cursor.state c.args.cursor.now in
    let size_is = c.prim_size-size.ensures.size in
    let place : c.place-place.result ≡ a.place = c.place-place.ensures ∙ c.resume.ensures.place ∙ c.restart-origin.ensures.value.place in
    let end : c.region_end.result ≡ a.region_end = c.region_end.ensures ∙ c.resume.ensures.region_end ∙ c.restart-origin.ensures.value.region_end in
    let unit : c.from.result ≡ min (size p) (most c.args.mode) = c.from.ensures ∙ c.min.ensures ∙ ap₂ min size_is c.most.ensures.most in
    let none : (a.place - a.origin) % min (size p) (most c.args.mode) ≡ 0 = rw (place, c.restart-origin.ensures.origin, unit) at c.if-place-origin-ne0.false in
    record {
      plain = λ some. sym c.if-is_boolean.ensures;
      aligned = λ some. padding_none (min (size p) (most c.args.mode)) (a.place - a.origin) (unit_some c.args.mode p) none;
      fits = rw (size_is, end, place) at c.numbers_in.ensures.fits;
      within = c.numbers_in.ensures.most;
      small = rw (← size_is) c.numbers_in.ensures.small;
    }
