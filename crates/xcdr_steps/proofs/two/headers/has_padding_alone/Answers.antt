use Rattle.std.proofs.Common.{◌≡◌, ◌∙◌, refl}
use Rattle.xcdr_steps.proofs.two.headers.has_padding_alone.Goals as goal

pub returns-clause-ended : goal.returns-clause-ended
returns-clause-ended g c =
    let a = g.C.Cursor.state c.args.cursor.now in
    let place : c.place-place.result ≡ a.place = c.place-place.ensures ∙ c.resume.ensures.place ∙ c.restart-origin.ensures.value.place in
    let end : c.region_end.result ≡ a.region_end = c.region_end.ensures ∙ c.resume.ensures.region_end ∙ c.restart-origin.ensures.value.region_end in
    rw (c.padding.ensures.octets, place, end, c.restart-origin.ensures.origin) refl
