use Rattle.std.proofs.Common.{◌≡◌, subst, refl, Option, Some, None}
use Rattle.std.specs.Float.{binary32, Float}
use Rattle.std.specs.Int.{w32}
use Rattle.json.specs.Json.{number, string}
use Rattle.dynamic_data.specs.numbers.Floats.{ShowsFloat, float_in}
use Rattle.dynamic_data.proofs.numbers.singles.show.Goals as goal

pub returns-in_ok-float-in-Some : goal.returns-in_ok-float-in-Some
returns-in_ok-float-in-Some c =
    let done = c.in_ok-float-in-Some.ensures.plain in
    let text = string c.args.text.now in
    let shown = number done.0 in
    let is : Some c.in-Some.float ≡ float_in w32 4 binary32 text = c.in-Some.ensures.value in (
      c.in_ok-float-in-Some.ensures.room.1.0,
      (shown, done.1, subst (λ (o : Option Float). ShowsFloat binary32 o text shown) is (done.0, refl, record { plain = done.2; nearest = done.3 })),
    )

pub returns-in_ok-string-in-None : goal.returns-in_ok-string-in-None
returns-in_ok-string-in-None c =
    let text = string c.args.text.now in
    let is : ◌≡◌ {A = Option Float} None (float_in w32 4 binary32 text) = c.in-None.ensures.value in (
      c.string.ensures.room.0,
      (text, c.in_ok-string-in-None.ensures.ok, subst (λ (o : Option Float). ShowsFloat binary32 o text text) is refl),
    )
