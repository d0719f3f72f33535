use Rattle.std.proofs.Common.{refl, ap, ◌∙◌, ◌∷◌, [], ◌++◌}
use Rattle.json.specs.Token.{number}
use Rattle.dynamic_data.specs.numbers.Forms.{too_large}
use Rattle.dynamic_data.proofs.OfNumbers.FloatFacts.{zero_is}
use Rattle.dynamic_data.proofs.numbers.leaves.put_too_large.Goals as goal

pub returns-in_ok-u64-in-BitsOrZero : goal.returns-in_ok-u64-in-BitsOrZero
returns-in_ok-u64-in-BitsOrZero c =
    let old = c.args.out.now.tokens in
    let written = c.in_ok-u64-in-BitsOrZero.ensures.ok ∙ ap (λ s. old ++ number s ∷ []) zero_is in (c.u64.ensures.room.0, (too_large c.args.form, rw c.in-BitsOrZero.is written, refl))
