use Rattle.std.proofs.Common.{◌≡◌, ◌+◌, ◌∙◌, ℕ, arith, rules, length, take, subst, ap}
use Rattle.std.proofs.lemmas.List.{length-take}
use Rattle.xt_outside.specs.Outside.{PassesUpTo}
use Rattle.xt_io.proofs.Reading.{passes-more, passes-short}
use Rattle.xt_io.proofs.filling.pass_over.Goals as goal

pub chunks-preserved : goal.chunks-preserved
chunks-preserved g c =
    let room : length c.fill.new.into ≡ c.min-want.result = search rules in
    let full : length c.fill.new.into ≡ c.in_ok-count.count = omega (arith, c.in_ok-count.ensures.bound) in
    let count : length (take c.in_ok-count.count c.fill.new.into) ≡ c.in_ok-count.count = omega (arith, full, length-take c.in_ok-count.count c.fill.new.into) in
    let joined = passes-more _ _ c.in_ok-count.count _ _ _ _ c.chunks.invariant.octets c.in_ok-count.ensures.octets count in
    record {
      within = omega (arith, c.min-want.ensures);
      octets = subst (λ (n : ℕ). PassesUpTo n (g.S.Source.left c.args.source.now) (g.S.Source.left c.fill.new.source) (c.chunks.passed + c.in_ok-count.count)) (ap (λ k. c.chunks.passed + k) full) joined;
      later = omega (arith, c.in_ok-count.ensures.cause.later);
      same = c.in_ok-count.ensures.same ∙ c.chunks.invariant.same;
    }

pub returns-then-count-want-clause-octets : goal.returns-then-count-want-clause-octets
returns-then-count-want-clause-octets g c =
    let room : length c.fill.new.into ≡ c.min-want.result = search rules in
    let count : length (take c.in_ok-count.count c.fill.new.into) ≡ c.in_ok-count.count = omega (arith, c.in_ok-count.ensures.bound, length-take c.in_ok-count.count c.fill.new.into) in
    let joined = passes-more _ _ c.in_ok-count.count _ _ _ _ c.chunks.invariant.octets c.in_ok-count.ensures.octets count in
    passes-short _ _ _ _ _ joined (omega (arith, c.if-count-want.true)) (omega (arith, c.min-want.ensures))
