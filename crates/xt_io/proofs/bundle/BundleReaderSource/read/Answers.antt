use Rattle.std.proofs.Common.{◌≡◌, ◌≤◌, ◌++◌, ℕ, length, take, drop, rules, arith, sym, ap, ◌∙◌, subst}
use Rattle.std.proofs.lemmas.List.{take-append-le, drop-append-le, take-append-drop, length-take}
use Rattle.std.specs.Io.KnownBytes.{Consumes}
use Rattle.xt_io.proofs.Steps.{inside-ends, inside-consumes, behind-ends, behind-consumes}
use Rattle.xt_io.proofs.bundle.BundleReaderSource.read.Goals as goal

pub returns-then-count-eq0-clause-octets : goal.returns-then-count-eq0-clause-octets
returns-then-count-eq0-clause-octets g c =
    let none = subst (λ (n : ℕ). Consumes (g.S.Source.left c.self.inside.source) (g.S.Source.left c.read.new.self) (take n c.read.new.into)) c.if-count-eq0.true c.in-Ok.ensures.octets.0 in
    let end = inside-ends c.in-Some.pending.rest _ _ none (c.in-Ok.ensures.octets.1 c.if-count-eq0.true (search rules)) in
    rw (← c.self.view_is, c.in-Some.is) (end.0, λ _ _. end.1)

pub returns-then-count-eq0-clause-behind : goal.returns-then-count-eq0-clause-behind
returns-then-count-eq0-clause-behind g c =
    let none = subst (λ (n : ℕ). Consumes (g.S.Source.left c.self.inside.source) (g.S.Source.left c.read.new.self) (take n c.read.new.into)) c.if-count-eq0.true c.in-Ok.ensures.octets.0 in
    let end = c.in-Ok.ensures.octets.1 c.if-count-eq0.true (search rules) in
    rw (← c.self.view_is, c.in-Some.is, c.first_of-self-inside.ensures) (behind-ends _ c.in-Some.pending.head c.in-Some.pending.rest _ _ _ _ none end (omega (arith, c.if-want-eq0.false, c.min-want.ensures)))

pub returns-clause-octets : goal.returns-clause-octets
returns-clause-octets g c =
    let n = c.in-Ok.count in
    let within : n ≤ length c.read.new.into = c.in-Ok.ensures.bound.0 in
    let same = take-append-le n c.read.new.into (drop c.min-want.result c.args.into.now) within in
    let consumed = subst (Consumes (g.S.Source.left c.self.inside.source) (g.S.Source.left c.read.new.self)) (sym same) c.in-Ok.ensures.octets.0 in
    let room : length c.read.new.into ≡ c.min-want.result = search rules in
    let len : length (take n (c.read.new.into ++ drop c.min-want.result c.args.into.now)) ≡ n = ap length same ∙ sym c.in-Ok.ensures.bound.1 in
    let inner = inside-consumes n c.in-Some.pending.rest _ _ _ consumed len (omega (arith, room, within, c.min-want.ensures)) in
    rw (← c.self.view_is, c.in-Some.is) (inner, λ none _. absurd (c.if-count-eq0.false none))

pub returns-clause-rest : goal.returns-clause-rest
returns-clause-rest g c =
    let n = c.in-Ok.count in
    let old = c.args.into.now in
    let want = c.min-want.result in
    let room : length c.read.new.into ≡ want = search rules in
    let within : n ≤ length c.read.new.into = c.in-Ok.ensures.bound.0 in
    let fits : n ≤ length (take want old) = omega (arith, room, within, c.min-want.ensures, length-take want old) in
    let kept : drop n c.read.new.into ≡ drop n (take want old) = c.in-Ok.ensures.rest in
    drop-append-le n c.read.new.into (drop want old) within ∙ ap (λ l. l ++ drop want old) kept ∙ sym (drop-append-le n (take want old) (drop want old) fits) ∙ ap (drop n) (take-append-drop want old)

pub returns-clause-behind : goal.returns-clause-behind
returns-clause-behind g c =
    let n = c.in-Ok.count in
    let room : length c.read.new.into ≡ c.min-want.result = search rules in
    let within : n ≤ length c.read.new.into = c.in-Ok.ensures.bound.0 in
    rw (← c.self.view_is, c.in-Some.is) (behind-consumes _ c.in-Some.pending.head n c.in-Some.pending.rest _ _ _ _ _ c.in-Ok.ensures.octets.0 (sym c.in-Ok.ensures.bound.1) (omega (arith, room, within, c.min-want.ensures)))
