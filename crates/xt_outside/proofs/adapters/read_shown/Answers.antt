use Rattle.std.proofs.Common.{◌≡◌, ◌<◌, ◌≤◌, ◌++◌, length, take, drop, sym, ap, subst, ◌∙◌, rules, arith, length-take-le}
use Rattle.std.proofs.Math.Seq.{take-append_seam}
use Rattle.std.specs.Io.KnownBytes.{Consumes}
use Rattle.std.specs.Io.BufRead.{FillKeeps}
use Rattle.std.proofs.BufReadLemmas.{Consumes_shown}
use Rattle.xt_outside.proofs.adapters.read_shown.Goals as goal

pub returns-clause-octets : goal.returns-clause-octets
returns-clause-octets g c =
    let shown = c.in-Ok.shown.now in
    let count = c.min-count.result in
    let rested = c.fill_buf.follows.lender-at-none in
    let filled = subst (FillKeeps _ (g.R.Read.remaining rested) (g.R.BufRead.consumable_len rested)) c.in-Ok.is c.fill_buf.follows.holds-at-none in
    let bound : count ≤ length shown = search rules in
    let moved = Consumes_shown _ _ _ _ shown count bound c.in-Ok.ensures.front c.in-Ok.ensures.end filled.0 filled.1 c.consume.ensures.bytes in
    let long : length (take count shown) ≡ count = length-take-le count shown bound in
    let given : take count (c.copy_from_slice.new.self ++ drop count c.args.into.now) ≡ take count shown =
    ap (λ l. take count (l ++ drop count c.args.into.now)) c.copy_from_slice.ensures.after ∙ ap (λ n. take n (take count shown ++ drop count c.args.into.now)) (sym long) ∙ take-append_seam (take count shown) (drop count c.args.into.now) in
    (subst (Consumes _ _) (sym given) moved.0, λ none. absurd (let some : 0 < count = search rules in omega (arith, none, some)))
