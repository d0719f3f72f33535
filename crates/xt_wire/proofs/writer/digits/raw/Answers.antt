use Rattle.std.proofs.Common.{rules, ◌∙◌, ◌≡◌, ◌^◌}
use Rattle.std.specs.Prelude.{nat_abs}
use Rattle.xt_wire.proofs.OfWriter.NumberSteps.{raw_pos, raw_neg, all_fit}
use Rattle.xt_wire.proofs.writer.digits.raw.Goals as goal

pub returns-then-number-ge0 : goal.returns-then-number-ge0
returns-then-number-ge0 c = search (rules, raw_pos)

pub pow-all-requires : goal.pow-all-requires
pow-all-requires c = all_fit c.args.size c.requires

pub returns : goal.returns
returns c =
    let absolute : c.unsigned_abs-2.result ≡ nat_abs c.args.number = search rules in
    let all : c.pow-all.result ≡ 256 ^ c.args.size = search rules in
    c.saturating_sub.ensures ∙ rw (all, absolute) (raw_neg c.args.size c.args.number (search rules))
