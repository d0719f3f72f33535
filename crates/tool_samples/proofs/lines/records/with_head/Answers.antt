use Rattle.std.proofs.Common.{◌≡◌, ◌∙◌, ap, length, arith}
use Rattle.std.specs.Vec.{vec_len}
use Rattle.tool_samples.proofs.Headed.{head_over}
use Rattle.tool_samples.proofs.lines.records.with_head.Goals as goal

pub returns : goal.returns
returns c = λ sample is.
    let xs = c.args.piece.items in
    let long : vec_len c.args.piece ≡ length xs = c.args.piece.ok.0 in
    head_over (vec_len c.args.piece) _ xs c.deref_mut.result.now _ _ sample long is c.deref_mut.ensures.value c.split_at_mut-front.ensures.back (c.copy_from_slice.ensures.after ∙ c.sample_head-head.ensures) (omega (arith, long, ap length is, c.len.ensures, c.in-Some.ensures, c.in-Ok.ensures))
