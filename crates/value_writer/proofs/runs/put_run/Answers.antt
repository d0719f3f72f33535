use Rattle.std.proofs.Common.{sym, ap, ◌∙◌, ℕ, map}
use Rattle.std.proofs.lemmas.Result.{err_from_is_err_and}
use Rattle.type_trees.specs.View.{val}
use Rattle.xcdr_model.specs.FixedSpelling.{nothing, then_fixed}
use Rattle.xt_wire.specs.writer.Writing.{padding_fixed}
use Rattle.xt_wire.proofs.OfWriter.Puts.{begins, goes_on, last, fails, same_puts, within, whole, puts_nothing}
use Rattle.value_writer.specs.Runs.{digits_of, run_fixed}
use Rattle.value_writer.proofs.RunSteps.{no_run, some_run}
use Rattle.value_writer.proofs.runs.put_run.Goals as goal

pub returns-then-is_empty : goal.returns-then-is_empty
returns-then-is_empty g c =
    let empty = sym c.is_empty.ensures ∙ c.if-is_empty.true in
    same_puts (run_fixed c.args.most c.args.out.now.order c.args.size (map val c.args.values.now)) nothing (λ p at. no_run c.args.most c.args.out.now.order c.args.size c.args.values.now p empty) (puts_nothing c.args.out.now)

pub returns-in_err-align : goal.returns-in_err-align
returns-in_err-align g c =
    let o = c.args.out.now.order in
    let some = sym c.is_empty.ensures ∙ c.if-is_empty.false in
    let rest = λ (q : ℕ). digits_of o c.args.size (map val c.args.values.now) in
    let e = err_from_is_err_and c.from_residual.result c.from_residual.ensures.1 in
    whole (λ limit.
    let u = begins limit (run_fixed c.args.most o c.args.size (map val c.args.values.now)) (then_fixed (padding_fixed c.min.result) rest) c.args.out.now (λ p. rw c.min.ensures (some_run c.args.most o c.args.size c.args.values.now p some c.requires.most c.requires.size)) in
    rw e.1 (fails (padding_fixed c.min.result) rest u (within c.in_err-align.ensures)))

pub returns : goal.returns
returns g c =
    let o = c.args.out.now.order in
    let some = sym c.is_empty.ensures ∙ c.if-is_empty.false in
    let rest = λ (q : ℕ). digits_of o c.args.size (map val c.args.values.now) in
    whole (λ limit.
    let u = begins limit (run_fixed c.args.most o c.args.size (map val c.args.values.now)) (then_fixed (padding_fixed c.min.result) rest) c.args.out.now (λ p. rw c.min.ensures (some_run c.args.most o c.args.size c.args.values.now p some c.requires.most c.requires.size)) in
    last rest (goes_on (padding_fixed c.min.result) rest u (within c.in_ok-align.ensures))
    (within (same_puts rest (λ q. digits_of c.align.new.self.order c.args.size (map val c.args.values.now)) (λ p at. ap (λ k. digits_of k c.args.size (map val c.args.values.now)) (sym c.align.ensures.keeps.order)) c.put_sized.ensures)))
