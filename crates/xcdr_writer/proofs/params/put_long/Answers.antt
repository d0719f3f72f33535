use Rattle.std.proofs.Common.{ℕ, ◌++◌, refl}
use Rattle.std.proofs.lemmas.Result.{err_from_is_err_and}
use Rattle.xt_shapes.specs.declared.leaves.Order.{Order}
use Rattle.xcdr_model.specs.FixedSpelling.{Fixed, then_fixed}
use Rattle.xcdr_model.specs.Numbers.{octets}
use Rattle.xt_wire.specs.writer.Written.{Written}
use Rattle.xt_wire.proofs.OfWriter.Puts.{Going, begins, goes_on, left_as, last, fails, within, whole}
use Rattle.xcdr_writer.specs.Parts.{long_header}
use Rattle.xcdr_writer.proofs.Chains.{in_order}
use Rattle.xcdr_writer.proofs.params.put_long.Goals as goal

-- what is left behind the extended form's own id and length
two_left : (limit n len : ℕ) (f : Fixed) (o : Order) {a b : Written} → Going limit f (λ p. octets o 2 8 ++ (octets o 4 n ++ octets o 4 len)) a b → Going limit f (then_fixed (λ p. octets o 2 8) (λ p. octets o 4 n ++ octets o 4 len)) a b
unfolding then_fixed
two_left limit n len f o u = left_as (λ p. octets o 2 8 ++ (octets o 4 n ++ octets o 4 len)) (then_fixed (λ p. octets o 2 8) (λ p. octets o 4 n ++ octets o 4 len)) (λ p. refl) u

one_left : (limit n len : ℕ) (f : Fixed) (o : Order) {a b : Written} → Going limit f (λ p. octets o 4 n ++ octets o 4 len) a b → Going limit f (then_fixed (λ p. octets o 4 n) (λ p. octets o 4 len)) a b
unfolding then_fixed
one_left limit n len f o u = left_as (λ p. octets o 4 n ++ octets o 4 len) (then_fixed (λ p. octets o 4 n) (λ p. octets o 4 len)) (λ p. refl) u

pub returns-in_err-put_number-2 : goal.returns-in_err-put_number-2
unfolding then_fixed
returns-in_err-put_number-2 g c =
    let a = c.args.out.now in
    let o = a.order in
    let n = c.marked-member.result in
    let len = c.args.length in
    let all = λ (p : ℕ). long_header o c.args.must c.args.id len in
    let e = err_from_is_err_and c.from_residual-in_err-put_number-2.result c.from_residual-in_err-put_number-2.ensures.1 in
    whole (λ limit.
    let u = goes_on (λ p. octets o 2 0x7F01) (λ p. octets o 2 8 ++ (octets o 4 n ++ octets o 4 len)) (begins limit all (then_fixed (λ p. octets o 2 0x7F01) (λ p. octets o 2 8 ++ (octets o 4 n ++ octets o 4 len))) a (λ p. rw c.marked-member.ensures refl)) (within c.in_ok-put_number.ensures) in
    rw e.1 (fails (λ p. octets o 2 8) (λ p. octets o 4 n ++ octets o 4 len) (two_left limit n len all o u) (within (in_order (λ (k : Order) (p : ℕ). octets k 2 8) u.keeps c.in_err-put_number-2.ensures))))

pub returns-in_err-put_number-3 : goal.returns-in_err-put_number-3
unfolding then_fixed
returns-in_err-put_number-3 g c =
    let a = c.args.out.now in
    let o = a.order in
    let n = c.marked-member.result in
    let len = c.args.length in
    let all = λ (p : ℕ). long_header o c.args.must c.args.id len in
    let e = err_from_is_err_and c.from_residual-in_err-put_number-3.result c.from_residual-in_err-put_number-3.ensures.1 in
    whole (λ limit.
    let u = goes_on (λ p. octets o 2 0x7F01) (λ p. octets o 2 8 ++ (octets o 4 n ++ octets o 4 len)) (begins limit all (then_fixed (λ p. octets o 2 0x7F01) (λ p. octets o 2 8 ++ (octets o 4 n ++ octets o 4 len))) a (λ p. rw c.marked-member.ensures refl)) (within c.in_ok-put_number.ensures) in
    let v = goes_on (λ p. octets o 2 8) (λ p. octets o 4 n ++ octets o 4 len) (two_left limit n len all o u) (within (in_order (λ (k : Order) (p : ℕ). octets k 2 8) u.keeps c.in_ok-put_number-2.ensures)) in
    rw e.1 (fails (λ p. octets o 4 n) (λ p. octets o 4 len) (one_left limit n len all o v) (within (in_order (λ (k : Order) (p : ℕ). octets k 4 n) v.keeps c.in_err-put_number-3.ensures))))

pub returns : goal.returns
unfolding then_fixed
returns g c =
    let a = c.args.out.now in
    let o = a.order in
    let n = c.marked-member.result in
    let len = c.args.length in
    let all = λ (p : ℕ). long_header o c.args.must c.args.id len in
    whole (λ limit.
    let u = goes_on (λ p. octets o 2 0x7F01) (λ p. octets o 2 8 ++ (octets o 4 n ++ octets o 4 len)) (begins limit all (then_fixed (λ p. octets o 2 0x7F01) (λ p. octets o 2 8 ++ (octets o 4 n ++ octets o 4 len))) a (λ p. rw c.marked-member.ensures refl)) (within c.in_ok-put_number.ensures) in
    let v = goes_on (λ p. octets o 2 8) (λ p. octets o 4 n ++ octets o 4 len) (two_left limit n len all o u) (within (in_order (λ (k : Order) (p : ℕ). octets k 2 8) u.keeps c.in_ok-put_number-2.ensures)) in
    let w = goes_on (λ p. octets o 4 n) (λ p. octets o 4 len) (one_left limit n len all o v) (within (in_order (λ (k : Order) (p : ℕ). octets k 4 n) v.keeps c.in_ok-put_number-3.ensures)) in
    last (λ p. octets o 4 len) w (within (in_order (λ (k : Order) (p : ℕ). octets k 4 len) w.keeps c.put_number-4.ensures)))
