use Rattle.std.proofs.Common.{◌≡◌, drop, get_or, true, false, Some, option_and_then, ◌==◌, sym, ap, ◌∙◌, subst, arith, take_all, length-drop}
use Rattle.std.specs.Prelude.{IfSome}
use Rattle.fast_float.specs.Text.{scan}
use Rattle.serde_json.specs.Find.{as_integer}
use Rattle.serde_json.specs.Read.{number_of, number_from}
use Rattle.packed_json.proofs.tapes.leaves.whole_in_text.Goals as goal

pub returns-then-has_minus : goal.returns-then-has_minus
unfolding number_of
returns-then-has_minus c =
    let s = c.args.text.now in
    let signed : (get_or s 0 0 == 45) ≡ true = sym c.if-has_minus.ensures.value in
    let parts : c.scan.result ≡ scan (drop 1 s) = c.scan.ensures.parts ∙ ap scan (take_all _ (drop 1 s) (omega (arith, length-drop 1 s))) in
    let read : number_from true (scan (drop 1 s)) ≡ number_of s = rw signed in
    subst (λ o. IfSome c.below_zero.result (λ n. option_and_then as_integer o ≡ Some n)) (ap (number_from true) parts ∙ read) c.below_zero.ensures

pub returns : goal.returns
unfolding number_of
returns c =
    let s = c.args.text.now in
    let unsigned : (get_or s 0 0 == 45) ≡ false = sym c.if-has_minus.ensures.value in
    let read : number_from false (scan s) ≡ number_of s = rw unsigned in
    subst (λ o. IfSome c.from_zero.result (λ n. option_and_then as_integer o ≡ Some n)) (ap (number_from false) c.scan-2.ensures.parts ∙ read) c.from_zero.ensures
