-- What an examination answers, after what was tried before.
use Rattle.std.proofs.Common.{◌≡◌, ℕ, ◌≤◌, Bool, true, false, [], Some, None, sym, ap, subst, ◌∙◌, arith}
use Rattle.std.specs.Prelude.{Result}
use Rattle.xcdr_model.specs.declared.verdict.Rule.{Rule}
use Rattle.xcdr_model.specs.Failure.{First, Failure, rule, and_then}
use Rattle.pair_judge.specs.declared.stops.Stop.{Stop}
use Rattle.pair_judge.specs.declared.stops.Stop.TheVariants as stops
use Rattle.pair_judge.specs.Judged.{Ends, Says, IsNear}
use Rattle.node_judge.proofs.Failing.{rule_true, rule_false, and_then_none, and_then_some}

pub ends_free : (stop : Stop) (first : First) → stop ≡ stops.OutOfMemory → Ends stop first
ends_free stop first e = subst (λ s. Ends s first) (sym e) tt

pub near_free : (stop : Stop) (n : ℕ) → stop ≡ stops.OutOfMemory → IsNear n stop
near_free stop n e = subst (λ s. IsNear n s) (sym e) tt

pub near_more : (stop : Stop) (n m : ℕ) → n ≤ m → IsNear n stop → IsNear m stop
near_more (stops.Fails r path) n m le h = omega arith
near_more stops.OutOfMemory n m le h = tt

none_some : (f : Failure) → None ≡ Some f → ⊥
none_some f e = cc

-- a rule that fails, whatever is tried after it
pub ends_rule : (stop : Stop) (r : Rule) (b : Bool) (next : First) → Ends stop (rule r b None) → Ends stop (rule r b next)
ends_rule (stops.Fails x path) r true next e = absurd (none_some (x, path) (sym (rule_true r None) ∙ e))
ends_rule (stops.Fails x path) r false next e = rule_false r next ∙ sym (rule_false r None) ∙ e
ends_rule stops.OutOfMemory r b next e = tt

pub ends_and_then : (stop : Stop) (a next : First) → Ends stop a → Ends stop (and_then a next)
ends_and_then (stops.Fails x path) a next e = ap (λ f. and_then f next) e ∙ and_then_some (x, path) next
ends_and_then stops.OutOfMemory a next e = tt

pub rule_holds : (r : Rule) (b : Bool) (next : First) → rule r b None ≡ None → rule r b next ≡ next
rule_holds r true next e = rule_true r next
rule_holds r false next e = absurd (none_some (r, []) (sym (sym (rule_false r None) ∙ e)))

pub says_rule : {A : Type 0} (answer : Result A Stop) (r : Rule) (b : Bool) (next : First) → rule r b None ≡ None → Says answer next → Says answer (rule r b next)
says_rule answer r b next e h = subst (λ f. Says answer f) (sym (rule_holds r b next e)) h

pub says_and_then : {A : Type 0} (answer : Result A Stop) (a next : First) → a ≡ None → Says answer next → Says answer (and_then a next)
says_and_then answer a next e h = subst (λ f. Says answer f) (sym (ap (λ f. and_then f next) e ∙ and_then_none next)) h

pub ruleset says_rules = (ends_free, ends_rule, ends_and_then, says_rule, says_and_then)
