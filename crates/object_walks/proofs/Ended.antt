-- Where a walk ended, after the part that it ended in.
use Rattle.std.proofs.Common.{◌≡◌, ℕ, sym, ap, subst}
use Rattle.std.specs.Prelude.{Result, Ok}
use Rattle.xt_shapes.specs.declared.leaves.Step.{Step}
use Rattle.object_walks.specs.declared.stops.Stop.{Stop as Code}
use Rattle.object_walks.specs.declared.stops.Stop.TheVariants as stops
use Rattle.object_walks.specs.Resolving.{Stop, Got, ◌>>=◌, under}
use Rattle.object_walks.specs.Walking.{Ends, Finds, IsBeneath}

pub ends_then : {A B : Type 0} (stop : Code) (found : Result A Stop) (f : A → Result B Stop) → Ends stop found → Ends stop (found >>= f)
ends_then (stops.Missing id) found f e = ap (λ r. r >>= f) e
ends_then (stops.Recursive id) found f e = ap (λ r. r >>= f) e
ends_then (stops.AtNode fault) found f e = ap (λ r. r >>= f) e
ends_then (stops.OfWhole rule) found f e = ap (λ r. r >>= f) e
ends_then stops.OutOfMemory found f e = tt

pub ends_same : {A : Type 0} (stop : Code) (found whole : Result A Stop) → Ends stop found → found ≡ whole → Ends stop whole
ends_same stop found whole e is = subst (λ r. Ends stop r) is e

pub ends_free : {A : Type 0} (stop : Code) (found : Result A Stop) → stop ≡ stops.OutOfMemory → Ends stop found
ends_free stop found e = subst (λ s. Ends s found) (sym e) tt

pub ends_under : {A : Type 0} (stop new : Code) (step : Step) (found : Result A Stop) → Ends stop found → IsBeneath step stop new → Ends new (under step found)
ends_under (stops.Missing id) new step found e is = subst (λ s. Ends s (under step found)) (sym is) (ap (under step) e)
ends_under (stops.Recursive id) new step found e is = subst (λ s. Ends s (under step found)) (sym is) (ap (under step) e)
ends_under (stops.AtNode fault) new step found e is = subst (λ s. Ends s (under step found)) (sym is) (ap (under step) e)
ends_under (stops.OfWhole rule) new step found e is = subst (λ s. Ends s (under step found)) (sym is) (ap (under step) e)
ends_under stops.OutOfMemory new step found e is = subst (λ s. Ends s (under step found)) (sym is) tt

-- what a call answered, after the part that stands before it
pub finds_then : {A X Y : Type 0} (view : X → Y) (answer : Result X Code) (n : ℕ) (found : Result A Stop) (x : A) (f : A → Got Y) → found ≡ Ok x → Finds view answer n (f x) → Finds view answer n (found >>= f)
finds_then view answer n found x f e h = subst (λ r. Finds view answer n (r >>= f)) (sym e) h

pub finds_same : {X Y : Type 0} (view : X → Y) (answer : Result X Code) (n : ℕ) (found whole : Got Y) → found ≡ whole → Finds view answer n found → Finds view answer n whole
finds_same view answer n found whole e h = subst (λ r. Finds view answer n r) e h

pub ruleset ended_rules = (ends_then, ends_free, ends_under, finds_then)
