-- One turn of each loop in a definition.
use Rattle.std.proofs.Common.{◌≡◌, ℕ, ℤ, ◌+◌, ◌-◌, ◌<◌, ◌≤◌, Bool, true, List, [], ◌∷◌, ◌++◌, Ok, Err, codes, if◌then◌else◌}
use Rattle.type_trees.specs.Trees.{Tree}
use Rattle.idl_input.specs.declared.faults.IdlFault.TheVariants as fault
use Rattle.idl_input.specs.Input.{Input, Parser, place, eat, want, bound, pure, ◌>>=◌, ◌>>◌}
use Rattle.idl_input.proofs.Turns.{turn, last}
use Rattle.idl_definitions.specs.Lists.{comma_from, braced_from}
use Rattle.idl_definitions.specs.Members.{dims_from}
use Rattle.idl_definitions.specs.Unions.{label, labels_from}

pub comma_go : {A : Type 0} (step : A → Parser A) (n at : ℕ) (a : A) (i : Input) → at < n
    → comma_from step (n - at) a i ≡ (step a >>= λ b. eat (codes ",") >>= λ more. if more then comma_from step (n - (at + 1)) b else pure b) i
unfolding comma_from
comma_go step n at a i below = turn (λ k. comma_from step k a i) n at below

pub comma_end : {A : Type 0} (step : A → Parser A) (n at : ℕ) (a : A) (i : Input) → n ≤ at → comma_from step (n - at) a i ≡ Ok (a, i)
unfolding comma_from
comma_end step n at a i done = last (λ k. comma_from step k a i) n at done

pub braced_go : {A : Type 0} (step : A → Parser A) (n at : ℕ) (a : A) (i : Input) → at < n
    → braced_from step (n - at) a i ≡ (step a >>= λ b. eat (codes "}") >>= λ over. if over then pure b else braced_from step (n - (at + 1)) b) i
unfolding braced_from
braced_go step n at a i below = turn (λ k. braced_from step k a i) n at below

pub braced_end : {A : Type 0} (step : A → Parser A) (n at : ℕ) (a : A) (i : Input) → n ≤ at → braced_from step (n - at) a i ≡ Err (fault.Syntax (place i))
unfolding braced_from
braced_end step n at a i done = last (λ k. braced_from step k a i) n at done

pub dims_go : (n at : ℕ) (ds : List ℕ) (i : Input) → at < n
    → dims_from (n - at) ds i ≡ (eat (codes "[") >>= λ more. if more then (bound >>= λ d. want (codes "]") >> dims_from (n - (at + 1)) (ds ++ d ∷ [])) else pure ds) i
unfolding dims_from
dims_go n at ds i below = turn (λ k. dims_from k ds i) n at below

pub dims_end : (n at : ℕ) (ds : List ℕ) (i : Input) → n ≤ at → dims_from (n - at) ds i ≡ Ok (ds, i)
unfolding dims_from
dims_end n at ds i done = last (λ k. dims_from k ds i) n at done

pub labels_go : (disc : Tree) (n at : ℕ) (ls : List ℤ) (is_default : Bool) (i : Input) → at < n
    → labels_from disc (n - at) ls is_default i
    ≡ (eat (codes "case") >>= λ labelled. if labelled then (label disc >>= λ l. want (codes ":") >> labels_from disc (n - (at + 1)) (ls ++ l ∷ []) is_default)
    else (eat (codes "default") >>= λ other. if other then want (codes ":") >> labels_from disc (n - (at + 1)) ls true else pure (ls, is_default))) i
unfolding labels_from
labels_go disc n at ls is_default i below = turn (λ k. labels_from disc k ls is_default i) n at below

pub labels_end : (disc : Tree) (n at : ℕ) (ls : List ℤ) (is_default : Bool) (i : Input) → n ≤ at → labels_from disc (n - at) ls is_default i ≡ Ok ((ls, is_default), i)
unfolding labels_from
labels_end disc n at ls is_default i done = last (λ k. labels_from disc k ls is_default i) n at done
