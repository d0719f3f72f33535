-- One turn of each loop over a text.
use Rattle.std.proofs.Common.{◌≡◌, ℕ, ◌+◌, ◌-◌, ◌<◌, ◌≤◌, List, [], ◌∷◌, ◌++◌, Ok, Err, codes, if◌then◌else◌}
use Rattle.xt_annotations.specs.declared.notes.Placed.{Placed}
use Rattle.idl_input.specs.declared.faults.IdlFault.TheVariants as fault
use Rattle.idl_input.specs.Input.{Input, place, sees, ◌>>=◌}
use Rattle.idl_input.proofs.Turns.{turn, last}
use Rattle.idl_types.specs.State.{State}
use Rattle.xt_idl.specs.Leading.{next_note, leading_from}
use Rattle.xt_idl.specs.Whole.{item, items_from, at_end}

pub leading_go : (n at : ℕ) (before : List Placed) (i : Input) → at < n
    → leading_from (n - at) before i ≡ (if sees (codes "@") i then (next_note before >>= λ p. leading_from (n - (at + 1)) (before ++ p ∷ [])) i else Ok (before, i))
unfolding leading_from
leading_go n at before i below = turn (λ k. leading_from k before i) n at below

pub leading_end : (n at : ℕ) (before : List Placed) (i : Input) → n ≤ at → leading_from (n - at) before i ≡ Ok (before, i)
unfolding leading_from
leading_end n at before i done = last (λ k. leading_from k before i) n at done

pub items_go : (n at : ℕ) (s : State) (i : Input) → at < n → items_from (n - at) s i ≡ (if at_end s i then Ok (s, i) else (item s >>= items_from (n - (at + 1))) i)
unfolding items_from
items_go n at s i below = turn (λ k. items_from k s i) n at below

pub items_end : (n at : ℕ) (s : State) (i : Input) → n ≤ at → items_from (n - at) s i ≡ (if at_end s i then Ok (s, i) else Err (fault.Syntax (place i)))
unfolding items_from
items_end n at s i done = last (λ k. items_from k s i) n at done
