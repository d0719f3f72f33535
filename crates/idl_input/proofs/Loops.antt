-- One turn of the loop over annotations.
use Rattle.std.proofs.Common.{◌≡◌, ℕ, ◌+◌, ◌-◌, ◌<◌, ◌≤◌, List, [], ◌∷◌, ◌++◌, Ok, codes, if◌then◌else◌}
use Rattle.xt_annotations.specs.declared.notes.Placed.{Placed}
use Rattle.xt_annotations.specs.declared.places.Site.{Site}
use Rattle.idl_input.specs.Input.{Input, sees, note, judge, ◌>>=◌, ◌>>◌, notes_from}
use Rattle.idl_input.proofs.Turns.{turn, last}

pub notes_go : (site : Site) (n at : ℕ) (before : List Placed) (i : Input) → at < n
    → notes_from site (n - at) before i ≡ (if sees (codes "@") i then (note >>= λ p. judge site before p >> notes_from site (n - (at + 1)) (before ++ p ∷ [])) i else Ok (before, i))
unfolding notes_from
notes_go site n at before i below = turn (λ k. notes_from site k before i) n at below

pub notes_end : (site : Site) (n at : ℕ) (before : List Placed) (i : Input) → n ≤ at → notes_from site (n - at) before i ≡ Ok (before, i)
unfolding notes_from
notes_end site n at before i done = last (λ k. notes_from site k before i) n at done
