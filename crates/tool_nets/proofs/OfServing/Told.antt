-- What was said, and how the command ended.
use Rattle.std.proofs.Common.{◌≡◌, ℕ, ◌+◌, List, [], ◌∷◌, map, drop, drop_of_length-le, length, ◌≤◌, Some, Result, inl, inr, ap, ◌∙◌, subst}
use Rattle.std.specs.Prelude.{Option, slice_get}
use Rattle.std.proofs.lemmas.List.{drop_more}
use Rattle.std.proofs.lemmas.Option.{get_or_from_slice_get, slice_get_within}
use Rattle.type_registry.specs.Held.{Held}
use Rattle.tool_runs.specs.declared.output.halt.Halt.{Halt}
use Rattle.tool_runs.specs.declared.output.ending.Ending.{Ending}
use Rattle.tool_runs.specs.output.Outputs.{Output, after_pieces}
use Rattle.tool_runs.specs.output.Runs.{Leads}
use Rattle.tool_nets.specs.Nets.{EndsIn}
use Rattle.tool_nets.specs.serving.Lines.{held_line}

-- what is allowed there is allowed here
pub ends_more : (A B : Output → Type 0) (result : Result Ending Halt) (old new : Option (List ℕ)) → ((o : Output) → A o → B o) → EndsIn A result old new → EndsIn B result old new
ends_more A B result old new more (inl e) = inl (e.0, more e.0 e.1, e.2)
ends_more A B result old new more (inr h) = inr h

-- ---- cells of a trail

slice_next : (cells : List Held) (i : ℕ) (h : Held) → slice_get cells i ≡ Some h → drop i cells ≡ h ∷ drop (i + 1) cells
slice_next cells i h is = drop_more cells i h (slice_get_within cells i h is) ∙ ap (λ (x : Held). x ∷ drop (i + 1) cells) (get_or_from_slice_get cells i h h is)

-- what was written leads to the next cell and those behind it
pub next_cell : (cells : List Held) (i : ℕ) (h : Held) (first : Option Output) (rest : Output) (old new : Option (List ℕ)) → slice_get cells i ≡ Some h → Leads first (Some (after_pieces (map held_line (drop i cells)) rest)) old new
    → Leads first (Some (after_pieces (held_line h ∷ []) (after_pieces (map held_line (drop (i + 1) cells)) rest))) old new
next_cell cells i h first rest old new is p = subst (λ (l : List Held). Leads first (Some (after_pieces (map held_line l) rest)) old new) (slice_next cells i h is) p

-- all cells were written
pub behind_cells : (cells : List Held) (i : ℕ) (first : Option Output) (rest : Output) (old new : Option (List ℕ)) → length cells ≤ i → Leads first (Some (after_pieces (map held_line (drop i cells)) rest)) old new → Leads first (Some rest) old new
behind_cells cells i first rest old new le p = subst (λ (l : List Held). Leads first (Some (after_pieces (map held_line l) rest)) old new) (drop_of_length-le cells le) p
