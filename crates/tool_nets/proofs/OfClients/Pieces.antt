-- Pieces that are written one after another, one for each of a list.
use Rattle.std.proofs.Common.{◌≡◌, ℕ, ◌+◌, ◌≤◌, List, [], ◌∷◌, map, length, drop, Some, Result, Ok, Err, OnOk, OnErr, refl, ap, ◌∙◌, subst}
use Rattle.std.specs.Prelude.{Option, slice_get}
use Rattle.std.proofs.lemmas.List.{drop_all, drop_more}
use Rattle.std.proofs.lemmas.Option.{get_or_from_slice_get, slice_get_within}
use Rattle.std.specs.Io.KnownBytes.{Appends}
use Rattle.std.proofs.KnownBytes.{Appends-nil}
use Rattle.xt_io.specs.Outside.{AppendsPrefix}
use Rattle.tool_runs.specs.declared.output.ending.Ending.TheVariants.{Done}
use Rattle.tool_runs.specs.declared.output.halt.Halt.{Halt}
use Rattle.tool_runs.specs.declared.output.halt.Halt.TheVariants as halts
use Rattle.tool_runs.specs.output.Outputs.{Output, after_pieces}
use Rattle.tool_runs.specs.output.Runs.{Ends, Leads}
use Rattle.tool_runs.proofs.OfOutput.Written.{leads_nowhere, leads_on, leads_piece, piece_is_cut, writes_on}
use Rattle.tool_runs.specs.Commands.{only}
use Rattle.tool_runs.proofs.Joined.{all_done}
use Rattle.tool_nets.specs.clients.Saying.{SaysPiece}

-- ---- one piece

pub piece_said : (said text : List ℕ) (result : Result (Unit {0}) Halt) (old new : Option (List ℕ)) → text ≡ said → OnOk result (Appends old new text) → OnErr result (AppendsPrefix old new text) → SaysPiece said result old new
piece_said said text (Ok u) old new e p q = subst (Appends old new) e p
piece_said said text (Err halt) old new e p q = subst (AppendsPrefix old new) e q

-- memory was wanting for it
pub piece_wanted : (said : List ℕ) (halt : Halt) (a : Option (List ℕ)) → SaysPiece said (Err halt) a a
piece_wanted said halt a = ([], said, refl, Appends-nil a)

-- ---- one after another

module _ {X : Type 0} (piece_of : X → List ℕ) (items : List X) where
  -- what is left from a place on
  abbrev pub left_from : ℕ → Option Output
  left_from i = Some (only (map piece_of (drop i items)))

  -- What was written leads from all to what is left.
  abbrev pub SaidUpTo : ℕ → Option (List ℕ) → Option (List ℕ) → Type 0
  SaidUpTo i old new = Leads (Some (only (map piece_of items))) (left_from i) old new

  pub none_said : (a : Option (List ℕ)) → SaidUpTo 0 a a
  none_said a = leads_nowhere (Some (only (map piece_of items))) a

  next_item : (i : ℕ) (x : X) → slice_get items i ≡ Some x → drop i items ≡ x ∷ drop (i + 1) items
  next_item i x is = drop_more items i x (slice_get_within items i x is) ∙ ap (λ (y : X). y ∷ drop (i + 1) items) (get_or_from_slice_get items i x x is)

  next_piece : (i : ℕ) (x : X) (old new : Option (List ℕ)) → slice_get items i ≡ Some x → SaidUpTo i old new → Leads (Some (only (map piece_of items))) (Some (after_pieces (piece_of x ∷ []) (only (map piece_of (drop (i + 1) items))))) old new
  next_piece i x old new is p = subst (λ (l : List X). Leads (Some (only (map piece_of items))) (Some (only (map piece_of l))) old new) (next_item i x is) p

  -- one more was written
  pub said_more : (i : ℕ) (x : X) (old mid new : Option (List ℕ)) → slice_get items i ≡ Some x → SaidUpTo i old mid → SaysPiece (piece_of x) (Ok tt) mid new → SaidUpTo (i + 1) old new
  said_more i x old mid new is p q =
      let rest = only (map piece_of (drop (i + 1) items)) in
      leads_on (Some (only (map piece_of items))) (Some (after_pieces (piece_of x ∷ []) rest)) (Some rest) old mid new (next_piece i x old mid is p) (leads_piece rest (piece_of x) mid new q)

  -- it was not written whole
  pub said_less : (i : ℕ) (x : X) (halt : Halt) (old mid new : Option (List ℕ)) → slice_get items i ≡ Some x → SaidUpTo i old mid → SaysPiece (piece_of x) (Err halt) mid new → (halt ≡ halts.ReadFault → ⊥) → Ends (only (map piece_of items)) (Err halt) old new
  said_less i x halt old mid new is p q no_read =
      let rest = only (map piece_of (drop (i + 1) items)) in
      writes_on (Some (only (map piece_of items))) (Some (after_pieces (piece_of x ∷ []) rest)) (Err halt) old mid new (next_piece i x old mid is p) (piece_is_cut rest (piece_of x) halt mid new q no_read)

  -- all were written
  pub said_all : (i : ℕ) (old new : Option (List ℕ)) → length items ≤ i → SaidUpTo i old new → Ends (only (map piece_of items)) (Ok Done) old new
  said_all i old new end p =
      all_done (Some (only (map piece_of items))) (only (map piece_of (drop i items))) Done old new (ap (λ (l : List X). only (map piece_of l)) (drop_all i items end)) p
