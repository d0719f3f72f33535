-- What a text declares is printable.
use Rattle.std.proofs.Common.{◌≡◌, ℕ, suc, true, [], ◌∷◌, ◌++◌, length, take, Some, None, Ok, Err, refl, subst, append_assoc}
use Rattle.std.proofs.lemmas.List.{append-nil}
use Rattle.std.specs.Prelude.{slice_get}
use Rattle.type_trees.specs.Trees.{Tree}
use Rattle.type_rules.specs.Valid.{type_fault}
use Rattle.idl_tokens.specs.Classes.{Text}
use Rattle.idl_input.specs.Input.{Input, Outcome}
use Rattle.idl_types.specs.State.{State, Declared, start}
use Rattle.xt_idl.specs.Whole.{items_from, types_of, idl}
use Rattle.idl_laws.specs.Printable.{has_no_keyword, IsDefinition, AreDefinitions, IsPrintable}
use Rattle.idl_laws.proofs.Whole.{printed_is_read_again}
use Rattle.idl_laws.specs.parsed.Laws.{ParsedIsPrintable, ParsedIsReadAgain}
use Rattle.idl_laws.proofs.OfParsed.Gives.{gives}
use Rattle.idl_laws.proofs.OfParsed.Sound.{Sound, IsDeclared}
use Rattle.idl_laws.proofs.OfParsed.States.{Holds, start_holds}
use Rattle.idl_laws.proofs.OfParsed.Items.{items_yield}

-- a type that was declared behind the known ones and these of the list
record IsBehind (known ds : Declared) (at : ℕ) (d : Text × Tree) : Type 0 where
  valid : type_fault d.1 ≡ None
  no_keyword : has_no_keyword d.0 ≡ true
  defined : IsDefinition (known ++ take at ds) d.0 d.1

each_defined : (known ds : Declared) → ((at : ℕ) (d : Text × Tree) → slice_get ds at ≡ Some d → IsBehind known ds at d) → AreDefinitions known ds
each_defined known [] each = tt
each_defined known (d ∷ ds) each =
    let first = each 0 d refl in
    let before : IsDefinition known d.0 d.1 = rw append-nil at first.defined in
    (first.valid, (first.no_keyword, (before, each_defined (known ++ d ∷ []) ds later)))
  where
    later : (at : ℕ) (e : Text × Tree) → slice_get ds at ≡ Some e → IsBehind (known ++ d ∷ []) ds at e
    later at e is =
        let b = each (suc at) e is in
        record { valid = b.valid; no_keyword = b.no_keyword; defined = rw (append_assoc known (d ∷ []) (take at ds)) b.defined }

sound_defined : (ds : Declared) → Sound ds → AreDefinitions [] ds
sound_defined ds sound = each_defined [] ds (λ at d is. behind at d (sound at d.0 d.1 is))
  where
    behind : (at : ℕ) (d : Text × Tree) → IsDeclared ds at d.0 d.1 → IsBehind [] ds at d
    behind at d s = record { valid = s.valid; no_keyword = s.no_keyword; defined = s.defined }

state_printable : (s : State) → Holds s → IsPrintable s.types
state_printable s h = record { apart = h.apart; defined = sound_defined s.types h.sound }

same_types : (o : Outcome State) (ds : Declared) → ((s : State) (j : Input) → o ≡ Ok (s, j) → Holds s) → types_of o ≡ Ok ds → IsPrintable ds
same_types (Ok p) ds all e = subst IsPrintable (cc) (state_printable p.0 (all p.0 p.1 refl))
same_types (Err f) ds all e = cc

pub parsed_is_printable : ParsedIsPrintable
unfolding idl
parsed_is_printable text ds e =
    let input : Input = record { text = text; size = length text } in
    same_types (items_from (length text) start input) ds (λ s j. gives (items_yield (length text) start start_holds) input j s) e

pub parsed_is_read_again : ParsedIsReadAgain
parsed_is_read_again text ds e = printed_is_read_again ds (parsed_is_printable text ds e)
