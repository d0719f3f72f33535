-- What a text declares keeps to its state: each item leaves one in which the same holds.
use Rattle.std.proofs.Common.{◌≡◌, ℕ, zero, suc, Bool, true, false, ◌&&◌, cond, List, [], Option, Some, None, refl, sym, subst}
use Rattle.std.proofs.lemmas.Option.{none-some}
use Rattle.std.specs.Prelude.{codes}
use Rattle.xt_shapes.specs.declared.leaves.Step.{Step}
use Rattle.type_rules.specs.Valid.{type_fault}
use Rattle.xt_annotations.specs.declared.notes.Placed.{Placed}
use Rattle.idl_tokens.specs.Classes.{Text}
use Rattle.idl_tokens.specs.declared.names.scopes.Meaning.{Meaning}
use Rattle.idl_tokens.specs.declared.names.scopes.Meaning.TheVariants as meaning_of
use Rattle.idl_tokens.specs.names.Scopes.{meaning}
use Rattle.idl_input.specs.declared.words.Keyword.{Keyword}
use Rattle.idl_input.specs.declared.words.Keyword.TheVariants as word
use Rattle.idl_input.specs.Input.{◌>>=◌, ◌>>◌, here, take_token, want, sees, keyword_at}
use Rattle.idl_types.specs.State.{State, with_type}
use Rattle.idl_types.specs.Names.{innermost}
use Rattle.idl_definitions.specs.Structures.{Made}
use Rattle.xt_idl.specs.Leading.{leading_notes}
use Rattle.xt_idl.specs.Whole.{definition_by, fault_of, valid_or, outcome, typed, opened_by, module_def, may_close, closed, definition_or_module, item, at_end, items_from}
use Rattle.idl_laws.specs.Printable.{IsDefinition}
use Rattle.idl_laws.proofs.Names.{is_free}
use Rattle.idl_laws.proofs.OfParsed.Gives.{Yields, gives, yields, bind, behind, next, given, refused, unread, tested, by_input, at_input}
use Rattle.idl_laws.proofs.OfParsed.Made.{IsMade, definition_gives}
use Rattle.idl_laws.proofs.OfParsed.Words.{name_gives}
use Rattle.idl_laws.proofs.OfParsed.Titles.{IsTitled, title_yields}
use Rattle.idl_laws.proofs.OfParsed.States.{Holds, type_holds, module_holds, new_module_holds, closed_holds}

-- ---- definitions

-- what is known of a definition that was read
record IsRead (s : State) (m : Made) : Type 0 where
  titled : IsTitled m
  made : IsMade s m

read_yields : (s : State) → Holds s → (ns : List Placed) (k : Option Keyword) → Yields (definition_by s ns k) (IsRead s)
read_yields s h ns k = yields (λ i j m e. record { titled = gives (title_yields s ns k) i j m e; made = definition_gives s h.sound ns k i j m e })

-- no rule is broken, and the base fits
no_fault : (fits : Bool) (f : Option (ℕ × List Step)) (g : ℕ × List Step) → cond fits f (Some g) ≡ None → (fits ≡ true) × (f ≡ None)
no_fault true f g e = (refl, e)
no_fault false f g e = absurd (none-some g (sym e))

valid_holds : (s : State) (m : Made) → Holds s → IsRead s m → fault_of m ≡ None → Holds (with_type (innermost s.opened) m.name m.full m.tree s)
valid_holds s m h r e =
    let sound = no_fault m.fits (type_fault m.tree) (17, []) e in
    rw r.made.full
    (type_holds s m.name m.tree h (record { free = r.titled; new = r.made.new; valid = sound.1; defined = subst (λ full. IsDefinition s.types full m.tree) r.made.full (r.made.defined sound.0 sound.1) }))

valid_yields : (s : State) (m : Made) → Holds s → IsRead s m → (f : Option (ℕ × List Step)) → fault_of m ≡ f → Yields (outcome (valid_or s m f)) Holds
valid_yields s m h r None e = given (valid_holds s m h r e)
valid_yields s m h r (Some f) e = refused

typed_yields : (s : State) (ns : List Placed) → Holds s → Yields (typed s ns) Holds
unfolding typed
typed_yields s ns h = by_input (λ i. at_input (bind (read_yields s h ns (keyword_at i)) (λ m r. valid_yields s m h r (fault_of m) refl)) i)

-- ---- modules

opened_yields : (s : State) (at : ℕ) (n : Text) → Holds s → is_free n ≡ true → (o : Option Meaning) → meaning (innermost s.opened) n s.names ≡ o → Yields (opened_by at n s o) Holds
opened_yields s at n h free None e = next (want (codes "{")) (given (new_module_holds s n h free e))
opened_yields s at n h free (Some (meaning_of.Module number)) e = next (want (codes "{")) (given (module_holds s number n h free e))
opened_yields s at n h free (Some (meaning_of.Type k)) e = refused

module_yields : (s : State) → Holds s → Yields (module_def s) Holds
unfolding module_def
module_yields s h = next take_token (behind here (λ at. bind (yields name_gives) (λ n free. opened_yields s at n h free (meaning (innermost s.opened) n s.names) refl)))

closed_yields : (s : State) → Holds s → Yields (closed s) Holds
unfolding closed
closed_yields s h = next (take_token >> want (codes ";")) (given (closed_holds s h))

-- ---- items

definition_or_module_yields : (s : State) (ns : List Placed) → Holds s → (k : Option Keyword) → Yields (definition_or_module s ns k) Holds
definition_or_module_yields s ns h (Some word.Module) = module_yields s h
definition_or_module_yields s ns h _ = typed_yields s ns h

noted_yields : (s : State) → Holds s → Yields (leading_notes >>= λ ns. λ j. definition_or_module s ns (keyword_at j) j) Holds
noted_yields s h = behind leading_notes (λ ns. by_input (λ j. at_input (definition_or_module_yields s ns h (keyword_at j)) j))

item_yields : (s : State) → Holds s → Yields (item s) Holds
unfolding item
item_yields s h = by_input (λ i. tested (may_close s && sees (codes "}") i) (λ _. at_input (closed_yields s h) i) (λ _. at_input (noted_yields s h) i))

pub items_yield : (n : ℕ) (s : State) → Holds s → Yields (items_from n s) Holds
unfolding items_from
items_yield zero s h = by_input (λ i. tested (at_end s i) (λ _. at_input (given h) i) (λ _. at_input unread i))
items_yield (suc n) s h = by_input (λ i. tested (at_end s i) (λ _. at_input (given h) i) (λ _. at_input (bind (item_yields s h) (items_yield n)) i))
