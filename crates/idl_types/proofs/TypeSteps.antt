-- What each step of reading a type is.
use Rattle.std.proofs.Common.{◌≡◌, ℕ, zero, suc, ◌+◌, ◌-◌, ◌<◌, ◌≤◌, Bool, true, false, List, [], ◌∷◌, ◌++◌, reverse, Option, Some, None, Err, refl, ap, ◌∙◌, arith}
use Rattle.std.proofs.lemmas.List.{reverse-append}
use Rattle.type_trees.specs.Trees.{Tree, prim}
use Rattle.idl_input.specs.declared.faults.IdlFault.TheVariants as fault
use Rattle.idl_types.specs.declared.types.Open.{Open}
use Rattle.idl_types.specs.declared.types.Open.TheVariants.{Element, Key}
use Rattle.idl_input.specs.declared.words.Keyword.{Keyword}
use Rattle.idl_input.specs.declared.words.Keyword.TheVariants as word
use Rattle.idl_input.specs.declared.words.PlainWord.{PlainWord}
use Rattle.idl_input.specs.declared.words.CollectionWord.{CollectionWord}
use Rattle.idl_input.specs.declared.words.Begins.{Begins}
use Rattle.idl_input.specs.Words.{begins}
use Rattle.idl_input.specs.Input.{Input, Parser, keyword_at, place, ◌>>◌, pure, syntax, take_token}
use Rattle.idl_types.specs.State.{State}
use Rattle.idl_input.proofs.Turns.{turn, last}
use Rattle.idl_types.specs.Types.{long_type, unsigned_type, string_type, named_type, type_by, plain_type, type_to, deep_type, sequence_type, map_type, due, due_by, begun, closing}

abbrev plain_of : State → Begins → Parser Tree
plain_of s (Begins.Plain (PlainWord.Simple p)) = take_token >> pure (prim p)
plain_of s (Begins.Plain PlainWord.Long) = take_token >> long_type
plain_of s (Begins.Plain PlainWord.Unsigned) = take_token >> unsigned_type
plain_of s (Begins.Plain PlainWord.Str) = take_token >> string_type
plain_of s Begins.Outside = λ i. Err (fault.NotInProfile (place i))
plain_of s Begins.NoKeyword = named_type s
plain_of s _ = syntax

pub plain_begins : (st : State) (k : Option Keyword) (i : Input) → plain_type st k i ≡ plain_of st (begins k) i
unfolding begins
plain_begins st None i = refl
plain_begins st (Some (word.Simple p)) i = refl
plain_begins st (Some _) i = refl

-- by the parsers of sequences, of maps and of what is no collection
abbrev pub type_of : (sequences maps plain : Parser Tree) → Begins → Parser Tree
type_of sequences maps plain (Begins.Collection CollectionWord.Sequence) = sequences
type_of sequences maps plain (Begins.Collection CollectionWord.Map) = maps
type_of sequences maps plain _ = plain

by_begins : (sequences maps : Parser Tree) (st : State) (k : Option Keyword) (i : Input) → type_by sequences maps st k i ≡ type_of sequences maps (plain_type st k) (begins k) i
unfolding begins
by_begins sequences maps st None i = refl
by_begins sequences maps st (Some (word.Simple p)) i = refl
by_begins sequences maps st (Some _) i = refl

abbrev pub is_plain : Begins → Bool
is_plain (Begins.Collection _) = false
is_plain _ = true

of_plain : (sequences maps plain : Parser Tree) (b : Begins) (i : Input) → is_plain b ≡ true → type_of sequences maps plain b i ≡ plain i
of_plain sequences maps plain (Begins.Collection _) i h = cc
of_plain sequences maps plain _ i h = refl

by_plain : (sequences maps : Parser Tree) (st : State) (k : Option Keyword) (i : Input) → is_plain (begins k) ≡ true → type_by sequences maps st k i ≡ plain_type st k i
by_plain sequences maps st k i h = by_begins sequences maps st k i ∙ of_plain sequences maps (plain_type st k) (begins k) i h

pub type_plain : (st : State) (n : ℕ) (i : Input) → is_plain (begins (keyword_at i)) ≡ true → type_to st n i ≡ plain_type st (keyword_at i) i
unfolding type_to
type_plain st zero i h = by_plain _ _ st (keyword_at i) i h
type_plain st (suc n) i h = by_plain _ _ st (keyword_at i) i h

pub type_none : (st : State) (i : Input) → type_to st 0 i ≡ type_of (deep_type st) (deep_type st) (plain_type st (keyword_at i)) (begins (keyword_at i)) i
unfolding type_to
type_none st i = by_begins _ _ st (keyword_at i) i

pub type_more : (st : State) (n : ℕ) (i : Input) → 0 < n
    → type_to st n i ≡ type_of (sequence_type (type_to st (n - 1))) (map_type (type_to st (n - 1))) (plain_type st (keyword_at i)) (begins (keyword_at i)) i
unfolding type_to
type_more st n i some = let e : n ≡ suc (n - 1) = omega arith in ap (λ k. type_to st k i) e ∙ by_begins _ _ st (keyword_at i) i

pub ruleset type_steps = (type_plain, type_none, type_more)

pub due_go : (st : State) (n at : ℕ) (os : List Open) (i : Input) → at < n
    → due st (n - at) os i ≡ due_by (due st (n - (at + 1))) st os (keyword_at i) i
unfolding due
due_go st n at os i below = turn (λ k. due st k os i) n at below

pub due_end : (st : State) (n at : ℕ) (os : List Open) (i : Input) → n ≤ at → due st (n - at) os i ≡ Err (fault.Syntax (place i))
unfolding due
due_end st n at os i done = last (λ k. due st k os i) n at done

pub reverse_push : (os : List Open) (o : Open) → reverse (os ++ o ∷ []) ≡ o ∷ reverse os
reverse_push os o = reverse-append os (o ∷ [])

abbrev due_of : (due : List Open → Parser (Unit {0})) → Parser Tree → List Open → Begins → Parser (Unit {0})
due_of due plain os (Begins.Collection CollectionWord.Sequence) = begun >> due (Element ∷ os)
due_of due plain os (Begins.Collection CollectionWord.Map) = begun >> due (Key ∷ os)
due_of due plain os _ = plain >> closing due os

pub due_begins : (due : List Open → Parser (Unit {0})) (st : State) (os : List Open) (k : Option Keyword) (i : Input) → due_by due st os k i ≡ due_of due (plain_type st k) os (begins k) i
unfolding begins
due_begins due st os None i = refl
due_begins due st os (Some (word.Simple p)) i = refl
due_begins due st os (Some _) i = refl
