-- Types where they are used (OMG IDL 4.2, 7.4.1).
use Rattle.std.specs.Prelude.{◌≡◌, ◌≢◌, Result, ℕ, zero, suc, Bool, true, false, ◌||◌, if◌then◌else◌, List, [], ◌∷◌, Option, Some, None, Ok, Err, codes}
use Rattle.xt_shapes.specs.declared.leaves.Primitive.{Primitive}
use Rattle.xt_shapes.specs.declared.leaves.Try.{Try}
use Rattle.type_trees.specs.Trees.{Tree, prim, str, sequence, map_of}
use Rattle.xt_annotations.specs.declared.notes.Placed.{Placed}
use Rattle.xt_annotations.specs.declared.notes.Note.{Note}
use Rattle.xt_annotations.specs.declared.notes.Note.TheVariants as note
use Rattle.xt_annotations.specs.declared.places.Site.{Site}
use Rattle.idl_input.specs.declared.faults.IdlFault.{IdlFault}
use Rattle.idl_input.specs.declared.faults.IdlFault.TheVariants as fault
use Rattle.idl_input.specs.declared.words.Keyword.{Keyword}
use Rattle.idl_input.specs.declared.words.Keyword.TheVariants as word
use Rattle.idl_types.specs.declared.types.Open.{Open}
use Rattle.idl_types.specs.declared.types.Open.TheVariants.{Element, Key}
use Rattle.idl_input.specs.Input.{Input, Outcome, Parser, ◌>>=◌, ◌>>◌, pure, syntax, place, eat, want, take_token, sees, sees_name, keyword_at, bound, notes_at, turns}
use Rattle.idl_types.specs.State.{State}
use Rattle.idl_types.specs.Names.{type_by_name}

-- `unsigned` was read
unfoldable pub unsigned_type : Parser Tree
unsigned_type = do
  short ← eat (codes "short")
  if short then pure (prim Primitive.Uint16) else (do want (codes "long"); more ← eat (codes "long"); pure (prim (if more then Primitive.Uint64 else Primitive.Uint32)))

-- `long` was read
unfoldable pub long_type : Parser Tree
long_type = do
  more ← eat (codes "long")
  pure (prim (if more then Primitive.Int64 else Primitive.Int32))

-- `string` was read
unfoldable pub string_type : Parser Tree
string_type = do
  bounded ← eat (codes "<")
  if bounded then (do n ← bound; want (codes ">"); pure (str n)) else pure (str 0)

-- the bound of a collection, if it has one, and its end
unfoldable pub last_bound : Parser ℕ
last_bound = do
  bounded ← eat (codes ",")
  n ← (if bounded then bound else pure 0)
  want (codes ">")
  pure n

abbrev pub try_or : Note → Try → Try
try_or (note.TryConstruct t) otherwise = t
try_or _ otherwise = otherwise

abbrev pub try_of : List Placed → Try
try_of [] = Try.Discard
try_of (p ∷ ps) = try_or p.note (try_of ps)

-- ---- collections, over the parser of the types in them

unfoldable pub element : Parser Tree → Parser (Try × Tree)
element inner = do
  ns ← notes_at Site.Element
  t ← inner
  pure (try_of ns, t)

unfoldable pub sequence_type : Parser Tree → Parser Tree
sequence_type inner = do
  take_token
  want (codes "<")
  e ← element inner
  n ← last_bound
  pure (sequence n e.0 e.1)

unfoldable pub map_type : Parser Tree → Parser Tree
map_type inner = do
  take_token
  want (codes "<")
  k ← element inner
  want (codes ",")
  v ← element inner
  n ← last_bound
  pure (map_of n k.0 k.1 v.0 v.1)

-- ---- a type

unfoldable pub named_type : State → Parser Tree
named_type s = λ i. if sees_name i || sees (codes "::") i then type_by_name s i else syntax i

-- a type that is no collection, by the keyword that comes next
abbrev pub plain_type : State → Option Keyword → Parser Tree
plain_type s (Some (word.Simple p)) = take_token >> pure (prim p)
plain_type s (Some word.Long) = take_token >> long_type
plain_type s (Some word.Unsigned) = take_token >> unsigned_type
plain_type s (Some word.Str) = take_token >> string_type
plain_type s (Some word.Outside) = λ i. Err (fault.NotInProfile (place i))
plain_type s (Some _) = syntax
plain_type s None = named_type s

-- over the parsers of sequences and maps
abbrev pub type_by : Parser Tree → Parser Tree → State → Option Keyword → Parser Tree
type_by sequences maps s (Some word.Sequence) = sequences
type_by sequences maps s (Some word.Map) = maps
type_by sequences maps s k = plain_type s k

-- ---- collections that are nested too deep to be in a valid type: only passed over, by what is open around them

-- what follows an inner type, where due reads a type
abbrev pub closing : (List Open → Parser (Unit {0})) → List Open → Parser (Unit {0})
closing due [] = pure tt
closing due (Element ∷ os) = last_bound >> closing due os
closing due (Key ∷ os) = want (codes ",") >> notes_at Site.Element >> due (Element ∷ os)

-- the beginning of a collection
abbrev pub begun : Parser (Unit {0})
begun = take_token >> want (codes "<") >> notes_at Site.Element >> pure tt

abbrev pub due_by : (List Open → Parser (Unit {0})) → State → List Open → Option Keyword → Parser (Unit {0})
due_by due s os (Some word.Sequence) = begun >> due (Element ∷ os)
due_by due s os (Some word.Map) = begun >> due (Key ∷ os)
due_by due s os k = plain_type s k >> closing due os

-- The number bounds the turns.
unfoldable pub due : State → ℕ → List Open → Parser (Unit {0})
due s zero os = syntax
due s (suc n) os = λ i. due_by (due s n) s os (keyword_at i) i

unfoldable pub deep_type : State → Parser Tree
deep_type s = λ i. (due s (turns i) [] >> pure (prim Primitive.Boolean)) i

-- A type, of which that many levels of collections are kept. What is nested deeper stands as a boolean:
-- such a type isn't valid, and the place of that fault is above.
unfoldable pub type_to : State → ℕ → Parser Tree
type_to s zero = λ i. type_by (deep_type s) (deep_type s) s (keyword_at i) i
type_to s (suc n) = λ i. type_by (sequence_type (type_to s n)) (map_type (type_to s n)) s (keyword_at i) i

-- as many levels as a valid type may have, and one more
abbrev pub a_type : State → Parser Tree
a_type s = type_to s 17

-- ---- what a step over open collections ensures, whatever reads the type that is due next

abbrev pub Continues : (List Open → Parser (Unit {0})) → Outcome (Unit {0}) → Result Bool IdlFault → List Open → Input → Type 0
Continues due outcome (Ok true) os after = outcome ≡ Ok (tt, after)
Continues due outcome (Ok false) os after = outcome ≡ due os after
Continues due outcome (Err e) os after = e ≢ fault.OutOfMemory → outcome ≡ Err e
