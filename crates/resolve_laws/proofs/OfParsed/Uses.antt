-- The types that a member, case or alias has, over declared types that have names.
use Rattle.std.proofs.Common.{◌≡◌, refl, ℕ, true, List, [], ◌∷◌, Option, Some, None, arith}
use Rattle.std.proofs.lemmas.Bool.{and_from, lt-ltb}
use Rattle.std.specs.Prelude.{slice_get}
use Rattle.xt_shapes.specs.Lists.{all}
use Rattle.type_trees.specs.Trees.{Tree, prim, str, enumeration, bitmask, sequence, array, map_of, structure, union, alias}
use Rattle.idl_tokens.specs.Classes.{Text}
use Rattle.idl_types.specs.State.{Declared}
use Rattle.idl_laws.specs.Printable.{IsNamed, IsBound, IsUse, EachBound, IsTyped}
use Rattle.resolve_laws.specs.Named.{is_named, is_word, numbers_fit}

-- a type with all its names and with numbers that the program's types hold
pub record IsWhole (t : Tree) : Type 0 where
  pub named : is_named t ≡ true
  pub fits : numbers_fit t ≡ true

-- each type of the list is
pub record AreWhole (known : Declared) : Type 0 where
  pub each : (at : ℕ) (full : Text) (t : Tree) → slice_get known at ≡ Some (full, t) → IsWhole t

word : (n : ℕ) → IsBound n → is_word n ≡ true
word n low = lt-ltb n 4294967296 (omega arith)

words : (ds : List ℕ) → EachBound ds → all is_word ds ≡ true
words [] low = refl
words (d ∷ ds) low = and_from _ _ (word d low.0) (words ds low.1)

pub named_whole : (known : Declared) → AreWhole known → (name : Option Text) (t : Tree) → IsNamed known name t → IsWhole t
named_whole known whole None t stands = absurd stands
named_whole known whole (Some full) t stands = whole.each stands.0 full t stands.1

pub use_whole : (known : Declared) → AreWhole known → (t : Tree) → IsUse known t → IsWhole t
use_whole known whole (prim p) is = record { named = refl; fits = refl }
use_whole known whole (str n) is = record { named = refl; fits = word n is }
use_whole known whole (sequence n tc t) is = let part = use_whole known whole t is.1 in record { named = part.named; fits = and_from _ _ (word n is.0) part.fits }
use_whole known whole (map_of n kc k vc v) is =
    let key = use_whole known whole k is.1.0 in
    let value = use_whole known whole v is.1.1 in
    record { named = and_from _ _ key.named value.named; fits = and_from _ _ (word n is.0) (and_from _ _ key.fits value.fits) }
use_whole known whole (array ds tc t) is = absurd is
use_whole known whole (enumeration name ext bits ls) is = named_whole known whole name (enumeration name ext bits ls) is
use_whole known whole (bitmask name bits fs) is = named_whole known whole name (bitmask name bits fs) is
use_whole known whole (structure head ms) is = named_whole known whole head.name (structure head ms) is
use_whole known whole (union head disc cs) is = named_whole known whole head.name (union head disc cs) is
use_whole known whole (alias name t) is = named_whole known whole name (alias name t) is

pub typed_whole : (known : Declared) → AreWhole known → (t : Tree) → IsTyped known t → IsWhole t
typed_whole known whole (array ds tc t) is = let part = use_whole known whole t is.1.1 in record { named = part.named; fits = and_from _ _ (words ds is.1.0) part.fits }
typed_whole known whole (prim p) is = use_whole known whole (prim p) is
typed_whole known whole (str n) is = use_whole known whole (str n) is
typed_whole known whole (sequence n tc t) is = use_whole known whole (sequence n tc t) is
typed_whole known whole (map_of n kc k vc v) is = use_whole known whole (map_of n kc k vc v) is
typed_whole known whole (enumeration name ext bits ls) is = use_whole known whole (enumeration name ext bits ls) is
typed_whole known whole (bitmask name bits fs) is = use_whole known whole (bitmask name bits fs) is
typed_whole known whole (structure head ms) is = use_whole known whole (structure head ms) is
typed_whole known whole (union head disc cs) is = use_whole known whole (union head disc cs) is
typed_whole known whole (alias name t) is = use_whole known whole (alias name t) is
