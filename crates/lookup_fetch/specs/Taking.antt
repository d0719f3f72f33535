-- Taking in the objects of a reply (own).
use Rattle.std.specs.Prelude.{◌≡◌, List, Bool, true, false, Option, None, Some}
use Rattle.type_trees.specs.declared.types.HashId.{HashId}
use Rattle.type_object.specs.Pools.{Texts}
use Rattle.type_object.specs.References.{is_among}
use Rattle.lookup_fetch.specs.declared.faults.FetchFault.{FetchFault}
use Rattle.lookup_fetch.specs.declared.faults.FetchFault.TheVariants.{LinkFault, BadReply, WrongHash, NotServed, TooMany, OutOfMemory}
use Rattle.lookup_fetch.specs.Rounds.{found_in}

-- Of the identifiers that were asked for, those that have not come are not held.
pub record AreNew (held : Texts) (asked before : List HashId) : Type 0 where
  pub each : (id : HashId) → is_among id asked ≡ true → is_among id before ≡ false → found_in held id ≡ None

-- It is this fault, or memory was wanting. A reply has no fault of the link.
abbrev pub IsFault : Option FetchFault → FetchFault → Type 0
IsFault expected LinkFault = ⊥
IsFault expected BadReply = expected ≡ Some BadReply
IsFault expected (WrongHash id other) = expected ≡ Some (WrongHash id other)
IsFault expected (NotServed id) = expected ≡ Some (NotServed id)
IsFault expected TooMany = expected ≡ Some TooMany
IsFault expected OutOfMemory = Unit {0}
