-- What the commands may write that ask a peer (own).
use Rattle.std.specs.Prelude.{◌≡◌, ℕ, List, [], ◌∷◌, ◌⊎◌, map, Option, Some, Result, IfOk, IsErrOf}
use Rattle.std.specs.List.{All}
use Rattle.xt_io.specs.Outside.{Rose}
use Rattle.xt_io.specs.Links.{IsToldAs, IsHeardFrom, heard_of}
use Rattle.type_trees.specs.declared.types.HashId.{HashId}
use Rattle.type_object.specs.Pools.{Texts}
use Rattle.type_lookup.specs.declared.messages.messages.Fetched.{Fetched}
use Rattle.lookup_fetch.specs.declared.faults.FetchFault.{FetchFault}
use Rattle.lookup_fetch.specs.declared.faults.FetchFault.TheVariants as fetch
use Rattle.lookup_fetch.specs.Fetches.{Fetches}
use Rattle.lookup_fetch.specs.Plans.{IsOwn}
use Rattle.type_mirror.specs.declared.told.told.Told.{Told}
use Rattle.type_mirror.specs.declared.told.told.PushFault.{PushFault}
use Rattle.type_mirror.specs.declared.told.told.PushFault.TheVariants as push
use Rattle.type_mirror.specs.told.Rounds.{start}
use Rattle.type_mirror.specs.told.Pushes.{Pushes}
use Rattle.tool_runs.specs.declared.output.ending.Style.TheVariants.{Lines, Records}
use Rattle.tool_runs.specs.output.Outputs.{Output}
use Rattle.tool_nets.specs.Nets.{Net, Fails}
use Rattle.tool_nets.specs.clients.Lines.{fetch_output, push_output}

-- The link that was given back was one to this address. Where the net tells what it heard there, it is these octets that were got and sent,
-- and whether the input had ended is what was left of it.
pub record HeardOver (to : List ℕ) (net : Net) (got sent : List ℕ) (left : Option (List ℕ)) : Type 0 where
  pub address : IsToldAs net.address to
  pub heard : IsHeardFrom net.heard (heard_of (Some got) (Some sent) left)

-- ---- fetch

-- What a fetch of this object and all that it refers to came to, and what was got and sent. It is a fault of the link only where the net failed.
pub record FetchCame (to : List ℕ) (id : HashId) (net : Net) (result : Result (List Fetched) FetchFault) : Type 0 where
  pub got : List ℕ
  pub sent : List ℕ
  pub left : Option (List ℕ)
  pub fetches : Fetches (id ∷ []) 1 [] got sent left result
  pub own : IfOk result (All IsOwn)
  pub over : HeardOver to net got sent left
  pub failed : IsErrOf result fetch.LinkFault → Rose net.before net.now

-- it is what the output says
pub record FetchSaid (to : List ℕ) (id : HashId) (net : Net) (output : Output) : Type 0 where
  pub result : Result (List Fetched) FetchFault
  pub came : FetchCame to id net result
  pub said : fetch_output result ≡ Some output

-- what may be written: that the net failed, or what the fetch came to
abbrev pub FetchAllows : List ℕ → HashId → Net → Output → Type 0
FetchAllows to id net output = Fails Records net output ⊎ FetchSaid to id net output

-- ---- mirror

-- the objects of a pool, in order
abbrev pub objects_in : Texts → List Fetched
objects_in pool = map (λ entry. record { id = entry.0; octets = entry.1 }) pool

-- What a push of these objects came to, where texts are hashed so, and what was got and sent. It is a fault of the link only where the net failed.
pub record PushCame (name : List ℕ → List ℕ) (to : List ℕ) (objects : List Fetched) (net : Net) (result : Result (List Told) PushFault) : Type 0 where
  pub got : List ℕ
  pub sent : List ℕ
  pub left : Option (List ℕ)
  pub pushes : Pushes name 1 (start objects) got sent left result
  pub over : HeardOver to net got sent left
  pub failed : IsErrOf result push.LinkFault → Rose net.before net.now

-- it is what the output says
pub record PushSaid (name : List ℕ → List ℕ) (to : List ℕ) (objects : List Fetched) (net : Net) (output : Output) : Type 0 where
  pub result : Result (List Told) PushFault
  pub came : PushCame name to objects net result
  pub said : push_output result ≡ Some output

-- what may be written: that the net failed, or what the push came to
abbrev pub PushAllows : (List ℕ → List ℕ) → List ℕ → List Fetched → Net → Output → Type 0
PushAllows name to objects net output = Fails Lines net output ⊎ PushSaid name to objects net output
