-- How a command ends that asks a peer.
use Rattle.std.proofs.Common.{◌≡◌, ℕ, List, None, Some, Result, Ok, Err, inl, inr, refl}
use Rattle.std.specs.declared.option.Option.{Option}
use Rattle.std.specs.Option.{option_map}
use Rattle.xt_io.specs.Outside.{Rose}
use Rattle.xt_io.specs.Bundles.{bundle}
use Rattle.xt_io.specs.Links.{IsToldAs}
use Rattle.type_trees.specs.declared.types.HashId.{HashId}
use Rattle.type_object.specs.Pools.{Texts}
use Rattle.type_lookup.specs.declared.messages.messages.Fetched.{Fetched}
use Rattle.lookup_fetch.specs.declared.faults.FetchFault.{FetchFault}
use Rattle.type_mirror.specs.declared.told.told.Told.{Told}
use Rattle.type_mirror.specs.declared.told.told.PushFault.{PushFault}
use Rattle.tool_runs.specs.declared.output.ending.Ending.{Ending}
use Rattle.tool_runs.specs.declared.output.ending.Style.{Style}
use Rattle.tool_runs.specs.declared.output.ending.Style.TheVariants.{Lines, Records}
use Rattle.tool_runs.specs.declared.output.halt.Halt.{Halt}
use Rattle.tool_runs.specs.declared.output.stop.Refused.{Refused}
use Rattle.tool_runs.specs.declared.output.stop.Stop.{Stop}
use Rattle.tool_runs.specs.declared.output.stop.Stop.TheVariants as stops
use Rattle.tool_runs.specs.output.Outputs.{Output, Refusal, refused}
use Rattle.tool_runs.specs.output.Runs.{ComesTold, Ends, refusal}
use Rattle.tool_runs.specs.Stopping.{Concludes}
use Rattle.tool_nets.specs.Nets.{EndsIn, Fails, HaltsBefore, Net, net_fault}
use Rattle.tool_nets.specs.Opened.{Behind, StopsFront, opened}
use Rattle.tool_nets.specs.clients.Clients.{FetchAllows, FetchCame, PushAllows, PushCame}
use Rattle.tool_nets.specs.clients.Lines.{fetch_output, push_output}
use Rattle.tool_nets.specs.clients.Saying.{Says}

-- an output that is allowed was written
pub ends_in : (Allowed : Output → Type 0) (output : Output) (result : Result Ending Halt) (old new : Option (List ℕ)) → Allowed output → Ends output result old new → EndsIn Allowed result old new
ends_in Allowed output result old new p q = inl (output, p, q)

-- the run was halted before
pub halts_in : (Allowed : Output → Type 0) (halt : Halt) (a : Option (List ℕ)) → EndsIn Allowed (Err halt) a a
halts_in Allowed halt a = inr refl

pub fails : (style : Style) (net : Net) → Rose net.before net.now → Fails style net (refused style net_fault)
fails style net rose = record { rose = rose; line = refl }

-- what was said, where it is allowed
said_in : (Allowed : Output → Type 0) (said : Option Output) (result : Result Ending Halt) (old new : Option (List ℕ)) → ((output : Output) → said ≡ Some output → Allowed output) → Says said result old new → EndsIn Allowed result old new
said_in Allowed None result old new law p = inr p
said_in Allowed (Some output) result old new law p = inl (output, law output refl, p)

-- ---- a fetch

pub fetch_fails : (to : List ℕ) (id : HashId) (net : Net) (result : Result Ending Halt) (old new : Option (List ℕ)) → Rose net.before net.now → Ends (refused Records net_fault) result old new → EndsIn (FetchAllows to id net) result old new
fetch_fails to id net result old new rose p = ends_in (FetchAllows to id net) (refused Records net_fault) result old new (inl (fails Records net rose)) p

pub fetch_says : (to : List ℕ) (id : HashId) (net : Net) (came : Result (List Fetched) FetchFault) (result : Result Ending Halt) (old new : Option (List ℕ)) → FetchCame to id net came → Says (fetch_output came) result old new → EndsIn (FetchAllows to id net) result old new
fetch_says to id net came result old new p q = said_in (FetchAllows to id net) (fetch_output came) result old new (λ output said. inr (record { result = came; came = p; said = said })) q

-- ---- a push

module _ (name : List ℕ → List ℕ) (to : List ℕ) (objects : List Fetched) (net : Net) (result : Result Ending Halt) (old new : Option (List ℕ)) where
  pub push_fails : Rose net.before net.now → Ends (refused Lines net_fault) result old new → EndsIn (PushAllows name to objects net) result old new
  push_fails rose p = ends_in (PushAllows name to objects net) (refused Lines net_fault) result old new (inl (fails Lines net rose)) p

  pub push_says : (came : Result (List Told) PushFault) → PushCame name to objects net came → Says (push_output came) result old new → EndsIn (PushAllows name to objects net) result old new
  push_says came p q = said_in (PushAllows name to objects net) (push_output came) result old new (λ output said. inr (record { result = came; came = p; said = said })) q

-- ---- behind a bundle

abbrev told_by : Option (List ℕ) → Option (Result Texts Refusal)
told_by left = option_map (λ octets. opened (bundle octets)) left

pool_told : (told : Option (Result Texts Refusal)) (pool : Texts) → ComesTold {X = Texts} told (λ p. p) (Ok pool) → IsToldAs told (Ok pool)
pool_told None pool p = tt
pool_told (Some said) pool p = p

refusal_told : (told : Option (Result Texts Refusal)) (r : Refused) → ComesTold {X = Texts} told (λ p. p) (Err (stops.Refused r)) → IsToldAs told (Err (refusal r))
refusal_told None r p = tt
refusal_told (Some said) r p = p

-- what is allowed of the pool of the bundle was written
pub behind_pool : (left : Option (List ℕ)) (Allowed : Texts → Output → Type 0) (pool : Texts) (result : Result Ending Halt) (old new : Option (List ℕ)) → ComesTold {X = Texts} (told_by left) (λ p. p) (Ok pool) → EndsIn (Allowed pool) result old new → EndsIn (Behind left Allowed) result old new
behind_pool left Allowed pool result old new p q = elim q [
  | inl came ↦ inl (came.0, (Ok pool, pool_told (told_by left) pool p, came.1), came.2)
  | inr before ↦ inr before
]

halted_before : (halt : Halt) (result : Result Ending Halt) (old new : Option (List ℕ)) → result ≡ Err halt → new ≡ old → HaltsBefore result old new
halted_before halt result old new p q = rw p q

-- the bundle was refused, or the run was halted
pub behind_stop : (left : Option (List ℕ)) (Allowed : Texts → Output → Type 0) (stop : Stop) (result : Result Ending Halt) (old new : Option (List ℕ)) → ComesTold {X = Texts} (told_by left) (λ p. p) (Err stop) → StopsFront stop → Concludes Lines stop result old new → EndsIn (Behind left Allowed) result old new
behind_stop left Allowed (stops.Refused r) result old new p cause q = inl (refused Lines (refusal r), (Err (refusal r), refusal_told (told_by left) r p, (cause, refl)), q)
behind_stop left Allowed (stops.Halted halt) result old new p cause q = inr (halted_before halt result old new q.0 q.1)
