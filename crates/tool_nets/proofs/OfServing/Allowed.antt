-- What may be written of a pool, and of a bundle.
use Rattle.std.proofs.Common.{◌≡◌, ℕ, ◌*◌, List, None, Some, Result, Ok, Err, inl, inr, refl, sym, ap, ◌∙◌, subst}
use Rattle.std.specs.Prelude.{Option, IfOk, OnOk, IsErrOf}
use Rattle.std.specs.List.{Contains}
use Rattle.std.specs.Option.{option_map}
use Rattle.xt_io.specs.declared.NetFault.{NetFault}
use Rattle.xt_io.specs.declared.NetFault.TheVariants.{Failed, OutOfMemory}
use Rattle.xt_io.specs.Bundles.{bundle}
use Rattle.xt_io.specs.Outside.{Rose}
use Rattle.xt_io.specs.Links.{IsToldAs}
use Rattle.type_trees.specs.declared.types.HashId.{HashId}
use Rattle.type_object.specs.Pools.{Texts}
use Rattle.type_registry.specs.Held as cells
use Rattle.type_registry.specs.Found.{Found}
use Rattle.type_registry.specs.Passed.{Occupied, IsFull}
use Rattle.tool_runs.specs.declared.output.ending.Ending.{Ending}
use Rattle.tool_runs.specs.declared.output.ending.Style.TheVariants.{Lines}
use Rattle.tool_runs.specs.declared.output.halt.Halt.{Halt}
use Rattle.tool_runs.specs.declared.output.stop.Stop.{Stop}
use Rattle.tool_runs.specs.declared.output.stop.Stop.TheVariants as stops
use Rattle.tool_runs.specs.output.Outputs.{Output, refused}
use Rattle.tool_runs.specs.output.Runs.{ComesTold, refusal}
use Rattle.tool_runs.specs.Stopping.{Concludes}
use Rattle.tool_nets.specs.Nets.{Net, EndsIn}
use Rattle.tool_nets.specs.Opened.{Behind, StopsFront, opened}
use Rattle.tool_nets.specs.declared.serving.registering.Unregistered.TheVariants.{Clash, Full}
use Rattle.tool_nets.specs.serving.Lines.{clash_output, full_output}
use Rattle.tool_nets.specs.serving.Registering.{IsUnregistered}
use Rattle.tool_nets.specs.serving.Seats.{IsSaid}
use Rattle.tool_nets.specs.serving.Serving.{DoorsHeld, ServeAllows}

module _ (name : List ℕ → List ℕ) (to : List ℕ) (workers turns : ℕ) (pool : Texts) (net : Net) where
  -- what came of serving
  pub served_allowed : (served : Result ℕ NetFault) (o : Output) → IfOk served (λ n. n ≡ workers * turns) → OnOk served (IsToldAs net.address to) → OnOk served (DoorsHeld name pool workers turns net.held) → (IsErrOf served Failed → Rose net.before net.now) → IsSaid served o
      → ServeAllows name to workers turns pool net o
  served_allowed (Ok n) o count address held fault said = inr (inr (inr (record {
    address = address;
    held = held;
    said = rw (← count) said;
  })))
  served_allowed (Err Failed) o count address held fault said = inr (inr (inl (record { rose = fault refl; line = said })))
  served_allowed (Err OutOfMemory) o count address held fault said = absurd said

  -- other octets stand under an identifier
  pub clash_allowed : (f : Found) → IsUnregistered pool (Clash f) → cells.IsNamed name (cells.held f.id f.octets) → ServeAllows name to workers turns pool net (clash_output f.id f.octets)
  clash_allowed f was named =
      let (entry, is_in, why) = was in
      let (is, differ) = why in
      inl (record {
        id = f.id;
        octets = entry.1;
        others = f.octets;
        in_pool = subst (λ (x : HashId). Contains pool (x, entry.1)) (sym is) is_in;
        named = named;
        differ = differ;
        said = refl;
      })

  -- all cells hold others
  pub full_allowed : (id : HashId) (trail : Occupied) → IsUnregistered pool (Full id trail) → IsFull name trail → ServeAllows name to workers turns pool net (full_output id trail.held)
  full_allowed id trail was full =
      let (entry, is_in, why) = was in
      let (is, own) = why in
      inr (inl (record {
        octets = entry.1;
        occupied = trail;
        in_pool = subst (λ (x : HashId). Contains pool (x, entry.1)) (sym own) is_in;
        full = full;
        said = ap (λ (x : HashId). full_output x trail.held) (is ∙ sym own);
      }))

-- ---- a bundle

-- it was refused, or the run was halted
pub bundle_stopped : (told : Option (List ℕ)) (Allowed : Texts → Output → Type 0) (stop : Stop) (result : Result Ending Halt) (old new : Option (List ℕ)) → ComesTold {X = Texts} (option_map (λ octets. opened (bundle octets)) told) (λ pool. pool) (Err stop) → StopsFront stop → Concludes Lines stop result old new
    → EndsIn (Behind told Allowed) result old new
bundle_stopped None Allowed (stops.Refused r) result old new comes front ends = inl (refused Lines (refusal r), (Err (refusal r), tt, (front, refl)), ends)
bundle_stopped (Some octets) Allowed (stops.Refused r) result old new comes front ends = inl (refused Lines (refusal r), (Err (refusal r), comes, (front, refl)), ends)
bundle_stopped told Allowed (stops.Halted halt) result old new comes front ends = inr (rw ends.0 ends.1)

-- it came to a pool
pub bundle_opened : (told : Option (List ℕ)) (Allowed : Texts → Output → Type 0) (pool : Texts) (o : Output) → ComesTold {X = Texts} (option_map (λ octets. opened (bundle octets)) told) (λ pool. pool) (Ok pool) → Allowed pool o → Behind told Allowed o
bundle_opened None Allowed pool o comes allowed = (Ok pool, tt, allowed)
bundle_opened (Some octets) Allowed pool o comes allowed = (Ok pool, comes, allowed)
