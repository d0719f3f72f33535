-- How the top call tells how a run over a net ended.
use Rattle.std.proofs.Common.{◌≡◌, ℕ, List, inl, inr, refl, sym, ap, ◌∙◌, subst, Result, Ok, Err, Some, None}
use Rattle.std.specs.declared.option.Option.{Option}
use Rattle.std.specs.Io.KnownBytes.{Appends}
use Rattle.xt_io.specs.Outside.{Rose, AppendsPrefix}
use Rattle.tool_runs.specs.declared.output.ending.Cause.{Cause}
use Rattle.tool_runs.specs.declared.output.ending.Cause.TheVariants as causes
use Rattle.tool_runs.specs.declared.output.ending.Ending.{Ending}
use Rattle.tool_runs.specs.declared.output.ending.Ending.TheVariants as endings
use Rattle.tool_runs.specs.declared.output.halt.Halt.TheVariants as halts
use Rattle.tool_runs.specs.output.Outputs.{Output, Refusal}
use Rattle.type_object.specs.Names.{hash_of}
use Rattle.type_object.specs.Pools.{Texts}
use Rattle.type_trees.specs.declared.types.HashId.{HashId}
use Rattle.type_lookup.specs.declared.messages.messages.Fetched.{Fetched}
use Rattle.lookup_fetch.specs.declared.faults.FetchFault.{FetchFault}
use Rattle.lookup_fetch.specs.declared.faults.FetchFault.TheVariants as fetch
use Rattle.type_mirror.specs.declared.told.told.Told.{Told}
use Rattle.type_mirror.specs.declared.told.told.PushFault.{PushFault}
use Rattle.type_mirror.specs.declared.told.told.PushFault.TheVariants as push
use Rattle.tool_words.specs.Words as words
use Rattle.tool_words.specs.Words.{NetCommand}
use Rattle.tool_nets.specs.Nets.{Net, EndsIn}
use Rattle.tool_nets.specs.Opened.{AllowedOf, IsFrontCause}
use Rattle.tool_nets.specs.clients.Lines.{fetch_output, push_output}
use Rattle.tool_nets.specs.clients.Clients.{FetchAllows, PushAllows, objects_in}
use Rattle.tool_nets.specs.serving.Serving.{ServeAllows}
use Rattle.tool_runs.specs.declared.output.status.Status.{Status}
use Rattle.tool_runs.specs.declared.output.status.Status.TheVariants as statuses
use Rattle.xt_tool.specs.Nets.{Allowed, WritesIn}
use Rattle.tool_runs.specs.output.Statuses.{status_of}
use Rattle.xt_tool.proofs.Tops as tops

-- ---- what was written

pub ends : (Allows : Output → Type 0) (last : List ℕ) (ending : Ending) (status : Status) (Rises : Type 0) (old new : Option (List ℕ)) → EndsIn Allows (Ok ending) old new → status ≡ status_of ending → WritesIn Allows last status Rises old new
ends Allows last ending status Rises old new (inl (output, allowed, ended)) e = inl (output, allowed, tops.ends (λ octets. output) (Some last) last ending status Rises old new ended e)
ends Allows last ending status Rises old new (inr before) e = absurd before

-- the sink failed
pub halts_in : (Allows : Output → Type 0) (last : List ℕ) (Rises : Type 0) (old new : Option (List ℕ)) → EndsIn Allows (Err halts.WriteFault) old new → WritesIn Allows last statuses.WriteFault Rises old new
halts_in Allows last Rises old new (inl (output, allowed, part)) = inl (output, allowed, inl part)
halts_in Allows last Rises old new (inr before) = inr (inl before)

-- memory was wanting
pub wants_in : (Allows : Output → Type 0) (last : List ℕ) (Rises : Type 0) (old new : Option (List ℕ)) → EndsIn Allows (Err halts.OutOfMemory) old new → WritesIn Allows last statuses.OutOfMemory Rises old new
wants_in Allows last Rises old new (inl (output, allowed, part)) = inl (output, allowed, part)
wants_in Allows last Rises old new (inr before) = inr before

-- the source failed, and the last line says so
pub tells : (Allows : Output → Type 0) (last : List ℕ) (Rises : Type 0) (old mid new : Option (List ℕ)) → EndsIn Allows (Err halts.ReadFault) old mid → Appends mid new last → WritesIn Allows last statuses.ReadFault Rises old new
tells Allows last Rises old mid new (inl (output, allowed, part)) q = inl (output, allowed, tops.tells (λ octets. output) (Some last) last Rises old mid new part q)
tells Allows last Rises old mid new (inr before) q = inr (subst (λ (o : Option (List ℕ)). Appends o new last) before q)

-- and then the sink
pub tells_part : (Allows : Output → Type 0) (last : List ℕ) (Rises : Type 0) (old mid new : Option (List ℕ)) → EndsIn Allows (Err halts.ReadFault) old mid → AppendsPrefix mid new last → Rises → WritesIn Allows last statuses.WriteFault Rises old new
tells_part Allows last Rises old mid new (inl (output, allowed, part)) q rises = inl (output, allowed, tops.tells_part (λ octets. output) (Some last) last Rises old mid new part q rises)
tells_part Allows last Rises old mid new (inr before) q rises = inr (inr (rises, subst (λ (o : Option (List ℕ)). AppendsPrefix o new last) before q))

-- ---- net-fault only where the net failed

-- only a refusal for the net has this status
net_cause : (ending : Ending) → status_of ending ≡ statuses.NetFault → ending ≡ endings.Refused causes.NetFault
net_cause endings.Done e = absurd cc
net_cause (endings.Refused causes.No) e = absurd cc
net_cause (endings.Refused causes.Words) e = absurd cc
net_cause (endings.Refused causes.Bundle) e = absurd cc
net_cause (endings.Refused causes.Types) e = absurd cc
net_cause (endings.Refused causes.NoName) e = absurd cc
net_cause (endings.Refused causes.NetFault) e = refl
net_cause (endings.Refused causes.Json) e = absurd cc
net_cause (endings.Refused causes.Fetch) e = absurd cc
net_cause (endings.Refused causes.Limit) e = absurd cc

abbrev ending_in : Option Output → Ending
ending_in None = endings.Done
ending_in (Some output) = output.ending

fetch_failed : (result : Result (List Fetched) FetchFault) → ending_in (fetch_output result) ≡ endings.Refused causes.NetFault → result ≡ Err fetch.LinkFault
fetch_failed (Ok objects) e = absurd cc
fetch_failed (Err fetch.LinkFault) e = refl
fetch_failed (Err fetch.BadReply) e = absurd cc
fetch_failed (Err (fetch.WrongHash id other)) e = absurd cc
fetch_failed (Err (fetch.NotServed id)) e = absurd cc
fetch_failed (Err fetch.TooMany) e = absurd cc
fetch_failed (Err fetch.OutOfMemory) e = absurd cc

push_failed : (result : Result (List Told) PushFault) → ending_in (push_output result) ≡ endings.Refused causes.NetFault → result ≡ Err push.LinkFault
push_failed (Ok told) e = absurd cc
push_failed (Err push.LinkFault) e = refl
push_failed (Err push.BadReply) e = absurd cc
push_failed (Err push.OutOfMemory) e = absurd cc

abbrev IsNet : Output → Type 0
IsNet output = output.ending ≡ endings.Refused causes.NetFault

fetch_rose : (to : List ℕ) (id : HashId) (net : Net) (output : Output) → FetchAllows to id net output → IsNet output → Rose net.before net.now
fetch_rose to id net output (inl fails) is = fails.rose
fetch_rose to id net output (inr said) is = said.came.failed (fetch_failed said.result (ap ending_in said.said ∙ is))

push_rose : (to : List ℕ) (objects : List Fetched) (net : Net) (output : Output) → PushAllows hash_of to objects net output → IsNet output → Rose net.before net.now
push_rose to objects net output (inl fails) is = fails.rose
push_rose to objects net output (inr said) is = said.came.failed (push_failed said.result (ap ending_in said.said ∙ is))

serve_rose : (to : List ℕ) (workers turns : ℕ) (pool : Texts) (net : Net) (output : Output) → ServeAllows hash_of to workers turns pool net output → IsNet output → Rose net.before net.now
serve_rose to workers turns pool net output (inl clash) is = absurd (other (sym (ap (λ (o : Output). o.ending) clash.said) ∙ is))
  where
    other : endings.Refused causes.Types ≡ endings.Refused causes.NetFault → ⊥
    other e = cc
serve_rose to workers turns pool net output (inr (inl full)) is = absurd (other (sym (ap (λ (o : Output). o.ending) full.said) ∙ is))
  where
    other : endings.Refused causes.Types ≡ endings.Refused causes.NetFault → ⊥
    other e = cc
serve_rose to workers turns pool net output (inr (inr (inl fails))) is = fails.rose
serve_rose to workers turns pool net output (inr (inr (inr said))) is = absurd (other (sym (ap (λ (o : Output). o.ending) said.said) ∙ is))
  where
    other : endings.Done ≡ endings.Refused causes.NetFault → ⊥
    other e = cc

front_cause : (cause : Cause) → IsFrontCause cause → endings.Refused cause ≡ endings.Refused causes.NetFault → ⊥
front_cause cause (inl is) e = bundle (subst (λ (c : Cause). endings.Refused c ≡ endings.Refused causes.NetFault) is e)
  where
    bundle : endings.Refused causes.Bundle ≡ endings.Refused causes.NetFault → ⊥
    bundle e = cc
front_cause cause (inr is) e = types (subst (λ (c : Cause). endings.Refused c ≡ endings.Refused causes.NetFault) is e)
  where
    types : endings.Refused causes.Types ≡ endings.Refused causes.NetFault → ⊥
    types e = cc

behind_rose : (came : Result Texts Refusal) (Allows : Texts → Output → Type 0) (Rises : Type 0) (output : Output) → AllowedOf came Allows output → ((pool : Texts) → Allows pool output → IsNet output → Rises) → IsNet output → Rises
behind_rose (Ok pool) Allows Rises output allowed rose is = rose pool allowed is
behind_rose (Err refusal) Allows Rises output allowed rose is = absurd (front_cause refusal.cause allowed.0 (sym (ap (λ (o : Output). o.ending) allowed.1) ∙ is))

allowed_rose : (asked : NetCommand) (told : Option (List ℕ)) (net : Net) (output : Output) → Allowed asked told net output → IsNet output → Rose net.before net.now
allowed_rose (words.serve to workers turns) told net output (came, is_told, allowed) is =
    behind_rose came (λ pool. ServeAllows hash_of to workers turns pool net) (Rose net.before net.now) output allowed (λ pool. serve_rose to workers turns pool net output) is
allowed_rose (words.fetch to id) told net output allowed is = fetch_rose to id net output allowed is
allowed_rose (words.mirror to) told net output (came, is_told, allowed) is =
    behind_rose came (λ pool. PushAllows hash_of to (objects_in pool) net) (Rose net.before net.now) output allowed (λ pool. push_rose to (objects_in pool) net output) is

pub net_failed : (asked : NetCommand) (told : Option (List ℕ)) (net : Net) (ending : Ending) (status : Status) (old new : Option (List ℕ)) → EndsIn (Allowed asked told net) (Ok ending) old new → status ≡ status_of ending → status ≡ statuses.NetFault → Rose net.before net.now
net_failed asked told net ending status old new (inl (output, allowed, ended)) is fault = allowed_rose asked told net output allowed (sym ended.ending ∙ net_cause ending (sym is ∙ fault))
net_failed asked told net ending status old new (inr before) is fault = absurd before
