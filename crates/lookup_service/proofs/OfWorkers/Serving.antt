-- What a door holds of a worker's sessions, one turn after another.
use Rattle.std.proofs.Common.{◌≡◌, ◌≢◌, ℕ, ◌+◌, ◌≤◌, Bool, List, [], ◌∷◌, ◌++◌, true, false, length, Option, refl, sym, ap, subst, ◌∙◌, append-nil, append_assoc, length-append, arith}
use Rattle.std.specs.Prelude.{None, Some, Ok, Err, is_ok}
use Rattle.xt_io.specs.Outside.{Rose}
use Rattle.xt_io.specs.Links.{Held, held_of, AppendsEntry, HasNetCause, IsNewLink}
use Rattle.xt_io.specs.declared.NetFault.{NetFault}
use Rattle.xt_io.specs.declared.NetFault.TheVariants as net
use Rattle.type_registry.specs.Passed.{PassView, IsPass}
use Rattle.lookup_service.specs.declared.ended.Ended.{Ended}
use Rattle.lookup_service.specs.declared.ended.Ended.TheVariants.{OutOfMemory}
use Rattle.lookup_service.specs.Sessions.{SessionOver, HasSessionCause}
use Rattle.lookup_service.proofs.OfChains.Chaining.{session_entry, chain_more, chain_less}
use Rattle.lookup_service.specs.workers.Outcomes.{answer_of}
use Rattle.lookup_service.specs.workers.Served.{HasServeCause, HoldsTurns, IsCounted, IsServed}

counted_as : (good then : Bool) (turns : ℕ) (entries : List Held) → (then ≡ true → good ≡ true) → IsCounted good turns entries → IsCounted then turns entries
counted_as true true turns entries worse c = c
counted_as true false turns entries worse c = omega (arith, c)
counted_as false true turns entries worse c = absurd (cc (worse refl))
counted_as false false turns entries worse c = c

counted_early : (good : Bool) (i turns : ℕ) (entries : List Held) → i ≤ turns → IsCounted good i entries → IsCounted false turns entries
counted_early true i turns entries le c = omega (arith, c, le)
counted_early false i turns entries le c = omega (arith, c, le)

counted_more : (good : Bool) (i : ℕ) (entries : List Held) (entry : Held) → IsCounted good i entries → IsCounted good (i + 1) (entries ++ entry ∷ [])
counted_more true i entries entry c = omega (arith, length-append entries (entry ∷ []), c)
counted_more false i entries entry c = omega (arith, length-append entries (entry ∷ []), c)

false_not : (good : Bool) → false ≡ true → good ≡ true
false_not good e = absurd (cc)

-- no turn yet
pub served_none : (name : List ℕ → List ℕ) (s : PassView) (before : Option (List Held)) → IsServed name true 0 s s before before
served_none name s None = tt
served_none name s (Some all) = record { old = all; entries = []; was = refl; now = sym (append-nil all); chain = refl; count = refl }

-- what was served so far, where it may be no longer good
pub served_as : (name : List ℕ → List ℕ) (good then : Bool) (i : ℕ) (s t : PassView) (before held : Option (List Held)) → (then ≡ true → good ≡ true) → IsServed name good i s t before held → IsServed name then i s t before held
served_as name good then i s t before None worse is = tt
served_as name good then i s t before (Some all) worse is = record {
  old = is.old;
  entries = is.entries;
  was = is.was;
  now = is.now;
  chain = chain_less name good then s t is.entries worse is.chain;
  count = counted_as good then i is.entries worse is.count;
}

served_early : (name : List ℕ → List ℕ) (good : Bool) (i turns : ℕ) (s t : PassView) (before held : Option (List Held)) → i ≤ turns → IsServed name good i s t before held → IsServed name false turns s t before held
served_early name good i turns s t before None le is = tt
served_early name good i turns s t before (Some all) le is = record {
  old = is.old;
  entries = is.entries;
  was = is.was;
  now = is.now;
  chain = chain_less name good false s t is.entries (false_not good) is.chain;
  count = counted_early good i turns is.entries le is.count;
}

-- a link was refused before the last turn
pub served_refused : (name : List ℕ → List ℕ) (good : Bool) (i turns : ℕ) (s t : PassView) (before held kept : Option (List Held)) (fault : NetFault) → kept ≡ held → i ≤ turns → IsServed name good i s t before held → IsServed name (is_ok (answer_of (Err fault))) turns s t before kept
served_refused name good i turns s t before held kept net.Failed same le is = subst (IsServed name false turns s t before) (sym same) (served_early name good i turns s t before held le is)
served_refused name good i turns s t before held kept net.OutOfMemory same le is = subst (IsServed name false turns s t before) (sym same) (served_early name good i turns s t before held le is)

-- there is no turn more
pub served_all : (name : List ℕ → List ℕ) (sufficed : Bool) (i turns : ℕ) (s t : PassView) (before held : Option (List Held)) → i ≡ turns → IsServed name sufficed i s t before held → IsServed name (is_ok (answer_of (Ok sufficed))) turns s t before held
served_all name true i turns s t before held all is = subst (λ (n : ℕ). IsServed name true n s t before held) all is
served_all name false i turns s t before held all is = subst (λ (n : ℕ). IsServed name false n s t before held) all is

served_more : (name : List ℕ → List ℕ) (good : Bool) (i : ℕ) (s t u : PassView) (before held now : Option (List Held)) (gb gn lb ln tb tn : Option (List ℕ)) (none faults : ℕ) (end : Ended) → IsPass name t → IsNewLink gb tb none → (good ≡ true → end ≢ OutOfMemory)
    → SessionOver name t u gb gn lb ln tb tn end → HasSessionCause none faults end → AppendsEntry held (held_of gn tn ln faults) now → IsServed name good i s t before held → IsServed name good (i + 1) s u before now
served_more name good i s t u before held None gb gn lb ln tb tn none faults end sound new m session cause put is = tt
served_more name good i s t u before held (Some all) gb gn lb ln tb tn none faults end sound new m session cause put is =
    let seen : IsServed name good i s t before (Some put.0) = subst (IsServed name good i s t before) put.2 is in
    let entry = session_entry name good t u gb gn lb ln tb tn none faults end put.1 sound new m session cause put.3 in
    record {
      old = seen.old;
      entries = seen.entries ++ put.1 ∷ [];
      was = seen.was;
      now = put.4 ∙ ap (λ (l : List Held). l ++ put.1 ∷ []) seen.now ∙ append_assoc seen.old seen.entries (put.1 ∷ []);
      chain = chain_more name good s t u seen.entries put.1 seen.chain entry;
      count = counted_more good i seen.entries put.1 seen.count;
    }

-- one turn more: a session over a new link, which the door holds then
pub served_turn : (name : List ℕ → List ℕ) (good then : Bool) (i : ℕ) (s t u : PassView) (before held kept now : Option (List Held)) (gb gn lb ln tb tn : Option (List ℕ)) (none faults : ℕ) (end : Ended) → (then ≡ true → good ≡ true) → (then ≡ true → end ≢ OutOfMemory) → kept ≡ held
    → IsPass name t → IsNewLink gb tb none → SessionOver name t u gb gn lb ln tb tn end → HasSessionCause none faults end → AppendsEntry kept (held_of gn tn ln faults) now → IsServed name good i s t before held → IsServed name then (i + 1) s u before now
served_turn name good then i s t u before held kept now gb gn lb ln tb tn none faults end worse m same sound new session cause put is =
    served_more name then i s t u before kept now gb gn lb ln tb tn none faults end sound new m session cause put
    (subst (IsServed name then i s t before) (sym same) (served_as name good then i s t before held worse is))

-- the entries of no turn yet, and of one more
pub holds_none : (before : Option (List Held)) → HoldsTurns 0 before before
holds_none None = tt
holds_none (Some all) = (all, refl, omega arith)

pub holds_turn : (i : ℕ) (before held kept now : Option (List Held)) (entry : Option Held) → kept ≡ held → AppendsEntry kept entry now → HoldsTurns i before held → HoldsTurns (i + 1) before now
holds_turn i before held kept None entry same put is = tt
holds_turn i before held kept (Some all) entry same put is =
    let seen : HoldsTurns i before (Some put.0) = subst (HoldsTurns i before) (sym same ∙ put.2) is in
    (seen.0, seen.1, omega (arith, ap length put.4, length-append put.0 (put.1 ∷ []), seen.2))

-- what rose since rose in the whole
rose_later : (before between now : ℕ) → before ≤ between → Rose between now → Rose before now
rose_later before between now later rose = omega (arith, later, rose)

pub cause_refused : {T : Type 0} (before between now : ℕ) (fault : NetFault) → before ≤ between → HasNetCause {T = T} between now (Err fault) → HasServeCause before now (answer_of (Err fault))
cause_refused before between now net.Failed later cause = record { later = omega (arith, later, cause.later); failed = λ e. rose_later before between now later (cause.failed refl) }
cause_refused before between now net.OutOfMemory later cause = record { later = omega (arith, later, cause.later); failed = λ e. absurd (cc e) }

pub cause_all : (before now : ℕ) (sufficed : Bool) → before ≤ now → HasServeCause before now (answer_of (Ok sufficed))
cause_all before now true later = record { later = later; failed = λ e. absurd (cc e) }
cause_all before now false later = record { later = later; failed = λ e. absurd (cc e) }
