-- A request and its reply over a link.
use Rattle.std.proofs.Common.{◌≡◌, ℕ, ◌≤◌, List, [], ◌++◌, Option, Result, refl, sym, ap, subst, ◌∙◌, append-nil}
use Rattle.std.specs.Prelude.{None, Some, Ok, Err}
use Rattle.std.specs.Io.KnownBytes.{append_known, IsAtEnd}
use Rattle.type_lookup.specs.declared.messages.messages.Message.{Message}
use Rattle.type_lookup.specs.messages.Spelling.{frame_of}
use Rattle.type_lookup.specs.declared.faults.FrameFault.{FrameFault}
use Rattle.type_lookup.specs.declared.faults.FrameFault.TheVariants as frame
use Rattle.type_lookup.specs.Causes.{IsOutside}
use Rattle.type_lookup.specs.Frames.{Front, no_frame, broken, front, Took, Answers, ReadsFrame}
use Rattle.type_lookup.proofs.Taking.{took-none, appended-none}
use Rattle.lookup_fetch.specs.declared.faults.FetchFault.{FetchFault}
use Rattle.lookup_fetch.specs.declared.faults.FetchFault.TheVariants.{LinkFault, BadReply, OutOfMemory}
use Rattle.lookup_fetch.specs.FrameFaults.{fault_by}
use Rattle.lookup_fetch.specs.Fetches.{IsPrefix, IsNoFront, Passed}
use Rattle.lookup_fetch.specs.Steps.{Exchanges, ExchangesOver}

front-of-none : front [] ≡ no_frame
unfolding front
front-of-none = refl

all_sent : (octets : List ℕ) → IsPrefix octets octets
all_sent octets = ([], sym (append-nil octets))

-- some of the request was sent, and nothing was read
unsent : (request : Message) (sent : List ℕ) (left : Option (List ℕ)) (fault : FrameFault) → IsOutside fault → IsPrefix sent (frame_of request) → Exchanges request [] sent left (Err (fault_by fault))
unsent request sent left frame.LinkFault outside p = p
unsent request sent left frame.Truncated outside p = absurd outside
unsent request sent left (frame.TooLong n) outside p = absurd outside
unsent request sent left (frame.BadMessage at) outside p = absurd outside
unsent request sent left frame.OutOfMemory outside p = p

pub not_sent : (request : Message) (g h l m t u : Option (List ℕ)) (fault : FrameFault) → h ≡ g → m ≡ l → ((some rest : List ℕ) × (frame_of request ≡ some ++ rest) × (u ≡ append_known t some)) → IsOutside fault → ExchangesOver request g h l m t u (Err (fault_by fault))
not_sent request g h l m t u fault same_got same_left p outside = record {
  octets = [];
  sent = p.0;
  passed = record { took = (same_got ∙ appended-none g, sym same_left ∙ (took-none m m).1); gave = p.3 };
  exchanges = unsent request p.0 m fault outside (p.1, p.2);
}

-- the request was sent, and what was read is no frame
unread : (request : Message) (octets : List ℕ) (left : Option (List ℕ)) (fault : FrameFault) → Answers octets left (Err fault) → Exchanges request octets (frame_of request) left (Err (fault_by fault))
unread request octets left frame.LinkFault h = all_sent (frame_of request)
unread request octets left frame.Truncated h = (refl, subst (λ (f : Front). IsNoFront octets f (IsAtEnd left)) (sym h.0) h.1)
unread request octets left (frame.TooLong n) h = (refl, subst (λ (f : Front). IsNoFront octets f (IsAtEnd left)) (sym h.0) h.1)
unread request octets left (frame.BadMessage at) h = (refl, subst (λ (f : Front). IsNoFront octets f (IsAtEnd left)) (sym h.0) h.1)
unread request octets left frame.OutOfMemory h = all_sent (frame_of request)

module _ (request : Message) (g g' h l l' m t u v : Option (List ℕ)) (same_got : g' ≡ g) (same_left : l' ≡ l) (whole : u ≡ append_known t (frame_of request)) (same_taken : v ≡ u) where
  both : (octets : List ℕ) → Took g' h l' m octets → Passed g h l m t v octets (frame_of request)
  both octets read = record { took = (read.0 ∙ ap (λ (o : Option (List ℕ)). append_known o octets) same_got, sym same_left ∙ read.1); gave = same_taken ∙ whole }

  pub not_read : (fault : FrameFault) → ReadsFrame g' h l' m (Err fault) → ExchangesOver request g h l m t v (Err (fault_by fault))
  not_read fault p = record { octets = p.0; sent = frame_of request; passed = both p.0 p.1; exchanges = unread request p.0 m fault p.2 }

  pub nothing_came : ReadsFrame g' h l' m (Ok None) → ExchangesOver request g h l m t v (Err BadReply)
  nothing_came p = record {
    octets = p.0;
    sent = frame_of request;
    passed = both p.0 p.1;
    exchanges = (refl, subst (λ (f : Front). IsNoFront p.0 f (IsAtEnd m)) (sym (ap front p.2.0 ∙ front-of-none)) p.2.1);
  }

  pub came : (reply : Message) → ReadsFrame g' h l' m (Ok (Some reply)) → ExchangesOver request g h l m t v (Ok reply)
  came reply p = record { octets = p.0; sent = frame_of request; passed = both p.0 p.1; exchanges = (refl, p.2.0) }
