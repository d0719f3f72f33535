-- Entries, one session after another.
use Rattle.std.proofs.Common.{◌≡◌, ◌≢◌, ℕ, Bool, List, [], ◌∷◌, ◌++◌, true, Option, refl, sym, ap, subst, ◌∙◌, append-nil, append_assoc}
use Rattle.std.specs.Prelude.{None, Some}
use Rattle.std.specs.Io.KnownBytes.{append_known}
use Rattle.xt_io.specs.Links.{Held, held_of, is_nothing, IsNewLink, IsToldEmpty}
use Rattle.type_registry.specs.Passed.{PassView, IsPass}
use Rattle.lookup_service.specs.declared.ended.Ended.{Ended}
use Rattle.lookup_service.specs.declared.ended.Ended.TheVariants.{OutOfMemory}
use Rattle.lookup_service.specs.Sessions.{Session, SessionOver, HasSessionCause}
use Rattle.lookup_service.specs.chains.Chains.{IsEntry, Chain, got_of, taken_of}

-- ---- the entry of a session

told_octets : (before now : Option (List ℕ)) (octets told : List ℕ) → IsToldEmpty before → now ≡ append_known before octets → now ≡ Some told → told ≡ octets
told_octets None now octets told empty e f = absurd (cc)
told_octets (Some old) now octets told empty e f = let same : Some told ≡ Some (old ++ octets) = sym f ∙ e in some_octets told (old ++ octets) same ∙ ap (λ (o : List ℕ). o ++ octets) empty
  where
    some_octets : (a b : List ℕ) → Some a ≡ Some b → a ≡ b
    some_octets a b h = cc

-- what a door holds of a session over a new link
pub session_entry : (name : List ℕ → List ℕ) (good : Bool) (first next : PassView) (gb gn lb ln tb tn : Option (List ℕ)) (none faults : ℕ) (end : Ended) (entry : Held) → IsPass name first → IsNewLink gb tb none → (good ≡ true → end ≢ OutOfMemory)
    → SessionOver name first next gb gn lb ln tb tn end → HasSessionCause none faults end → held_of gn tn ln faults ≡ Some entry → IsEntry name good first next entry
session_entry name good first next gb gn lb ln tb tn none faults end entry sound new m s cause is = by gn tn ln refl refl refl is
  where
    by : (g t l : Option (List ℕ)) → gn ≡ g → tn ≡ t → ln ≡ l → held_of g t l faults ≡ Some entry → IsEntry name good first next entry
    by None t l eg et el h = absurd (cc)
    by (Some g) None l eg et el h = absurd (cc)
    by (Some g) (Some t) None eg et el h = absurd (cc)
    by (Some g) (Some t) (Some l) eg et el h =
        let it : Held = record { got = g; taken = t; faults = faults; ended = is_nothing l } in
        let same : it ≡ entry = cc in
        let got : g ≡ s.octets = told_octets gb gn s.octets g new.got_none s.took.0 eg in
        let taken : t ≡ s.sent = told_octets tb tn s.sent t new.taken_none s.gave et in
        let one : Session name first next g s.sent ln end = subst (λ (o : List ℕ). Session name first next o s.sent ln end) (sym got) s.session in
        let two : Session name first next g t ln end = subst (λ (o : List ℕ). Session name first next g o ln end) (sym taken) one in
        let is : IsEntry name good first next it = record {
          sound = sound;
          ended = end;
          left = l;
          session = subst (λ (o : Option (List ℕ)). Session name first next g t o end) el two;
          at_end = refl;
          cause = subst (λ (n : ℕ). HasSessionCause n faults end) new.good cause;
          memory = m;
        } in
        subst (IsEntry name good first next) same is

-- ---- chains

pub chain_more : (name : List ℕ → List ℕ) (good : Bool) (s t u : PassView) (entries : List Held) (entry : Held) → Chain name good s entries t → IsEntry name good t u entry → Chain name good s (entries ++ entry ∷ []) u
chain_more name good s t u [] entry chain is = (u, subst (λ (p : PassView). IsEntry name good p u entry) chain is, refl)
chain_more name good s t u (e ∷ es) entry chain is = (chain.0, chain.1, chain_more name good chain.0 t u es entry chain.2 is)

pub got_more : (entries : List Held) (entry : Held) → got_of (entries ++ entry ∷ []) ≡ got_of entries ++ entry.got
got_more [] entry = append-nil entry.got
got_more (e ∷ es) entry = ap (λ o. e.got ++ o) (got_more es entry) ∙ sym (append_assoc e.got (got_of es) entry.got)

pub taken_more : (entries : List Held) (entry : Held) → taken_of (entries ++ entry ∷ []) ≡ taken_of entries ++ entry.taken
taken_more [] entry = append-nil entry.taken
taken_more (e ∷ es) entry = ap (λ o. e.taken ++ o) (taken_more es entry) ∙ sym (append_assoc e.taken (taken_of es) entry.taken)

-- where it isn't asked that all went well, less is said
pub entry_less : (name : List ℕ → List ℕ) (good then : Bool) (first next : PassView) (entry : Held) → (then ≡ true → good ≡ true) → IsEntry name good first next entry → IsEntry name then first next entry
entry_less name good then first next entry worse is = record {
  sound = is.sound;
  ended = is.ended;
  left = is.left;
  session = is.session;
  at_end = is.at_end;
  cause = is.cause;
  memory = λ e. is.memory (worse e);
}

pub chain_less : (name : List ℕ → List ℕ) (good then : Bool) (s t : PassView) (entries : List Held) → (then ≡ true → good ≡ true) → Chain name good s entries t → Chain name then s entries t
chain_less name good then s t [] worse chain = chain
chain_less name good then s t (e ∷ es) worse chain = (chain.0, entry_less name good then s chain.0 e worse chain.1, chain_less name good then chain.0 t es worse chain.2)
