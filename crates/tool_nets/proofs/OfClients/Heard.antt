-- What is told of a link that was new, and was given back.
use Rattle.std.proofs.Common.{◌≡◌, ℕ, ◌≤◌, ◌⊎◌, List, [], ◌∷◌, ◌++◌, Bool, true, None, Some, Result, IfOk, All, inl, inr, nat_lt, sym, ap, ◌∙◌, subst, arith}
use Rattle.std.proofs.lemmas.Bool.{lt-ltb}
use Rattle.std.specs.declared.option.Option.{Option}
use Rattle.std.specs.Io.KnownBytes.{append_known}
use Rattle.xt_io.specs.Outside.{Rose, RisesWhere}
use Rattle.xt_io.specs.Links.{Heard, IsHeardFrom, IsNewLink, IsToldAs, IsToldEmpty, heard_of}
use Rattle.type_trees.specs.declared.types.HashId.{HashId}
use Rattle.type_lookup.specs.declared.messages.messages.Fetched.{Fetched}
use Rattle.lookup_fetch.specs.declared.faults.FetchFault.{FetchFault}
use Rattle.lookup_fetch.specs.Fetches.{FetchesOver, HasFetchCause}
use Rattle.lookup_fetch.specs.Plans.{IsOwn}
use Rattle.type_mirror.specs.declared.told.told.Told.{Told}
use Rattle.type_mirror.specs.declared.told.told.PushFault.{PushFault}
use Rattle.type_mirror.specs.told.Pushes.{HasPushCause, PushesOver}
use Rattle.tool_nets.specs.Nets.{Net}
use Rattle.tool_nets.specs.clients.Clients.{FetchCame, PushCame}

-- ---- octets

-- all that is told of a direction is what went over the link
told_some : (before now : Option (List ℕ)) (octets : List ℕ) → IsToldEmpty before → now ≡ append_known before octets → (now ≡ None) ⊎ (now ≡ Some octets)
told_some None now octets p q = inl q
told_some (Some told) now octets p q = inr (q ∙ ap (λ (l : List ℕ). Some (l ++ octets)) p)

none_heard : (heard : Heard) (link : Option Heard) → link ≡ None → link ≡ Some heard → ⊥
none_heard heard link p q = let none : Option Heard = None in let apart : none ≡ Some heard = sym p ∙ q in cc

from_taken : (heard : Heard) (taken taken_now left : Option (List ℕ)) (octets sent : List ℕ) → IsToldEmpty taken → taken_now ≡ append_known taken sent → IsHeardFrom (Some heard) (heard_of (Some octets) taken_now left) → IsHeardFrom (Some heard) (heard_of (Some octets) (Some sent) left)
from_taken heard taken taken_now left octets sent empty gave is = elim (told_some taken taken_now sent empty gave) [
  | inl none ↦ absurd (none_heard heard (heard_of (Some octets) taken_now left) (ap (λ t. heard_of (Some octets) t left) none) is)
  | inr some ↦ subst (λ (t : Option (List ℕ)). IsHeardFrom (Some heard) (heard_of (Some octets) t left)) some is
]

-- where the net tells what it heard, it is what was got and sent
pub heard_over : (net : Option Heard) (got got_now taken taken_now left : Option (List ℕ)) (octets sent : List ℕ) → IsToldEmpty got → IsToldEmpty taken → got_now ≡ append_known got octets → taken_now ≡ append_known taken sent → IsHeardFrom net (heard_of got_now taken_now left)
    → IsHeardFrom net (heard_of (Some octets) (Some sent) left)
heard_over None got got_now taken taken_now left octets sent no_got no_taken took gave is = tt
heard_over (Some heard) got got_now taken taken_now left octets sent no_got no_taken took gave is = elim (told_some got got_now octets no_got took) [
  | inl none ↦ absurd (none_heard heard (heard_of got_now taken_now left) (ap (λ g. heard_of g taken_now left) none) is)
  | inr some ↦ from_taken heard taken taken_now left octets sent no_taken gave (subst (λ (g : Option (List ℕ)). IsHeardFrom (Some heard) (heard_of g taken_now left)) some is)
]

-- ---- faults

-- the net has failed where a new link has
pub net_rose : (before between now old count : ℕ) → before ≤ between → old ≡ 0 → Rose old count → RisesWhere (nat_lt 0 count) between now → Rose before now
net_rose before between now old count later good rose rises =
    let above : nat_lt 0 count ≡ true = lt-ltb 0 count (omega (arith, good, rose)) in
    let risen : Rose between now = subst (λ (b : Bool). RisesWhere b between now) above rises in
    omega (arith, later, risen)

-- ---- what was asked

-- it was on this address
pub told_on : (old new : Option (List ℕ)) (to : List ℕ) → IsToldAs old to → new ≡ old → IsToldAs new to
told_on old new to p e = rw e p

module _ (to : List ℕ) (net : Net) (between count count_now : ℕ) (got got_now left left_now taken taken_now : Option (List ℕ)) (new : IsNewLink got taken count) (later : net.before ≤ between) (address : IsToldAs net.address to)
    (heard : IsHeardFrom net.heard (heard_of got_now taken_now left_now)) (rises : RisesWhere (nat_lt 0 count_now) between net.now) where
  pub fetch_came : (id : HashId) (result : Result (List Fetched) FetchFault) → FetchesOver (id ∷ []) got got_now left left_now taken taken_now result → IfOk result (All IsOwn) → HasFetchCause count count_now result → FetchCame to id net result
  fetch_came id result over own cause = record {
    got = over.octets;
    sent = over.sent;
    left = left_now;
    fetches = over.fetches;
    own = own;
    over = record {
      address = address;
      heard = heard_over net.heard got got_now taken taken_now left_now over.octets over.sent new.got_none new.taken_none over.passed.took.0 over.passed.gave heard;
    };
    failed = λ is. net_rose net.before between net.now count count_now later new.good (cause.failed is) rises;
  }

  pub push_came : (name : List ℕ → List ℕ) (objects : List Fetched) (result : Result (List Told) PushFault) → PushesOver name objects got got_now left left_now taken taken_now result → HasPushCause count count_now result → PushCame name to objects net result
  push_came name objects result over cause = record {
    got = over.octets;
    sent = over.sent;
    left = left_now;
    pushes = over.pushes;
    over = record {
      address = address;
      heard = heard_over net.heard got got_now taken taken_now left_now over.octets over.sent new.got_none new.taken_none over.passed.took.0 over.passed.gave heard;
    };
    failed = λ is. net_rose net.before between net.now count count_now later new.good (cause.failed is) rises;
  }
