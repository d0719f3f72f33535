-- The rounds of a push, one after another.
use Rattle.std.proofs.Common.{◌≡◌, ℕ, ◌+◌, ◌≤◌, List, [], ◌∷◌, ◌++◌, length, Option, Result, refl, sym, ap, ap₂, subst, ◌∙◌, append_assoc, append-nil, length-append, arith}
use Rattle.std.specs.Prelude.{None, Some, Ok, Err}
use Rattle.type_lookup.specs.declared.messages.messages.Message.{Message}
use Rattle.type_lookup.specs.messages.Spelling.{frame_of}
use Rattle.type_lookup.specs.Sequences.{frames_of, AreFrames}
use Rattle.type_lookup.specs.declared.faults.FrameFault.{FrameFault}
use Rattle.type_lookup.specs.declared.faults.FrameFault.TheVariants as frame
use Rattle.lookup_fetch.specs.FrameFaults.{fault_by as fetch_fault_by}
use Rattle.lookup_fetch.specs.Fetches.{IsPrefix}
use Rattle.lookup_fetch.specs.Steps.{Exchanges, ExchangesOver}
use Rattle.lookup_fetch.proofs.Going.{passed_none, passed_more, frames-append, AreFrames-append}
use Rattle.type_mirror.specs.declared.told.told.Told.{Told}
use Rattle.type_mirror.specs.declared.told.told.PushFault.{PushFault}
use Rattle.type_mirror.specs.declared.told.told.PushFault.TheVariants.{LinkFault, BadReply, OutOfMemory}
use Rattle.type_mirror.specs.told.FrameFaults.{fault_by}
use Rattle.type_mirror.specs.told.Rounds.{State, request, answered, waits, Rounds, ends, asks, unless_bad, last_round, round, rounds}
use Rattle.type_mirror.specs.told.Pushes.{Answers, Pushes, PushesFrom}
use Rattle.type_mirror.specs.Steps.{as_fetch, Says, Going, GoingOver, GoesOver}

-- ---- faults

-- what is no frame is the same fault of a push as of a fetch
pub as_fault : (asked : Message) (g h l m t u : Option (List ℕ)) (fault : FrameFault) → ExchangesOver asked g h l m t u (Err (fetch_fault_by fault)) → ExchangesOver asked g h l m t u (as_fetch (Err (fault_by fault)))
as_fault asked g h l m t u frame.LinkFault x = x
as_fault asked g h l m t u frame.Truncated x = x
as_fault asked g h l m t u (frame.TooLong n) x = x
as_fault asked g h l m t u (frame.BadMessage at) x = x
as_fault asked g h l m t u frame.OutOfMemory x = x

-- ---- one round

one_sent : (sent frame : List ℕ) → sent ≡ frame → sent ≡ frame ++ []
one_sent sent frame e = e ∙ sym (append-nil frame)

prefix_alone : (sent frame : List ℕ) → IsPrefix sent frame → IsPrefix sent (frame ++ [])
prefix_alone sent frame p = (p.0, append-nil frame ∙ p.1)

prefix_whole : (sent frame : List ℕ) → sent ≡ frame → IsPrefix sent (frame ++ [])
prefix_whole sent frame e = ([], ap (λ (o : List ℕ). o ++ []) (sym e))

-- nothing was asked
no_memory : (name : List ℕ → List ℕ) (tag : ℕ) (state : State) (left : Option (List ℕ)) → Pushes name tag state [] [] left (Err OutOfMemory)
no_memory name tag state left = record { messages = []; ahead = []; behind = []; cut = refl; read = refl; none_more = omega arith; answers = (frames_of (rounds name tag state []).requests, refl) }

-- all is told
all_told : (name : List ℕ → List ℕ) (tag : ℕ) (state : State) (left : Option (List ℕ)) → request tag state ≡ None → Pushes name tag state [] [] left (Ok state.told)
unfolding rounds
all_told name tag state left e = record {
  messages = [];
  ahead = [];
  behind = [];
  cut = refl;
  read = refl;
  none_more = omega arith;
  answers = subst (λ (o : Option Message). Answers (last_round state o) [] [] left (Ok state.told)) (sym e) (record { whole = refl; end_is = refl; none = refl });
}

unanswered : (state : State) (asked : Message) (octets sent : List ℕ) (left : Option (List ℕ)) (fault : PushFault) → Exchanges asked octets sent left (as_fetch (Err fault)) → Answers (asks (asked ∷ []) (ends waits)) sent octets left (Err fault)
unanswered state asked octets sent left LinkFault h = prefix_alone sent (frame_of asked) h
unanswered state asked octets sent left BadReply h = (one_sent sent (frame_of asked) h.0, h.1)
unanswered state asked octets sent left OutOfMemory h = prefix_alone sent (frame_of asked) h

one_asked : (asked : Message) (after : Rounds) → 1 ≤ length (asks (asked ∷ []) after).requests
one_asked asked after = omega arith

module _ (name : List ℕ → List ℕ) (tag : ℕ) (state : State) (asked : Message) (is : request tag state ≡ Some asked) (octets sent : List ℕ) (left : Option (List ℕ)) where
  -- what was read is no message
  behind_all : (fault : PushFault) → Answers (asks (asked ∷ []) (ends waits)) sent octets left (Err fault) → Pushes name tag state octets sent left (Err fault)
  unfolding rounds
  behind_all fault h = record {
    messages = [];
    ahead = [];
    behind = octets;
    cut = refl;
    read = refl;
    none_more = omega arith;
    answers = subst (λ (o : Option Message). Answers (last_round state o) sent octets left (Err fault)) (sym is) h;
  }

  no_reply : (fault : PushFault) → Exchanges asked octets sent left (as_fetch (Err fault)) → Pushes name tag state octets sent left (Err fault)
  no_reply fault h = behind_all fault (unanswered state asked octets sent left fault h)

  no_room : (reply : Message) → Exchanges asked octets sent left (Ok reply) → Pushes name tag state octets sent left (Err OutOfMemory)
  no_room reply h = behind_all OutOfMemory (prefix_whole sent (frame_of asked) h.0)

  bad_reply : (reply : Message) → Exchanges asked octets sent left (Ok reply) → answered name tag state reply ≡ None → Pushes name tag state octets sent left (Err BadReply)
  unfolding rounds
  bad_reply reply h none =
      let more : State → Rounds = λ next. rounds name (tag + 1) next [] in
      record {
        messages = reply ∷ [];
        ahead = octets;
        behind = [];
        cut = sym (append-nil octets);
        read = ([], h.1, refl);
        none_more = subst (λ (o : Option Message). 1 ≤ length (round state o (answered name tag state reply) more).requests) (sym is) (one_asked asked (unless_bad (answered name tag state reply) more));
        answers = subst (λ (o : Option Message). Answers (round state o (answered name tag state reply) more) sent [] left (Err BadReply)) (sym is)
            (subst (λ (o : Option State). Answers (asks (asked ∷ []) (unless_bad o more)) sent [] left (Err BadReply)) (sym none) (one_sent sent (frame_of asked) h.0, refl));
      }

  good_reply : (reply : Message) (next : State) → Exchanges asked octets sent left (Ok reply) → answered name tag state reply ≡ Some next → Going name tag state (tag + 1) next octets sent
  unfolding rounds
  good_reply reply next h some = record {
    messages = reply ∷ [];
    requests = asked ∷ [];
    read = ([], h.1, refl);
    whole = one_sent sent (frame_of asked) h.0;
    as_many = refl;
    leads = λ later.
        ap (λ (o : Option Message). round state o (answered name tag state reply) (λ then. rounds name (tag + 1) then later)) is
        ∙ ap (λ (o : Option State). asks (asked ∷ []) (unless_bad o (λ then. rounds name (tag + 1) then later))) some;
  }

-- ---- one after another

asks_more : (requests more : List Message) (after : Rounds) → asks requests (asks more after) ≡ asks (requests ++ more) after
asks_more requests more after = ap (λ (o : List Message). let r : Rounds = record { requests = o; end = after.end } in r) (sym (append_assoc requests more after.requests))

going_none : (name : List ℕ → List ℕ) (tag : ℕ) (state : State) → Going name tag state tag state [] []
going_none name tag state = record { messages = []; requests = []; read = refl; whole = refl; as_many = refl; leads = λ later. refl }

module _ (name : List ℕ → List ℕ) (tag then : ℕ) (state next : State) (octets sent octets_then sent_then : List ℕ) (g : Going name tag state then next octets sent) where
  going_more : (now : ℕ) (last : State) → Going name then next now last octets_then sent_then → Going name tag state now last (octets ++ octets_then) (sent ++ sent_then)
  going_more now last h = record {
    messages = g.messages ++ h.messages;
    requests = g.requests ++ h.requests;
    read = AreFrames-append octets octets_then g.messages h.messages g.read h.read;
    whole = ap₂ (λ (a b : List ℕ). a ++ b) g.whole h.whole ∙ sym (frames-append g.requests h.requests);
    as_many = omega (arith, g.as_many, h.as_many, length-append g.messages h.messages, length-append g.requests h.requests);
    leads = λ later.
        ap (rounds name tag state) (append_assoc g.messages h.messages later) ∙ g.leads (h.messages ++ later) ∙ ap (asks g.requests) (h.leads later)
        ∙ asks_more g.requests h.requests (rounds name now last later);
  }

  whole_after : (all : Rounds) → sent_then ≡ frames_of all.requests → sent ++ sent_then ≡ frames_of (g.requests ++ all.requests)
  whole_after all e = ap₂ (λ (a b : List ℕ). a ++ b) g.whole e ∙ sym (frames-append g.requests all.requests)

  prefix_after : (all : Rounds) → IsPrefix sent_then (frames_of all.requests) → IsPrefix (sent ++ sent_then) (frames_of (g.requests ++ all.requests))
  prefix_after all p = (p.0, frames-append g.requests all.requests ∙ ap₂ (λ (a b : List ℕ). a ++ b) (sym g.whole) p.1 ∙ sym (append_assoc sent sent_then p.0))

  answers_after : (all : Rounds) (behind : List ℕ) (left : Option (List ℕ)) (result : Result (List Told) PushFault) → Answers all sent_then behind left result → Answers (asks g.requests all) (sent ++ sent_then) behind left result
  answers_after all behind left (Ok told) h = record { whole = whole_after all h.whole; end_is = h.end_is; none = h.none }
  answers_after all behind left (Err LinkFault) h = prefix_after all h
  answers_after all behind left (Err BadReply) h = (whole_after all h.0, h.1)
  answers_after all behind left (Err OutOfMemory) h = prefix_after all h

  pushes_after : (left : Option (List ℕ)) (result : Result (List Told) PushFault) → Pushes name then next octets_then sent_then left result → Pushes name tag state (octets ++ octets_then) (sent ++ sent_then) left result
  pushes_after left result p = record {
    messages = g.messages ++ p.messages;
    ahead = octets ++ p.ahead;
    behind = p.behind;
    cut = ap (λ (o : List ℕ). octets ++ o) p.cut ∙ sym (append_assoc octets p.ahead p.behind);
    read = AreFrames-append octets p.ahead g.messages p.messages g.read p.read;
    none_more = subst (λ (all : Rounds). length (g.messages ++ p.messages) ≤ length all.requests) (sym (g.leads p.messages))
        (omega (arith, g.as_many, p.none_more, length-append g.messages p.messages, length-append g.requests (rounds name then next p.messages).requests));
    answers = subst (λ (all : Rounds). Answers all (sent ++ sent_then) p.behind left result) (sym (g.leads p.messages)) (answers_after (rounds name then next p.messages) p.behind left result p.answers);
  }

-- ---- the same over a link

pub over_none : (name : List ℕ → List ℕ) (tag : ℕ) (state : State) (g l t : Option (List ℕ)) → GoingOver name tag state tag state g g l l t t
over_none name tag state g l t = record { octets = []; sent = []; passed = passed_none g l t; going = going_none name tag state }

pub over_no_memory : (name : List ℕ → List ℕ) (tag : ℕ) (state : State) (g l t : Option (List ℕ)) → PushesFrom name tag state g g l l t t (Err OutOfMemory)
over_no_memory name tag state g l t = record { octets = []; sent = []; passed = passed_none g l t; pushes = no_memory name tag state l }

pub over_all_told : (name : List ℕ → List ℕ) (tag : ℕ) (state : State) (g l t : Option (List ℕ)) → request tag state ≡ None → PushesFrom name tag state g g l l t t (Ok state.told)
over_all_told name tag state g l t e = record { octets = []; sent = []; passed = passed_none g l t; pushes = all_told name tag state l e }

module _ (name : List ℕ → List ℕ) (tag then : ℕ) (state next : State) (g h i l m n t u v : Option (List ℕ)) (before : GoingOver name tag state then next g h l m t u) where
  pub over_more : (now : ℕ) (last : State) → GoingOver name then next now last h i m n u v → GoingOver name tag state now last g i l n t v
  over_more now last r = record {
    octets = before.octets ++ r.octets;
    sent = before.sent ++ r.sent;
    passed = passed_more g h i l m n t u v before.octets before.sent r.octets r.sent before.passed r.passed;
    going = going_more name tag then state next before.octets before.sent r.octets r.sent before.going now last r.going;
  }

  pub over_end : (result : Result (List Told) PushFault) → PushesFrom name then next h i m n u v result → PushesFrom name tag state g i l n t v result
  over_end result r = record {
    octets = before.octets ++ r.octets;
    sent = before.sent ++ r.sent;
    passed = passed_more g h i l m n t u v before.octets before.sent r.octets r.sent before.passed r.passed;
    pushes = pushes_after name tag then state next before.octets before.sent r.octets r.sent before.going n result r.pushes;
  }

module _ (name : List ℕ → List ℕ) (tag : ℕ) (state : State) (asked : Message) (is : request tag state ≡ Some asked) (g h l m t u : Option (List ℕ)) where
  pub over_no_reply : (fault : PushFault) → ExchangesOver asked g h l m t u (as_fetch (Err fault)) → PushesFrom name tag state g h l m t u (Err fault)
  over_no_reply fault x = record { octets = x.octets; sent = x.sent; passed = x.passed; pushes = no_reply name tag state asked is x.octets x.sent m fault x.exchanges }

  -- a reply came, and this is what it says
  pub over_said : {T : Type 0} (next : T → State) (said : Option T) (reply : Message) → ExchangesOver asked g h l m t u (Ok reply) → (said ≡ None → answered name tag state reply ≡ None) → ((found : T) → said ≡ Some found → answered name tag state reply ≡ Some (next found))
      → (result : Result T PushFault) → Says said result → GoesOver name tag state (tag + 1) next g h l m t u result
  over_said next said reply x none some (Ok found) h = record { octets = x.octets; sent = x.sent; passed = x.passed; going = good_reply name tag state asked is x.octets x.sent m reply (next found) x.exchanges (some found h) }
  over_said next said reply x none some (Err LinkFault) h = absurd h
  over_said next said reply x none some (Err BadReply) h = record { octets = x.octets; sent = x.sent; passed = x.passed; pushes = bad_reply name tag state asked is x.octets x.sent m reply x.exchanges (none h) }
  over_said next said reply x none some (Err OutOfMemory) h = record { octets = x.octets; sent = x.sent; passed = x.passed; pushes = no_room name tag state asked is x.octets x.sent m reply x.exchanges }
