-- What a fetch comes to that a session faces.
use Rattle.std.proofs.Common.{◌≡◌, ℕ, ◌+◌, List, [], ◌∷◌, ◌++◌, length, Option, Result, refl, sym, ap, subst, ◌∙◌, append_assoc, arith}
use Rattle.std.specs.Prelude.{Some, Ok, Err}
use Rattle.std.specs.Io.KnownBytes.{append_known, IsAtEnd}
use Rattle.xt_io.specs.Outside.{Rose}
use Rattle.type_trees.specs.declared.types.HashId.{HashId}
use Rattle.type_object.specs.Names.{hash_of}
use Rattle.type_lookup.specs.declared.messages.messages.Fetched.{Fetched}
use Rattle.type_lookup.specs.declared.messages.messages.Message.{Message}
use Rattle.type_lookup.specs.Frames.{Front, front}
use Rattle.type_lookup.specs.Sequences.{frames_of, AreFrames}
use Rattle.type_lookup.proofs.Streams.{no-frame-framed}
use Rattle.type_registry.specs.Passed.{PassView, known, IsPass}
use Rattle.lookup_fetch.specs.declared.faults.FetchFault.{FetchFault}
use Rattle.lookup_fetch.specs.declared.faults.FetchFault.TheVariants.{LinkFault, BadReply, WrongHash, NotServed, TooMany, OutOfMemory}
use Rattle.lookup_fetch.specs.Rounds.{reached, waits, closure, rounds, asked}
use Rattle.lookup_fetch.specs.Fetches.{IsNoFrame, Fetches, HasFetchCause}
use Rattle.lookup_fetch.proofs.Rounding.{not_waiting}
use Rattle.lookup_service.specs.declared.ended.Ended.{Ended}
use Rattle.lookup_service.specs.declared.ended.Ended.TheVariants as endings
use Rattle.lookup_service.specs.replies.Replies.{is_request}
use Rattle.lookup_service.specs.Sessions.{Sends, IsBadFront, EndsBy}
use Rattle.type_mirror.specs.completes.Peers.{AnswersWell, ComesTo, IsUnbroken, IsSession, Conversation}
use Rattle.type_mirror.specs.completes.Laws.{HasMet}
use Rattle.type_mirror.proofs.OfCompletes.Among.{never}
use Rattle.type_mirror.proofs.OfCompletes.Meeting.{met_all}
use Rattle.type_mirror.proofs.OfCompletes.Ending.{held_none, end_well}
use Rattle.type_mirror.proofs.OfCompletes.Answering.{front-of-none, IsRead, answered_well, frame_left}
use Rattle.type_mirror.proofs.OfCompletes.Session.{pass_named}
use Rattle.type_mirror.proofs.OfCompletes.Facing.{NoRequest, Faced, faced}

-- ---- a session that was not broken off

sends_all : (ended : Ended) (sent frames : List ℕ) → IsUnbroken ended → Sends ended sent frames → sent ≡ frames
sends_all endings.Closed sent frames whole s = s
sends_all endings.LinkFault sent frames whole s = absurd whole
sends_all (endings.BadFrame at) sent frames whole s = s
sends_all endings.Limit sent frames whole s = s
sends_all endings.OutOfMemory sent frames whole s = absurd whole

none_behind : (behind : List ℕ) → behind ≡ [] → NoRequest behind
none_behind behind none message rest is f = no-frame-framed message rest (sym front-of-none ∙ ap front (sym none) ∙ f)

no_request : (ended : Ended) (count long : ℕ) (behind : List ℕ) (left : Option (List ℕ)) → IsUnbroken ended → EndsBy ended count long behind left → NoRequest behind
no_request endings.Closed count long behind left whole e = none_behind behind e.1
no_request endings.LinkFault count long behind left whole e = absurd whole
no_request (endings.BadFrame at) count long behind left whole e = λ message rest is f. never (is_request message) is (subst (λ (g : Front). IsBadFront behind g (IsAtEnd left)) f e.2).0
no_request endings.Limit count long behind left whole e = none_behind behind e.1
no_request endings.OutOfMemory count long behind left whole e = absurd whole

module _ (entry : PassView) (ids : List HashId) (objects : List Fetched) (is : IsPass hash_of entry) (whole : closure (known entry) ids ≡ Some objects) where
  has : HasMet (known entry) ids objects
  has = record { named = pass_named entry is; whole = whole }

  -- where the fetch sent all of its requests
  faces : (messages : List Message) (sent ahead behind : List ℕ) → IsSession entry sent (ahead ++ behind) → AreFrames ahead messages → sent ≡ frames_of (asked ids messages) → Faced (known entry) (asked ids messages) messages behind
  faces messages sent ahead behind s frames all =
      faced (known entry) ids objects has.named (met_all (known entry) ids objects whole) messages 1 [] behind (held_none (known entry) (reached (known entry) ids)) (omega arith) (record {
        state = entry;
        last = s.session.last;
        heard = s.session.requests;
        replied = s.session.replies;
        heard_ahead = s.session.ahead;
        heard_behind = s.session.behind;
        ahead = ahead;
        keeps = λ id octets e. e;
        sent = sym all ∙ s.session.cut;
        heard_frames = s.session.read.frames;
        no_more = no_request s.ended (length s.session.requests) (length s.session.ahead) s.session.behind s.left s.unbroken s.session.ends;
        replies = s.session.replied;
        came = sym (sends_all s.ended (ahead ++ behind) (frames_of s.session.replies) s.unbroken s.session.sends);
        frames = frames;
      })

  left_unread : (messages others : List Message) (behind rest : List ℕ) (left : Option (List ℕ)) → (IsAtEnd left → rest ≡ []) → AreFrames (behind ++ rest) others → length (asked ids messages) ≡ length messages + length others → (rounds ids 1 [] messages).end ≡ waits → IsNoFrame behind (IsAtEnd left) → ⊥
  left_unread messages [] behind rest left none_left frames count e bad = not_waiting ids 1 [] messages (omega (arith, count)) e
  left_unread messages (reply ∷ others) behind rest left none_left frames count e bad = frame_left behind rest left reply others none_left frames bad

  answers : (octets rest sent : List ℕ) (left : Option (List ℕ)) (result : Result (List Fetched) FetchFault) → IsSession entry sent (octets ++ rest) → (IsAtEnd left → rest ≡ []) → Fetches ids 1 [] octets sent left result → AnswersWell objects result
  answers octets rest sent left result s none_left f =
      let cut : octets ++ rest ≡ f.ahead ++ (f.behind ++ rest) = ap (λ (o : List ℕ). o ++ rest) f.cut ∙ append_assoc f.ahead f.behind rest in
      let read : sent ≡ frames_of (asked ids f.messages) → IsRead ids objects f.messages f.behind left = λ all. (
      let g = faces f.messages sent f.ahead (f.behind ++ rest) (subst (IsSession entry sent) cut s) f.read all in
      record { ended = end_well (known entry) ids objects f.messages has g.replies; unread = left_unread f.messages g.others f.behind rest left none_left g.frames g.count }
      ) in
      answered_well ids objects f.messages sent f.behind left read result f.answers

pub answers_session : (entry : PassView) (ids : List HashId) (objects : List Fetched) (octets rest sent : List ℕ) (left : Option (List ℕ)) (result : Result (List Fetched) FetchFault) → IsPass hash_of entry → closure (known entry) ids ≡ Some objects → IsSession entry sent (octets ++ rest)
    → (IsAtEnd left → rest ≡ []) → Fetches ids 1 [] octets sent left result → AnswersWell objects result
answers_session entry ids objects octets rest sent left result is whole s none_left f = answers entry ids objects is whole octets rest sent left result s none_left f

-- ---- over links

told_same : (told octets : List ℕ) → Some told ≡ append_known (Some []) octets → octets ≡ told
told_same told octets e = cc

not_failed : (objects : List Fetched) (before now : ℕ) (result : Result (List Fetched) FetchFault) → HasFetchCause before now result → (Rose before now → ⊥) → AnswersWell objects result → ComesTo objects result
not_failed objects before now (Ok others) cause steady a = a
not_failed objects before now (Err LinkFault) cause steady a = steady (cause.failed refl)
not_failed objects before now (Err BadReply) cause steady a = a
not_failed objects before now (Err (WrongHash id other)) cause steady a = a
not_failed objects before now (Err (NotServed id)) cause steady a = a
not_failed objects before now (Err TooMany) cause steady a = a
not_failed objects before now (Err OutOfMemory) cause steady a = a

pub comes_to_objects : (entry : PassView) (ids : List HashId) (objects : List Fetched) (result : Result (List Fetched) FetchFault) → IsPass hash_of entry → closure (known entry) ids ≡ Some objects → Conversation entry ids result → ComesTo objects result
comes_to_objects entry ids objects result is whole c =
    let heard = told_same c.asked c.session.octets c.session.took.0 in
    let replied = told_same (c.read ++ c.rest) c.session.sent c.session.gave in
    let sent = told_same c.asked c.fetch.sent c.fetch.passed.gave in
    let came = told_same c.read c.fetch.octets c.fetch.passed.took.0 in
    let s : IsSession entry c.session.octets c.session.sent = record { exit = c.exit; left = c.peer_now; ended = c.ended; session = c.session.session; unbroken = c.unbroken } in
    let faces : IsSession entry c.fetch.sent (c.fetch.octets ++ c.rest) =
    subst (IsSession entry c.fetch.sent) (replied ∙ ap (λ (o : List ℕ). o ++ c.rest) (sym came)) (subst (λ (o : List ℕ). IsSession entry o c.session.sent) (heard ∙ sym sent) s) in
    not_failed objects c.faults_before c.faults_now result c.cause c.steady (answers_session entry ids objects c.fetch.octets c.rest c.fetch.sent c.left_now result is whole faces c.all_read c.fetch.fetches)
