-- What a fetch answers, where its link has the frames of such replies left.
use Rattle.std.proofs.Common.{◌≡◌, ℕ, ◌+◌, List, [], ◌∷◌, ◌++◌, length, Option, Result, refl, sym, ap, ap₂, subst, ◌∙◌, append_assoc, append-nil}
use Rattle.std.specs.Prelude.{None, Some, Ok, Err}
use Rattle.std.specs.Io.KnownBytes.{prepend_known, IsAtEnd}
use Rattle.type_trees.specs.declared.types.HashId.{HashId}
use Rattle.type_object.specs.Pools.{Texts}
use Rattle.type_object.specs.visits.Visits.{Known}
use Rattle.type_lookup.specs.declared.messages.messages.Fetched.{Fetched}
use Rattle.type_lookup.specs.declared.messages.messages.Message.{Message}
use Rattle.type_lookup.specs.declared.messages.messages.Message.TheVariants.{GetTypes}
use Rattle.type_lookup.specs.declared.faults.FrameFault.TheVariants as frame
use Rattle.type_lookup.specs.Frames.{Front, no_frame, framed, broken, front}
use Rattle.type_lookup.specs.Sequences.{frames_of, AreFrames}
use Rattle.type_lookup.proofs.Following.{IsWhole, followed, front-followed}
use Rattle.type_lookup.proofs.Sequences.{stands}
use Rattle.lookup_fetch.specs.declared.faults.FetchFault.{FetchFault}
use Rattle.lookup_fetch.specs.declared.faults.FetchFault.TheVariants.{LinkFault, BadReply, WrongHash, NotServed, TooMany, OutOfMemory}
use Rattle.lookup_fetch.specs.Rounds.{End, done, stopped, waits, Rounds, asks, unless_fault, found_in, reply_fault, texts_in, rounds, asked}
use Rattle.lookup_fetch.proofs.Rounding.{many, whole, asking, coming, many_rounds, whole_rounds, next_asked, not_waiting}
use Rattle.lookup_fetch.specs.Fetches.{IsNoFront, IsNoFrame, IsBad, Answers, Fetches, FetchesOver}
use Rattle.type_mirror.specs.completes.Peers.{AreRepliesOf, EndsWell, AnswersWell}
use Rattle.type_mirror.specs.completes.Laws.{HasMet, AreAllReplies}
use Rattle.type_mirror.proofs.OfCompletes.Ending.{end_well}

-- ---- the first of the replies

first_none : (there : Known) (some others : List Message) → AreRepliesOf there [] (some ++ others) → AreRepliesOf there [] some
first_none there [] others r = tt
first_none there (reply ∷ some) others r = r

-- after a reply to this request
first_behind : (there : Known) (request reply : Message) (fault : Option FetchFault) (some others : List Message) (after all : Rounds) → (AreRepliesOf there all.requests (some ++ others) → AreRepliesOf there after.requests some)
    → AreRepliesOf there (asks (request ∷ []) (unless_fault fault all)).requests (reply ∷ (some ++ others)) → AreRepliesOf there (asks (request ∷ []) (unless_fault fault after)).requests (reply ∷ some)
first_behind there request reply None some others after all so r = (r.0, so r.1)
first_behind there request reply (Some fault) some others after all so r = (r.0, first_none there some others r.1)

first_replies : (there : Known) (ids : List HashId) (some others : List Message) (tag : ℕ) (held : Texts) → AreRepliesOf there (rounds ids tag held (some ++ others)).requests (some ++ others) → AreRepliesOf there (rounds ids tag held some).requests some
first_replies there ids [] others tag held r = tt
first_replies there ids (reply ∷ some) others tag held r =
    let Firsts : Rounds → Type 0 = λ a. AreRepliesOf there a.requests (reply ∷ some) in
    let All : Rounds → Type 0 = λ a. AreRepliesOf there a.requests (reply ∷ (some ++ others)) in
    elim (coming (found_in held) ids) [
      | many e ↦ absurd (subst All (many_rounds ids tag held (reply ∷ (some ++ others)) e) r)
      | whole objects e ↦ absurd (subst All (whole_rounds ids tag held (reply ∷ (some ++ others)) objects e) r)
      | asking ids_asked e ↦
          subst Firsts (sym (next_asked ids tag held reply some ids_asked e))
          (first_behind there (GetTypes tag ids_asked) reply (reply_fault tag ids_asked reply) some others (rounds ids (tag + 1) (held ++ texts_in reply) some) (rounds ids (tag + 1) (held ++ texts_in reply) (some ++ others))
          (λ q. first_replies there ids some others (tag + 1) (held ++ texts_in reply) q)
          (subst All (next_asked ids tag held reply (some ++ others) ids_asked e) r))
    ]

-- ---- frames that were read, and those that are left

pub front-of-none : front [] ≡ no_frame
unfolding front
front-of-none = refl

pub same_framed : (a b : Message) (rest end : List ℕ) → framed a rest ≡ framed b end → (a ≡ b) × (rest ≡ end)
same_framed a b rest end e = (cc, cc)

-- The frames that stand in front are the first of all.
pub record Left (all some : List Message) (behind : List ℕ) : Type 0 where
  pub others : List Message
  pub cut : all ≡ some ++ others
  pub frames : AreFrames behind others

pub no_octets : (octets more : List ℕ) (message : Message) (rest : List ℕ) → front octets ≡ framed message rest → octets ++ more ≡ [] → ⊥
no_octets [] more message rest f e = let g = front-of-none in cc
no_octets (x ∷ octets) more message rest f e = cc e

pub left_of : (ahead behind : List ℕ) (some all : List Message) → AreFrames ahead some → AreFrames (ahead ++ behind) all → Left all some behind
left_of ahead behind [] all none frames = record { others = all; cut = refl; frames = subst (λ (o : List ℕ). AreFrames o all) (ap (λ (o : List ℕ). o ++ behind) none) frames }
left_of ahead behind (message ∷ some) [] f none = absurd (no_octets ahead behind message f.0 f.1 none)
left_of ahead behind (message ∷ some) (first ∷ all) f g =
    let same = same_framed first message g.0 (f.0 ++ behind) (sym g.1 ∙ stands ahead f.0 behind message f.1) in
    let l = left_of f.0 behind some all f.2 (subst (λ (o : List ℕ). AreFrames o all) same.1 g.2) in
    record { others = l.others; cut = ap₂ (λ (a : Message) (b : List Message). a ∷ b) same.0 l.cut; frames = l.frames }

-- ---- a frame that is left is no bad frame

-- where nothing is left, all was read
all_read : (behind rest : List ℕ) → rest ≡ [] → front (behind ++ rest) ≡ front behind
all_read behind rest none = ap front (ap (λ (o : List ℕ). behind ++ o) none ∙ append-nil behind)

module _ (message : Message) (behind rest then : List ℕ) (left : Option (List ℕ)) (none_left : IsAtEnd left → rest ≡ []) (e : front (behind ++ rest) ≡ framed message then) where
  not_bad : (f : Front) → front behind ≡ f → IsNoFront behind f (IsAtEnd left) → ⊥
  not_bad no_frame is end = let same = all_read behind rest (none_left end) in cc
  not_bad (framed other after) is end = end
  not_bad (broken frame.LinkFault) is end = end
  not_bad (broken frame.Truncated) is end = let same = all_read behind rest (none_left end) in cc
  not_bad (broken (frame.TooLong n)) is end = let same = front-followed behind rest (subst IsWhole (sym is) tt) ∙ ap (λ (g : Front). followed g rest) is in cc
  not_bad (broken (frame.BadMessage at)) is end = let same = front-followed behind rest (subst IsWhole (sym is) tt) ∙ ap (λ (g : Front). followed g rest) is in cc
  not_bad (broken frame.OutOfMemory) is end = end

-- ---- what is answered

-- what is left of all octets, where some of them were read
left_is : (all octets : List ℕ) (left : Option (List ℕ)) → Some all ≡ prepend_known octets left → (rest : List ℕ) × (left ≡ Some rest) × (all ≡ octets ++ rest)
left_is all octets None e = absurd (cc e)
left_is all octets (Some rest) e = (rest, refl, cc e)

-- What is known of the messages that were read, once all requests were sent: how their rounds end; and where these wait for a reply, its frame is left.
pub record IsRead (ids : List HashId) (objects : List Fetched) (messages : List Message) (behind : List ℕ) (left : Option (List ℕ)) : Type 0 where
  pub ended : EndsWell objects (length messages) (rounds ids 1 [] messages).end
  pub unread : (rounds ids 1 [] messages).end ≡ waits → IsNoFrame behind (IsAtEnd left) → ⊥

module _ (ids : List HashId) (objects : List Fetched) (messages : List Message) (sent behind : List ℕ) (left : Option (List ℕ)) (read : sent ≡ frames_of (asked ids messages) → IsRead ids objects messages behind left) where
  bad_reply : (end : End) → (rounds ids 1 [] messages).end ≡ end → IsRead ids objects messages behind left → IsBad end behind left → ⊥
  bad_reply (done others) is r bad = bad
  bad_reply (stopped fault) is r bad = subst (EndsWell objects (length messages)) is r.ended
  bad_reply waits is r bad = r.unread is bad

  pub answered_well : (result : Result (List Fetched) FetchFault) → Answers (rounds ids 1 [] messages) sent behind left result → AnswersWell objects result
  answered_well (Ok others) a = subst (EndsWell objects (length messages)) a.end_is (read a.whole).ended
  answered_well (Err LinkFault) a = tt
  answered_well (Err BadReply) a = bad_reply (rounds ids 1 [] messages).end refl (read a.0) a.1
  answered_well (Err (WrongHash id other)) a = subst (EndsWell objects (length messages)) a.end_is (read a.whole).ended
  answered_well (Err (NotServed id)) a = subst (EndsWell objects (length messages)) a.end_is (read a.whole).ended
  answered_well (Err TooMany) a = subst (EndsWell objects (length messages)) a.end_is (read a.whole).ended
  answered_well (Err OutOfMemory) a = tt

-- A frame that is left is no bad frame.
pub frame_left : (behind rest : List ℕ) (left : Option (List ℕ)) (message : Message) (others : List Message) → (IsAtEnd left → rest ≡ []) → AreFrames (behind ++ rest) (message ∷ others) → IsNoFrame behind (IsAtEnd left) → ⊥
frame_left behind rest left message others none_left frames bad = not_bad message behind rest frames.0 left none_left frames.1 (front behind) refl bad

module _ (ids : List HashId) (replies messages : List Message) (behind rest : List ℕ) (left : Option (List ℕ)) (none_left : IsAtEnd left → rest ≡ []) (same : length (asked ids replies) ≡ length replies) where
  reply_left : (others : List Message) → replies ≡ messages ++ others → AreFrames (behind ++ rest) others → (rounds ids 1 [] messages).end ≡ waits → IsNoFrame behind (IsAtEnd left) → ⊥
  reply_left [] cut frames is bad = not_waiting ids 1 [] replies same (ap (λ (l : List Message). (rounds ids 1 [] l).end) (cut ∙ append-nil messages) ∙ is)
  reply_left (reply ∷ others) cut frames is bad = frame_left behind rest left reply others none_left frames bad

pub answers_objects : (there : Known) (ids : List HashId) (objects : List Fetched) (replies : List Message) (octets rest sent : List ℕ) (left : Option (List ℕ)) (result : Result (List Fetched) FetchFault) → HasMet there ids objects → AreAllReplies there ids replies → AreFrames (octets ++ rest) replies
    → (IsAtEnd left → rest ≡ []) → Fetches ids 1 [] octets sent left result → AnswersWell objects result
answers_objects there ids objects replies octets rest sent left result has all frames none_left f =
    let cut : octets ++ rest ≡ f.ahead ++ (f.behind ++ rest) = ap (λ (o : List ℕ). o ++ rest) f.cut ∙ append_assoc f.ahead f.behind rest in
    let l = left_of f.ahead (f.behind ++ rest) f.messages replies f.read (subst (λ (o : List ℕ). AreFrames o replies) cut frames) in
    let some = first_replies there ids f.messages l.others 1 [] (subst (λ (m : List Message). AreRepliesOf there (asked ids m) m) l.cut all.each) in
    let read : IsRead ids objects f.messages f.behind left = record { ended = end_well there ids objects f.messages has some; unread = reply_left ids replies f.messages f.behind rest left none_left all.many l.others l.cut l.frames } in
    answered_well ids objects f.messages sent f.behind left (λ whole. read) result f.answers

-- the same over a link that tells what it has left
pub answers_over : (there : Known) (ids : List HashId) (objects : List Fetched) (replies : List Message) (all : List ℕ) (got_before got_now left_now taken_before taken_now : Option (List ℕ)) (result : Result (List Fetched) FetchFault) → HasMet there ids objects → AreAllReplies there ids replies → AreFrames all replies
    → FetchesOver ids got_before got_now (Some all) left_now taken_before taken_now result → AnswersWell objects result
answers_over there ids objects replies all got_before got_now left_now taken_before taken_now result has are frames over =
    let l = left_is all over.octets left_now over.passed.took.1 in
    answers_objects there ids objects replies over.octets l.0 over.sent left_now result has are (subst (λ (o : List ℕ). AreFrames o replies) l.2 frames) (λ end. subst IsAtEnd l.1 end) over.fetches
