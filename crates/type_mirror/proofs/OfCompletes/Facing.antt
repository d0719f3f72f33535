-- A session that faces a fetch: it read what the fetch sent, and what it sent is what came to the fetch.
use Rattle.std.proofs.Common.{◌≡◌, ◌⊎◌, ℕ, ◌+◌, ◌<◌, ◌≤◌, ◌^◌, true, List, [], ◌∷◌, ◌++◌, map, length, inl, inr, refl, sym, ap, subst, ◌∙◌, length-take-le, arith}
use Rattle.std.specs.Prelude.{All}
use Rattle.std.proofs.lemmas.List.Elements.{All-nil, All-cons}
use Rattle.md5.specs.Md5.{md5}
use Rattle.md5.proofs.StandardFacts.{length-md5}
use Rattle.type_trees.specs.declared.types.HashId.{HashId}
use Rattle.type_trees.specs.Ids.{is_object_kind}
use Rattle.object_formats.proofs.OwnKinds.{text_kind}
use Rattle.type_object.specs.Names.{hash_of}
use Rattle.type_object.specs.Pools.{Texts}
use Rattle.type_object.specs.References.{is_among}
use Rattle.type_object.specs.visits.Visits.{Known}
use Rattle.type_lookup.specs.declared.messages.messages.Fetched.{Fetched}
use Rattle.type_lookup.specs.declared.messages.messages.Message.{Message}
use Rattle.type_lookup.specs.declared.messages.messages.Message.TheVariants.{GetTypes}
use Rattle.type_lookup.specs.messages.Spelling.{HasFrame, HasHash, InRange, IsFetchedInRange, IsKnownId, frame_of}
use Rattle.type_lookup.specs.Frames.{framed, front}
use Rattle.type_lookup.specs.Sequences.{frames_of, AreFrames}
use Rattle.type_lookup.proofs.OfMessages.Reread.{message_back}
use Rattle.type_lookup.proofs.Reframed.{frame_back}
use Rattle.type_lookup.proofs.Sequences.{stands}
use Rattle.type_registry.specs.Held.{IsNamed, held}
use Rattle.type_registry.specs.Passed.{PassView, known, Keeps}
use Rattle.lookup_fetch.specs.Rounds.{reached, found_in, texts_in, Rounds, rounds}
use Rattle.lookup_fetch.proofs.Asking.{gets_frame}
use Rattle.lookup_fetch.proofs.Rounding.{IsWhole, whole_rounds, last_asked, next_asked}
use Rattle.lookup_service.specs.replies.Replies.{served, is_request}
use Rattle.lookup_service.specs.States.{Replied}
use Rattle.type_mirror.specs.told.Tells.{fetched_id}
use Rattle.type_mirror.specs.completes.Peers.{AreNamed, IsReplyOf, AreRepliesOf}
use Rattle.type_mirror.proofs.OfCompletes.Among.{among_first, among_later}
use Rattle.type_mirror.proofs.OfCompletes.Meeting.{each_known, as_many, Met}
use Rattle.type_mirror.proofs.OfCompletes.Ending.{Holding, Planned, planned, served_asked, reply_brings, goes_on, fewer}
use Rattle.type_mirror.proofs.OfCompletes.Answering.{same_framed, no_octets}

-- ---- one frame of a stream

-- The octets of a message's frame and others are that frame and those.
abbrev IsFramed : Message → Type 0
IsFramed message = (more : List ℕ) → front (frame_of message ++ more) ≡ framed message more

framed_so : (message : Message) → HasFrame message → InRange message → IsFramed message
framed_so message frame range more = stands (frame_of message) [] more message (frame_back message frame (message_back message frame.limits range))

-- The first of the messages is this one, and the others are the frames of what is left of the octets.
record First (message : Message) (messages : List Message) (more behind : List ℕ) : Type 0 where
  others : List Message
  ahead : List ℕ
  is : messages ≡ message ∷ others
  frames : AreFrames ahead others
  cut : more ≡ ahead ++ behind

first_of : (message : Message) (more ahead behind : List ℕ) (messages : List Message) → IsFramed message → frame_of message ++ more ≡ ahead ++ behind → AreFrames ahead messages → (front behind ≡ framed message more → ⊥) → First message messages more behind
first_of message more ahead behind [] is cut none not = absurd (not (sym (ap front (cut ∙ ap (λ (o : List ℕ). o ++ behind) none)) ∙ is more))
first_of message more ahead behind (other ∷ others) is cut f not =
    let same = same_framed message other more (f.0 ++ behind) (sym (is more) ∙ ap front cut ∙ stands ahead f.0 behind other f.1) in
    record { others = others; ahead = f.0; is = ap (λ (m : Message). m ∷ others) (sym same.0); frames = f.2; cut = same.1 }

-- The first message that is read is this one.
first_read : (message other : Message) (more ahead behind : List ℕ) (others : List Message) → IsFramed message → frame_of message ++ more ≡ ahead ++ behind → AreFrames ahead (other ∷ others) → (message ≡ other) × (then : List ℕ) × (more ≡ then ++ behind) × AreFrames then others
first_read message other more ahead behind others is cut f =
    let same = same_framed message other more (f.0 ++ behind) (sym (is more) ∙ ap front cut ∙ stands ahead f.0 behind other f.1) in
    (same.0, f.0, same.1, f.2)

none_of : (ahead behind : List ℕ) (messages : List Message) → [] ≡ ahead ++ behind → AreFrames ahead messages → messages ≡ []
none_of ahead behind [] cut f = refl
none_of ahead behind (message ∷ messages) cut f = absurd (no_octets ahead behind message f.0 f.1 (sym cut))

-- ---- identifiers of objects

known_kind : (id : HashId) (octets : List ℕ) → IsNamed hash_of (held id octets) → IsKnownId id
known_kind id octets is = ap (λ (i : HashId). is_object_kind i.kind) is.1 ∙ text_kind octets is.0.object is.0.read

known_hash : (id : HashId) (octets : List ℕ) → IsNamed hash_of (held id octets) → HasHash id
known_hash id octets is = ap (λ (i : HashId). length i.hash) is.1 ∙ length-take-le 14 (md5 octets) (omega (arith, length-md5 octets))

all_ids : (P : HashId → Type 0) (ids : List HashId) → ((id : HashId) → is_among id ids ≡ true → P id) → All P ids
all_ids P [] each = All-nil P
all_ids P (id ∷ ids) each = All-cons P id ids (each id (among_first id ids)) (all_ids P ids (λ j a. each j (among_later j id ids a)))

all_objects : (objects : List Fetched) → ((id : HashId) → is_among id (map fetched_id objects) ≡ true → HasHash id) → All IsFetchedInRange objects
all_objects [] each = All-nil IsFetchedInRange
all_objects (o ∷ objects) each = All-cons IsFetchedInRange o objects (each o.id (among_first o.id (map fetched_id objects))) (all_objects objects (λ j a. each j (among_later j o.id (map fetched_id objects) a)))

-- ---- one reply of a session

record OneReply (there : Known) (request : Message) (requests replies : List Message) (last : PassView) : Type 0 where
  reply : Message
  others : List Message
  is : replies ≡ reply ∷ others
  is_reply : IsReplyOf there request reply
  frame : HasFrame reply
  next : PassView
  keeps : Keeps there (known next)
  later : Replied hash_of next requests others last

one_reply : (there : Known) (state last : PassView) (request : Message) (requests replies : List Message) → Keeps there (known state) → Replied hash_of state (request ∷ requests) replies last → OneReply there request requests replies last
one_reply there state last request requests [] keeps r = absurd r
one_reply there state last request requests (reply ∷ others) keeps r =
    let grown : Keeps there (known r.0) = λ id octets e. r.1.grows.known id octets (keeps id octets e) in
    record {
      reply = reply;
      others = others;
      is = refl;
      is_reply = record { before = known state; now = r.0; knows = λ id octets a e. grown id octets e; replies = r.1.replies };
      frame = r.1.frame;
      next = r.0;
      keeps = grown;
      later = r.2;
    }

none_replied : (state last : PassView) (replies : List Message) → Replied hash_of state [] replies last → replies ≡ []
none_replied state last [] r = refl
none_replied state last (reply ∷ replies) r = absurd r

-- ---- both streams

-- No request stands in front of these octets.
abbrev pub NoRequest : List ℕ → Type 0
NoRequest behind = (message : Message) (rest : List ℕ) → is_request message ≡ true → front behind ≡ framed message rest → ⊥

-- The octets that the session sent to these requests are the frames of the messages, of which each is the reply to its request, and of others
-- behind: as many as requests in all.
pub record Faced (there : Known) (requests messages : List Message) (behind : List ℕ) : Type 0 where
  pub replies : AreRepliesOf there requests messages
  pub others : List Message
  pub frames : AreFrames behind others
  pub count : length requests ≡ length messages + length others

-- What the session heard are the frames of these requests, and what it sent the frames of its replies, of which the messages were read.
pub record Heard (there : Known) (requests messages : List Message) (behind : List ℕ) : Type 0 where
  pub state : PassView
  pub last : PassView
  pub heard : List Message
  pub replied : List Message
  pub heard_ahead : List ℕ
  pub heard_behind : List ℕ
  pub ahead : List ℕ
  pub keeps : Keeps there (known state)
  pub sent : frames_of requests ≡ heard_ahead ++ heard_behind
  pub heard_frames : AreFrames heard_ahead heard
  pub no_more : NoRequest heard_behind
  pub replies : Replied hash_of state heard replied last
  pub came : frames_of replied ≡ ahead ++ behind
  pub frames : AreFrames ahead messages

-- no request, so nothing was heard and nothing came
nothing_faced : (there : Known) (messages : List Message) (behind : List ℕ) → Heard there [] messages behind → Faced there [] messages behind
nothing_faced there messages behind h =
    let none = none_of h.heard_ahead h.heard_behind h.heard h.sent h.heard_frames in
    let no_reply = none_replied h.state h.last h.replied (subst (λ (l : List Message). Replied hash_of h.state l h.replied h.last) none h.replies) in
    let empty : [] ≡ h.ahead ++ behind = sym (ap frames_of no_reply) ∙ h.came in
    let no_message = none_of h.ahead behind messages empty h.frames in
    record {
      replies = subst (AreRepliesOf there []) (sym no_message) tt;
      others = [];
      frames = nothing_behind h.ahead behind empty;
      count = sym (ap (λ (l : List Message). length l + 0) no_message);
    }
  where
    nothing_behind : (ahead behind : List ℕ) → [] ≡ ahead ++ behind → behind ≡ []
    nothing_behind [] behind e = sym e
    nothing_behind (x ∷ xs) behind e = absurd (cc e)

module _ (there : Known) (ids : List HashId) (objects : List Fetched) (named : AreNamed there) (m : Met there ids objects) where
  abbrev met : List HashId
  met = reached there ids

  -- ---- what is asked, and what is served then, have frames

  asked_named : (text : Texts) (p : Planned there ids objects named m text) (id : HashId) → is_among id p.asked ≡ true → (octets : List ℕ) × IsNamed hash_of (held id octets)
  asked_named text p id a = let o = each_known there met objects m.all id (p.asks_for.inside id a) in (o.0, named id o.0 o.1)

  asked_hash : (text : Texts) (p : Planned there ids objects named m text) (id : HashId) → is_among id p.asked ≡ true → HasHash id
  asked_hash text p id a = let o = asked_named text p id a in known_hash id o.0 o.1

  few_tags : (tag : ℕ) (text : Texts) → Holding there met text → Planned there ids objects named m text → tag ≤ length text + 1 → tag < 2 ^ 32
  few_tags tag text h p le = let n = fewer there ids objects named m text p h in omega (arith, n, le, as_many there met objects m.all, m.few)

  request_framed : (tag : ℕ) (text : Texts) (p : Planned there ids objects named m text) → tag < 2 ^ 32 → IsFramed (GetTypes tag p.asked)
  request_framed tag text p range =
      let kinds = all_ids IsKnownId p.asked (λ id a. let o = asked_named text p id a in known_kind id o.0 o.1) in
      let hashes = all_ids HasHash p.asked (asked_hash text p) in
      framed_so (GetTypes tag p.asked) (gets_frame tag p.asked kinds hashes p.asks_for.few) (range, hashes)

  reply_framed : (tag : ℕ) (text : Texts) (p : Planned there ids objects named m text) (reply : Message) → tag < 2 ^ 32 → HasFrame reply → IsReplyOf there (GetTypes tag p.asked) reply → IsFramed reply
  reply_framed tag text p reply range frame r =
      let s = served_asked there ids objects named m tag text p reply r in
      let hashes = all_objects (served (known r.now) p.asked) (λ id a. asked_hash text p id (s.come.inside id a)) in
      framed_so reply frame (subst InRange (sym r.replies) (range, hashes))

  -- ---- one round

  -- the reply to a round's request, which the session heard
  record Round (tag : ℕ) (text : Texts) (asked : List HashId) (more : List Message) (messages : List Message) (behind : List ℕ) : Type 0 where
    reply : Message
    is_reply : IsReplyOf there (GetTypes tag asked) reply
    framed_reply : IsFramed reply
    state : PassView
    last : PassView
    heard : List Message
    replied : List Message
    heard_ahead : List ℕ
    heard_behind : List ℕ
    ahead : List ℕ
    keeps : Keeps there (known state)
    sent : frames_of more ≡ heard_ahead ++ heard_behind
    heard_frames : AreFrames heard_ahead heard
    no_more : NoRequest heard_behind
    replies : Replied hash_of state heard replied last
    came : frame_of reply ++ frames_of replied ≡ ahead ++ behind
    frames : AreFrames ahead messages

  one_round : (tag : ℕ) (text : Texts) (more messages : List Message) (behind : List ℕ) → Holding there met text → tag ≤ length text + 1 → (p : Planned there ids objects named m text) → Heard there (GetTypes tag p.asked ∷ more) messages behind → Round tag text p.asked more messages behind
  one_round tag text more messages behind h le p w =
      let range = few_tags tag text h p le in
      let request = GetTypes tag p.asked in
      let f = first_of request (frames_of more) w.heard_ahead w.heard_behind w.heard (request_framed tag text p range) w.sent w.heard_frames (λ e. w.no_more request (frames_of more) refl e) in
      let r = one_reply there w.state w.last request f.others w.replied w.keeps (subst (λ (l : List Message). Replied hash_of w.state l w.replied w.last) f.is w.replies) in
      record {
        reply = r.reply;
        is_reply = r.is_reply;
        framed_reply = reply_framed tag text p r.reply range r.frame r.is_reply;
        state = r.next;
        last = w.last;
        heard = f.others;
        replied = r.others;
        heard_ahead = f.ahead;
        heard_behind = w.heard_behind;
        ahead = w.ahead;
        keeps = r.keeps;
        sent = f.cut;
        heard_frames = f.frames;
        no_more = w.no_more;
        replies = r.later;
        came = sym (ap frames_of r.is) ∙ w.came;
        frames = w.frames;
      }

  -- It was not read yet.
  last_round : (tag : ℕ) (text : Texts) (asked : List HashId) (behind : List ℕ) → Round tag text asked [] [] behind → Faced there (GetTypes tag asked ∷ []) [] behind
  last_round tag text asked behind r =
      let none = none_of r.heard_ahead r.heard_behind r.heard r.sent r.heard_frames in
      let no_reply = none_replied r.state r.last r.replied (subst (λ (l : List Message). Replied hash_of r.state l r.replied r.last) none r.replies) in
      let came : frame_of r.reply ++ [] ≡ behind = sym (ap (λ (l : List Message). frame_of r.reply ++ frames_of l) no_reply) ∙ r.came ∙ ap (λ (o : List ℕ). o ++ behind) r.frames in
      record { replies = tt; others = r.reply ∷ []; frames = ([], sym (ap front came) ∙ r.framed_reply [], refl); count = refl }

  -- It was read.
  record ReadReply (tag : ℕ) (asked : List HashId) (more : List Message) (message : Message) (messages : List Message) (behind : List ℕ) : Type 0 where
    is_reply : IsReplyOf there (GetTypes tag asked) message
    heard : Heard there more messages behind

  read_round : (tag : ℕ) (text : Texts) (asked : List HashId) (more : List Message) (message : Message) (messages : List Message) (behind : List ℕ) → Round tag text asked more (message ∷ messages) behind → ReadReply tag asked more message messages behind
  read_round tag text asked more message messages behind r =
      let f = first_read r.reply message (frames_of r.replied) r.ahead behind messages r.framed_reply r.came r.frames in
      record {
        is_reply = subst (IsReplyOf there (GetTypes tag asked)) f.0 r.is_reply;
        heard = record {
          state = r.state;
          last = r.last;
          heard = r.heard;
          replied = r.replied;
          heard_ahead = r.heard_ahead;
          heard_behind = r.heard_behind;
          ahead = f.1;
          keeps = r.keeps;
          sent = r.sent;
          heard_frames = r.heard_frames;
          no_more = r.no_more;
          replies = r.replies;
          came = f.2;
          frames = f.3;
        };
      }

  -- ---- all rounds

  abbrev FacedBy : List Message → List ℕ → Rounds → Type 0
  FacedBy messages behind all = Faced there all.requests messages behind

  abbrev HeardBy : List Message → List ℕ → Rounds → Type 0
  HeardBy messages behind all = Heard there all.requests messages behind

  faced_whole : (tag : ℕ) (text : Texts) (messages : List Message) (behind : List ℕ) → IsWhole (found_in text) ids objects → HeardBy messages behind (rounds ids tag text messages) → FacedBy messages behind (rounds ids tag text messages)
  faced_whole tag text messages behind e w =
      let same = whole_rounds ids tag text messages objects e in
      subst (FacedBy messages behind) (sym same) (nothing_faced there messages behind (subst (HeardBy messages behind) same w))

  faced_last : (tag : ℕ) (text : Texts) (behind : List ℕ) → Holding there met text → tag ≤ length text + 1 → IsWhole (found_in text) ids objects ⊎ Planned there ids objects named m text → HeardBy [] behind (rounds ids tag text []) → FacedBy [] behind (rounds ids tag text [])
  faced_last tag text behind h le (inl e) w = faced_whole tag text [] behind e w
  faced_last tag text behind h le (inr p) w =
      let same = last_asked ids tag text p.asked p.is in
      subst (FacedBy [] behind) (sym same) (last_round tag text p.asked behind (one_round tag text [] [] behind h le p (subst (HeardBy [] behind) same w)))

  faced_more : (tag : ℕ) (text : Texts) (reply : Message) (replies : List Message) (behind : List ℕ) → Holding there met text → tag ≤ length text + 1 → IsWhole (found_in text) ids objects ⊎ Planned there ids objects named m text
      → (let after = rounds ids (tag + 1) (text ++ texts_in reply) replies in Holding there met (text ++ texts_in reply) → tag + 1 ≤ length (text ++ texts_in reply) + 1 → HeardBy replies behind after → FacedBy replies behind after)
      → HeardBy (reply ∷ replies) behind (rounds ids tag text (reply ∷ replies)) → FacedBy (reply ∷ replies) behind (rounds ids tag text (reply ∷ replies))
  faced_more tag text reply replies behind h le (inl e) later w = faced_whole tag text (reply ∷ replies) behind e w
  faced_more tag text reply replies behind h le (inr p) later w =
      let asked = next_asked ids tag text reply replies p.asked p.is in
      let o = one_round tag text _ (reply ∷ replies) behind h le p (subst (HeardBy (reply ∷ replies) behind) asked w) in
      let first = (read_round tag text p.asked _ reply replies behind o).is_reply in
      let b = reply_brings there ids objects named m tag text p reply h first in
      let same = goes_on there ids objects named m tag text p reply replies b in
      let again = one_round tag text _ (reply ∷ replies) behind h le p (subst (HeardBy (reply ∷ replies) behind) same w) in
      let f = later b.holding (omega (arith, b.more, le)) (read_round tag text p.asked _ reply replies behind again).heard in
      subst (FacedBy (reply ∷ replies) behind) (sym same) (record { replies = (first, f.replies); others = f.others; frames = f.frames; count = omega (arith, f.count) })

  pub faced : (messages : List Message) (tag : ℕ) (text : Texts) (behind : List ℕ) → Holding there met text → tag ≤ length text + 1 → HeardBy messages behind (rounds ids tag text messages) → FacedBy messages behind (rounds ids tag text messages)
  faced [] tag text behind h le w = faced_last tag text behind h le (planned there ids objects named m text h) w
  faced (reply ∷ replies) tag text behind h le w =
      faced_more tag text reply replies behind h le (planned there ids objects named m text h) (λ g n v. faced replies (tag + 1) (text ++ texts_in reply) behind g n v) w
