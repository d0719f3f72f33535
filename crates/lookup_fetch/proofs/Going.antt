-- The rounds of a fetch, one after another.
use Rattle.std.proofs.Common.{◌≡◌, ℕ, ◌+◌, ◌≤◌, List, [], ◌∷◌, ◌++◌, length, Option, Result, refl, sym, ap, ap₂, subst, ◌∙◌, append_assoc, append-nil, length-append, arith}
use Rattle.std.specs.Prelude.{None, Some, Ok, Err, cond}
use Rattle.std.specs.Io.KnownBytes.{append_known, IsAtEnd}
use Rattle.type_trees.specs.declared.types.HashId.{HashId}
use Rattle.type_object.specs.Pools.{Texts}
use Rattle.type_lookup.specs.declared.messages.messages.Fetched.{Fetched}
use Rattle.type_lookup.specs.declared.messages.messages.Message.{Message}
use Rattle.type_lookup.specs.declared.messages.messages.Message.TheVariants.{GetTypes}
use Rattle.type_lookup.specs.messages.Spelling.{frame_of}
use Rattle.type_lookup.specs.Frames.{framed, front, Took}
use Rattle.type_lookup.specs.Sequences.{frames_of, AreFrames}
use Rattle.type_lookup.proofs.Sequences.{stands, one_more}
use Rattle.type_lookup.proofs.Taking.{took-none, took-more, appended-none, appended-more}
use Rattle.lookup_fetch.specs.declared.plan.Next.{Next}
use Rattle.lookup_fetch.specs.declared.plan.Next.TheVariants.{Many, Whole, Ask}
use Rattle.lookup_fetch.specs.declared.faults.FetchFault.{FetchFault}
use Rattle.lookup_fetch.specs.declared.faults.FetchFault.TheVariants.{LinkFault, BadReply, WrongHash, NotServed, TooMany, OutOfMemory}
use Rattle.lookup_fetch.specs.Rounds.{End, done, stopped, waits, Rounds, ends, asks, unless_fault, unanswered, answered, plan, closure, rounds, found_in, reply_fault, texts_in, brought}
use Rattle.lookup_fetch.specs.Taking.{IsFault}
use Rattle.lookup_fetch.specs.Fetches.{IsPrefix, IsBad, Ends, Answers, HasClosure, Fetches, Passed, FetchesOver}
use Rattle.lookup_fetch.specs.Steps.{Exchanges, ExchangesOver, AsksOver, GoesOn, RoundOver, Going, GoingOver}
use Rattle.lookup_fetch.proofs.Planning.{whole_closure}

-- ---- what was passed over the link

pub passed_none : (g l t : Option (List ℕ)) → Passed g g l l t t [] []
passed_none g l t = record { took = took-none g l; gave = appended-none t }

pub passed_more : (g h i l m n t u v : Option (List ℕ)) (octets sent octets_then sent_then : List ℕ) → Passed g h l m t u octets sent → Passed h i m n u v octets_then sent_then → Passed g i l n t v (octets ++ octets_then) (sent ++ sent_then)
passed_more g h i l m n t u v octets sent octets_then sent_then p q = record { took = took-more g h i l m n octets octets_then p.took q.took; gave = appended-more t u v sent sent_then p.gave q.gave }

-- ---- lists of messages

pub frames-append : (ms ns : List Message) → frames_of (ms ++ ns) ≡ frames_of ms ++ frames_of ns
frames-append [] ns = refl
frames-append (m ∷ ms) ns = ap (λ (o : List ℕ). frame_of m ++ o) (frames-append ms ns) ∙ sym (append_assoc (frame_of m) (frames_of ms) (frames_of ns))

brought-append : (ms ns : List Message) → brought (ms ++ ns) ≡ brought ms ++ brought ns
brought-append [] ns = refl
brought-append (m ∷ ms) ns = ap (λ (o : Texts). texts_in m ++ o) (brought-append ms ns) ∙ sym (append_assoc (texts_in m) (brought ms) (brought ns))

pub AreFrames-append : (octets more : List ℕ) (ms ns : List Message) → AreFrames octets ms → AreFrames more ns → AreFrames (octets ++ more) (ms ++ ns)
AreFrames-append octets more [] ns none all = subst (λ (o : List ℕ). AreFrames o ns) (ap (λ (o : List ℕ). o ++ more) (sym none)) all
AreFrames-append octets more (m ∷ ms) ns first all = (first.0 ++ more, stands octets first.0 more m first.1, AreFrames-append first.0 more ms ns first.2 all)

-- ---- the end of a fetch in a round

module _ (ids : List HashId) (tag : ℕ) (held : Texts) (left : Option (List ℕ)) where
  pub no_memory : Fetches ids tag held [] [] left (Err OutOfMemory)
  no_memory = record { messages = []; ahead = []; behind = []; cut = refl; read = refl; none_more = omega arith; answers = (frames_of (rounds ids tag held []).requests, refl); closed = tt }

  pub too_many : Many ≡ plan (found_in held) ids → Fetches ids tag held [] [] left (Err TooMany)
  unfolding rounds
  too_many e = record {
    messages = [];
    ahead = [];
    behind = [];
    cut = refl;
    read = refl;
    none_more = omega arith;
    answers = subst (λ (n : Next). Answers (unanswered tag n) [] [] left (Err TooMany)) e (record { whole = refl; end_is = refl; none = refl });
    closed = tt;
  }

  pub all_there : (objects : List Fetched) → Whole objects ≡ plan (found_in held) ids → closure (found_in held) ids ≡ Some objects → Fetches ids tag held [] [] left (Ok objects)
  unfolding rounds
  all_there objects e is = record {
    messages = [];
    ahead = [];
    behind = [];
    cut = refl;
    read = refl;
    none_more = omega arith;
    answers = subst (λ (n : Next). Answers (unanswered tag n) [] [] left (Ok objects)) e (record { whole = refl; end_is = refl; none = refl });
    closed = ap (λ (o : Texts). closure (found_in o) ids) (append-nil held) ∙ is;
  }

prefix_alone : (sent frame : List ℕ) → IsPrefix sent frame → IsPrefix sent (frame ++ [])
prefix_alone sent frame p = (p.0, append-nil frame ∙ p.1)

unanswered_so : (tag : ℕ) (asked : List HashId) (octets sent : List ℕ) (left : Option (List ℕ)) (fault : FetchFault) → Exchanges (GetTypes tag asked) octets sent left (Err fault) → Answers (unanswered tag (Ask asked)) sent octets left (Err fault)
unanswered_so tag asked octets sent left LinkFault h = prefix_alone sent (frame_of (GetTypes tag asked)) h
unanswered_so tag asked octets sent left BadReply h = (h.0 ∙ sym (append-nil (frame_of (GetTypes tag asked))), h.1)
unanswered_so tag asked octets sent left (WrongHash id got) h = absurd h
unanswered_so tag asked octets sent left (NotServed id) h = absurd h
unanswered_so tag asked octets sent left TooMany h = absurd h
unanswered_so tag asked octets sent left OutOfMemory h = prefix_alone sent (frame_of (GetTypes tag asked)) h

-- no reply came to the request
pub no_reply : (ids : List HashId) (tag : ℕ) (held : Texts) (asked : List HashId) (octets sent : List ℕ) (left : Option (List ℕ)) (fault : FetchFault) → Ask asked ≡ plan (found_in held) ids → Exchanges (GetTypes tag asked) octets sent left (Err fault) → Fetches ids tag held octets sent left (Err fault)
unfolding rounds
no_reply ids tag held asked octets sent left fault e h = record {
  messages = [];
  ahead = [];
  behind = octets;
  cut = refl;
  read = refl;
  none_more = omega arith;
  answers = subst (λ (n : Next). Answers (unanswered tag n) sent octets left (Err fault)) e (unanswered_so tag asked octets sent left fault h);
  closed = tt;
}

one_sent : (sent frame : List ℕ) → sent ≡ frame → sent ≡ frame ++ []
one_sent sent frame e = e ∙ sym (append-nil frame)

refused_so : (request : Message) (end : Option FetchFault) (after : Rounds) (sent : List ℕ) (left : Option (List ℕ)) (fault : FetchFault) → sent ≡ frame_of request → IsFault end fault → Answers (asks (request ∷ []) (unless_fault end after)) sent [] left (Err fault)
refused_so request end after sent left LinkFault whole h = absurd h
refused_so request end after sent left BadReply whole h =
    subst (λ (o : Option FetchFault). Answers (asks (request ∷ []) (unless_fault o after)) sent [] left (Err BadReply)) (sym h) (one_sent sent (frame_of request) whole, (refl, refl))
refused_so request end after sent left (WrongHash id got) whole h =
    subst (λ (o : Option FetchFault). Answers (asks (request ∷ []) (unless_fault o after)) sent [] left (Err (WrongHash id got))) (sym h) (record { whole = one_sent sent (frame_of request) whole; end_is = refl; none = refl })
refused_so request end after sent left (NotServed id) whole h =
    subst (λ (o : Option FetchFault). Answers (asks (request ∷ []) (unless_fault o after)) sent [] left (Err (NotServed id))) (sym h) (record { whole = one_sent sent (frame_of request) whole; end_is = refl; none = refl })
refused_so request end after sent left TooMany whole h =
    subst (λ (o : Option FetchFault). Answers (asks (request ∷ []) (unless_fault o after)) sent [] left (Err TooMany)) (sym h) (record { whole = one_sent sent (frame_of request) whole; end_is = refl; none = refl })
refused_so request end after sent left OutOfMemory whole h =
    let others = frames_of (unless_fault end after).requests in
    (others, ap (λ (o : List ℕ). o ++ others) (sym whole))

one_asked : (request : Message) (after : Rounds) → 1 ≤ length (asks (request ∷ []) after).requests
one_asked request after = omega arith

-- the reply to the request is refused
pub bad_reply : (ids : List HashId) (tag : ℕ) (held : Texts) (asked : List HashId) (reply : Message) (octets sent : List ℕ) (left : Option (List ℕ)) (fault : FetchFault) → Ask asked ≡ plan (found_in held) ids → sent ≡ frame_of (GetTypes tag asked) → front octets ≡ framed reply []
    → IsFault (reply_fault tag asked reply) fault → Fetches ids tag held octets sent left (Err fault)
unfolding rounds
bad_reply ids tag held asked reply octets sent left fault e whole read h =
    let after = rounds ids (tag + 1) (held ++ texts_in reply) [] in
    record {
      messages = reply ∷ [];
      ahead = octets;
      behind = [];
      cut = sym (append-nil octets);
      read = ([], read, refl);
      none_more = subst (λ (n : Next). 1 ≤ length (answered tag n reply after).requests) e (one_asked (GetTypes tag asked) (unless_fault (reply_fault tag asked reply) after));
      answers = subst (λ (n : Next). Answers (answered tag n reply after) sent [] left (Err fault)) e (refused_so (GetTypes tag asked) (reply_fault tag asked reply) after sent left fault whole h);
      closed = tt;
    }

-- ---- one round after others

pub start : (ids : List HashId) (held : Texts) → held ≡ [] → Going ids 1 held [] []
start ids held none = subst (λ (o : Texts). Going ids 1 o [] []) (sym none) (record { messages = []; requests = []; read = refl; whole = refl; as_many = refl; texts = refl; leads = λ later. refl })

asks_more : (requests : List Message) (request : Message) (after : Rounds) → asks requests (asks (request ∷ []) after) ≡ asks (requests ++ request ∷ []) after
asks_more requests request after = ap (λ (o : List Message). let r : Rounds = record { requests = o; end = after.end } in r) (sym (append_assoc requests (request ∷ []) after.requests))

round_answered : (ids : List HashId) (tag : ℕ) (before now : Texts) (octets sent : List ℕ) (r : GoesOn ids tag before now octets sent) (later : List Message) → rounds ids tag before (r.reply ∷ later) ≡ asks (GetTypes tag r.asked ∷ []) (rounds ids (tag + 1) now later)
unfolding rounds
round_answered ids tag before now octets sent r later =
    let after = rounds ids (tag + 1) (before ++ texts_in r.reply) later in
    ap (λ (n : Next). answered tag n r.reply after) r.planned
    ∙ ap (λ (o : Option FetchFault). asks (GetTypes tag r.asked ∷ []) (unless_fault o after)) r.good
    ∙ ap (λ (o : Texts). asks (GetTypes tag r.asked ∷ []) (rounds ids (tag + 1) o later)) (sym r.held)

pub goes_on : (ids : List HashId) (tag : ℕ) (before now : Texts) (octets sent octets_then sent_then : List ℕ) → Going ids tag before octets sent → GoesOn ids tag before now octets_then sent_then → Going ids (tag + 1) now (octets ++ octets_then) (sent ++ sent_then)
goes_on ids tag before now octets sent octets_then sent_then g r = record {
  messages = g.messages ++ r.reply ∷ [];
  requests = g.requests ++ GetTypes tag r.asked ∷ [];
  read = one_more octets octets_then g.messages r.reply g.read r.read;
  whole = ap₂ (λ (a b : List ℕ). a ++ b) g.whole (one_sent sent_then (frame_of (GetTypes tag r.asked)) r.whole) ∙ sym (frames-append g.requests (GetTypes tag r.asked ∷ []));
  as_many = omega (arith, g.as_many, length-append g.messages (r.reply ∷ []), length-append g.requests (GetTypes tag r.asked ∷ []));
  texts = r.held ∙ ap₂ (λ (a b : Texts). a ++ b) g.texts (sym (append-nil (texts_in r.reply))) ∙ sym (brought-append g.messages (r.reply ∷ []));
  leads = λ later.
      ap (rounds ids 1 []) (append_assoc g.messages (r.reply ∷ []) later) ∙ g.leads (r.reply ∷ later)
      ∙ ap (asks g.requests) (round_answered ids tag before now octets_then sent_then r later)
      ∙ asks_more g.requests (GetTypes tag r.asked) (rounds ids (tag + 1) now later);
}

module _ (requests : List Message) (all : Rounds) (sent sent_then : List ℕ) (were : sent ≡ frames_of requests) where
  whole_after : sent_then ≡ frames_of all.requests → sent ++ sent_then ≡ frames_of (requests ++ all.requests)
  whole_after e = ap₂ (λ (a b : List ℕ). a ++ b) were e ∙ sym (frames-append requests all.requests)

  prefix_after : IsPrefix sent_then (frames_of all.requests) → IsPrefix (sent ++ sent_then) (frames_of (requests ++ all.requests))
  prefix_after p = (p.0, frames-append requests all.requests ∙ ap₂ (λ (a b : List ℕ). a ++ b) (sym were) p.1 ∙ sym (append_assoc sent sent_then p.0))

  ends_after : (end : End) (behind : List ℕ) → Ends all end sent_then behind → Ends (asks requests all) end (sent ++ sent_then) behind
  ends_after end behind h = record { whole = whole_after h.whole; end_is = h.end_is; none = h.none }

  answers_after : (behind : List ℕ) (left : Option (List ℕ)) (result : Result (List Fetched) FetchFault) → Answers all sent_then behind left result → Answers (asks requests all) (sent ++ sent_then) behind left result
  answers_after behind left (Ok objects) h = ends_after (done objects) behind h
  answers_after behind left (Err LinkFault) h = prefix_after h
  answers_after behind left (Err BadReply) h = (whole_after h.0, h.1)
  answers_after behind left (Err (WrongHash id got)) h = ends_after (stopped (WrongHash id got)) behind h
  answers_after behind left (Err (NotServed id)) h = ends_after (stopped (NotServed id)) behind h
  answers_after behind left (Err TooMany) h = ends_after (stopped TooMany) behind h
  answers_after behind left (Err OutOfMemory) h = prefix_after h

-- the last round ends the fetch
pub fetched : (ids : List HashId) (tag : ℕ) (held : Texts) (octets sent octets_then sent_then : List ℕ) (left : Option (List ℕ)) (result : Result (List Fetched) FetchFault) → Going ids tag held octets sent → Fetches ids tag held octets_then sent_then left result
    → Fetches ids 1 [] (octets ++ octets_then) (sent ++ sent_then) left result
fetched ids tag held octets sent octets_then sent_then left result g f = record {
  messages = g.messages ++ f.messages;
  ahead = octets ++ f.ahead;
  behind = f.behind;
  cut = ap (λ (o : List ℕ). octets ++ o) f.cut ∙ sym (append_assoc octets f.ahead f.behind);
  read = AreFrames-append octets f.ahead g.messages f.messages g.read f.read;
  none_more = subst (λ (all : Rounds). length (g.messages ++ f.messages) ≤ length all.requests) (sym (g.leads f.messages))
      (omega (arith, g.as_many, f.none_more, length-append g.messages f.messages, length-append g.requests (rounds ids tag held f.messages).requests));
  answers = subst (λ (all : Rounds). Answers all (sent ++ sent_then) f.behind left result) (sym (g.leads f.messages)) (answers_after g.requests (rounds ids tag held f.messages) sent sent_then g.whole f.behind left result f.answers);
  closed = subst (λ (o : Texts). HasClosure o ids result) (ap (λ (o : Texts). o ++ brought f.messages) g.texts ∙ sym (brought-append g.messages f.messages)) f.closed;
}

-- ---- the same over a link

pub over_nothing : (ids : List HashId) (tag : ℕ) (held now : Texts) (g l t : Option (List ℕ)) → RoundOver ids tag held now g g l l t t (Err OutOfMemory)
over_nothing ids tag held now g l t = record { octets = []; sent = []; passed = passed_none g l t; round = no_memory ids tag held l }

pub over_many : (ids : List HashId) (tag : ℕ) (held now : Texts) (g l t : Option (List ℕ)) → Many ≡ plan (found_in held) ids → RoundOver ids tag held now g g l l t t (Err TooMany)
over_many ids tag held now g l t e = record { octets = []; sent = []; passed = passed_none g l t; round = too_many ids tag held l e }

pub over_whole : (ids : List HashId) (tag : ℕ) (held now : Texts) (g l t : Option (List ℕ)) (objects : List Fetched) → Whole objects ≡ plan (found_in held) ids → RoundOver ids tag held now g g l l t t (Ok (Some objects))
over_whole ids tag held now g l t objects e = record { octets = []; sent = []; passed = passed_none g l t; round = all_there ids tag held l objects e (whole_closure (found_in held) ids objects e) }

pub over_asked : (ids : List HashId) (tag : ℕ) (held now : Texts) (g h l m t u : Option (List ℕ)) (nothing : Unit {0}) → AsksOver ids tag held now g h l m t u (Ok nothing) → RoundOver ids tag held now g h l m t u (Ok None)
over_asked ids tag held now g h l m t u nothing r = record { octets = r.octets; sent = r.sent; passed = r.passed; round = r.answers }

pub over_stopped : (ids : List HashId) (tag : ℕ) (held now : Texts) (g h l m t u : Option (List ℕ)) (fault : FetchFault) → AsksOver ids tag held now g h l m t u (Err fault) → RoundOver ids tag held now g h l m t u (Err fault)
over_stopped ids tag held now g h l m t u fault r = record { octets = r.octets; sent = r.sent; passed = r.passed; round = r.answers }

-- ---- asking

pub asks_none : (ids : List HashId) (tag : ℕ) (held now : Texts) (g l t : Option (List ℕ)) → AsksOver ids tag held now g g l l t t (Err OutOfMemory)
asks_none ids tag held now g l t = record { octets = []; sent = []; passed = passed_none g l t; answers = no_memory ids tag held l }

module _ (ids : List HashId) (tag : ℕ) (held now : Texts) (asked : List HashId) (g h l m t u : Option (List ℕ)) (planned : Ask asked ≡ plan (found_in held) ids) where
  pub asks_unanswered : (request : Message) (fault : FetchFault) → request ≡ GetTypes tag asked → ExchangesOver request g h l m t u (Err fault) → AsksOver ids tag held now g h l m t u (Err fault)
  asks_unanswered request fault is x = record {
    octets = x.octets;
    sent = x.sent;
    passed = x.passed;
    answers = no_reply ids tag held asked x.octets x.sent m fault planned (subst (λ (r : Message). Exchanges r x.octets x.sent m (Err fault)) is x.exchanges);
  }

  pub asks_refused : (request reply : Message) (fault : FetchFault) → request ≡ GetTypes tag asked → ExchangesOver request g h l m t u (Ok reply) → IsFault (reply_fault tag asked reply) fault → AsksOver ids tag held now g h l m t u (Err fault)
  asks_refused request reply fault is x f = record {
    octets = x.octets;
    sent = x.sent;
    passed = x.passed;
    answers = bad_reply ids tag held asked reply x.octets x.sent m fault planned (x.exchanges.0 ∙ ap frame_of is) x.exchanges.1 f;
  }

  pub asks_good : (request reply : Message) (nothing : Unit {0}) → request ≡ GetTypes tag asked → ExchangesOver request g h l m t u (Ok reply) → reply_fault tag asked reply ≡ None → now ≡ held ++ texts_in reply → AsksOver ids tag held now g h l m t u (Ok nothing)
  asks_good request reply nothing is x good put = record {
    octets = x.octets;
    sent = x.sent;
    passed = x.passed;
    answers = record { asked = asked; reply = reply; planned = sym planned; good = good; held = put; read = x.exchanges.1; whole = x.exchanges.0 ∙ ap frame_of is };
  }

-- ---- one round after others

pub started : (ids : List HashId) (held : Texts) (g l t : Option (List ℕ)) → held ≡ [] → GoingOver ids 1 held g g l l t t
started ids held g l t none = record { octets = []; sent = []; passed = passed_none g l t; going = start ids held none }

module _ (ids : List HashId) (tag : ℕ) (held now : Texts) (g h i l m n t u v : Option (List ℕ)) (before : GoingOver ids tag held g h l m t u) where
  pub one_round : RoundOver ids tag held now h i m n u v (Ok None) → GoingOver ids (tag + 1) now g i l n t v
  one_round r = record {
    octets = before.octets ++ r.octets;
    sent = before.sent ++ r.sent;
    passed = passed_more g h i l m n t u v before.octets before.sent r.octets r.sent before.passed r.passed;
    going = goes_on ids tag held now before.octets before.sent r.octets r.sent before.going r.round;
  }

  pub last_round : (objects : List Fetched) → RoundOver ids tag held now h i m n u v (Ok (Some objects)) → FetchesOver ids g i l n t v (Ok objects)
  last_round objects r = record {
    octets = before.octets ++ r.octets;
    sent = before.sent ++ r.sent;
    passed = passed_more g h i l m n t u v before.octets before.sent r.octets r.sent before.passed r.passed;
    fetches = fetched ids tag held before.octets before.sent r.octets r.sent n (Ok objects) before.going r.round;
  }

  pub stopped_round : (fault : FetchFault) → RoundOver ids tag held now h i m n u v (Err fault) → FetchesOver ids g i l n t v (Err fault)
  stopped_round fault r = record {
    octets = before.octets ++ r.octets;
    sent = before.sent ++ r.sent;
    passed = passed_more g h i l m n t u v before.octets before.sent r.octets r.sent before.passed r.passed;
    fetches = fetched ids tag held before.octets before.sent r.octets r.sent n (Err fault) before.going r.round;
  }

-- no more rounds
pub no_more : (ids : List HashId) (tag : ℕ) (held : Texts) (g h l m t u : Option (List ℕ)) → GoingOver ids tag held g h l m t u → FetchesOver ids g h l m t u (Err OutOfMemory)
no_more ids tag held g h l m t u before = stopped_round ids tag held held g h h l m m t u u before OutOfMemory (over_nothing ids tag held held h m u)
