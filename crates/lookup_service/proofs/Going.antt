-- A session, one request after another.
use Rattle.std.proofs.Common.{◌≡◌, ℕ, suc, ◌+◌, below_more, ◌<◌, List, [], ◌∷◌, ◌++◌, true, false, length, Option, refl, sym, ap, subst, ◌∙◌, append_assoc, append-nil, length-append, arith}
use Rattle.std.specs.Prelude.{None, Some, Result, Ok, Err, IfErr}
use Rattle.std.proofs.lemmas.List.Elements.{All-nil, All-push}
use Rattle.std.specs.Int.{w32, to_be_bytes}
use Rattle.std.specs.Io.KnownBytes.{append_known, IsAtEnd}
use Rattle.type_lookup.specs.declared.messages.messages.Message.{Message}
use Rattle.type_lookup.specs.messages.Spelling.{payload_of, frame_of}
use Rattle.type_lookup.specs.declared.faults.FrameFault.{FrameFault}
use Rattle.type_lookup.specs.declared.faults.FrameFault.TheVariants as frame
use Rattle.type_lookup.specs.Frames.{front, framed, Took, Answers}
use Rattle.type_lookup.specs.Causes.{IsOutside}
use Rattle.type_lookup.specs.Sequences.{frames_of}
use Rattle.type_lookup.proofs.Taking.{took-none, took-more, appended-none, appended-more}
use Rattle.type_lookup.proofs.Sequences.{one_more}
use Rattle.type_registry.specs.Passed.{PassView, Grows}
use Rattle.lookup_service.specs.replies.Replies.{is_request}
use Rattle.lookup_service.proofs.OfReplies.Putting.{grows_not}
use Rattle.lookup_service.specs.declared.ended.Ended.{Ended}
use Rattle.lookup_service.specs.declared.ended.Ended.TheVariants.{Closed, LinkFault, BadFrame, Limit, OutOfMemory}
use Rattle.lookup_service.specs.States.{IsStep, Replied}
use Rattle.lookup_service.specs.Sessions.{IsRequest, AreRequests, IsBadFront, IsPrefix, EndsBy, Sends, AreAsked, GatedOver, end_of}
use Rattle.lookup_service.specs.Requests.{Asks, IsFromOutside, IsSent, Replies, EndsIn, BreaksOff}

-- one more reply
replied_more : (name : List ℕ → List ℕ) (s : PassView) (requests replies : List Message) (t u : PassView) (request reply : Message) → Replied name s requests replies t → IsStep name t u request reply → Replied name s (requests ++ request ∷ []) (replies ++ reply ∷ []) u
replied_more name s [] [] t u request reply all step = (u, subst (λ (v : PassView). IsStep name v u request reply) all step, refl)
replied_more name s [] (a ∷ rs) t u request reply all step = absurd all
replied_more name s (q ∷ qs) [] t u request reply all step = absurd all
replied_more name s (q ∷ qs) (a ∷ rs) t u request reply all step = (all.0, all.1, replied_more name all.0 qs rs t u request reply all.2 step)

as_many : (name : List ℕ → List ℕ) (s : PassView) (requests replies : List Message) (t : PassView) → Replied name s requests replies t → length replies ≡ length requests
as_many name s [] [] t all = refl
as_many name s [] (a ∷ rs) t all = absurd all
as_many name s (q ∷ qs) [] t all = absurd all
as_many name s (q ∷ qs) (a ∷ rs) t all = ap suc (as_many name all.0 qs rs t all.2)

-- the frames that are sent, and one more
sent_more : (messages : List Message) (message : Message) → frames_of (messages ++ message ∷ []) ≡ frames_of messages ++ frame_of message
sent_more [] message = append-nil (frame_of message)
sent_more (first ∷ messages) message = ap (λ o. frame_of first ++ o) (sent_more messages message) ∙ sym (append_assoc (frame_of first) (frames_of messages) (frame_of message))

four : (n : ℕ) → length (to_be_bytes w32 n) ≡ 4
four n = refl

-- how many octets a frame has
pub frame_long : (message : Message) → length (frame_of message) ≡ 4 + length (payload_of message)
frame_long message = let size = to_be_bytes w32 (length (payload_of message)) in omega (arith, length-append size (payload_of message), four (length (payload_of message)))

-- What a session has done between two requests.
pub record Going (name : List ℕ → List ℕ) (entry now : PassView) (got_before got_now left_before left_now taken_before taken_now : Option (List ℕ)) (number at : ℕ) : Type 0 where
  pub octets : List ℕ
  pub sent : List ℕ
  pub requests : List Message
  pub replies : List Message
  pub took : Took got_before got_now left_before left_now octets
  pub gave : taken_now ≡ append_known taken_before sent
  pub read : AreRequests octets requests
  pub replied : Replied name entry requests replies now
  pub sends : sent ≡ frames_of replies
  pub count : length requests ≡ number
  pub long : at ≡ length octets

pub going_none : (name : List ℕ → List ℕ) (entry : PassView) (got left taken : Option (List ℕ)) → Going name entry entry got got left left taken taken 0 0
going_none name entry got left taken = record {
  octets = [];
  sent = [];
  requests = [];
  replies = [];
  took = took-none got left;
  gave = appended-none taken;
  read = record { frames = refl; each = All-nil IsRequest };
  replied = refl;
  sends = refl;
  count = refl;
  long = refl;
}

module _ (name : List ℕ → List ℕ) (entry now : PassView) (gb gn lb ln tb tn : Option (List ℕ)) (number at : ℕ) (g : Going name entry now gb gn lb ln tb tn number at) where
  many : length g.replies ≡ number
  many = as_many name entry g.requests g.replies now g.replied ∙ g.count

  all_sent : IsPrefix g.sent (frames_of g.replies)
  all_sent = ([], sym g.sends ∙ sym (append-nil g.sent))

  -- one more request was read
  more_read : (piece : List ℕ) (request : Message) → front piece ≡ framed request [] → is_request request ≡ true → AreRequests (g.octets ++ piece) (g.requests ++ request ∷ [])
  more_read piece request is asks = record {
    frames = one_more g.octets piece g.requests request g.read.frames is;
    each = All-push IsRequest g.requests request g.read.each asks;
  }

  sent_some : (some : List ℕ) (reply : Message) → IsPrefix some (frame_of reply) → IsPrefix (g.sent ++ some) (frames_of (g.replies ++ reply ∷ []))
  sent_some some reply prefix = (prefix.0, sent_more g.replies reply ∙ ap (λ o. frames_of g.replies ++ o) prefix.1 ∙ sym (append_assoc (frames_of g.replies) some prefix.0) ∙ ap (λ (o : List ℕ). (o ++ some) ++ prefix.0) (sym g.sends))

  -- its reply was sent whole
  pub going_more : (asked : ℕ → Type 0) (gx lx ty : Option (List ℕ)) (exit : PassView) (piece : List ℕ) (request : Message) → Took gn gx ln lx piece → Asks piece lx at (Ok request) → Replies asked name now exit request number tn ty → Going name entry exit gb gx lb lx tb ty (number + 1) (at + length (frame_of request))
  going_more asked gx lx ty exit piece request took is sent = let reply = sent.0 in record {
    octets = g.octets ++ piece;
    sent = g.sent ++ frame_of reply;
    requests = g.requests ++ request ∷ [];
    replies = g.replies ++ reply ∷ [];
    took = took-more gb gn gx lb ln lx g.octets piece g.took took;
    gave = appended-more tb tn ty g.sent (frame_of reply) g.gave sent.1.gave;
    read = more_read piece request is.0 is.2;
    replied = replied_more name entry g.requests g.replies now exit request reply g.replied sent.1.step;
    sends = ap (λ o. o ++ frame_of reply) g.sends ∙ sym (sent_more g.replies reply);
    count = omega (arith, length-append g.requests (request ∷ []), g.count);
    long = omega (arith, length-append g.octets piece, g.long, ap length is.1);
  }

-- ---- with its gate

module _ (asked : ℕ → Type 0) (name : List ℕ → List ℕ) (entry now : PassView) (gb gn lb ln tb tn : Option (List ℕ)) (number at : ℕ) (g : Going name entry now gb gn lb ln tb tn number at) (each : AreAsked asked number) where
  each_reply : AreAsked asked (length g.replies)
  each_reply = subst (λ (n : ℕ). AreAsked asked n) (sym (many name entry now gb gn lb ln tb tn number at g)) each

  -- it ends behind some further octets, where all replies were sent
  ended : (gx lx : Option (List ℕ)) (exit : PassView) (piece : List ℕ) (end : Ended) → Took gn gx ln lx piece → Grows now exit → EndsBy end (length g.requests) (length g.octets) piece lx → Sends end g.sent (frames_of g.replies)
      → GatedOver asked name entry exit gb gx lb lx tb tn end
  ended gx lx exit piece end took grows ends sends = record {
    each = each_reply;
    over = record {
      octets = g.octets ++ piece;
      sent = g.sent;
      took = took-more gb gn gx lb ln lx g.octets piece g.took took;
      gave = g.gave;
      session = record {
        requests = g.requests;
        replies = g.replies;
        last = now;
        ahead = g.octets;
        behind = piece;
        cut = refl;
        read = g.read;
        replied = g.replied;
        later = grows;
        ends = ends;
        sends = sends;
      };
    };
  }

  -- it ends where no request was read
  pub ends_ahead : (gx lx : Option (List ℕ)) (piece : List ℕ) (end : Ended) → number < 65536 → Took gn gx ln lx piece → Asks piece lx at (Err end) → GatedOver asked name entry now gb gx lb lx tb tn end
  ends_ahead gx lx piece Closed few took is = ended gx lx now piece Closed took (grows_not now) (omega (arith, g.count), is.0, is.1) g.sends
  ends_ahead gx lx piece LinkFault few took is = ended gx lx now piece LinkFault took (grows_not now) (omega (arith, g.count)) (all_sent name entry now gb gn lb ln tb tn number at g)
  ends_ahead gx lx piece (BadFrame place) few took is = ended gx lx now piece (BadFrame place) took (grows_not now) (omega (arith, g.count), is.0 ∙ g.long, is.1) g.sends
  ends_ahead gx lx piece Limit few took is = absurd is
  ends_ahead gx lx piece OutOfMemory few took is = ended gx lx now piece OutOfMemory took (grows_not now) (omega (arith, g.count)) (all_sent name entry now gb gn lb ln tb tn number at g)

  pub limit : number ≡ 65536 → GatedOver asked name entry now gb gn lb ln tb tn Limit
  limit all = record {
    each = each_reply;
    over = record {
      octets = g.octets;
      sent = g.sent;
      took = g.took;
      gave = g.gave;
      session = record {
        requests = g.requests;
        replies = g.replies;
        last = now;
        ahead = g.octets;
        behind = [];
        cut = sym (append-nil g.octets);
        read = g.read;
        replied = g.replied;
        later = grows_not now;
        ends = (g.count ∙ all, refl);
        sends = g.sends;
      };
    };
  }

  one_more_asked : asked number → (reply : Message) → AreAsked asked (length (g.replies ++ reply ∷ []))
  one_more_asked also reply =
      let long : number + 1 ≡ length (g.replies ++ reply ∷ []) = omega (arith, length-append g.replies (reply ∷ []), many name entry now gb gn lb ln tb tn number at g) in
      subst (λ (n : ℕ). AreAsked asked n) long (below_more asked number each also)

  -- its reply was sent in part
  cut_at : (gx lx ty : Option (List ℕ)) (exit : PassView) (piece some : List ℕ) (request reply : Message) → Took gn gx ln lx piece → front piece ≡ framed request [] → is_request request ≡ true → IsSent asked name now exit request number tn ty reply some
      → (end : Ended) → EndsBy end (length (g.requests ++ request ∷ [])) (length (g.octets ++ piece)) [] lx → Sends end (g.sent ++ some) (frames_of (g.replies ++ reply ∷ [])) → GatedOver asked name entry exit gb gx lb lx tb ty end
  cut_at gx lx ty exit piece some request reply took is asks sent end ends sends = record {
    each = one_more_asked sent.call reply;
    over = record {
      octets = g.octets ++ piece;
      sent = g.sent ++ some;
      took = took-more gb gn gx lb ln lx g.octets piece g.took took;
      gave = appended-more tb tn ty g.sent some g.gave sent.gave;
      session = record {
        requests = g.requests ++ request ∷ [];
        replies = g.replies ++ reply ∷ [];
        last = exit;
        ahead = g.octets ++ piece;
        behind = [];
        cut = sym (append-nil (g.octets ++ piece));
        read = more_read name entry now gb gn lb ln tb tn number at g piece request is asks;
        replied = replied_more name entry g.requests g.replies now exit request reply g.replied sent.step;
        later = grows_not exit;
        ends = ends;
        sends = sends;
      };
    };
  }

  ends_in : (gx lx ty : Option (List ℕ)) (exit : PassView) (piece : List ℕ) (request : Message) → number < 65536 → Took gn gx ln lx piece → front piece ≡ framed request [] → is_request request ≡ true → Grows now exit → (end : Ended) (reply : Option Message) → EndsIn asked name now exit request number tn ty end reply
      → GatedOver asked name entry exit gb gx lb lx tb ty end
  ends_in gx lx ty exit piece request few took is asks grows end None left = subst (λ (t : Option (List ℕ)). GatedOver asked name entry exit gb gx lb lx tb t end) (sym left.1) (subst (GatedOver asked name entry exit gb gx lb lx tb tn) (sym left.0) (ended gx lx exit piece OutOfMemory took grows (omega (arith, g.count)) (all_sent name entry now gb gn lb ln tb tn number at g)))
  ends_in gx lx ty exit piece request few took is asks grows LinkFault (Some reply) left = cut_at gx lx ty exit piece left.1 request reply took is asks left.3 LinkFault (omega (arith, length-append g.requests (request ∷ []), g.count)) (sent_some name entry now gb gn lb ln tb tn number at g left.1 reply left.2)
  ends_in gx lx ty exit piece request few took is asks grows OutOfMemory (Some reply) left = cut_at gx lx ty exit piece left.1 request reply took is asks left.3 OutOfMemory (omega (arith, length-append g.requests (request ∷ []), g.count)) (sent_some name entry now gb gn lb ln tb tn number at g left.1 reply left.2)
  ends_in gx lx ty exit piece request few took is asks grows Closed (Some reply) left = absurd left.0
  ends_in gx lx ty exit piece request few took is asks grows (BadFrame place) (Some reply) left = absurd left.0
  ends_in gx lx ty exit piece request few took is asks grows Limit (Some reply) left = absurd left.0

  -- it ends where a request was read and isn't answered
  pub breaks_off : (gx lx ty : Option (List ℕ)) (exit : PassView) (piece : List ℕ) (request : Message) (end : Ended) → number < 65536 → Took gn gx ln lx piece → Asks piece lx at (Ok request) → Grows now exit → BreaksOff asked name now exit request number tn ty end → GatedOver asked name entry exit gb gx lb lx tb ty end
  breaks_off gx lx ty exit piece request end few took is grows left = ends_in gx lx ty exit piece request few took is.0 is.2 grows end left.0 left.1

-- ---- what is read

pub asks_fault : (octets : List ℕ) (left : Option (List ℕ)) (at : ℕ) (fault : FrameFault) → Answers octets left (Err fault) → Asks octets left at (Err (end_of fault at))
asks_fault octets left at frame.LinkFault is = tt
asks_fault octets left at frame.OutOfMemory is = tt
asks_fault octets left at frame.Truncated is = (refl, subst (λ f. IsBadFront octets f (IsAtEnd left)) (sym is.0) (is.1, tt))
asks_fault octets left at (frame.TooLong n) is = (refl, subst (λ f. IsBadFront octets f (IsAtEnd left)) (sym is.0) (tt, is.1))
asks_fault octets left at (frame.BadMessage place) is = (refl, subst (λ f. IsBadFront octets f (IsAtEnd left)) (sym is.0) (tt, is.1))

pub asks_not : (octets : List ℕ) (left : Option (List ℕ)) (at : ℕ) (message : Message) → front octets ≡ framed message [] → is_request message ≡ false → Asks octets left at (Err (BadFrame at))
asks_not octets left at message is isnt = (refl, subst (λ f. IsBadFront octets f (IsAtEnd left)) (sym is) (isnt, refl))

-- ---- how a fault ends it

pub from_outside : (fault : FrameFault) (at : ℕ) → IsOutside fault → IsFromOutside (end_of fault at)
from_outside frame.LinkFault at is = tt
from_outside frame.OutOfMemory at is = tt
from_outside frame.Truncated at is = absurd is
from_outside (frame.TooLong n) at is = absurd is
from_outside (frame.BadMessage place) at is = absurd is

-- some octets of the reply were sent
pub breaks_in : {T : Type 0} (asked : ℕ → Type 0) (name : List ℕ → List ℕ) (now exit : PassView) (request reply : Message) (number : ℕ) (tn ty : Option (List ℕ)) (result : Result T Ended) → IsStep name now exit request reply → asked number → IfErr result IsFromOutside
    → IfErr result (λ _. (some : List ℕ) × IsPrefix some (frame_of reply) × (ty ≡ append_known tn some)) → IfErr result (BreaksOff asked name now exit request number tn ty)
breaks_in asked name now exit request reply number tn ty (Ok u) step call outside sent = tt
breaks_in asked name now exit request reply number tn ty (Err end) step call outside sent = (Some reply, (outside, sent.0, sent.1, record { step = step; call = call; gave = sent.2 }))

pub gated_as : (asked : ℕ → Type 0) (name : List ℕ → List ℕ) (entry exit : PassView) (gb gx gy lb lx ly tb tx ty : Option (List ℕ)) (end fin : Ended) → gy ≡ gx → ly ≡ lx → ty ≡ tx → fin ≡ end → GatedOver asked name entry exit gb gx lb lx tb tx end → GatedOver asked name entry exit gb gy lb ly tb ty fin
gated_as asked name entry exit gb gx gy lb lx ly tb tx ty end fin g l t e s =
    subst (λ (o : Option (List ℕ)). GatedOver asked name entry exit gb o lb ly tb ty fin) (sym g)
    (subst (λ (o : Option (List ℕ)). GatedOver asked name entry exit gb gx lb o tb ty fin) (sym l)
    (subst (λ (o : Option (List ℕ)). GatedOver asked name entry exit gb gx lb lx tb o fin) (sym t)
    (subst (GatedOver asked name entry exit gb gx lb lx tb tx) (sym e) s)))

pub going_as : (name : List ℕ → List ℕ) (entry now : PassView) (gb gx gy lb lx ly tb tx ty : Option (List ℕ)) (number at place : ℕ) → gy ≡ gx → ly ≡ lx → ty ≡ tx → place ≡ at → Going name entry now gb gx lb lx tb tx number at → Going name entry now gb gy lb ly tb ty number place
going_as name entry now gb gx gy lb lx ly tb tx ty number at place g l t e s =
    subst (λ (o : Option (List ℕ)). Going name entry now gb o lb ly tb ty number place) (sym g)
    (subst (λ (o : Option (List ℕ)). Going name entry now gb gx lb o tb ty number place) (sym l)
    (subst (λ (o : Option (List ℕ)). Going name entry now gb gx lb lx tb o number place) (sym t)
    (subst (Going name entry now gb gx lb lx tb tx number) (sym e) s)))
