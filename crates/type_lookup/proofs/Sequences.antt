-- Frames one after another, as they come.
use Rattle.std.proofs.Common.{◌≡◌, ℕ, List, [], ◌∷◌, ◌++◌, None, inl, inr, sym, ap, ap₂, ◌∙◌, refl, subst, length, take, drop, append_assoc, length-take-le, take-append-drop}
use Rattle.std.proofs.lemmas.Bool.{cases_lt, cases_eq}
use Rattle.std.proofs.lemmas.Nat.{be_bytes_4}
use Rattle.std.specs.Int.{w32, from_be_bytes, to_be_bytes}
use Rattle.type_lookup.specs.declared.messages.messages.Message.{Message}
use Rattle.type_lookup.specs.messages.Fields.{Field, got, bad, payload}
use Rattle.type_lookup.specs.messages.Spelling.{payload_of, frame_of, AreOctets}
use Rattle.type_lookup.proofs.OfMessages.Limits.{message_limits, front-octets, rest-octets}
use Rattle.type_lookup.specs.Frames.{no_frame, framed, filled, sized, lengthy, front, Frames, frames}
use Rattle.type_lookup.specs.Sequences.{AreFrames}
use Rattle.type_lookup.proofs.Following.{front-followed, followed, IsWhole, sized-cut, sized-full, sized-long, lengthy-cut, lengthy-full}
use Rattle.type_lookup.proofs.Streams.{never-framed, no-frame-framed, frames-none, frames-framed}

-- A frame stands whatever octets follow.
pub stands : (octets behind rest : List ℕ) (message : Message) → front octets ≡ framed message behind → front (octets ++ rest) ≡ framed message (behind ++ rest)
stands octets behind rest message e = front-followed octets rest (subst IsWhole (sym e) tt) ∙ ap (λ f. followed f rest) e

-- one more frame behind others
pub one_more : (octets piece : List ℕ) (messages : List Message) (message : Message) → AreFrames octets messages → front piece ≡ framed message [] → AreFrames (octets ++ piece) (messages ++ message ∷ [])
one_more octets piece [] message none e = ([], ap front (ap (λ o. o ++ piece) none) ∙ e, refl)
one_more octets piece (first ∷ messages) message all e = (all.0 ++ piece, stands octets all.0 piece first all.1, one_more all.0 piece messages message all.2 e)

front-of-none : front [] ≡ no_frame
unfolding front
front-of-none = refl

pub are_whole : (octets : List ℕ) (messages : List Message) → AreFrames octets messages → frames octets ≡ record { messages = messages; end = None }
are_whole octets [] none = frames-none octets (ap front none ∙ front-of-none)
are_whole octets (message ∷ messages) all =
    frames-framed octets all.0 message all.1
    ∙ ap (λ (after : Frames). let f : Frames = record { messages = message ∷ after.messages; end = after.end } in f) (are_whole all.0 messages all.2)

-- ---- a frame is its message's spelling

same-message : (a b : Message) (rest end : List ℕ) → framed a rest ≡ framed b end → a ≡ b
same-message a b rest end e = cc

filled-message : (n : ℕ) (field : Field Message) (behind rest : List ℕ) (message : Message) → filled n field behind ≡ framed message rest → (none : List ℕ) × (field ≡ got message none) × (behind ≡ rest)
filled-message n (got found none) behind rest message e = (none, ap (λ m. got m none) (same-message found message behind rest e), cc)
filled-message n (bad left) behind rest message e = absurd (never-framed _ message rest e)

-- a payload of so many octets is the message's spelling
sized-spelled : (n : ℕ) (octets rest : List ℕ) (message : Message) → AreOctets octets → sized n octets ≡ framed message rest → (n ≡ length (payload_of message)) × (octets ≡ payload_of message ++ rest)
sized-spelled n octets rest message are e =
    elim (cases_eq n 0) [
      | inl none ↦ absurd (never-framed _ message rest (ap (λ k. sized k octets) (sym none) ∙ e))
      | inr some ↦ elim (cases_lt 262144 n) [
        | inl long ↦ absurd (never-framed _ message rest (sym (sized-long n octets long) ∙ e))
        | inr le ↦ elim (cases_lt (length octets) n) [
          | inl short ↦ absurd (never-framed _ message rest (sym (sized-cut n octets some le short) ∙ e))
          | inr full ↦
              let is = filled-message n (payload (take n octets)) (drop n octets) rest message (sym (sized-full n octets some le full) ∙ e) in
              let same = (message_limits (take n octets) is.0 message (front-octets n octets are) is.1).1 in
              (sym (length-take-le n octets full) ∙ ap length same, sym (take-append-drop n octets) ∙ ap₂ (λ (l r : List ℕ). l ++ r) same is.2)
        ]
      ]
    ]

lengthy-spelled : (octets rest : List ℕ) (message : Message) → AreOctets octets → lengthy octets ≡ framed message rest → octets ≡ frame_of message ++ rest
lengthy-spelled octets rest message are e =
    elim (cases_lt (length octets) 4) [
      | inl short ↦ absurd (never-framed _ message rest (sym (lengthy-cut octets short) ∙ e))
      | inr long ↦
          let size = take 4 octets in
          let parts : octets ≡ size ++ drop 4 octets = sym (take-append-drop 4 octets) in
          let is = sized-spelled (from_be_bytes w32 size) (drop 4 octets) rest message (rest-octets octets size (drop 4 octets) are parts) (sym (lengthy-full octets long) ∙ e) in
          let number : to_be_bytes w32 (from_be_bytes w32 size) ≡ size = be_bytes_4 size (from_be_bytes w32 size) (length-take-le 4 octets long) (front-octets 4 octets are) refl in
          let head : to_be_bytes w32 (length (payload_of message)) ≡ size = ap (to_be_bytes w32) (sym is.0) ∙ number in
          parts ∙ ap₂ (λ (l r : List ℕ). l ++ r) (sym head) is.1 ∙ sym (append_assoc (to_be_bytes w32 (length (payload_of message))) (payload_of message) rest)
    ]

-- The octets of a frame are those that its message is spelled in.
pub is_spelled : (octets rest : List ℕ) (message : Message) → AreOctets octets → front octets ≡ framed message rest → octets ≡ frame_of message ++ rest
unfolding front
is_spelled [] rest message are e = absurd (no-frame-framed message rest e)
is_spelled (octet ∷ octets) rest message are e = lengthy-spelled (octet ∷ octets) rest message are e
