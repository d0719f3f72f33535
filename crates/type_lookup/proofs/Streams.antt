-- The frames of octets, one after another.
use Rattle.std.proofs.Common.{◌≡◌, ℕ, zero, suc, inl, inr, ◌≤◌, ◌<◌, List, [], ◌∷◌, None, Some, sym, ap, ◌∙◌, refl, length, take, drop, arith}
use Rattle.std.proofs.lemmas.Bool.{cases_lt, cases_eq}
use Rattle.std.proofs.lemmas.List.{length-drop}
use Rattle.std.specs.Int.{w32, from_be_bytes}
use Rattle.type_lookup.specs.declared.messages.messages.Message.{Message}
use Rattle.type_lookup.specs.messages.Fields.{Field, got, bad, payload}
use Rattle.type_lookup.specs.declared.faults.FrameFault.{FrameFault}
use Rattle.type_lookup.specs.Frames.{Front, no_frame, framed, broken, filled, sized, lengthy, front, Frames, frames_of_front, frames_within, frames}
use Rattle.type_lookup.proofs.Following.{sized-cut, sized-full, sized-long, lengthy-cut, lengthy-full}

pub never-framed : (fault : FrameFault) (message : Message) (rest : List ℕ) → broken fault ≡ framed message rest → ⊥
never-framed fault message rest e = cc

pub no-frame-framed : (message : Message) (rest : List ℕ) → no_frame ≡ framed message rest → ⊥
no-frame-framed message rest e = cc

no-frame-broken : (fault : FrameFault) → no_frame ≡ broken fault → ⊥
no-frame-broken fault e = cc

framed-rest : (a b : Message) (rest end : List ℕ) → framed a rest ≡ framed b end → rest ≡ end
framed-rest a b rest end e = cc

filled-rest : (n : ℕ) (field : Field Message) (behind rest : List ℕ) (message : Message) → filled n field behind ≡ framed message rest → behind ≡ rest
filled-rest n (got found none) behind rest message e = framed-rest found message behind rest e
filled-rest n (bad left) behind rest message e = absurd (never-framed _ message rest e)

sized-shorter : (n : ℕ) (octets rest : List ℕ) (message : Message) → sized n octets ≡ framed message rest → length rest ≤ length octets
sized-shorter n octets rest message e =
    elim (cases_eq n 0) [
      | inl none ↦ absurd (never-framed _ message rest (ap (λ k. sized k octets) (sym none) ∙ e))
      | inr some ↦ elim (cases_lt 262144 n) [
        | inl long ↦ absurd (never-framed _ message rest (sym (sized-long n octets long) ∙ e))
        | inr le ↦ elim (cases_lt (length octets) n) [
          | inl short ↦ absurd (never-framed _ message rest (sym (sized-cut n octets some le short) ∙ e))
          | inr full ↦
              let same = filled-rest n (payload (take n octets)) (drop n octets) rest message (sym (sized-full n octets some le full) ∙ e) in
              omega (arith, ap length same, length-drop n octets)
        ]
      ]
    ]

lengthy-shorter : (octets rest : List ℕ) (message : Message) → lengthy octets ≡ framed message rest → length rest < length octets
lengthy-shorter octets rest message e =
    elim (cases_lt (length octets) 4) [
      | inl short ↦ absurd (never-framed _ message rest (sym (lengthy-cut octets short) ∙ e))
      | inr long ↦
          let le = sized-shorter (from_be_bytes w32 (take 4 octets)) (drop 4 octets) rest message (sym (lengthy-full octets long) ∙ e) in
          omega (arith, le, length-drop 4 octets)
    ]

-- A frame has octets of its own.
front-shorter : (octets rest : List ℕ) (message : Message) → front octets ≡ framed message rest → length rest < length octets
unfolding front
front-shorter [] rest message e = absurd (no-frame-framed message rest e)
front-shorter (octet ∷ octets) rest message e = lengthy-shorter (octet ∷ octets) rest message e

abbrev ended : Frames
ended = record { messages = []; end = None }

same-behind : (f g : List ℕ → Frames) (found : Front) → ((message : Message) (rest : List ℕ) → found ≡ framed message rest → f rest ≡ g rest) → frames_of_front f found ≡ frames_of_front g found
same-behind f g no_frame h = refl
same-behind f g (framed message rest) h = ap (λ (after : Frames). record { messages = message ∷ after.messages; end = after.end }) (h message rest refl)
same-behind f g (broken fault) h = refl

nothing-left : (n : ℕ) → frames_within n [] ≡ ended
unfolding frames_within front
nothing-left zero = refl
nothing-left (suc n) = refl

-- More turns than there are octets give no more frames.
more-turns : (n k : ℕ) (octets : List ℕ) → length octets ≤ n → length octets ≤ k → frames_within n octets ≡ frames_within k octets
unfolding frames_within
more-turns n k [] h j = nothing-left n ∙ sym (nothing-left k)
more-turns zero k (octet ∷ octets) h j = absurd (omega arith)
more-turns (suc n) zero (octet ∷ octets) h j = absurd (omega arith)
more-turns (suc n) (suc k) (octet ∷ octets) h j =
    same-behind (frames_within n) (frames_within k) (front (octet ∷ octets))
    (λ message rest e. let less = front-shorter (octet ∷ octets) rest message e in more-turns n k rest (omega arith) (omega arith))

-- ---- the frames of octets by what stands at their front

pub frames-none : (octets : List ℕ) → front octets ≡ no_frame → frames octets ≡ record { messages = []; end = None }
unfolding frames_within
frames-none [] e = refl
frames-none (octet ∷ octets) e = ap (frames_of_front (frames_within (length octets))) e

pub frames-broken : (octets : List ℕ) (fault : FrameFault) → front octets ≡ broken fault → frames octets ≡ record { messages = []; end = Some fault }
unfolding frames_within front
frames-broken [] fault e = absurd (no-frame-broken fault e)
frames-broken (octet ∷ octets) fault e = ap (frames_of_front (frames_within (length octets))) e

pub frames-framed : (octets rest : List ℕ) (message : Message) → front octets ≡ framed message rest
    → frames octets ≡ record { messages = message ∷ (frames rest).messages; end = (frames rest).end }
unfolding frames_within front
frames-framed [] rest message e = absurd (no-frame-framed message rest e)
frames-framed (octet ∷ octets) rest message e =
    let less = front-shorter (octet ∷ octets) rest message e in
    let same : frames_within (length octets) rest ≡ frames rest = more-turns (length octets) (length rest) rest (omega arith) (omega arith) in
    ap (frames_of_front (frames_within (length octets))) e
    ∙ ap (λ (after : Frames). record { messages = message ∷ after.messages; end = after.end }) same
