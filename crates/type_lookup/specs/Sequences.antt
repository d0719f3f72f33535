-- Frames one after another (this profile's own).
use Rattle.std.specs.Prelude.{◌≡◌, ℕ, List, [], ◌∷◌, ◌++◌, None, Some}
use Rattle.type_lookup.specs.declared.messages.messages.Message.{Message}
use Rattle.type_lookup.specs.messages.Spelling.{frame_of, AreOctets}
use Rattle.type_lookup.specs.declared.faults.FrameFault.{FrameFault}
use Rattle.type_lookup.specs.Frames.{no_frame, framed, broken, front, frames}

-- the frames of messages, one after another
abbrev pub frames_of : List Message → List ℕ
frames_of [] = []
frames_of (message ∷ messages) = frame_of message ++ frames_of messages

-- the octets are the frames of these messages, and nothing else
abbrev pub AreFrames : List ℕ → List Message → Type 0
AreFrames octets [] = octets ≡ []
AreFrames octets (message ∷ messages) = (rest : List ℕ) × (front octets ≡ framed message rest) × AreFrames rest messages

-- ---- the laws on a frame

-- A frame stands whatever octets follow it.
abbrev pub FrameStands : Type 0
FrameStands = (octets behind rest : List ℕ) (message : Message) → front octets ≡ framed message behind → front (octets ++ rest) ≡ framed message (behind ++ rest)

-- A frame is its message's spelling.
abbrev pub FrameIsSpelled : Type 0
FrameIsSpelled = (octets rest : List ℕ) (message : Message) → AreOctets octets → front octets ≡ framed message rest → octets ≡ frame_of message ++ rest

-- A frame may follow others.
abbrev pub FrameFollows : Type 0
FrameFollows = (octets piece : List ℕ) (messages : List Message) (message : Message) → AreFrames octets messages → front piece ≡ framed message [] → AreFrames (octets ++ piece) (messages ++ message ∷ [])

-- ---- the laws on the frames that octets are, by what stands at their front

abbrev pub FramesEnd : Type 0
FramesEnd = (octets : List ℕ) → front octets ≡ no_frame → frames octets ≡ record { messages = []; end = None }

abbrev pub FramesBreak : Type 0
FramesBreak = (octets : List ℕ) (fault : FrameFault) → front octets ≡ broken fault → frames octets ≡ record { messages = []; end = Some fault }

abbrev pub FramesGoOn : Type 0
FramesGoOn = (octets rest : List ℕ) (message : Message) → front octets ≡ framed message rest → frames octets ≡ record { messages = message ∷ (frames rest).messages; end = (frames rest).end }

-- What is the frames of messages alone is these frames, ended by nothing.
abbrev pub AreWhole : Type 0
AreWhole = (octets : List ℕ) (messages : List Message) → AreFrames octets messages → frames octets ≡ record { messages = messages; end = None }
