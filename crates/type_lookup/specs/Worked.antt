-- Worked examples, checked by computation: frames, and what is none (this profile's own).
use Rattle.std.specs.Prelude.{◌≡◌, ℕ, List, [], ◌∷◌, ◌++◌, Some}
use Rattle.std.proofs.Common.{refl}
use Rattle.type_lookup.specs.declared.messages.messages.Message.TheVariants.{GetTypes}
use Rattle.type_lookup.specs.messages.Fields.{payload}
use Rattle.type_lookup.specs.messages.Spelling.{payload_of, frame_of}
use Rattle.type_lookup.specs.declared.faults.FrameFault.TheVariants.{Truncated, TooLong, BadMessage}
use Rattle.type_lookup.specs.Frames.{no_frame, framed, broken, front, frames, frames_within}

unfoldable readings : ℕ
unfolding payload payload_of front frames_within
readings = 0

-- a request for no types under the tag 7
abbrev request : List ℕ
request = 0 ∷ 0 ∷ 0 ∷ 13 ∷ 0 ∷ 0xd3 ∷ 0x52 ∷ 0x82 ∷ 0x01 ∷ 7 ∷ 0 ∷ 0 ∷ 0 ∷ 0 ∷ 0 ∷ 0 ∷ 0 ∷ []

request_read : front (request ++ 5 ∷ []) ≡ framed (GetTypes 7 []) (5 ∷ [])
unfolding readings
request_read = refl

request_spelled : frame_of (GetTypes 7 []) ≡ request
unfolding readings
request_spelled = refl

nothing : front [] ≡ no_frame
unfolding readings
nothing = refl

empty_payload : front (0 ∷ 0 ∷ 0 ∷ 0 ∷ []) ≡ broken (BadMessage 0)
unfolding readings
empty_payload = refl

too_long : front (0 ∷ 4 ∷ 0 ∷ 1 ∷ []) ≡ broken (TooLong 262145)
unfolding readings
too_long = refl

cut_length : front (0 ∷ 0 ∷ []) ≡ broken Truncated
unfolding readings
cut_length = refl

cut_payload : front (0 ∷ 0 ∷ 0 ∷ 2 ∷ 1 ∷ []) ≡ broken Truncated
unfolding readings
cut_payload = refl

-- 1,025 identifiers, named by the place of their number
too_many_ids : front (0 ∷ 0 ∷ 0 ∷ 13 ∷ 0 ∷ 0xd3 ∷ 0x52 ∷ 0x82 ∷ 0x01 ∷ 7 ∷ 0 ∷ 0 ∷ 0 ∷ 1 ∷ 4 ∷ 0 ∷ 0 ∷ []) ≡ broken (BadMessage 9)
unfolding readings
too_many_ids = refl

two_frames_and_a_cut_one : frames (request ++ request ++ 0 ∷ 0 ∷ []) ≡ record { messages = GetTypes 7 [] ∷ GetTypes 7 [] ∷ []; end = Some Truncated }
unfolding readings
two_frames_and_a_cut_one = refl
