-- What a message's frame reads as: the message.
use Rattle.std.proofs.Common.{◌≡◌, ◌≢◌, [], sym, ap, ◌∙◌, refl, length, arith}
use Rattle.std.proofs.lemmas.Nat.{from_be_bytes-to_be_bytes_4}
use Rattle.std.specs.Int.{w32, to_be_bytes}
use Rattle.type_lookup.specs.declared.messages.messages.Message.{Message}
use Rattle.type_lookup.specs.declared.messages.messages.Message.TheVariants.{GetTypes, GetTypeDependencies, PutTypes, Types, Dependencies, Put}
use Rattle.type_lookup.specs.Frames.{filled, framed, front}
use Rattle.type_lookup.specs.messages.Fields.{got, payload}
use Rattle.type_lookup.specs.messages.Spelling.{HasFrame, payload_of, frame_of}
use Rattle.type_lookup.proofs.Fronts.{front-filled}

some-octets : (message : Message) → length (payload_of message) ≢ 0
unfolding payload_of
some-octets (GetTypes tag ids) e = absurd (omega (arith, e))
some-octets (GetTypeDependencies tag ids point) e = absurd (omega (arith, e))
some-octets (PutTypes tag objects) e = absurd (omega (arith, e))
some-octets (Types tag objects) e = absurd (omega (arith, e))
some-octets (Dependencies tag needed point) e = absurd (omega (arith, e))
some-octets (Put tag outcomes) e = absurd (omega (arith, e))

-- A message that has a frame and that its payload reads as is what its frame reads as.
pub frame_back : (message : Message) → HasFrame message → payload (payload_of message) ≡ got message [] → front (frame_of message) ≡ framed message []
frame_back message h e =
    let n = length (payload_of message) in
    front-filled (to_be_bytes w32 n) (payload_of message) n refl (sym (from_be_bytes-to_be_bytes_4 n (omega (arith, h.fits)))) (some-octets message) h.fits refl
    ∙ ap (λ f. filled n f []) e
