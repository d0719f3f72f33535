-- From the fields of a message to the payload that it is.
use Rattle.std.proofs.Common.{◌≡◌, ℕ, ◌<◌, List, [], ◌∷◌, Err, ap, length, arith}
use Rattle.type_lookup.specs.declared.messages.messages.Message.{Message}
use Rattle.type_lookup.specs.declared.messages.messages.PayloadFault.{PayloadFault}
use Rattle.type_lookup.specs.declared.messages.messages.PayloadFault.TheVariants.{BadField, OutOfMemory}
use Rattle.type_lookup.specs.messages.Fields.{got, bad, alone, message_at, payload, Reads}

pub payload-stopped : (octets end after : List ℕ) (stop : PayloadFault) → Reads (message_at octets) (Err stop) end → Reads (payload octets) (Err stop) after
unfolding payload
payload-stopped octets end after (BadField left) p = ap alone p
payload-stopped octets end after OutOfMemory p = tt

pub payload-longer : (octets rest : List ℕ) (message : Message) → message_at octets ≡ got message rest → 0 < length rest → payload octets ≡ bad (length rest)
unfolding payload
payload-longer octets [] message p lt = absurd (omega arith)
payload-longer octets (octet ∷ rest) message p lt = ap alone p

pub payload-whole : (octets rest : List ℕ) (message : Message) → message_at octets ≡ got message rest → length rest ≡ 0 → payload octets ≡ got message []
unfolding payload
payload-whole octets [] message p none = ap alone p
payload-whole octets (octet ∷ rest) message p none = absurd (omega arith)
