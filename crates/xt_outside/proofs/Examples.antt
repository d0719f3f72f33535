-- Small bundles, read by computing.
use Rattle.std.proofs.Common.{◌≡◌, [], ◌∷◌, None, Some, refl}
use Rattle.xt_outside.specs.declared.records.Kind.{Kind}
use Rattle.xt_outside.specs.declared.records.Kind.TheVariants.{Object, Sample, Idl, Json, Note}
use Rattle.xt_outside.specs.declared.records.RecordFault.TheVariants.{Truncated, UnknownKind, TooLong, TooMany}
use Rattle.xt_outside.specs.Bundles.{kind_of, octet_of, bundle, bundle_from, front, with_payload, nothing, only_fault}

kind_of-octet_of : (kind : Kind) → kind_of (octet_of kind) ≡ Some kind
kind_of-octet_of Object = refl
kind_of-octet_of Sample = refl
kind_of-octet_of Idl = refl
kind_of-octet_of Json = refl
kind_of-octet_of Note = refl

no_records : bundle [] ≡ nothing
unfolding bundle_from front
no_records = refl

-- a record of one octet, and an empty one
two_records : bundle (1 ∷ 0 ∷ 0 ∷ 0 ∷ 1 ∷ 97 ∷ 2 ∷ 0 ∷ 0 ∷ 0 ∷ 0 ∷ [])
    ≡ record { items = record { kind = Object; at = 0; payload = 97 ∷ [] } ∷ record { kind = Sample; at = 6; payload = [] } ∷ []; end = None }
unfolding bundle_from front with_payload
two_records = refl

-- the second record has half a length
cut_length : bundle (1 ∷ 0 ∷ 0 ∷ 0 ∷ 1 ∷ 97 ∷ 2 ∷ 0 ∷ 0 ∷ [])
    ≡ record { items = record { kind = Object; at = 0; payload = 97 ∷ [] } ∷ []; end = Some (Truncated 6 Sample) }
unfolding bundle_from front with_payload
cut_length = refl

cut_payload : bundle (3 ∷ 0 ∷ 0 ∷ 0 ∷ 2 ∷ 97 ∷ []) ≡ only_fault (Truncated 0 Idl)
unfolding bundle_from front with_payload
cut_payload = refl

-- an unknown kind is met before the length
no_kind : bundle (6 ∷ []) ≡ only_fault (UnknownKind 0 6)
unfolding bundle_from front
no_kind = refl

-- a Note of 65,536 octets is no fault by itself, and one of 65,537 is
note_at_its_limit : bundle (5 ∷ 0 ∷ 1 ∷ 0 ∷ 0 ∷ []) ≡ only_fault (Truncated 0 Note)
unfolding bundle_from front with_payload
note_at_its_limit = refl

note_past_its_limit : bundle (5 ∷ 0 ∷ 1 ∷ 0 ∷ 1 ∷ []) ≡ only_fault (TooLong 0 Note 65537)
unfolding bundle_from front
note_past_its_limit = refl

-- where one record may follow, the second is one too many, whatever its kind
one_too_many : bundle_from 1 0 (4 ∷ 0 ∷ 0 ∷ 0 ∷ 0 ∷ 9 ∷ [])
    ≡ record { items = record { kind = Json; at = 0; payload = [] } ∷ []; end = Some (TooMany 5) }
unfolding bundle_from front with_payload
one_too_many = refl
