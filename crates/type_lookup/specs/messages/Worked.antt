-- Worked examples, checked by computation: the operations' numbers, and payloads (this profile's own).
use Rattle.std.specs.Prelude.{◌≡◌, ℕ, List, [], ◌∷◌, ◌++◌}
use Rattle.std.proofs.Common.{refl}
use Rattle.md5.specs.Md5.{block_words, rounds, compress, hash_after, digest_bytes, md5}
use Rattle.type_trees.specs.Hash.{hash_id}
use Rattle.type_lookup.specs.declared.messages.messages.Operation.TheVariants as operation
use Rattle.type_lookup.specs.declared.messages.messages.Message.TheVariants.{GetTypes, GetTypeDependencies, PutTypes, Put}
use Rattle.type_lookup.specs.messages.Fields.{got, bad, payload, number_of}
use Rattle.type_lookup.specs.messages.Spelling.{payload_of}

-- ---- the operations' numbers

unfoldable hashed : ℕ
unfolding block_words rounds compress hash_after digest_bytes md5
hashed = 0

-- `getTypes`
get_types_number : hash_id (103 ∷ 101 ∷ 116 ∷ 84 ∷ 121 ∷ 112 ∷ 101 ∷ 115 ∷ []) ≡ number_of operation.GetTypes
unfolding hashed
get_types_number = refl

-- `getTypeDependencies`
dependencies_number : hash_id (103 ∷ 101 ∷ 116 ∷ 84 ∷ 121 ∷ 112 ∷ 101 ∷ 68 ∷ 101 ∷ 112 ∷ 101 ∷ 110 ∷ 100 ∷ 101 ∷ 110 ∷ 99 ∷ 105 ∷ 101 ∷ 115 ∷ []) ≡ number_of operation.GetTypeDependencies
unfolding hashed
dependencies_number = refl

-- `putTypes`
put_types_number : hash_id (112 ∷ 117 ∷ 116 ∷ 84 ∷ 121 ∷ 112 ∷ 101 ∷ 115 ∷ []) ≡ number_of operation.PutTypes
unfolding hashed
put_types_number = refl

-- ---- payloads: a direction, an operation and the tag 7, and then the fields

abbrev head : ℕ → List ℕ → List ℕ
head direction operation = direction ∷ operation ++ 7 ∷ 0 ∷ 0 ∷ 0 ∷ []

abbrev gets : List ℕ
gets = 0xd3 ∷ 0x52 ∷ 0x82 ∷ 0x01 ∷ []

abbrev depends : List ℕ
depends = 0x23 ∷ 0xa4 ∷ 0x25 ∷ 0x07 ∷ []

abbrev puts : List ℕ
puts = 0xcb ∷ 0x1b ∷ 0x14 ∷ 0x04 ∷ []

unfoldable readings : ℕ
unfolding payload payload_of
readings = 0

no_ids : payload (head 0 gets ++ 0 ∷ 0 ∷ 0 ∷ 0 ∷ []) ≡ got (GetTypes 7 []) []
unfolding readings
no_ids = refl

no_ids_spelled : payload_of (GetTypes 7 []) ≡ head 0 gets ++ 0 ∷ 0 ∷ 0 ∷ 0 ∷ []
unfolding readings
no_ids_spelled = refl

-- two objects, one empty
two_objects : payload (head 0 puts ++ 2 ∷ 0 ∷ 0 ∷ 0 ∷ 1 ∷ 0 ∷ 0 ∷ 0 ∷ 99 ∷ 0 ∷ 0 ∷ 0 ∷ 0 ∷ []) ≡ got (PutTypes 7 ((99 ∷ []) ∷ [] ∷ [])) []
unfolding readings
two_objects = refl

-- the second page of nothing: its point has four octets
second_page : payload (head 0 depends ++ 0 ∷ 0 ∷ 0 ∷ 0 ∷ 4 ∷ 64 ∷ 0 ∷ 0 ∷ 0 ∷ []) ≡ got (GetTypeDependencies 7 [] (64 ∷ 0 ∷ 0 ∷ 0 ∷ [])) []
unfolding readings
second_page = refl

-- a reply: an object that was added, and one that is none
two_outcomes : payload (head 1 puts ++ 2 ∷ 0 ∷ 0 ∷ 0 ∷ 0 ∷ 2 ∷ []) ≡ got (Put 7 (0 ∷ 2 ∷ [])) []
unfolding readings
two_outcomes = refl

-- a direction of 2, an unknown operation, a cut tag: the octets left at the field
unknown_direction : payload (2 ∷ []) ≡ bad 1
unfolding readings
unknown_direction = refl

unknown_operation : payload (0 ∷ 1 ∷ 2 ∷ 3 ∷ 4 ∷ []) ≡ bad 4
unfolding readings
unknown_operation = refl

cut_tag : payload (0 ∷ gets ++ 9 ∷ 9 ∷ []) ≡ bad 2
unfolding readings
cut_tag = refl

-- 1,025 identifiers, a point of three octets, an outcome of 5, an octet after the message
too_many_ids : payload (head 0 gets ++ 1 ∷ 4 ∷ 0 ∷ 0 ∷ []) ≡ bad 4
unfolding readings
too_many_ids = refl

point_of_three : payload (head 0 depends ++ 0 ∷ 0 ∷ 0 ∷ 0 ∷ 3 ∷ []) ≡ bad 1
unfolding readings
point_of_three = refl

unknown_outcome : payload (head 1 puts ++ 1 ∷ 0 ∷ 0 ∷ 0 ∷ 5 ∷ []) ≡ bad 1
unfolding readings
unknown_outcome = refl

octet_behind : payload (head 0 gets ++ 0 ∷ 0 ∷ 0 ∷ 0 ∷ 9 ∷ []) ≡ bad 1
unfolding readings
octet_behind = refl
