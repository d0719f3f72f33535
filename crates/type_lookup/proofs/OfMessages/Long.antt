-- How long payloads are by their lists.
use Rattle.std.proofs.Common.{◌≡◌, ℕ, ◌+◌, List, ◌++◌, length, length-append, arith}
use Rattle.type_trees.specs.declared.types.HashId.{HashId}
use Rattle.type_trees.specs.Ids.{id_octets}
use Rattle.type_lookup.specs.declared.messages.messages.Fetched.{Fetched}
use Rattle.type_lookup.specs.declared.messages.messages.Needed.{Needed}
use Rattle.type_lookup.specs.declared.messages.messages.Operation.TheVariants as operation
use Rattle.type_lookup.specs.declared.messages.messages.Message.TheVariants.{GetTypes, GetTypeDependencies, Types, Dependencies}
use Rattle.type_lookup.specs.messages.Spelling.{fetched_octets, needed_octets, point_octets, counted_octets, head_octets, payload_of}

pub gets_long : (tag : ℕ) (ids : List HashId) → length (payload_of (GetTypes tag ids)) ≡ 9 + length (counted_octets id_octets ids)
unfolding payload_of
gets_long tag ids = length-append (head_octets 0 operation.GetTypes tag) (counted_octets id_octets ids)

pub depends_long : (tag : ℕ) (ids : List HashId) (point : List ℕ) → length (payload_of (GetTypeDependencies tag ids point)) ≡ 9 + length (counted_octets id_octets ids) + 1 + length point
unfolding payload_of
depends_long tag ids point =
    omega (arith, length-append (head_octets 0 operation.GetTypeDependencies tag ++ counted_octets id_octets ids) (point_octets point), length-append (head_octets 0 operation.GetTypeDependencies tag) (counted_octets id_octets ids))

pub types_long : (tag : ℕ) (objects : List Fetched) → length (payload_of (Types tag objects)) ≡ 9 + length (counted_octets fetched_octets objects)
unfolding payload_of
types_long tag objects = length-append (head_octets 1 operation.GetTypes tag) (counted_octets fetched_octets objects)

pub dependencies_long : (tag : ℕ) (needed : List Needed) (point : List ℕ) → length (payload_of (Dependencies tag needed point)) ≡ 9 + length (counted_octets needed_octets needed) + 1 + length point
unfolding payload_of
dependencies_long tag needed point =
    omega (arith, length-append (head_octets 1 operation.GetTypeDependencies tag ++ counted_octets needed_octets needed) (point_octets point), length-append (head_octets 1 operation.GetTypeDependencies tag) (counted_octets needed_octets needed))
