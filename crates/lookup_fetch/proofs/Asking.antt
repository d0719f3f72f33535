-- A request for identifiers has a frame.
use Rattle.std.proofs.Common.{◌≡◌, ℕ, ◌+◌, ◌*◌, ◌≤◌, List, [], ◌∷◌, ◌++◌, length, length-append, refl, arith}
use Rattle.std.specs.Prelude.{All}
use Rattle.std.proofs.lemmas.List.Elements.{All-head, All-tail}
use Rattle.type_trees.specs.declared.types.HashId.{HashId}
use Rattle.type_lookup.specs.declared.messages.messages.Operation.TheVariants as operation
use Rattle.type_lookup.specs.declared.messages.messages.Message.TheVariants.{GetTypes}
use Rattle.type_lookup.specs.messages.Spelling.{payload_of, HasFrame, HasHash, IsKnownId, head_octets, number_octets, all_octets, counted_octets}
use Rattle.type_trees.specs.Ids.{id_octets}

head_long : (tag : ℕ) → length (head_octets 0 operation.GetTypes tag) ≡ 9
head_long tag = refl

four : (n : ℕ) → length (number_octets n) ≡ 4
four n = refl

ids_long : (ids : List HashId) → All HasHash ids → length (all_octets id_octets ids) ≤ 15 * length ids
ids_long [] all = omega arith
ids_long (x ∷ xs) all =
    let one = All-head HasHash x xs all in
    let rest = ids_long xs (All-tail HasHash x xs all) in
    omega (arith, one, rest, length-append (id_octets x) (all_octets id_octets xs))

pub gets_frame : (tag : ℕ) (ids : List HashId) → All IsKnownId ids → All HasHash ids → length ids ≤ 64 → HasFrame (GetTypes tag ids)
unfolding payload_of
gets_frame tag ids all hashes few = record {
  limits = record { count = omega arith; each = all };
  fits = omega (arith, length-append (head_octets 0 operation.GetTypes tag) (counted_octets id_octets ids), head_long tag, length-append (number_octets (length ids)) (all_octets id_octets ids), four (length ids), ids_long ids hashes);
}
