-- Replies have frames.
use Rattle.std.proofs.Common.{◌≡◌, ℕ, ◌*◌, ◌≤◌, inl, inr, List, [], ◌∷◌, ◌++◌, length, length-append, refl, arith}
use Rattle.std.specs.Prelude.{All}
use Rattle.std.proofs.lemmas.List.Elements.{All-head, All-tail}
use Rattle.type_lookup.specs.declared.messages.messages.Fetched.{Fetched}
use Rattle.type_lookup.specs.declared.messages.messages.Needed.{Needed}
use Rattle.type_lookup.specs.declared.messages.messages.Operation.{Operation}
use Rattle.type_lookup.specs.declared.messages.messages.Operation.TheVariants as operation
use Rattle.type_lookup.specs.declared.messages.messages.Message.TheVariants.{Types, Dependencies, Put}
use Rattle.type_trees.specs.Ids.{id_octets}
use Rattle.type_lookup.specs.messages.Spelling.{payload_of, HasFrame, IsFetched, IsNeeded, IsNeededInRange, IsPoint, head_octets, number_octets, needed_octets, fetched_octets, object_octets, point_octets, all_octets, counted_octets}

head_long : (direction : ℕ) (op : Operation) (tag : ℕ) → length (head_octets direction op tag) ≡ 9
head_long direction op tag = refl

four : (n : ℕ) → length (number_octets n) ≡ 4
four n = refl

point_long : (point : List ℕ) → IsPoint point → length (point_octets point) ≤ 5
point_long point (inl e) = omega arith
point_long point (inr e) = omega arith

needed_long : (needed : List Needed) → All IsNeededInRange needed → length (all_octets needed_octets needed) ≤ 19 * length needed
needed_long [] all = omega arith
needed_long (x ∷ xs) all =
    let one = (All-head IsNeededInRange x xs all).0 in
    let rest = needed_long xs (All-tail IsNeededInRange x xs all) in
    omega (arith, one, rest, length-append (needed_octets x) (all_octets needed_octets xs), length-append (id_octets x.id) (number_octets x.size), four x.size)

pub types_frame : (tag : ℕ) (objects : List Fetched) → All IsFetched objects → length objects ≤ 1024 → length (all_octets fetched_octets objects) ≤ 262131 → HasFrame (Types tag objects)
unfolding payload_of
types_frame tag objects all few fits = record {
  limits = record { count = few; each = all };
  fits = omega (arith, length-append (head_octets 1 operation.GetTypes tag) (counted_octets fetched_octets objects), head_long 1 operation.GetTypes tag, length-append (number_octets (length objects)) (all_octets fetched_octets objects), four (length objects));
}

pub dependencies_frame : (tag : ℕ) (needed : List Needed) (point : List ℕ) → All IsNeeded needed → All IsNeededInRange needed → length needed ≤ 64 → IsPoint point → HasFrame (Dependencies tag needed point)
unfolding payload_of
dependencies_frame tag needed point all range few is = record {
  limits = (record { count = omega arith; each = all }, is);
  fits =
      let head = head_octets 1 operation.GetTypeDependencies tag in
      let body = counted_octets needed_octets needed in
      omega (arith, length-append (head ++ body) (point_octets point), length-append head body, head_long 1 operation.GetTypeDependencies tag, length-append (number_octets (length needed)) (all_octets needed_octets needed), four (length needed), needed_long needed range, point_long point is);
}

pub put_frame : (tag : ℕ) (outcomes : List ℕ) → All (λ outcome. outcome ≤ 4) outcomes → length outcomes ≤ 1024 → HasFrame (Put tag outcomes)
unfolding payload_of
put_frame tag outcomes all few = record {
  limits = record { count = few; each = all };
  fits = omega (arith, length-append (head_octets 1 operation.PutTypes tag) (object_octets outcomes), head_long 1 operation.PutTypes tag, length-append (number_octets (length outcomes)) outcomes, four (length outcomes));
}
