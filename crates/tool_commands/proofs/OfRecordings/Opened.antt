-- The beginning of a recording, piece after piece.
use Rattle.std.proofs.Common.{◌≡◌, refl, sym, ap, ◌∙◌, append_assoc, append-nil, ℕ, List, [], ◌∷◌, ◌++◌, map, Result, Ok, Err}
use Rattle.std.specs.Prelude.{IsOk}
use Rattle.std.specs.List.{concat}
use Rattle.xt_io.specs.declared.Kind.TheVariants.{Note}
use Rattle.xt_io.specs.Records.{record_octets}
use Rattle.xt_shapes.specs.declared.leaves.Rep.{Rep}
use Rattle.type_trees.specs.declared.types.HashId.{HashId}
use Rattle.type_trees.specs.Trees.{Tree}
use Rattle.object_walks.specs.Resolving.{Refusal}
use Rattle.type_object.specs.Pools.{Texts, found}
use Rattle.xt_recorder.specs.Recordings.{object_record, object_records, closed, opening}
use Rattle.xt_recorder.specs.Streams.{stream_text}
use Rattle.tool_commands.specs.recordings.Recording.{opening_pieces}

one_after_another : (pool : Texts) (ids : List HashId) (note : List ℕ) → object_records pool ids ++ note ≡ concat (map (λ i. object_record (found i pool)) ids ++ note ∷ [])
one_after_another pool [] note = sym (append-nil note)
one_after_another pool (id ∷ ids) note = append_assoc (object_record (found id pool)) (object_records pool ids) note ∙ ap (λ l. object_record (found id pool) ++ l) (one_after_another pool ids note)

pub opening_is : (pool : Texts) (id : HashId) (rep : Rep) → opening pool id rep ≡ concat (opening_pieces pool id rep)
opening_is pool id rep = one_after_another pool (closed pool id) (record_octets Note (stream_text id rep))

-- what an identifier that resolves resolves to
pub has_type : (r : Result Tree Refusal) → IsOk r → (t : Tree) × (r ≡ Ok t)
has_type (Ok t) is = (t, refl)
has_type (Err why) is = absurd cc
