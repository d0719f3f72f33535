use Rattle.std.proofs.Common.{◌≡◌, ◌∷◌, []}
use Rattle.serde_json.specs.View.{members_view}
use Rattle.json_values.specs.Read.{has_other}
use Rattle.json_values.specs.Written.{hex_key}
use Rattle.json_values.proofs.objects.has_other_than_hex.Given as goal

abbrev pub invariant-loop-key : goal.invariant-loop-key
invariant-loop-key l = has_other (hex_key ∷ []) (members_view l.key-iterator) ≡ has_other (hex_key ∷ []) (members_view l.found.entries)
