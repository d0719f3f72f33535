-- What the command that serves objects writes (own).
use Rattle.std.specs.Prelude.{ℕ, ◌*◌, List, [], ◌∷◌, ◌++◌, map, codes}
use Rattle.std.specs.Fmt.{decimal}
use Rattle.hex.specs.Hex.{encode_lower}
use Rattle.type_trees.specs.declared.types.HashId.{HashId}
use Rattle.type_trees.specs.Ids.{id_text}
use Rattle.type_registry.specs.Held.{Held}
use Rattle.tool_runs.specs.declared.output.ending.Cause.TheVariants as causes
use Rattle.tool_runs.specs.declared.output.ending.Style.TheVariants.{Lines}
use Rattle.tool_runs.specs.output.Outputs.{Output, Refusal, after_pieces, refused}
use Rattle.tool_runs.specs.Commands.{only}

abbrev pub types_refusal : List ℕ → Refusal
types_refusal text = record { text = text; cause = causes.Types }

-- other octets stand under an identifier
abbrev pub clash_text : HashId → List ℕ → List ℕ
clash_text id octets = codes "registry clash " ++ (id_text id ++ 32 ∷ encode_lower octets)

abbrev pub clash_output : HashId → List ℕ → Output
clash_output id octets = refused Lines (types_refusal (clash_text id octets))

abbrev pub held_line : Held → List ℕ
held_line held = codes "held " ++ (id_text held.id ++ 32 ∷ (encode_lower held.octets ++ 10 ∷ []))

abbrev pub full_text : HashId → List ℕ
full_text id = codes "registry full " ++ id_text id

-- all probed cells of an identifier hold others: a line for each, and the refusal
abbrev pub full_output : HashId → List Held → Output
full_output id others = after_pieces (map held_line others) (refused Lines (types_refusal (full_text id)))

-- all turns were served: how many sessions were held
abbrev pub sessions_line : ℕ → List ℕ
sessions_line count = codes "sessions " ++ (decimal count ++ 10 ∷ [])

abbrev pub sessions_of : ℕ → Output
sessions_of count = only (sessions_line count ∷ [])

abbrev pub sessions_output : ℕ → ℕ → Output
sessions_output workers turns = sessions_of (workers * turns)
