-- What `make` writes: one line of what the pairs that a seed gives came to (this profile's own).
use Rattle.std.specs.Prelude.{ℕ, List, [], ◌∷◌, ◌++◌, codes}
use Rattle.std.specs.Fmt.{decimal}
use Rattle.hex.specs.Hex.{encode_lower}
use Rattle.xt_vectors.specs.declared.runs.Summary.{Summary}
use Rattle.xt_vectors.specs.Runs.{summary}
use Rattle.tool_runs.specs.output.Outputs.{Output}
use Rattle.tool_runs.specs.Commands.{only}

abbrev pub verdicts_text : Summary → List ℕ
verdicts_text s = codes "pairs " ++ (decimal s.pairs ++ (codes " yes " ++ (decimal s.yes ++ (codes " no " ++ decimal s.no))))

abbrev pub outcomes_text : Summary → List ℕ
outcomes_text s = codes " ok " ++ (decimal s.ok ++ (codes " discarded " ++ (decimal s.discarded ++ (codes " must-understand " ++ decimal s.must_understand))))

-- the counts, and the MD5 of all samples in hexadecimal
abbrev pub summary_line : Summary → List ℕ
summary_line s = verdicts_text s ++ (outcomes_text s ++ (codes " md5 " ++ (encode_lower s.digest ++ 10 ∷ [])))

abbrev pub made : ℕ → ℕ → Output
made seed count = only (summary_line (summary seed count) ∷ [])
