-- Laws of what is drawn (this profile's own).
use Rattle.std.specs.Prelude.{◌≡◌, ℕ, ◌+◌, ◌≤◌, None, Ok, IsTrue}
use Rattle.xt_shapes.specs.Typing.{has_type}
use Rattle.type_trees.specs.Bridge.{shape}
use Rattle.type_rules.specs.Valid.{type_fault}
use Rattle.xcdr_model.specs.SampleSpelling.{sample_size}
use Rattle.xcdr_model.specs.Samples.{read_sample}
use Rattle.xt_vectors.specs.Pairs.{Posed, pair_drawn}
use Rattle.xt_vectors.specs.Findings.{verdict, spelled, projected}
use Rattle.xt_vectors.specs.Runs.{course}

-- both types break no rule, and the value has the writer's type
pub record IsSound (p : Posed) : Type 0 where
  pub reader : type_fault p.reader ≡ None
  pub writer : type_fault p.writer ≡ None
  pub typed : IsTrue (has_type (shape p.writer) p.value)

-- So is each pair that is drawn.
abbrev pub EachIsSound : Type 0
EachIsSound = (s : ℕ) → IsSound (pair_drawn s).0

-- On Yes the sample of a sound pair, which is no longer than a sample may be, is read as the projection.
abbrev pub ReadIsProjected : Type 0
ReadIsProjected = (p : Posed) → IsSound p → verdict p ≡ None → sample_size p.rep (shape p.writer) p.value ≤ 1048576 → read_sample p.rep (shape p.reader) (spelled p) ≡ Ok (projected p)

-- Each Yes is counted by what its value is to the reader, and each pair is a Yes or a No.
abbrev pub EachIsCounted : Type 0
EachIsCounted = (seed n : ℕ) → let c = (course seed n).counts in (c.yes ≡ c.ok + c.discarded + c.must_understand) × (n ≡ c.yes + c.no)
