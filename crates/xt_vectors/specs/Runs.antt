-- Many pairs from a seed, and what is found of them (this profile's own).
use Rattle.std.specs.Prelude.{ℕ, zero, suc, ◌+◌, ◌<◌, List, [], ◌++◌}
use Rattle.md5.specs.Md5.{md5}
use Rattle.xt_vectors.specs.declared.findings.Finding.{Finding}
use Rattle.xt_vectors.specs.declared.findings.Finding.TheVariants.{No, Read, Discarded, MustUnderstand}
use Rattle.xt_vectors.specs.declared.runs.Counts.{Counts}
use Rattle.xt_vectors.specs.declared.runs.Summary.{Summary}
use Rattle.xt_vectors.specs.Findings.{found}
use Rattle.xt_vectors.specs.Pairs.{pair_drawn}

-- where a run stands: the state of the draws, what was counted, and the samples one after another
pub record Course : Type 0 where
  pub state : ℕ
  pub counts : Counts
  pub octets : List ℕ

abbrev pub none : Counts
none = record { yes = 0; no = 0; ok = 0; discarded = 0; must_understand = 0 }

-- each count is below a number
pub record IsBelow (c : Counts) (n : ℕ) : Type 0 where
  pub yes : c.yes < n
  pub no : c.no < n
  pub ok : c.ok < n
  pub discarded : c.discarded < n
  pub must_understand : c.must_understand < n

-- each finding but No is one of a Yes
abbrev pub counted : Finding → Counts → Counts
counted No c = record { yes = c.yes; no = c.no + 1; ok = c.ok; discarded = c.discarded; must_understand = c.must_understand }
counted Read c = record { yes = c.yes + 1; no = c.no; ok = c.ok + 1; discarded = c.discarded; must_understand = c.must_understand }
counted Discarded c = record { yes = c.yes + 1; no = c.no; ok = c.ok; discarded = c.discarded + 1; must_understand = c.must_understand }
counted MustUnderstand c = record { yes = c.yes + 1; no = c.no; ok = c.ok; discarded = c.discarded; must_understand = c.must_understand + 1 }

abbrev pub one_more : Course → Course
one_more x =
    let pair = pair_drawn x.state in
    let finding = found pair.0 in
    record { state = pair.1; counts = counted finding.0 x.counts; octets = x.octets ++ finding.1 }

-- after so many pairs
abbrev pub course : ℕ → ℕ → Course
course seed zero = record { state = seed; counts = none; octets = [] }
course seed (suc n) = one_more (course seed n)

abbrev pub summed : ℕ → Counts → List ℕ → Summary
summed n c digest = record { pairs = n; yes = c.yes; no = c.no; ok = c.ok; discarded = c.discarded; must_understand = c.must_understand; digest = digest }

-- the whole run
abbrev pub summary : ℕ → ℕ → Summary
summary seed n = let x = course seed n in summed n x.counts (md5 x.octets)
