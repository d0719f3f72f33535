-- What holds in the loops.
use Rattle.std.proofs.Common.{◌≡◌, ℕ, ◌+◌}
use Rattle.md5.specs.declared.Md5.{Md5}
use Rattle.md5.specs.Md5.{Holds}
use Rattle.xt_vectors.specs.declared.runs.Counts.{Counts}
use Rattle.xt_vectors.specs.Runs.{Course, IsBelow}

-- the items and the state are those that were drawn
pub record IsDrawn {A : Type 0} (x : A × ℕ) (item : A) (s : ℕ) : Type 0 where
  pub drawn : item ≡ x.0
  pub state : s ≡ x.1

-- the run stands where its definition does after n pairs
pub record IsOnCourse (x : Course) (n s : ℕ) (c : Counts) (hasher : Md5) : Type 0 where
  pub state : s ≡ x.state
  pub counts : c ≡ x.counts
  pub few : IsBelow c (n + 1)
  pub holds : Holds hasher x.octets
