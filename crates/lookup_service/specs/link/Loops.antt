-- A link to the service itself (own).
use Rattle.std.specs.Prelude.{◌≡◌, ◌≤◌, ℕ, List, [], ◌++◌, Bool, false, Some, length, take}
use Rattle.xt_io.specs.Links.{Held}
use Rattle.type_registry.specs.Passed.{PassView, IsPass}
use Rattle.lookup_service.specs.declared.ended.Ended.{Ended}
use Rattle.lookup_service.specs.Sessions.{Session, HasSessionCause, IsPrefix}
use Rattle.lookup_service.specs.chains.Chains.{Chain, got_of, taken_of}

-- a pass of this registry that knows nothing
abbrev pub no_pass : List ℕ → PassView
no_pass registry = record { registry = registry; found = []; full = [] }

-- Octets were handed to a session, which led a pass from one state to the next and sent others.
pub record HandsOver (name : List ℕ → List ℕ) (first next : PassView) (octets sent : List ℕ) (ended : Ended) : Type 0 where
  pub sound : IsPass name first
  pub got : List ℕ
  pub left : List ℕ
  pub faults : ℕ
  pub cut : octets ≡ got ++ left
  pub session : Session name first next got sent (Some left) ended
  pub cause : HasSessionCause 0 faults ended

-- The link as callers see it: what the service knows, the octets that the link took and how many of them were handed over, those that were read and
-- those that may be read, whether the service is over, and how often the link failed.
pub record LoopView : Type 0 where
  pub pass : PassView
  pub taken : List ℕ
  pub handed : ℕ
  pub given : List ℕ
  pub coming : List ℕ
  pub over : Bool
  pub faults : ℕ

-- What the link has done: there are sessions one after another, from a pass that knows nothing to what the service knows now. While the service isn't
-- over, the octets handed over are what they got; else what they got is some of the first octets taken. While the link hasn't failed, and so always
-- while the service isn't over, all that they sent was read or may be read; else some of the first of it.
pub record IsLoop (name : List ℕ → List ℕ) (loop : LoopView) : Type 0 where
  pub entries : List Held
  pub chain : Chain name false (no_pass loop.pass.registry) entries loop.pass
  pub within : loop.handed ≤ length loop.taken
  pub good : loop.over ≡ false → loop.faults ≡ 0
  pub heard : loop.over ≡ false → take loop.handed loop.taken ≡ got_of entries
  pub begun : IsPrefix (got_of entries) loop.taken
  pub replied : loop.faults ≡ 0 → loop.given ++ loop.coming ≡ taken_of entries
  pub some : IsPrefix (loop.given ++ loop.coming) (taken_of entries)
