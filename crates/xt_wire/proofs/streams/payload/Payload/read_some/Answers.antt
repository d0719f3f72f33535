use Rattle.std.proofs.Common.{rules, sym, ℕ, take, subst}
use Rattle.std.specs.Io.KnownBytes.{Consumes}
use Rattle.xt_io.specs.Readers.{inside}
use Rattle.xt_wire.specs.streams.Streams.{Streaming}
use Rattle.xt_wire.proofs.OfStreams.Streaming.{read_on, read_failed, read_cut}
use Rattle.xt_wire.proofs.streams.payload.Payload.read_some.Goals as goal

pub invariant_of-self : goal.invariant_of-self
invariant_of-self g c =
    let s : Streaming = record { began = c.self.inside.began.value; reader = c.self.inside.reader; read = c.self.inside.read; whole = c.self.inside.whole; cuts = c.self.inside.cuts } in
    read_failed s c.read.new.self c.self.invariant c.in_err-count.ensures.same c.in_err-count.ensures.octets c.in_err-count.ensures.retried c.in_err-count.ensures.failed c.in_err-count.ensures.cause.later c.in_err-count.ensures.cause.failed

pub invariant_of-self-then-count-eq0 : goal.invariant_of-self-then-count-eq0
invariant_of-self-then-count-eq0 g c =
    let s : Streaming = record { began = c.self.inside.began.value; reader = c.self.inside.reader; read = c.self.inside.read; whole = c.self.inside.whole; cuts = c.self.inside.cuts } in
    let none = subst (λ (n : ℕ). Consumes (inside s.reader) (inside c.read.new.self) (take n c.read.new.into)) c.if-count-eq0.true c.in_ok-count.ensures.octets.0 in
    read_cut s _ _ c.read.new.self c.self.invariant c.requires.some (search rules) (search rules) c.in_ok-count.ensures.same none (c.in_ok-count.ensures.octets.1 c.if-count-eq0.true (search rules)) c.in_ok-count.ensures.behind c.in_ok-count.ensures.kept (c.in_ok-count.ensures.met (search rules) (search rules)) c.in_ok-count.ensures.cause.later

pub invariant_of-self-2 : goal.invariant_of-self-2
invariant_of-self-2 g c =
    let s : Streaming = record { began = c.self.inside.began.value; reader = c.self.inside.reader; read = c.self.inside.read; whole = c.self.inside.whole; cuts = c.self.inside.cuts } in
    read_on s _ c.read.new.self _ c.self.invariant (search rules) c.in_ok-count.ensures.same c.in_ok-count.ensures.octets.0 (sym c.in_ok-count.ensures.bound.1) c.in_ok-count.ensures.behind (c.in_ok-count.ensures.went (search rules)) (c.in_ok-count.ensures.unmet (search rules)) c.in_ok-count.ensures.cause.later
