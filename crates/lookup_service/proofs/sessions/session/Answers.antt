use Rattle.std.proofs.Common.{◌≡◌, ◌∙◌, ◌+◌, ℕ, List, Option, ap, subst, refl, arith, below_none, below_more}
use Rattle.lookup_service.specs.Requests.{Replies, BreaksOff}
use Rattle.lookup_service.proofs.OfReplies.Putting.{grows_then, grows_not}
use Rattle.lookup_service.proofs.Going.{going_none, ends_ahead, breaks_off, limit, going_more, gated_as, going_as}
use Rattle.lookup_service.proofs.sessions.session.Goals as goal

pub requests-init : goal.requests-init
requests-init g c = record {
  going = going_none _ _ _ _ _;
  asked = below_none _;
  registry = refl;
  grows = grows_not _;
  later = omega arith;
  same = refl;
  small = omega arith;
}

pub returns-in-Err-clause-gate : goal.returns-in-Err-clause-gate
returns-in-Err-clause-gate g c =
    let i = c.requests.invariant in let r = c.in-Err.ensures in let o = r.octets in
    gated_as _ _ _ _ _ _ _ _ _ _ _ _ _ _ _ refl refl r.taken refl (ends_ahead _ _ _ _ _ _ _ _ _ _ _ _ i.going i.asked _ _ o.0 c.in-Err.ended c.requests-test.true o.1 o.2)

pub returns-in-Err-clause-session : goal.returns-in-Err-clause-session
returns-in-Err-clause-session g c = (returns-in-Err-clause-gate g c).over

pub returns-in-Err-answer_request-clause-gate : goal.returns-in-Err-answer_request-clause-gate
returns-in-Err-answer_request-clause-gate g c =
    let i = c.requests.invariant in let r = c.in-Ok.ensures in let o = r.octets in
    let w = c.in-Err-answer_request.ensures in
    let broken = subst (λ (t : Option (List ℕ)). BreaksOff (g.G.Gate.asked c.args.gate.now) g.N.Naming.name c.requests.pass c.answer_request.new.pass c.in-Ok.request c.requests.number t (g.L.Link.taken c.answer_request.new.link) c.in-Err-answer_request.ended) r.taken w.broken in
    gated_as _ _ _ _ _ _ _ _ _ _ _ _ _ _ _ w.got w.left refl refl (breaks_off _ _ _ _ _ _ _ _ _ _ _ _ i.going i.asked _ _ _ _ o.0 c.in-Ok.request c.in-Err-answer_request.ended c.requests-test.true o.1 o.2 w.grows broken)

pub returns-in-Err-answer_request-clause-session : goal.returns-in-Err-answer_request-clause-session
returns-in-Err-answer_request-clause-session g c = (returns-in-Err-answer_request-clause-gate g c).over

pub returns-clause-gate : goal.returns-clause-gate
returns-clause-gate g c =
    let i = c.requests.invariant in
    let all : c.requests.number ≡ 65536 = omega (arith, c.requests-test.false) in
    limit _ _ _ _ _ _ _ _ _ _ _ _ i.going i.asked all

pub returns-clause-session : goal.returns-clause-session
returns-clause-session g c = (returns-clause-gate g c).over

pub requests-preserved : goal.requests-preserved
requests-preserved g c =
    let i = c.requests.invariant in let r = c.in-Ok.ensures in let o = r.octets in
    let w = c.in_default.ensures in
    let sent = subst (λ (t : Option (List ℕ)). Replies (g.G.Gate.asked c.args.gate.now) g.N.Naming.name c.requests.pass c.answer_request.new.pass c.in-Ok.request c.requests.number t (g.L.Link.taken c.answer_request.new.link)) r.taken w.whole in
    record {
      going = going_as _ _ _ _ _ _ _ _ _ _ _ _ _ _ _ w.got w.left refl (ap (λ n. c.requests.at + n) c.frame_size-at.ensures.size)
          (going_more _ _ _ _ _ _ _ _ _ _ _ i.going (g.G.Gate.asked c.args.gate.now) _ _ _ _ o.0 c.in-Ok.request o.1 o.2 sent);
      asked = below_more _ _ i.asked sent.1.call;
      registry = w.grows.registry ∙ i.registry;
      grows = grows_then _ _ _ i.grows w.grows;
      later = (let x = i.later in let y = r.later in let z = w.later in omega (arith, x, y, z));
      same = w.same ∙ (r.same ∙ i.same);
      small = (let x = i.small in let y = c.frame_size-at.ensures.bound in omega (arith, x, y));
    }
