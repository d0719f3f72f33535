use Rattle.std.proofs.Common.{◌≡◌, ◌<◌, ◌∙◌, ◌++◌, ◌-◌, [], ap, sym, subst, length, take, take_all, arith, rules, List, ℕ}
use Rattle.std.proofs.lemmas.List.{length-take}
use Rattle.type_lookup.specs.messages.Fields.{bad, payload}
use Rattle.type_lookup.specs.messages.Spelling.{payload_of}
use Rattle.type_lookup.specs.Frames.{Took, broken, filled}
use Rattle.type_lookup.specs.declared.faults.FrameFault.TheVariants.{BadMessage}
use Rattle.type_lookup.proofs.Taking.{took-more}
use Rattle.std.proofs.lemmas.Result.{err_from_is_err_and}
use Rattle.type_lookup.proofs.Fronts.{outside-answers, front-cut, front-zero, front-long, front-short, front-filled, ends-zero, ends-filled, frame_spelling}
use Rattle.type_lookup.proofs.frame.take_frame.Goals as goal

pub returns-then-count-lt4-clause-octets : goal.returns-then-count-lt4-clause-octets
returns-then-count-lt4-clause-octets g c =
    let room : length c.fill.new.into ≡ 4 = search rules in
    let n = c.in_ok-count.count in
    let len : length (take n c.fill.new.into) ≡ n = omega (arith, room, c.if-count-lt4.true, length-take n c.fill.new.into) in
    (take n c.fill.new.into, c.in_ok-count.ensures.octets, (front-cut _ (omega (arith, len, c.if-count-eq0.false)) (omega (arith, len, c.if-count-lt4.true)), c.in_ok-count.ensures.end (omega (arith, room, c.if-count-lt4.true))))

pub returns-then-length-eq0-clause-octets : goal.returns-then-length-eq0-clause-octets
returns-then-length-eq0-clause-octets g c =
    let room : length c.fill.new.into ≡ 4 = search rules in
    let all : take c.in_ok-count.count c.fill.new.into ≡ c.fill.new.into = take_all _ _ (omega (arith, room, c.if-count-lt4.false)) in
    let head = subst (Took _ _ _ _) all c.in_ok-count.ensures.octets in
    (c.fill.new.into, head, (front-zero c.fill.new.into _ room c.length_of-length.ensures.number c.if-length-eq0.true, ends-zero c.fill.new.into _ room c.length_of-length.ensures.number c.if-length-eq0.true))

pub returns-then-length-gt-MOST_PAYLOAD-clause-octets : goal.returns-then-length-gt-MOST_PAYLOAD-clause-octets
returns-then-length-gt-MOST_PAYLOAD-clause-octets g c =
    let room : length c.fill.new.into ≡ 4 = search rules in
    let all : take c.in_ok-count.count c.fill.new.into ≡ c.fill.new.into = take_all _ _ (omega (arith, room, c.if-count-lt4.false)) in
    let head = subst (Took _ _ _ _) all c.in_ok-count.ensures.octets in
    (c.fill.new.into, head, (front-long c.fill.new.into _ room c.length_of-length.ensures.number (search rules), room))

pub returns-then-len-length-clause-octets : goal.returns-then-len-length-clause-octets
returns-then-len-length-clause-octets g c =
    let room : length c.fill.new.into ≡ 4 = search rules in
    let all : take c.in_ok-count.count c.fill.new.into ≡ c.fill.new.into = take_all _ _ (omega (arith, room, c.if-count-lt4.false)) in
    let head = subst (Took _ _ _ _) all c.in_ok-count.ensures.octets in
    let text = c.in_ok-octets.octets in
    let short : length text < c.length_of-length.result = search rules in
    (c.fill.new.into ++ text, took-more _ _ _ _ _ _ _ _ head c.in_ok-octets.ensures.octets, (front-short c.fill.new.into text _ room c.length_of-length.ensures.number c.if-length-eq0.false (search rules) short, c.in_ok-octets.ensures.end short))

pub returns-in-Ok-clause-octets : goal.returns-in-Ok-clause-octets
returns-in-Ok-clause-octets g c =
    let room : length c.fill.new.into ≡ 4 = search rules in
    let all : take c.in_ok-count.count c.fill.new.into ≡ c.fill.new.into = take_all _ _ (omega (arith, room, c.if-count-lt4.false)) in
    let head = subst (Took _ _ _ _) all c.in_ok-count.ensures.octets in
    let text = c.in_ok-octets.octets in
    let n = c.length_of-length.result in
    let full : length text ≡ n = search rules in
    let read = ap (λ (t : List ℕ). filled n (payload t) []) (sym c.octets.ensures) ∙ ap (λ f. filled n f []) c.in-Ok.ensures.read in
    let front = front-filled c.fill.new.into text n room c.length_of-length.ensures.number c.if-length-eq0.false (search rules) full ∙ read in
    let payload : text ≡ payload_of c.in-Ok.message = sym c.octets.ensures ∙ c.in-Ok.ensures.spelled in
    (c.fill.new.into ++ text, took-more _ _ _ _ _ _ _ _ head c.in_ok-octets.ensures.octets, (front, frame_spelling c.fill.new.into text _ n c.length_of-length.ensures.size full payload))

pub returns-in-Err-BadField-clause-octets : goal.returns-in-Err-BadField-clause-octets
returns-in-Err-BadField-clause-octets g c =
    let room : length c.fill.new.into ≡ 4 = search rules in
    let all : take c.in_ok-count.count c.fill.new.into ≡ c.fill.new.into = take_all _ _ (omega (arith, room, c.if-count-lt4.false)) in
    let head = subst (Took _ _ _ _) all c.in_ok-count.ensures.octets in
    let text = c.in_ok-octets.octets in
    let n = c.length_of-length.result in
    let full : length text ≡ n = search rules in
    let stopped : payload c.octets.result.now ≡ bad c.in-Err-BadField.left = rw c.in-Err-BadField.field-0-is at c.in-Err-BadField.ensures.read in
    let read = ap (λ (t : List ℕ). filled n (payload t) []) (sym c.octets.ensures) ∙ ap (λ f. filled n f []) stopped in
    let at : n - c.in-Err-BadField.left ≡ c.saturating_sub.result = search rules in
    (c.fill.new.into ++ text, took-more _ _ _ _ _ _ _ _ head c.in_ok-octets.ensures.octets, (front-filled c.fill.new.into text n room c.length_of-length.ensures.number c.if-length-eq0.false (search rules) full ∙ read ∙ ap (λ k. broken (BadMessage k)) at, ends-filled c.fill.new.into text n room c.length_of-length.ensures.number full))

pub returns-in_err-octets-clause-octets : goal.returns-in_err-octets-clause-octets
returns-in_err-octets-clause-octets g c =
    let room : length c.fill.new.into ≡ 4 = search rules in
    let all : take c.in_ok-count.count c.fill.new.into ≡ c.fill.new.into = take_all _ _ (omega (arith, room, c.if-count-lt4.false)) in
    let head = subst (Took _ _ _ _) all c.in_ok-count.ensures.octets in
    let more = c.in_err-octets.ensures.some in
    let fault = err_from_is_err_and c.from_residual-in_err-octets.result c.from_residual-in_err-octets.ensures.1 in
    let answers = outside-answers (c.fill.new.into ++ more.0) (g.L.Link.left c.read_text.new.link) c.in_err-octets.field-0.0 c.in_err-octets.ensures.fault in
    (c.fill.new.into ++ more.0, took-more _ _ _ _ _ _ c.fill.new.into more.0 head more.1, rw (fault.1, fault.2) answers)

pub returns-clause-octets : goal.returns-clause-octets
returns-clause-octets g c =
    let room : length c.fill.new.into ≡ 4 = search rules in
    let all : take c.in_ok-count.count c.fill.new.into ≡ c.fill.new.into = take_all _ _ (omega (arith, room, c.if-count-lt4.false)) in
    let head = subst (Took _ _ _ _) all c.in_ok-count.ensures.octets in
    (c.fill.new.into ++ c.in_ok-octets.octets, took-more _ _ _ _ _ _ _ _ head c.in_ok-octets.ensures.octets, tt)
