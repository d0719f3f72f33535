use Rattle.std.proofs.Common.{◌≡◌, ◌-◌, [], ◌∷◌, length, drop, arith, refl, rules, length-drop}
use Rattle.xcdr_steps.proofs.OfAgain.Passed.{next_is, peeked_over}
use Rattle.xcdr_steps.proofs.again.rereading.RereadingPeeking.peek.Goals as goal

pub returns-in-Ok : goal.returns-in-Ok
returns-in-Ok g c =
    let self = c.args.self.now in
    let held = drop self.from self.next in
    let ins = c.take.new.into in
    let len : length held ≡ 4 - self.from = omega (arith, length-drop self.from self.next, self.sized) in
    let rest : length ins ≡ 4 - (4 - self.from) = search rules in
    let next = next_is (4 - self.from) held c.copy_from_slice.new.self (0 ∷ 0 ∷ 0 ∷ 0 ∷ []) ins c.copy_from_slice.ensures.after len refl (omega arith) in
    peeked_over _ self.failed held ins _ self.place self.end self.origin self.order next (omega (arith, len, rest)) c.in-Ok.ensures.moves c.in-Ok.ensures.octets (omega (arith, self.reached, len)) c.if-self-lt4.false self.in_whole
