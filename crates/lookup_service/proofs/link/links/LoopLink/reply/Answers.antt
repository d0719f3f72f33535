use Rattle.std.proofs.Common.{◌≡◌, ◌++◌, ◌≤◌, ◌∙◌, false, sym, ap, length, length-append, arith}
use Rattle.lookup_service.proofs.OfLink.Looping.{loop_kept, loop_lost, over_not, all_waiting}
use Rattle.lookup_service.proofs.link.links.LoopLink.reply.Goals as goal

pub invariant_of-self-in_default-keep : goal.invariant_of-self-in_default-keep
invariant_of-self-in_default-keep c =
    let i = c.self.invariant in
    let over : c.self.inside.over ≡ false = ap (λ l. l.over) c.self.view_is ∙ c.requires.on in
    let hands = all_waiting _ _ _ _ _ _ _ _ c.octets.ensures c.in-Ok.ensures.handed in
    let is = over_not _ _ _ _ _ _ _ _ over i.2 in
    rw (c.len-self-inside.ensures, c.in_default-keep.ensures.same)
    (i.0 ∙ sym c.hand_over.ensures.registry, i.1, loop_lost _ _ _ _ _ _ _ _ _ _ c.hand_over.ensures.registry hands is c.raised-self-inside-in_default-keep.result (omega (arith, c.raised-self-inside-in_default-keep.ensures)))

pub invariant_of-self-2 : goal.invariant_of-self-2
invariant_of-self-2 c =
    let i = c.self.invariant in
    let k = c.in-Ok-keep.ensures.kept in
    let over : c.self.inside.over ≡ false = ap (λ l. l.over) c.self.view_is ∙ c.requires.on in
    let hands = all_waiting _ _ _ _ _ _ _ _ c.octets.ensures c.in-Ok.ensures.handed in
    let is = over_not _ _ _ _ _ _ _ _ over i.2 in
    let more : c.self.inside.at ≤ length (c.self.inside.replies ++ c.in-Ok.link.text) = omega (arith, i.1, length-append c.self.inside.replies c.in-Ok.link.text) in
    rw (c.len-self-inside.ensures, k.0)
    (i.0 ∙ sym c.hand_over.ensures.registry, more, loop_kept _ _ _ _ _ _ _ _ _ _ c.hand_over.ensures.registry hands is c.in-Ok-keep.over k.1)
