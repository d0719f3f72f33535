use Rattle.std.proofs.Common.{◌≡◌, ◌+◌, ◌∙◌, false, length-append, ap}
use Rattle.std.proofs.lemmas.List.Elements.{All-push}
use Rattle.xt_io.specs.MemoryDoors.{is_out}
use Rattle.library_tests.proofs.workers.seats.Goals as goal

pub loop-number-preserved : goal.loop-number-preserved
loop-number-preserved c =
    let i = c.loop-number.invariant in
    rw c.in_ok-push.ensures.ok record {
      count = length-append _ _ ∙ ap (λ n. n + 1) i.count;
      none_out = All-push (λ seat. is_out seat.door.out seat.door.at seat.door.turns ≡ false) _ _ i.none_out c.in_ok-door.ensures;
      registry = All-push (λ seat. seat.pass.registry ≡ c.args.registry.now) _ _ i.registry (ap (λ p. p.registry) c.pass.ensures);
    }
