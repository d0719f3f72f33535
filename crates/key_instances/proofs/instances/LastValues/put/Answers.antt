use Rattle.std.proofs.Common.{◌≡◌, ◌<◌, ◌≤◌, map, length, true, false, sym, ap, ◌∙◌, arith}
use Rattle.std.proofs.lemmas.Bool.{le-leb}
use Rattle.std.proofs.lemmas.List.{length-map}
use Rattle.key_instances.specs.kept.Kept as spec
use Rattle.key_instances.specs.kept.Kept.{has_key}
use Rattle.key_instances.specs.Held.{held}
use Rattle.key_instances.proofs.Places.{has_is, put_there, put_new}
use Rattle.key_instances.proofs.Puts.{on_ok, always_ok, not_full, full_where, pushed_within, pushed_few}
use Rattle.key_instances.proofs.instances.LastValues.put.Goals as goal

pub put_first-requires : goal.put_first-requires
put_first-requires g c = has_is c.args.key c.self.inside.entries.entries ∙ sym c.in-None.ensures.found

pub invariant_of-self-in-None-2 : goal.invariant_of-self-in-None-2
invariant_of-self-in-None-2 g c =
    let r = c.put_first.result in
    let es = map held c.self.inside.entries.entries in
    let fs = map held c.put_first.new.entries.entries in
    let room : length es < c.self.inside.most = omega (arith, c.if-self-len.false, c.len.ensures.len, length-map c.self.inside.entries.entries held) in
    record {
      some = c.self.invariant.some;
      shallow = c.self.invariant.shallow;
      few = pushed_few r c.self.inside.most es fs c.args.key c.args.value room c.put_first.ensures.ok c.put_first.ensures.err;
      most = c.self.invariant.most;
      within = pushed_within r c.self.inside.depth es fs c.args.key c.args.value c.self.invariant.some c.self.invariant.within c.put_first.ensures.ok c.put_first.ensures.err;
    }

pub returns-in-Some-clause-put : goal.returns-in-Some-clause-put
returns-in-Some-clause-put g c =
    let there = put_there c.args.key c.self.inside.depth c.args.value c.self.inside.entries.entries c.in-Some.at (sym c.in-Some.ensures.index) in
    on_ok c.put_again.result (λ p. p ∙ sym there ∙ ap (λ x. spec.put x.depth x.entries c.args.key c.args.value) c.self.view_is) c.put_again.ensures.ok

pub returns-in-Some-clause-room : goal.returns-in-Some-clause-room
returns-in-Some-clause-room g c =
    let there : has_key c.args.key c.args.self.now.entries ≡ true = ap (λ x. has_key c.args.key x.entries) (sym c.self.view_is) ∙ has_is c.args.key c.self.inside.entries.entries ∙ sym c.in-Some.ensures.found in
    always_ok c.put_again.result (not_full c.args.self.now.most c.args.self.now.entries c.args.key there)

pub returns-in-Some-clause-memory : goal.returns-in-Some-clause-memory
returns-in-Some-clause-memory g c =
    let there : has_key c.args.key c.args.self.now.entries ≡ true = ap (λ x. has_key c.args.key x.entries) (sym c.self.view_is) ∙ has_is c.args.key c.self.inside.entries.entries ∙ sym c.in-Some.ensures.found in
    λ _. not_full c.args.self.now.most c.args.self.now.entries c.args.key there

pub returns-in-None-clause-full : goal.returns-in-None-clause-full
returns-in-None-clause-full g c =
    let absent : has_key c.args.key c.args.self.now.entries ≡ false = ap (λ x. has_key c.args.key x.entries) (sym c.self.view_is) ∙ has_is c.args.key c.self.inside.entries.entries ∙ sym c.in-None.ensures.found in
    let same : length c.args.self.now.entries ≡ length (map held c.self.inside.entries.entries) = ap (λ x. length x.entries) (sym c.self.view_is) in
    let most : c.self.inside.most ≡ c.args.self.now.most = ap (λ x. x.most) c.self.view_is in
    let all : c.args.self.now.most ≤ length c.args.self.now.entries =
    omega (arith, c.if-self-len.true, c.len.ensures.len, length-map c.self.inside.entries.entries held, same, most) in
    λ _. full_where c.args.self.now.most c.args.self.now.entries c.args.key absent (le-leb c.args.self.now.most (length c.args.self.now.entries) all)

pub returns-in-None-2-clause-put : goal.returns-in-None-2-clause-put
returns-in-None-2-clause-put g c =
    let absent = has_is c.args.key c.self.inside.entries.entries ∙ sym c.in-None.ensures.found in
    let last = put_new c.args.key c.self.inside.depth c.args.value (map held c.self.inside.entries.entries) absent in
    on_ok c.put_first.result (λ p. p ∙ sym last ∙ ap (λ x. spec.put x.depth x.entries c.args.key c.args.value) c.self.view_is) c.put_first.ensures.ok
