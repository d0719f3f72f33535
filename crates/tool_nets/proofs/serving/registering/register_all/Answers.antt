use Rattle.std.proofs.Common.{arith, ℕ, List, ◌≡◌, ◌∙◌, map, ap, subst, sym, take_all}
use Rattle.std.specs.List.{All}
use Rattle.std.proofs.lemmas.List.Elements.{All-push}
use Rattle.type_trees.specs.declared.types.HashId.{HashId}
use Rattle.type_registry.specs.Found.{Found}
use Rattle.tool_nets.specs.serving.Registering.{entry_of}
use Rattle.tool_nets.proofs.OfServing.Entered.{entries_more, is_in_pool}
use Rattle.tool_nets.proofs.serving.registering.register_all.Goals as goal

pub returns-in-Err-clause-refused : goal.returns-in-Err-clause-refused
returns-in-Err-clause-refused c =
    let entry : HashId × List ℕ = (c.at-entry.result.id, c.at-entry.result.octets.now) in
    (entry, is_in_pool c.args.pool.now c.loop-index.index entry c.at-entry.ensures.entry, c.in-Err.ensures.refused)

pub returns-in-Err-push-clause-refused : goal.returns-in-Err-push-clause-refused
returns-in-Err-push-clause-refused c =
    let entry : HashId × List ℕ = (c.at-entry.result.id, c.at-entry.result.octets.now) in
    (entry, is_in_pool c.args.pool.now c.loop-index.index entry c.at-entry.ensures.entry, tt)

pub loop-index-preserved : goal.loop-index-preserved
loop-index-preserved c =
    let pool = c.args.pool.now in
    let entry : HashId × List ℕ = (c.at-entry.result.id, c.at-entry.result.octets.now) in
    let findings = c.loop-index.findings in
    let finding = c.in-Ok.finding in
    let Is : Found → Type 0 = λ f. f.registry ≡ c.args.registry.now in
    let pushed = c.in-Ok-push.ensures.ok in
    record {
      are_in = subst (All Is) (sym pushed) (All-push Is findings finding c.loop-index.invariant.are_in c.in-Ok.ensures.found.0);
      entries = ap (map entry_of) pushed ∙ entries_more pool c.loop-index.index findings finding entry c.at-entry.ensures.entry c.in-Ok.ensures.found.1 c.loop-index.invariant.entries;
      pass = c.in-Ok.ensures.pass;
    }

pub returns-clause-known : goal.returns-clause-known
returns-clause-known c = record {
  are_in = c.loop-index.invariant.are_in;
  entries = c.loop-index.invariant.entries ∙ take_all c.loop-index.index c.args.pool.now (omega (arith, c.loop-index-test.false, c.len-index-end.ensures.count));
}
