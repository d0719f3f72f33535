use Rattle.key_instances.proofs.Places.{set_again, set_same}
use Rattle.key_instances.proofs.Within.{entry_within, set_count, set_within}
use Rattle.key_instances.proofs.instances.put_again.Goals as goal

pub add-requires-clause-few : goal.add-requires-clause-few
add-requires-clause-few g c = entry_within c.args.depth c.args.entries.now.entries c.args.at c.pair_mut-entry.result.0.now c.pair_mut-entry.result.1.now c.pair_mut-entry.ensures.value c.requires.few

pub returns-in-Ok-clause-ok : goal.returns-in-Ok-clause-ok
returns-in-Ok-clause-ok g c =
    set_again c.args.depth c.args.value c.add.new.self c.args.entries.now.entries c.args.at c.pair_mut-entry.result.0.now c.pair_mut-entry.result.1.now c.pair_mut-entry.ensures.value c.in-Ok.ensures.ok

pub returns-in-Ok-clause-few : goal.returns-in-Ok-clause-few
returns-in-Ok-clause-few g c = set_within c.args.depth c.add.new.self c.args.entries.now.entries c.args.at c.in-Ok.ensures.few c.requires.few

pub returns-in-Ok-clause-count : goal.returns-in-Ok-clause-count
returns-in-Ok-clause-count g c = set_count c.add.new.self c.args.entries.now.entries c.args.at

pub returns-in-Err-clause-few : goal.returns-in-Err-clause-few
returns-in-Err-clause-few g c = set_within c.args.depth c.add.new.self c.args.entries.now.entries c.args.at c.in-Err.ensures.few c.requires.few

pub returns-in-Err-clause-count : goal.returns-in-Err-clause-count
returns-in-Err-clause-count g c = set_count c.add.new.self c.args.entries.now.entries c.args.at

pub returns-in-Err-clause-err : goal.returns-in-Err-clause-err
returns-in-Err-clause-err g c = set_same c.add.new.self c.args.entries.now.entries c.args.at c.pair_mut-entry.result.0.now c.pair_mut-entry.result.1.now c.pair_mut-entry.ensures.value c.in-Err.ensures.err
