use Rattle.std.proofs.Common.{◌-◌, arith, rules}
use Rattle.json_values.proofs.IndexSteps.{literal_is_text, texts_step}
use Rattle.json_values.proofs.indices.NameIndex.new.Goals as goal

pub key_of-requires : goal.key_of-requires
key_of-requires c = literal_is_text c.args.literals.now (c.literals.at - 1) c.index-literals-at.result (omega arith) c.index-literals-at.is c.requires

pub literals-preserved-in_ok-insert : goal.literals-preserved-in_ok-insert
literals-preserved-in_ok-insert c =
    (omega arith, texts_step c.args.literals.now (c.literals.at - 1) c.literals.at c.index-literals-at.result c.in_ok-name.name _ c.literals.by_value c.insert.new.self (omega arith) (omega arith) c.index-literals-at.is c.in_ok-name.ensures (search rules) c.in_ok-insert.ensures.updates c.literals.invariant.1)
