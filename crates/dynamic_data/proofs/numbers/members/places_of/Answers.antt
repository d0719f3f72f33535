use Rattle.std.proofs.Common.{◌-◌, ◌∙◌, ap, sym, arith}
use Rattle.type_trees.specs.declared.types.Member.{Member}
use Rattle.json_values.specs.Names.{name_text}
use Rattle.json_values.proofs.Order.{named_member}
use Rattle.dynamic_data.proofs.OfNumbers.MemberPlaces.{places_step}
use Rattle.dynamic_data.proofs.numbers.members.places_of.Goals as goal

pub key_of-requires : goal.key_of-requires
key_of-requires c = (named_member c.args.members.now (c.members.at - 1) c.index-members-at.result (omega arith) c.requires).0

pub members-preserved : goal.members-preserved
members-preserved c = (
  omega arith,
  places_step c.args.members.now (c.members.at - 1) c.members.at c.index-members-at.result c.in_ok-name.name c.members.places c.insert.new.self (omega arith) (omega arith) c.index-members-at.is
      (c.in_ok-name.ensures ∙ ap (λ (m : Member). name_text m.name) (sym c.index-members-at.is)) c.in_ok-insert.ensures.updates c.members.invariant.1,
)
