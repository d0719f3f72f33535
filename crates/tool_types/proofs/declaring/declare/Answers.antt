use Rattle.std.proofs.Common.{◌+◌, List, [], map, drop, drop_of_length-le, arith, sym, ap, ◌∙◌, subst}
use Rattle.xt_io.specs.declared.Item.{Item}
use Rattle.type_object.specs.Pools.{Texts}
use Rattle.tool_types.specs.Types as spec
use Rattle.tool_types.specs.declared.declaring.Declared.{Declared as Record}
use Rattle.tool_types.specs.Declaring.{declared_view}
use Rattle.tool_types.specs.Declaring.{AllGood}
use Rattle.tool_types.proofs.Declares.{good_on, within_next, after_declared, record_on, record_refused, records_end, next_item}
use Rattle.tool_types.proofs.declaring.declare.Goals as goal

pub loop-item-preserved : goal.loop-item-preserved
loop-item-preserved c =
    let records = c.loop-item.records in
    let next = next_item c.args.items.now c.loop-item.item-index c.item-item.result c.loop-item-test.true c.item-item.is in
    let rest = drop (c.loop-item.item-index + 1) c.args.items.now in
    let on = record_on c.loop-item.number c.loop-item.pool c.declare_record.new.pool c.item-item.result rest records c.in-Ok.declared c.in-Ok.ensures.declared in
    record {
      within = (within_next c.args.items.now c.loop-item.item-index c.item-item.result next c.loop-item.invariant.within).1;
      good = subst AllGood (sym c.in_ok-push-in-Ok.ensures.ok) (good_on records c.in-Ok.declared c.loop-item.invariant.good c.in-Ok.ensures.good);
      count = omega (arith, c.loop-item.invariant.count);
      all = c.loop-item.invariant.all
          ∙ ap (λ (items : List Item). after_declared (map declared_view records) (spec.declare c.loop-item.number c.loop-item.pool items)) next
          ∙ on
          ∙ ap (λ (l : List Record). after_declared (map declared_view l) (spec.declare (c.loop-item.number + 1) c.declare_record.new.pool rest)) (sym c.in_ok-push-in-Ok.ensures.ok);
    }

pub returns-in-Err-clause-declared : goal.returns-in-Err-clause-declared
returns-in-Err-clause-declared c =
    let records = c.loop-item.records in
    let next = next_item c.args.items.now c.loop-item.item-index c.item-item.result c.loop-item-test.true c.item-item.is in
    let rest = drop (c.loop-item.item-index + 1) c.args.items.now in
    let same = c.loop-item.invariant.all ∙ ap (λ (items : List Item). after_declared (map declared_view records) (spec.declare c.loop-item.number c.loop-item.pool items)) next in
    record_refused c.loop-item.number c.loop-item.pool c.declare_record.new.pool c.item-item.result rest (map declared_view records) c.in-Err.stop (spec.declare 0 [] c.args.items.now) (λ (d : List Record × Texts). (map declared_view d.0, d.1)) same c.in-Err.ensures.declared

pub returns-clause-declared : goal.returns-clause-declared
returns-clause-declared c =
    c.loop-item.invariant.all
    ∙ ap (λ (items : List Item). after_declared (map declared_view c.loop-item.records) (spec.declare c.loop-item.number c.loop-item.pool items)) (drop_of_length-le c.args.items.now c.loop-item-test.false)
    ∙ records_end c.loop-item.number c.loop-item.pool c.loop-item.records

pub returns-clause-back : goal.returns-clause-back
returns-clause-back c = c.declared_comes_back.ensures c.args.items.now (map declared_view c.loop-item.records, c.loop-item.pool) (returns-clause-declared c)

pub declare_record-requires : goal.declare_record-requires
declare_record-requires c =
    let next = next_item c.args.items.now c.loop-item.item-index c.item-item.result c.loop-item-test.true c.item-item.is in
    (within_next c.args.items.now c.loop-item.item-index c.item-item.result next c.loop-item.invariant.within).0
