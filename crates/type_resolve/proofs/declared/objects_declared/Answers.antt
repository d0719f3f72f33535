use Rattle.std.proofs.Common.{◌<◌, length, take, arith}
use Rattle.std.specs.Prelude.{map}
use Rattle.std.proofs.lemmas.Result.{err_from_is_err_and}
use Rattle.idl_types.specs.Definitions.{declared}
use Rattle.type_resolve.specs.Views.{hashes_seen}
use Rattle.type_resolve.proofs.Added.{stores_err}
use Rattle.type_resolve.proofs.Turns.{none_made, made_held, valid_before, fits_next, one_made, one_halts, one_free}
use Rattle.type_resolve.proofs.declared.objects_declared.Goals as goal

pub loop-at-init : goal.loop-at-init
loop-at-init c = none_made c.args.pool.now c.new-ids.result c.new-ids.ensures

pub add_declaration-requires-clause-held : goal.add_declaration-requires-clause-held
add_declaration-requires-clause-held c = made_held c.args.pool.now c.loop-at.pool (declared (take c.loop-at.at c.args.types.now)) c.loop-at.ids c.loop-at.invariant

pub add_declaration-requires-clause-valid : goal.add_declaration-requires-clause-valid
add_declaration-requires-clause-valid c = valid_before c.args.types.now c.loop-at.at c.requires.valid

pub add_declaration-requires-clause-fits : goal.add_declaration-requires-clause-fits
add_declaration-requires-clause-fits c =
    let below : c.loop-at.at < length c.args.types.now = omega (arith, c.loop-at-test.true) in
    fits_next c.args.types.now c.loop-at.at c.index-types-at.result c.requires.fits below c.index-types-at.is

pub returns-in_err-own : goal.returns-in_err-own
returns-in_err-own c =
    let p = err_from_is_err_and c.from_residual.result c.from_residual.ensures.1 in
    let below : c.loop-at.at < length c.args.types.now = omega (arith, c.loop-at-test.true) in
    stores_err (λ ids. map hashes_seen ids) c.from_residual.result _ _ _ _ _ _ p.1 p.2 (one_halts c.args.types.now c.loop-at.at c.index-types-at.result below c.index-types-at.is c.args.pool.now c.loop-at.pool c.loop-at.ids c.loop-at.invariant _ _ c.in_err-own.ensures)

pub returns-in_err-push_ids : goal.returns-in_err-push_ids
returns-in_err-push_ids c =
    let r = c.from_residual-in_err-push_ids in
    let p = err_from_is_err_and r.result r.ensures.1 in
    let below : c.loop-at.at < length c.args.types.now = omega (arith, c.loop-at-test.true) in
    stores_err (λ ids. map hashes_seen ids) r.result _ _ _ _ _ _ p.1 p.2
    (one_free c.args.types.now c.loop-at.at c.index-types-at.result below c.index-types-at.is c.args.pool.now c.loop-at.pool c.loop-at.ids c.loop-at.invariant _ _ c.in_err-push_ids.ensures.only_memory c.in_ok-own.ensures.0)

pub loop-at-preserved : goal.loop-at-preserved
loop-at-preserved c =
    let below : c.loop-at.at < length c.args.types.now = omega (arith, c.loop-at-test.true) in
    one_made c.args.types.now c.loop-at.at c.index-types-at.result below c.index-types-at.is c.args.pool.now c.loop-at.pool c.loop-at.ids c.loop-at.invariant c.add_declaration.new.pool c.in_ok-own.own c.push_ids.new.ids c.in_ok-own.ensures.0 c.in_ok-own.ensures.1 c.in_ok-push_ids.ensures.ok
