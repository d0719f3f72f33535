use Rattle.std.proofs.lemmas.Result.{err_from_is_err_and}
use Rattle.idl_types.specs.Definitions.{declared}
use Rattle.type_resolve.specs.Views.{forms, hashes_seen}
use Rattle.type_resolve.proofs.Added.{stores_err}
use Rattle.type_resolve.proofs.OneMore.{defined_stores, nothing_added}
use Rattle.type_resolve.proofs.definitions.add_declaration.Goals as goal

pub returns-in_err-pair : goal.returns-in_err-pair
returns-in_err-pair c =
    let p = err_from_is_err_and c.from_residual.result c.from_residual.ensures.1 in
    stores_err hashes_seen c.from_residual.result _ _ _ _ _ _ p.1 p.2 (nothing_added _ _ _ c.in_err-pair.ensures)

pub returns : goal.returns
returns c =
    defined_stores (declared c.args.types.now) c.requires.valid c.args.declaration.now.name c.args.declaration.now.definition c.requires.fits c.add_pair.result c.args.pool.now c.add_pair.new.pool (forms c.in_ok-pair.pair)
    c.requires.held c.in_ok-pair.ensures c.add_pair.ensures
